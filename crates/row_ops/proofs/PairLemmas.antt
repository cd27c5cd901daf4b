-- Two lists side by side, from a place on.
use Rattle.std.proofs.Common.{◌≡◌, ℕ, zero, suc, ◌+◌, ◌<◌, true, false, List, [], ◌∷◌, ◌++◌, length, get_or, drop, Option, None, Some, refl, sym, ap, ◌∙◌, arith, add-one}
use Rattle.std.specs.Prelude.{slice_get}
use Rattle.cypher_check.specs.Clauses.{given_name}
use Rattle.cypher_check.specs.Same.{same_expr}
use Rattle.cypher_syntax.specs.declared.tree.expr.Expr.{Expr}
use Rattle.cypher_syntax.specs.declared.tree.projection.Item.{Item}
use Rattle.graph_value.specs.declared.value.Value.{Value}
use Rattle.row_ops.specs.Columns.{given_column, given_at, given_columns}
use Rattle.row_ops.specs.Grouping.{key_cell, key_cell_at, key_values}
use Rattle.row_ops.specs.Sorting.{item_value}
use Rattle.row_ops.proofs.SortLemmas.{cond-yes, cond-no}

same_some : {X : Type 0} (x y : X) → Some x ≡ Some y → x ≡ y
same_some x y e = cc

no_some : {X : Type 0} (x : X) → None ≡ Some x → ⊥
no_some x e = cc

some_none : {X : Type 0} (x : X) → Some x ≡ None → ⊥
some_none x e = cc

-- the columns of the items that give a name

given_none : (items : List Item) → given_columns items [] ≡ []
given_none [] = refl
given_none (x ∷ items) = refl

given_hit : (items : List Item) (vs : List Value) (i : ℕ) (d : Item) (v : Value) → i < length items → slice_get vs i ≡ Some v
    → given_columns (drop i items) (drop i vs) ≡ given_column (given_name (get_or items i d).name (get_or items i d).expr) v ++ given_columns (drop (suc i) items) (drop (suc i) vs)
given_hit [] vs i d v h e = absurd (omega arith)
given_hit (x ∷ items) [] i d v h e = absurd (no_some v e)
given_hit (x ∷ items) (w ∷ vs) zero d v h e = ap (λ u. given_column (given_name x.name x.expr) u ++ given_columns items vs) (same_some w v e)
given_hit (x ∷ items) (w ∷ vs) (suc i) d v h e = given_hit items vs i d v (omega arith) e

given_miss : (items : List Item) (vs : List Value) (i : ℕ) → slice_get vs i ≡ None → given_columns (drop i items) (drop i vs) ≡ given_columns (drop (suc i) items) (drop (suc i) vs)
given_miss [] vs zero e = refl
given_miss [] vs (suc i) e = refl
given_miss (x ∷ items) [] zero e = sym (given_none items)
given_miss (x ∷ items) [] (suc i) e = given_none (drop i items) ∙ sym (given_none (drop (suc i) items))
given_miss (x ∷ items) (w ∷ vs) zero e = absurd (some_none w e)
given_miss (x ∷ items) (w ∷ vs) (suc i) e = given_miss items vs i e

pub given_step : (items : List Item) (vs : List Value) (i : ℕ) (x : Item) (v : Value) → i < length items → x ≡ get_or items i x → slice_get vs i ≡ Some v
    → given_columns (drop i items) (drop i vs) ≡ given_column (given_name x.name x.expr) v ++ given_columns (drop (i + 1) items) (drop (i + 1) vs)
given_step items vs i x v h is e =
    given_hit items vs i x v h e
    ∙ ap (λ (y : Item). given_column (given_name y.name y.expr) v ++ given_columns (drop (suc i) items) (drop (suc i) vs)) (sym is)
    ∙ ap (λ n. given_column (given_name x.name x.expr) v ++ given_columns (drop n items) (drop n vs)) (sym (add-one i))

pub given_over : (items : List Item) (vs : List Value) (i : ℕ) → slice_get vs i ≡ None → given_columns (drop i items) (drop i vs) ≡ given_columns (drop (i + 1) items) (drop (i + 1) vs)
given_over items vs i e = given_miss items vs i e ∙ ap (λ n. given_columns (drop n items) (drop n vs)) (sym (add-one i))

pub given_next : (items : List Item) (vs : List Value) (i : ℕ) (x : Item) (o : Option Value) → i < length items → x ≡ get_or items i x → o ≡ slice_get vs i
    → given_columns (drop i items) (drop i vs) ≡ given_at (given_name x.name x.expr) o ++ given_columns (drop (i + 1) items) (drop (i + 1) vs)
given_next items vs i x None h is e = given_over items vs i (sym e)
given_next items vs i x (Some v) h is e = given_step items vs i x v h is (sym e)

-- the value of the first item that is an expression

no_values : (items : List Item) (e : Expr) → item_value items [] e ≡ None
no_values [] e = refl
no_values (x ∷ items) e = refl

hit : (items : List Item) (vs : List Value) (e : Expr) (i : ℕ) (d : Item) → i < length items → same_expr (get_or items i d).expr e ≡ true → item_value (drop i items) (drop i vs) e ≡ slice_get vs i
hit [] vs e i d h b = absurd (omega arith)
hit (x ∷ items) [] e zero d h b = refl
hit (x ∷ items) [] e (suc i) d h b = no_values (drop i items) e
hit (x ∷ items) (v ∷ vs) e zero d h b = cond-yes (same_expr x.expr e) (Some v) (item_value items vs e) b
hit (x ∷ items) (v ∷ vs) e (suc i) d h b = hit items vs e i d (omega arith) b

miss : (items : List Item) (vs : List Value) (e : Expr) (i : ℕ) (d : Item) → i < length items → same_expr (get_or items i d).expr e ≡ false
    → item_value (drop i items) (drop i vs) e ≡ item_value (drop (suc i) items) (drop (suc i) vs) e
miss [] vs e i d h b = absurd (omega arith)
miss (x ∷ items) [] e zero d h b = sym (no_values items e)
miss (x ∷ items) [] e (suc i) d h b = no_values (drop i items) e ∙ sym (no_values (drop (suc i) items) e)
miss (x ∷ items) (v ∷ vs) e zero d h b = cond-no (same_expr x.expr e) (Some v) (item_value items vs e) b
miss (x ∷ items) (v ∷ vs) e (suc i) d h b = miss items vs e i d (omega arith) b

pub value_hit : (items : List Item) (vs : List Value) (e : Expr) (i : ℕ) (x : Item) → i < length items → x ≡ get_or items i x → same_expr x.expr e ≡ true → item_value (drop i items) (drop i vs) e ≡ slice_get vs i
value_hit items vs e i x h is b = hit items vs e i x h (ap (λ (y : Item). same_expr y.expr e) (sym is) ∙ b)

pub value_miss : (items : List Item) (vs : List Value) (e : Expr) (i : ℕ) (x : Item) → i < length items → x ≡ get_or items i x → same_expr x.expr e ≡ false
    → item_value (drop i items) (drop i vs) e ≡ item_value (drop (i + 1) items) (drop (i + 1) vs) e
value_miss items vs e i x h is b = miss items vs e i x h (ap (λ (y : Item). same_expr y.expr e) (sym is) ∙ b) ∙ ap (λ n. item_value (drop n items) (drop n vs) e) (sym (add-one i))

-- the values of the keys

keys_none : (items : List Item) → key_values items [] ≡ []
keys_none [] = refl
keys_none (x ∷ items) = refl

keys_hit : (items : List Item) (cs : List (List Value)) (i : ℕ) (d : Item) (c : List Value) → i < length items → slice_get cs i ≡ Some c
    → key_values (drop i items) (drop i cs) ≡ key_cell (get_or items i d) c ++ key_values (drop (suc i) items) (drop (suc i) cs)
keys_hit [] cs i d c h e = absurd (omega arith)
keys_hit (x ∷ items) [] i d c h e = absurd (no_some c e)
keys_hit (x ∷ items) (w ∷ cs) zero d c h e = ap (λ u. key_cell x u ++ key_values items cs) (same_some w c e)
keys_hit (x ∷ items) (w ∷ cs) (suc i) d c h e = keys_hit items cs i d c (omega arith) e

keys_miss : (items : List Item) (cs : List (List Value)) (i : ℕ) → slice_get cs i ≡ None → key_values (drop i items) (drop i cs) ≡ key_values (drop (suc i) items) (drop (suc i) cs)
keys_miss [] cs zero e = refl
keys_miss [] cs (suc i) e = refl
keys_miss (x ∷ items) [] zero e = sym (keys_none items)
keys_miss (x ∷ items) [] (suc i) e = keys_none (drop i items) ∙ sym (keys_none (drop (suc i) items))
keys_miss (x ∷ items) (w ∷ cs) zero e = absurd (some_none w e)
keys_miss (x ∷ items) (w ∷ cs) (suc i) e = keys_miss items cs i e

pub keys_step : (items : List Item) (cs : List (List Value)) (i : ℕ) (x : Item) (c : List Value) → i < length items → x ≡ get_or items i x → slice_get cs i ≡ Some c
    → key_values (drop i items) (drop i cs) ≡ key_cell x c ++ key_values (drop (i + 1) items) (drop (i + 1) cs)
keys_step items cs i x c h is e =
    keys_hit items cs i x c h e
    ∙ ap (λ y. key_cell y c ++ key_values (drop (suc i) items) (drop (suc i) cs)) (sym is)
    ∙ ap (λ n. key_cell x c ++ key_values (drop n items) (drop n cs)) (sym (add-one i))

pub keys_over : (items : List Item) (cs : List (List Value)) (i : ℕ) → slice_get cs i ≡ None → key_values (drop i items) (drop i cs) ≡ key_values (drop (i + 1) items) (drop (i + 1) cs)
keys_over items cs i e = keys_miss items cs i e ∙ ap (λ n. key_values (drop n items) (drop n cs)) (sym (add-one i))

pub keys_next : (items : List Item) (cs : List (List Value)) (i : ℕ) (x : Item) (o : Option (List Value)) → i < length items → x ≡ get_or items i x → o ≡ slice_get cs i
    → key_values (drop i items) (drop i cs) ≡ key_cell_at x o ++ key_values (drop (i + 1) items) (drop (i + 1) cs)
keys_next items cs i x None h is e = keys_over items cs i (sym e)
keys_next items cs i x (Some c) h is e = keys_step items cs i x c h is (sym e)
