-- Names in rows that stand one behind the other.
use Rattle.std.proofs.Common.{◌≡◌, ℕ, zero, suc, ◌+◌, ◌<◌, Bool, true, false, cond, not, List, [], ◌∷◌, ◌++◌, length, get_or, drop, Option, None, Some, refl, sym, ap, ◌∙◌, arith, add-one, true≢false}
use Rattle.std.specs.Prelude.{slice_get, bytes_eq, unwrap_or}
use Rattle.cypher_check.specs.Clauses.{given_name, is_closed}
use Rattle.cypher_syntax.specs.declared.tree.projection.Item.{Item}
use Rattle.cypher_syntax.specs.declared.tree.projection.Projection.{Projection}
use Rattle.graph_value.specs.declared.value.Value.{Value}
use Rattle.graph_value.specs.declared.value.Value.TheVariants as value
use Rattle.expr_eval.specs.Row.{Row, value_of}
use Rattle.row_ops.specs.Columns.{given_column, given_columns}
use Rattle.row_ops.specs.declared.made.Made.{Made}
use Rattle.row_ops.specs.Making.{seen, starred}
use Rattle.row_ops.specs.Names.{found, is_named, gives}
use Rattle.row_ops.proofs.SortLemmas.{answered, cond-yes, cond-no}

-- the first that has it
abbrev pub or_else : Option Value → Option Value → Option Value
or_else None o = o
or_else (Some v) o = Some v

pub found_on : (a b : Row) (name : List ℕ) → found (a ++ b) name ≡ or_else (found a name) (found b name)
found_on [] b name = refl
found_on (c ∷ a) b name = answered (bytes_eq c.0 name)
    (λ h. cond-yes (bytes_eq c.0 name) _ _ h ∙ ap (λ o. or_else o (found b name)) (sym (cond-yes (bytes_eq c.0 name) (Some c.1) (found a name) h)))
    (λ h. cond-no (bytes_eq c.0 name) _ _ h ∙ found_on a b name ∙ ap (λ o. or_else o (found b name)) (sym (cond-no (bytes_eq c.0 name) (Some c.1) (found a name) h)))

pub value_found : (row : Row) (name : List ℕ) → value_of row name ≡ unwrap_or (found row name) value.Null
value_found [] name = refl
value_found (c ∷ row) name = answered (bytes_eq c.0 name)
    (λ h. cond-yes (bytes_eq c.0 name) _ _ h ∙ ap (λ o. unwrap_or o value.Null) (sym (cond-yes (bytes_eq c.0 name) (Some c.1) (found row name) h)))
    (λ h. cond-no (bytes_eq c.0 name) _ _ h ∙ value_found row name ∙ ap (λ o. unwrap_or o value.Null) (sym (cond-no (bytes_eq c.0 name) (Some c.1) (found row name) h)))

-- THE ITEMS THAT GIVE A NAME

column_hit : (o : Option (List ℕ)) (v : Value) (rest : Row) (name : List ℕ) → is_named o name ≡ true → found (given_column o v ++ rest) name ≡ Some v
column_hit None v rest name h = absurd (true≢false (sym h))
column_hit (Some given) v rest name h = cond-yes (bytes_eq given name) _ _ h

column_miss : (o : Option (List ℕ)) (v : Value) (rest : Row) (name : List ℕ) → is_named o name ≡ false → found (given_column o v ++ rest) name ≡ found rest name
column_miss None v rest name h = refl
column_miss (Some given) v rest name h = cond-no (bytes_eq given name) _ _ h

nothing : (items : List Item) (name : List ℕ) → found (given_columns items []) name ≡ None
nothing [] name = refl
nothing (x ∷ items) name = refl

given_at : (items : List Item) (vs : List Value) (i : ℕ) (d : Item) (name : List ℕ) → i < length items → gives (get_or items i d) name ≡ true
    → found (given_columns (drop i items) (drop i vs)) name ≡ slice_get vs i
given_at [] vs i d name h e = absurd (omega arith)
given_at (x ∷ items) [] zero d name h e = refl
given_at (x ∷ items) [] (suc i) d name h e = nothing (drop i items) name
given_at (x ∷ items) (v ∷ vs) zero d name h e = column_hit (given_name x.name x.expr) v (given_columns items vs) name e
given_at (x ∷ items) (v ∷ vs) (suc i) d name h e = given_at items vs i d name (omega arith) e

given_past : (items : List Item) (vs : List Value) (i : ℕ) (d : Item) (name : List ℕ) → i < length items → gives (get_or items i d) name ≡ false
    → found (given_columns (drop i items) (drop i vs)) name ≡ found (given_columns (drop (suc i) items) (drop (suc i) vs)) name
given_past [] vs i d name h e = absurd (omega arith)
given_past (x ∷ items) [] zero d name h e = sym (nothing items name)
given_past (x ∷ items) [] (suc i) d name h e = nothing (drop i items) name ∙ sym (nothing (drop (suc i) items) name)
given_past (x ∷ items) (v ∷ vs) zero d name h e = column_miss (given_name x.name x.expr) v (given_columns items vs) name e
given_past (x ∷ items) (v ∷ vs) (suc i) d name h e = given_past items vs i d name (omega arith) e

pub named_hit : (items : List Item) (vs : List Value) (i : ℕ) (x : Item) (name : List ℕ) → i < length items → x ≡ get_or items i x → gives x name ≡ true
    → found (given_columns (drop i items) (drop i vs)) name ≡ slice_get vs i
named_hit items vs i x name h is e = given_at items vs i x name h (ap (λ y. gives y name) (sym is) ∙ e)

pub named_miss : (items : List Item) (vs : List Value) (i : ℕ) (x : Item) (name : List ℕ) → i < length items → x ≡ get_or items i x → gives x name ≡ false
    → found (given_columns (drop i items) (drop i vs)) name ≡ found (given_columns (drop (i + 1) items) (drop (i + 1) vs)) name
named_miss items vs i x name h is e =
    given_past items vs i x name h (ap (λ y. gives y name) (sym is) ∙ e)
    ∙ ap (λ n. found (given_columns (drop n items) (drop n vs)) name) (sym (add-one i))

-- WHAT ORDER BY SEES

rest_starred : (closed : Bool) (before : Row) → cond closed [] before ≡ starred (not closed) before
rest_starred true before = refl
rest_starred false before = refl

seen_parts : (p : Projection) (made : Made) (name : List ℕ)
    → found (seen p made) name
    ≡ or_else (or_else (found (starred p.star made.before) name) (found (given_columns p.items made.values) name)) (found (starred (not (is_closed p)) made.before) name)
seen_parts p made name =
    found_on (starred p.star made.before ++ given_columns p.items made.values) (cond (is_closed p) [] made.before) name
    ∙ ap (λ row. or_else (found (starred p.star made.before ++ given_columns p.items made.values) name) (found row name)) (rest_starred (is_closed p) made.before)
    ∙ ap (λ o. or_else o (found (starred (not (is_closed p)) made.before) name)) (found_on (starred p.star made.before) (given_columns p.items made.values) name)

pub seen_starred : (p : Projection) (made : Made) (name : List ℕ) (v : Value) → found (starred p.star made.before) name ≡ Some v → found (seen p made) name ≡ Some v
seen_starred p made name v a =
    seen_parts p made name ∙ ap (λ o. or_else (or_else o (found (given_columns p.items made.values) name)) (found (starred (not (is_closed p)) made.before) name)) a

pub seen_given : (p : Projection) (made : Made) (name : List ℕ) (v : Value) → found (starred p.star made.before) name ≡ None → found (given_columns p.items made.values) name ≡ Some v
    → found (seen p made) name ≡ Some v
seen_given p made name v a b =
    seen_parts p made name
    ∙ ap (λ o. or_else (or_else o (found (given_columns p.items made.values) name)) (found (starred (not (is_closed p)) made.before) name)) a
    ∙ ap (λ o. or_else o (found (starred (not (is_closed p)) made.before) name)) b

pub seen_before : (p : Projection) (made : Made) (name : List ℕ) → found (starred p.star made.before) name ≡ None → found (given_columns p.items made.values) name ≡ None
    → found (seen p made) name ≡ found (starred (not (is_closed p)) made.before) name
seen_before p made name a b =
    seen_parts p made name
    ∙ ap (λ o. or_else (or_else o (found (given_columns p.items made.values) name)) (found (starred (not (is_closed p)) made.before) name)) a
    ∙ ap (λ o. or_else o (found (starred (not (is_closed p)) made.before) name)) b

pub name_seen : (row : Row) (name : List ℕ) (v : Value) → found row name ≡ Some v → value_of row name ≡ v
name_seen row name v e = value_found row name ∙ ap (λ o. unwrap_or o value.Null) e

pub name_unseen : (row : Row) (name : List ℕ) → found row name ≡ None → value_of row name ≡ value.Null
name_unseen row name e = value_found row name ∙ ap (λ o. unwrap_or o value.Null) e
