-- The columns of items, from a place on.
use Rattle.std.proofs.Common.{◌≡◌, ℕ, zero, suc, ◌+◌, ◌<◌, List, [], ◌∷◌, ◌++◌, length, get_or, drop, Option, None, Some, refl, sym, ap, ◌∙◌, arith, add-one}
use Rattle.std.specs.Option.{option_to_list}
use Rattle.cypher_syntax.specs.declared.tree.projection.Item.{Item}
use Rattle.graph_value.specs.declared.value.Value.{Value}
use Rattle.row_ops.specs.Columns.{column_name, column_at, columns}

columns_on : (items : List Item) (i n : ℕ) (d : Item) (v : Value) (vs : List Value) → i < length items → columns n (drop i items) (v ∷ vs) ≡ (column_name n (get_or items i d), v) ∷ columns (n + 1) (drop (suc i) items) vs
columns_on [] i n d v vs h = absurd (omega arith)
columns_on (x ∷ items) zero n d v vs h = refl
columns_on (x ∷ items) (suc i) n d v vs h = columns_on items i n d v vs (omega arith)

pub columns_step : (items : List Item) (i : ℕ) (x : Item) (v : Value) (vs : List Value) → i < length items → x ≡ get_or items i x → columns i (drop i items) (v ∷ vs) ≡ (column_name i x, v) ∷ columns (i + 1) (drop (i + 1) items) vs
columns_step items i x v vs h is =
    columns_on items i i x v vs h
    ∙ ap (λ y. (column_name i y, v) ∷ columns (i + 1) (drop (suc i) items) vs) (sym is)
    ∙ ap (λ n. (column_name i x, v) ∷ columns (i + 1) (drop n items) vs) (sym (add-one i))

no_columns : (items : List Item) (n : ℕ) → columns n items [] ≡ []
no_columns [] n = refl
no_columns (x ∷ items) n = refl

pub columns_over : (items : List Item) (i : ℕ) → columns i (drop i items) [] ≡ columns (i + 1) (drop (i + 1) items) []
columns_over items i = no_columns (drop i items) i ∙ sym (no_columns (drop (i + 1) items) (i + 1))

nothing_taken : (old new : List Value) → old ≡ new → new ≡ drop 1 old → old ≡ []
nothing_taken [] new e r = refl
nothing_taken (v ∷ old) new e r = absurd (omega (arith, ap length e, ap length r))

-- the first value is taken, if there is one
pub columns_next : (items : List Item) (i : ℕ) (x : Item) (o : Option Value) (old new : List Value) → i < length items → x ≡ get_or items i x → old ≡ option_to_list o ++ new → new ≡ drop 1 old
    → columns i (drop i items) old ≡ column_at i x o ++ columns (i + 1) (drop (i + 1) items) new
columns_next items i x None old new h is e r =
    let none = nothing_taken old new e r in
    ap (columns i (drop i items)) none ∙ columns_over items i ∙ ap (columns (i + 1) (drop (i + 1) items)) (sym none ∙ e)
columns_next items i x (Some v) old new h is e r = ap (columns i (drop i items)) e ∙ columns_step items i x v new h is
