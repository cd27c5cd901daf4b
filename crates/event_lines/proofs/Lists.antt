-- The list that JSON items are, while a loop goes over them.
use Rattle.std.proofs.Common.{◌≡◌, ℕ, zero, suc, ◌<◌, List, [], ◌∷◌, ◌++◌, length, get_or, Option, Some, None, option_map, option_and_then, refl, ap, ◌∙◌, sym, arith}
use Rattle.std.proofs.lemmas.Option.{same_Some}
use Rattle.serde_json.specs.declared.value.Value.{Value}
use Rattle.serde_json.specs.View.{view, items_view}
use Rattle.graph_value.specs.declared.value.Value as stored
use Rattle.event_lines.specs.Values.{simple_from, list_from}
use Rattle.event_lines.proofs.Options.{bind_some, map_some}

pub one_more : (items : List Value) (values : List stored.Value) (x : Value) (v : stored.Value) → list_from (items_view items) ≡ Some values → simple_from (view x) ≡ Some v
    → list_from (items_view (items ++ x ∷ [])) ≡ Some (values ++ v ∷ [])
one_more [] values x v so_far is = rw (is, sym (same_Some _ _ so_far)) refl
one_more (y ∷ items) values x v so_far is =
    let first = bind_some (simple_from (view y)) (λ w. option_map (λ ws. w ∷ ws) (list_from (items_view items))) values so_far in
    let rest = map_some (list_from (items_view items)) (λ ws. first.0 ∷ ws) values first.2 in
    let later : Option (List stored.Value) = list_from (items_view (items ++ x ∷ [])) in
    ap (option_and_then (λ w. option_map (λ ws. w ∷ ws) later)) first.1
    ∙ ap (option_map (λ ws. first.0 ∷ ws)) (one_more items rest.0 x v rest.1 is)
    ∙ ap (λ vs. Some (vs ++ v ∷ [])) rest.2

nothing_follows : {A B : Type 0} (o : Option A) (none : A → Option B) → ((x : A) → none x ≡ None) → option_and_then none o ≡ None
nothing_follows (Some x) none is = is x
nothing_follows None none is = refl

pub one_is_none : (items : List Value) (i : ℕ) (d : Value) → i < length items → simple_from (view (get_or items i d)) ≡ None → list_from (items_view items) ≡ None
one_is_none [] i d within none = absurd (omega (arith, within))
one_is_none (x ∷ items) zero d within none = rw none refl
one_is_none (x ∷ items) (suc i) d within none =
    let later = one_is_none items i d (omega (arith, within)) none in
    rw later (nothing_follows (simple_from (view x)) (λ v. None) (λ v. refl))
