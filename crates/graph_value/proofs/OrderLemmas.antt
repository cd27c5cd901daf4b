-- What `order_of` says of two lists.
use Rattle.std.proofs.Common.{◌≡◌, List, [], ◌∷◌, map, refl, sym, ap, ◌∙◌}
use Rattle.std.specs.Cmp.Lexicographic.{slice_cmp}
use Rattle.std.specs.Ordering.{ordering_then}
use Rattle.std.specs.declared.cmp.Ordering.{Ordering}
use Rattle.graph_value.specs.Order.{order_level, order_of}
use Rattle.graph_value.specs.declared.value.Value.{Value, out-Value, roll-Value, fold-roll-Value, map-Value}
use Rattle.graph_value.specs.declared.value.Value.TheVariants.{List as Listed, rolls-List, outs-List}
use Rattle.graph_value.specs.declared.value.Value.TheOpen.{Value-F}

-- a level, with the comparison with each element in its place
abbrev pub comparisons : Value-F Value → Value-F (Value → Ordering)
comparisons x = map-Value Value (Value → Ordering) order_of x

pub order_of-roll : (x : Value-F Value) (b : Value) → order_of (roll-Value x) b ≡ order_level (comparisons x) (out-Value b)
order_of-roll x b = ap (λ f. f b) (fold-roll-Value (Value → Ordering) (λ a b. order_level a (out-Value b)) x)

pub through_slice_cmp : (f : Value → Value → Ordering) (xs ys : List Value) → slice_cmp (λ (order : Value → Ordering) b. order b) (map f xs) ys ≡ slice_cmp f xs ys
through_slice_cmp f [] [] = refl
through_slice_cmp f [] (y ∷ ys) = refl
through_slice_cmp f (x ∷ xs) [] = refl
through_slice_cmp f (x ∷ xs) (y ∷ ys) = ap (ordering_then (f x y)) (through_slice_cmp f xs ys)

pub order_of-List : (xs ys : List Value) → order_of (Listed xs) (Listed ys) ≡ slice_cmp order_of xs ys
order_of-List xs ys =
    ap (λ a. order_of a (Listed ys)) (sym (rolls-List xs))
    ∙ order_of-roll (Value-F.List xs) (Listed ys)
    ∙ ap (λ b. order_level (comparisons (Value-F.List xs)) b) (outs-List ys)
    ∙ through_slice_cmp order_of xs ys
