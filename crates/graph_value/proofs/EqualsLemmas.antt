-- What `equals_of` says of two lists.
use Rattle.std.proofs.Common.{◌≡◌, ◌==◌, cond, List, [], ◌∷◌, map, length, refl, sym, ap, ◌∙◌}
use Rattle.std.proofs.lemmas.List.{length-map}
use Rattle.graph_value.specs.Equals.{each_pair, lists_equal, equals_level, equals_of}
use Rattle.graph_value.specs.Tri.{tri_and}
use Rattle.graph_value.specs.declared.tri.Tri.{Tri}
use Rattle.graph_value.specs.declared.tri.Tri.TheVariants.{True, False, Unknown}
use Rattle.graph_value.specs.declared.value.Value.{Value, out-Value, fold-roll-Value, map-Value}
use Rattle.graph_value.specs.declared.value.Value.TheVariants.{List as Listed, rolls-List, outs-List}
use Rattle.graph_value.specs.declared.value.Value.TheOpen.{Value-F}

pub tri_and-assoc : (a b c : Tri) → tri_and (tri_and a b) c ≡ tri_and a (tri_and b c)
tri_and-assoc True b c = refl
tri_and-assoc False b c = refl
tri_and-assoc Unknown True c = refl
tri_and-assoc Unknown False c = refl
tri_and-assoc Unknown Unknown True = refl
tri_and-assoc Unknown Unknown False = refl
tri_and-assoc Unknown Unknown Unknown = refl

pub tri_and-True : (a : Tri) → tri_and a True ≡ a
tri_and-True True = refl
tri_and-True False = refl
tri_and-True Unknown = refl

through_pairs : (f : Value → Value → Tri) (xs ys : List Value) → each_pair (λ (equals : Value → Tri) b. equals b) (map f xs) ys ≡ each_pair f xs ys
through_pairs f [] ys = refl
through_pairs f (x ∷ xs) [] = refl
through_pairs f (x ∷ xs) (y ∷ ys) = ap (tri_and (f x y)) (through_pairs f xs ys)

through_lists : (f : Value → Value → Tri) (xs ys : List Value) → lists_equal (λ (equals : Value → Tri) b. equals b) (map f xs) ys ≡ lists_equal f xs ys
through_lists f xs ys =
    ap (λ n. cond (n == length ys) (each_pair (λ (equals : Value → Tri) b. equals b) (map f xs) ys) False) (length-map xs f)
    ∙ ap (λ t. cond (length xs == length ys) t False) (through_pairs f xs ys)

pub equals_of-List : (xs ys : List Value) → equals_of (Listed xs) (Listed ys) ≡ lists_equal equals_of xs ys
equals_of-List xs ys =
    ap (λ a. equals_of a (Listed ys)) (sym (rolls-List xs))
    ∙ ap (λ f. f (Listed ys)) (fold-roll-Value (Value → Tri) (λ a b. equals_level a (out-Value b)) (Value-F.List xs))
    ∙ ap (λ b. equals_level (map-Value Value (Value → Tri) equals_of (Value-F.List xs)) b) (outs-List ys)
    ∙ through_lists equals_of xs ys
