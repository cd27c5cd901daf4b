-- What `same_value` says of two lists, that it decides equality, and the laws of `Eq` and `Hash`.
use Rattle.std.proofs.Common.{◌≡◌, Bool, true, false, ◌&&◌, List, [], ◌∷◌, map, Decides, refl, sym, ap, ◌∙◌, subst}
use Rattle.std.proofs.lemmas.Bool.{false≢true}
use Rattle.std.proofs.lemmas.Bool.Decides.{Decides-eqb, Decides-int_eq}
use Rattle.std.proofs.lemmas.Slice.Eq.{bytes_eq-Decides}
use Rattle.std.specs.Cmp.{IsEquivalence, decided, first_so, second_so}
use Rattle.std.specs.Cmp.Lexicographic.{pointwise}
use Rattle.graph_value.specs.Hash.{hash_of}
use Rattle.graph_value.specs.Value.{same_bool, same_level, same_value}
use Rattle.graph_value.specs.declared.value.Value.{Value, out-Value, roll-Value, out-roll-Value, roll-out-Value, fold-roll-Value, map-Value, ind-Value}
use Rattle.graph_value.specs.declared.value.Value.TheVariants.{List as Listed, rolls-List, outs-List}
use Rattle.graph_value.specs.declared.value.Value.TheOpen.{Value-F}

-- a level, with the test for each element in its place
abbrev tests : Value-F Value → Value-F (Value → Bool)
tests x = map-Value Value (Value → Bool) same_value x

same_value-roll : (x : Value-F Value) (b : Value) → same_value (roll-Value x) b ≡ same_level (tests x) (out-Value b)
same_value-roll x b = ap (λ f. f b) (fold-roll-Value (Value → Bool) (λ a b. same_level a (out-Value b)) x)

through_pointwise : (f : Value → Value → Bool) (xs ys : List Value) → pointwise (λ (is_same : Value → Bool) b. is_same b) (map f xs) ys ≡ pointwise f xs ys
through_pointwise f [] [] = refl
through_pointwise f [] (y ∷ ys) = refl
through_pointwise f (x ∷ xs) [] = refl
through_pointwise f (x ∷ xs) (y ∷ ys) = ap (λ r. f x y && r) (through_pointwise f xs ys)

pub same_value-List : (xs ys : List Value) → same_value (Listed xs) (Listed ys) ≡ pointwise same_value xs ys
same_value-List xs ys =
    ap (λ a. same_value a (Listed ys)) (sym (rolls-List xs))
    ∙ same_value-roll (Value-F.List xs) (Listed ys)
    ∙ ap (λ b. same_level (tests (Value-F.List xs)) b) (outs-List ys)
    ∙ through_pointwise same_value xs ys

-- ---- it decides equality

Decides-same_bool : (a b : Bool) → Decides (same_bool a b) (a ≡ b)
Decides-same_bool true true = (λ _. refl, λ _. refl)
Decides-same_bool true false = (λ e. absurd (false≢true e), λ e. absurd (cc))
Decides-same_bool false true = (λ e. absurd (false≢true e), λ e. absurd (cc))
Decides-same_bool false false = (λ _. refl, λ _. refl)

abbrev IsTold : Value → Type 0
IsTold a = (b : Value) → Decides (same_value a b) (a ≡ b)

abbrev Told : Type 0
Told = (a : Value) × IsTold a

abbrev values : List Told → List Value
values ys = map (λ e. e.0) ys

abbrev level : Value-F Told → Value-F Value
level y = map-Value Told Value (λ e. e.0) y

each_told : (ys : List Told) (bs : List Value) → Decides (pointwise (λ (is_same : Value → Bool) b. is_same b) (map same_value (values ys)) bs) (values ys ≡ bs)
each_told [] [] = (λ _. refl, λ _. refl)
each_told [] (b ∷ bs) = (λ e. absurd (false≢true e), λ e. absurd (cc))
each_told (y ∷ ys) [] = (λ e. absurd (false≢true e), λ e. absurd (cc))
each_told (y ∷ ys) (b ∷ bs) =
    let rest = each_told ys bs in
    let tail = pointwise (λ (is_same : Value → Bool) b. is_same b) (map same_value (values ys)) bs in (
      λ e. let head : y.0 ≡ b = (y.1 b).0 (first_so (same_value y.0 b) tail e) in
          let more : values ys ≡ bs = rest.0 (second_so (same_value y.0 b) tail e) in
          cc,
      λ e. let head : same_value y.0 b ≡ true = (y.1 b).1 (cc) in
          let more : tail ≡ true = rest.1 (cc) in
          (λ i. head i && more i),
    )

level_told : (y : Value-F Told) (o : Value-F Value) → Decides (same_level (tests (level y)) o) (level y ≡ o)
level_told Value-F.Null Value-F.Null = (λ _. refl, λ _. refl)
level_told (Value-F.Bool a) (Value-F.Bool b) = (λ e. ap Value-F.Bool ((Decides-same_bool a b).0 e), λ e. (Decides-same_bool a b).1 (cc))
level_told (Value-F.Int a) (Value-F.Int b) = (λ e. ap Value-F.Int ((Decides-int_eq a b).0 e), λ e. (Decides-int_eq a b).1 (cc))
level_told (Value-F.Text a) (Value-F.Text b) = (λ e. ap Value-F.Text ((bytes_eq-Decides a b).0 e), λ e. (bytes_eq-Decides a b).1 (cc))
level_told (Value-F.List xs) (Value-F.List bs) = (λ e. ap Value-F.List ((each_told xs bs).0 e), λ e. (each_told xs bs).1 (cc))
level_told (Value-F.Vertex a) (Value-F.Vertex b) = (
  λ e. ap (λ n. Value-F.Vertex (record { 0 = n })) ((Decides-eqb a.0 b.0).0 e),
  λ e. let ids : a ≡ b = cc in (Decides-eqb a.0 b.0).1 (ap (λ v. v.0) ids),
)
level_told (Value-F.Edge a) (Value-F.Edge b) = (
  λ e. ap (λ n. Value-F.Edge (record { 0 = n })) ((Decides-eqb a.0 b.0).0 e),
  λ e. let ids : a ≡ b = cc in (Decides-eqb a.0 b.0).1 (ap (λ v. v.0) ids),
)
level_told y o = (λ e. absurd (false≢true e), λ e. absurd (cc))

told : (y : Value-F Told) → IsTold (roll-Value (level y))
told y b =
    let d = level_told y (out-Value b) in (
      λ e. ap roll-Value (d.0 (sym (same_value-roll (level y) b) ∙ e)) ∙ roll-out-Value b,
      λ e. same_value-roll (level y) b ∙ d.1 (sym (out-roll-Value (level y)) ∙ ap out-Value e),
    )

pub same_value_Decides : (a b : Value) → Decides (same_value a b) (a ≡ b)
same_value_Decides = ind-Value IsTold (λ x y is. subst (λ z. IsTold (roll-Value z)) is (told y))

pub same_value_equivalence : IsEquivalence same_value
same_value_equivalence = decided same_value same_value_Decides

pub same_value_hashes : (a b : Value) → same_value a b ≡ true → hash_of a ≡ hash_of b
same_value_hashes a b e = ap hash_of ((same_value_Decides a b).0 e)
