-- The weight and the depth of what operations make.
use Rattle.std.proofs.Common.{◌≡◌, ℕ, zero, suc, ◌+◌, max, nat_le, Bool, ◌&&◌, List, [], ◌∷◌, ◌++◌, length, ℤ, pos, ◌+ℤ◌, refl, sym, ap, ◌∙◌, arith}
use Rattle.std.specs.List.{sum_by}
use Rattle.std.proofs.lemmas.List.Sums.{sum_by-append, sum_by-cons}
use Rattle.graph_value.specs.Size.{weight_level, weight_of, depth_level, depth_of}
use Rattle.graph_value.specs.declared.value.Value as values
use Rattle.graph_value.specs.declared.value.Value.{Value, fold-roll-Value}
use Rattle.graph_value.specs.declared.value.Value.TheOpen.{Value-F}
use Rattle.graph_value.specs.declared.value.Value.TheVariants as value
use Rattle.expr_eval.specs.Lists.{counted}
use Rattle.expr_eval.specs.Size.{is_small}
use Rattle.graph_value.proofs.SizeLemmas.{weight_of-List, depth_of-List, greatest_depth}

greatest_append : (xs ys : List Value) → greatest_depth (xs ++ ys) ≡ max (greatest_depth xs) (greatest_depth ys)
greatest_append [] ys = omega arith
greatest_append (x ∷ xs) ys = omega (arith, greatest_append xs ys)

pub weight_joined : (xs ys : List Value) → weight_of (value.List (xs ++ ys)) ≡ 1 + (sum_by weight_of xs + sum_by weight_of ys)
weight_joined xs ys = weight_of-List (xs ++ ys) ∙ ap (λ n. 1 + n) (sum_by-append weight_of xs ys)

pub depth_joined : (xs ys : List Value) → depth_of (value.List (xs ++ ys)) ≡ 1 + max (greatest_depth xs) (greatest_depth ys)
depth_joined xs ys = depth_of-List (xs ++ ys) ∙ ap (λ n. 1 + n) (greatest_append xs ys)

-- each test of its own
pub small_joined : (xs ys : List Value) (light shallow : Bool) → light ≡ nat_le (1 + (sum_by weight_of xs + sum_by weight_of ys)) 1048576 → shallow ≡ nat_le (1 + max (greatest_depth xs) (greatest_depth ys)) 64 →
    (light && shallow) ≡ is_small (weight_of (value.List (xs ++ ys))) (depth_of (value.List (xs ++ ys)))
small_joined xs ys light shallow l s =
    ap (λ b. b && shallow) (l ∙ ap (λ n. nat_le n 1048576) (sym (weight_joined xs ys)))
    ∙ ap (λ b. nat_le (weight_of (value.List (xs ++ ys))) 1048576 && b) (s ∙ ap (λ n. nat_le n 64) (sym (depth_joined xs ys)))

-- texts and integers

pub weight_of-Text : (text : List ℕ) → weight_of (value.Text text) ≡ 1 + length text
unfolding values.roll-Value values.out-Value denote.Hole.Carrier.roll
weight_of-Text text = fold-roll-Value ℕ weight_level (Value-F.Text text)

pub depth_of-Text : (text : List ℕ) → depth_of (value.Text text) ≡ 0
unfolding values.roll-Value values.out-Value denote.Hole.Carrier.roll
depth_of-Text text = fold-roll-Value ℕ depth_level (Value-F.Text text)

weight_of-Int : (n : ℤ) → weight_of (value.Int n) ≡ 1
unfolding values.roll-Value values.out-Value denote.Hole.Carrier.roll
weight_of-Int n = fold-roll-Value ℕ weight_level (Value-F.Int n)

depth_of-Int : (n : ℤ) → depth_of (value.Int n) ≡ 0
unfolding values.roll-Value values.out-Value denote.Hole.Carrier.roll
depth_of-Int n = fold-roll-Value ℕ depth_level (Value-F.Int n)

counted_weight : (a : ℤ) (n : ℕ) → sum_by weight_of (counted a n) ≡ n
counted_weight a zero = refl
counted_weight a (suc n) = sum_by-cons weight_of (value.Int a) (counted (a +ℤ pos 1) n) ∙ omega (arith, weight_of-Int a, counted_weight (a +ℤ pos 1) n)

counted_depth : (a : ℤ) (n : ℕ) → greatest_depth (counted a n) ≡ 0
counted_depth a zero = refl
counted_depth a (suc n) = omega (arith, depth_of-Int a, counted_depth (a +ℤ pos 1) n)

pub small_integers : (a : ℤ) (n : ℕ) → is_small (weight_of (value.List (counted a n))) (depth_of (value.List (counted a n))) ≡ is_small (1 + n) 1
small_integers a n =
    ap (λ w. is_small w (depth_of (value.List (counted a n)))) (weight_of-List (counted a n) ∙ ap (λ k. 1 + k) (counted_weight a n))
    ∙ ap (λ d. is_small (1 + n) d) (depth_of-List (counted a n) ∙ ap (λ k. 1 + k) (counted_depth a n))

pub small_text : (text : List ℕ) → is_small (weight_of (value.Text text)) (depth_of (value.Text text)) ≡ is_small (1 + length text) 0
small_text text = ap (λ w. is_small w (depth_of (value.Text text))) (weight_of-Text text) ∙ ap (λ d. is_small (1 + length text) d) (depth_of-Text text)
