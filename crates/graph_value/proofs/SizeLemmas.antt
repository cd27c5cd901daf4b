-- The weight and the depth of a list.
use Rattle.std.proofs.Common.{◌≡◌, ℕ, ◌+◌, List, map, sym, ap, ◌∙◌}
use Rattle.std.proofs.lemmas.List.Sums.{sum-map}
use Rattle.std.specs.List.{sum_by}
use Rattle.graph_value.specs.Size.{weight_level, weight_of, greatest, depth_level, depth_of}
use Rattle.graph_value.specs.declared.value.Value.{Value, fold-roll-Value}
use Rattle.graph_value.specs.declared.value.Value.TheVariants.{List as Listed, rolls-List}
use Rattle.graph_value.specs.declared.value.Value.TheOpen.{Value-F}

pub weight_of-List : (xs : List Value) → weight_of (Listed xs) ≡ 1 + sum_by weight_of xs
weight_of-List xs =
    ap weight_of (sym (rolls-List xs))
    ∙ fold-roll-Value ℕ weight_level (Value-F.List xs)
    ∙ ap (λ n. 1 + n) (sum-map weight_of xs)

abbrev pub greatest_depth : List Value → ℕ
greatest_depth xs = greatest (map depth_of xs)

pub depth_of-List : (xs : List Value) → depth_of (Listed xs) ≡ 1 + greatest_depth xs
depth_of-List xs = ap depth_of (sym (rolls-List xs)) ∙ fold-roll-Value ℕ depth_level (Value-F.List xs)
