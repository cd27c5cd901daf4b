-- How large a value may be that an operation makes.
use Rattle.std.specs.Prelude.{ℕ, Bool, ◌&&◌, nat_le, Ok, Err, if◌then◌else◌}
use Rattle.graph_value.specs.Size.{weight_of, depth_of}
use Rattle.graph_value.specs.declared.value.Value.{Value}
use Rattle.expr_eval.specs.declared.refused.EvalRefused.TheVariants.{TooLarge}
use Rattle.expr_eval.specs.Outcome.{Outcome}

-- a weight of 2 ^ 20, and 64 lists in one another
abbrev pub is_small : ℕ → ℕ → Bool
is_small weight depth = nat_le weight 1048576 && nat_le depth 64

-- the value, unless it is too large
abbrev pub sized : Value → Outcome Value
sized v = if is_small (weight_of v) (depth_of v) then Ok v else Err TooLarge
