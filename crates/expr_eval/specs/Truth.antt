-- Truth values, of which null is the unknown one.
use Rattle.std.specs.Prelude.{Bool, true, false, Ok, Err}
use Rattle.graph_value.specs.declared.tri.Tri.{Tri}
use Rattle.graph_value.specs.declared.tri.Tri.TheVariants.{True, False, Unknown}
use Rattle.graph_value.specs.declared.value.Value.{Value, out-Value}
use Rattle.graph_value.specs.declared.value.Value.TheVariants as value
use Rattle.graph_value.specs.declared.value.Value.TheOpen.{Value-F}
use Rattle.graph_value.specs.Tri.{known, tri_and}
use Rattle.expr_eval.specs.declared.truth.Joint.{Joint}
use Rattle.expr_eval.specs.declared.truth.Joint.TheVariants.{And, Or, Xor}
use Rattle.expr_eval.specs.declared.truth.Left.{Left}
use Rattle.expr_eval.specs.declared.truth.Left.TheVariants.{Nothing, Truth, Other}
use Rattle.expr_eval.specs.declared.refused.EvalRefused.TheVariants.{TypeFault}
use Rattle.expr_eval.specs.Outcome.{Outcome}

abbrev pub tri_not : Tri → Tri
tri_not True = False
tri_not False = True
tri_not Unknown = Unknown

abbrev pub tri_or : Tri → Tri → Tri
tri_or a b = tri_not (tri_and (tri_not a) (tri_not b))

-- unknown where one is
abbrev pub tri_xor : Tri → Tri → Tri
tri_xor Unknown b = Unknown
tri_xor a Unknown = Unknown
tri_xor True b = tri_not b
tri_xor False b = b

abbrev pub is_true : Tri → Bool
is_true True = true
is_true False = false
is_true Unknown = false

abbrev pub is_false : Tri → Bool
is_false t = is_true (tri_not t)

abbrev pub tri_value : Tri → Value
tri_value True = value.Bool true
tri_value False = value.Bool false
tri_value Unknown = value.Null

-- the truth value that a value is, or another value
abbrev pub truth_level : Value-F Value → Left
truth_level Value-F.Null = Truth Unknown
truth_level (Value-F.Bool b) = Truth (known b)
truth_level v = Other

unfoldable pub truth : Value → Left
truth v = truth_level (out-Value v)

-- where a truth value is asked for
abbrev pub known_truth : Left → Outcome Tri
known_truth Nothing = Err TypeFault
known_truth (Truth t) = Ok t
known_truth Other = Err TypeFault

abbrev pub condition : Value → Outcome Tri
condition v = known_truth (truth v)

abbrev pub negated : Left → Outcome Value
negated (Truth t) = Ok (tri_value (tri_not t))
negated left = Err TypeFault

-- WHERE keeps a row where its condition is true: null doesn't keep it, and a value that is no truth value is refused.
abbrev pub keeps_level : Value-F Value → Outcome Bool
keeps_level Value-F.Null = Ok false
keeps_level (Value-F.Bool b) = Ok b
keeps_level v = Err TypeFault

unfoldable pub keeps : Value → Outcome Bool
keeps v = keeps_level (out-Value v)

-- AND and OR are settled by what stands on the left: the right isn't evaluated then.
abbrev pub is_settled : Joint → Left → Bool
is_settled And (Truth t) = is_false t
is_settled Or (Truth t) = is_true t
is_settled joint left = false

abbrev pub joint_of : Joint → Tri → Tri → Tri
joint_of And a b = tri_and a b
joint_of Or a b = tri_or a b
joint_of Xor a b = tri_xor a b

-- What stands on the left goes on with what stands on the right. Both were evaluated before their types are asked.
abbrev pub joined : Joint → Left → Left → Outcome Left
joined joint Nothing right = Ok right
joined joint (Truth a) (Truth b) = Ok (Truth (joint_of joint a b))
joined joint left right = Err TypeFault

-- the end of a chain
abbrev pub ended : Left → Outcome Value
ended Nothing = Ok value.Null
ended (Truth t) = Ok (tri_value t)
ended Other = Err TypeFault
