-- Comparisons, of which each may be unknown.
use Rattle.std.specs.Prelude.{Bool, true, false, List, [], ◌∷◌, Ok, Err}
use Rattle.graph_value.specs.declared.tri.Tri.{Tri}
use Rattle.graph_value.specs.declared.tri.Tri.TheVariants.{False, Unknown}
use Rattle.graph_value.specs.declared.value.Value.{Value, out-Value}
use Rattle.graph_value.specs.declared.value.Value.TheVariants as value
use Rattle.graph_value.specs.declared.value.Value.TheOpen.{Value-F}
use Rattle.graph_value.specs.Equals.{equals_of}
use Rattle.graph_value.specs.Less.{less_of}
use Rattle.cypher_syntax.specs.declared.tree.operators.CmpOp.{CmpOp}
use Rattle.cypher_syntax.specs.declared.tree.operators.CmpOp.TheVariants.{Eq, Ne, Lt, Le, Gt, Ge}
use Rattle.expr_eval.specs.declared.refused.EvalRefused.TheVariants.{TypeFault}
use Rattle.expr_eval.specs.Outcome.{Outcome}
use Rattle.expr_eval.specs.Truth.{tri_not, tri_or, tri_value}

-- less or equal; unknown where less is, of values of other kinds too
abbrev pub at_most : Tri → Tri → Tri
at_most Unknown equal = Unknown
at_most less equal = tri_or less equal

abbrev pub compared : CmpOp → Value → Value → Tri
compared Eq a b = equals_of a b
compared Ne a b = tri_not (equals_of a b)
compared Lt a b = less_of a b
compared Le a b = at_most (less_of a b) (equals_of a b)
compared Gt a b = less_of b a
compared Ge a b = at_most (less_of b a) (equals_of b a)

-- whether a value equals one of these: true where it equals one, else unknown where that is unknown of one
abbrev pub equals_one : Value → List Value → Tri
equals_one v [] = False
equals_one v (item ∷ items) = tri_or (equals_of v item) (equals_one v items)

abbrev pub one_of_level : Value → Value-F Value → Outcome Value
one_of_level v Value-F.Null = Ok value.Null
one_of_level v (Value-F.List items) = Ok (tri_value (equals_one v items))
one_of_level v w = Err TypeFault

unfoldable pub one_of : Value → Value → Outcome Value
one_of v w = one_of_level v (out-Value w)

abbrev pub null_level : Value-F Value → Bool
null_level Value-F.Null = true
null_level v = false

unfoldable pub is_null : Value → Bool
is_null v = null_level (out-Value v)
