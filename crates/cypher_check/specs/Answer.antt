-- What an answer says of a query.
use Rattle.std.specs.Prelude.{◌≡◌, Some}
use Rattle.cypher_syntax.specs.declared.tree.query.Query.{Query}
use Rattle.cypher_check.specs.declared.checked.Checked.{Checked}
use Rattle.cypher_check.specs.declared.refused.CheckRefused.{CheckRefused}
use Rattle.cypher_check.specs.declared.refused.CheckRefused.TheVariants.{TtWrites, BetweenShape, Unbound, Redeclared, AggregatePlace, NoMemory}
use Rattle.cypher_check.specs.Verdict.{verdict}

-- the query that passed the checks
abbrev pub query_of : Checked → Query
query_of checked = checked.query

-- the first rule that fails, unless memory was wanting
abbrev pub IsRefusal : Query → CheckRefused → Type 0
IsRefusal q NoMemory = Unit {0}
IsRefusal q TtWrites = verdict q ≡ Some TtWrites
IsRefusal q BetweenShape = verdict q ≡ Some BetweenShape
IsRefusal q (Unbound name) = verdict q ≡ Some (Unbound name)
IsRefusal q (Redeclared name) = verdict q ≡ Some (Redeclared name)
IsRefusal q AggregatePlace = verdict q ≡ Some AggregatePlace
