-- What is wrong with a query: the first of the rules that fails.
use Rattle.std.specs.Prelude.{Bool, true, false, not, ◌&&◌, ◌||◌, List, [], ◌∷◌, Option, Some, None, is_none, if◌then◌else◌}
use Rattle.std.specs.List.{list_any, list_all}
use Rattle.cypher_syntax.specs.declared.tree.clause.Clause.{Clause}
use Rattle.cypher_syntax.specs.declared.tree.clause.Clause.TheVariants as clause
use Rattle.cypher_syntax.specs.declared.tree.projection.Projection.{Projection}
use Rattle.cypher_syntax.specs.declared.tree.query.Query.{Query}
use Rattle.cypher_syntax.specs.declared.tree.query.Time.{Time}
use Rattle.cypher_syntax.specs.declared.tree.query.Time.TheVariants as time
use Rattle.cypher_check.specs.declared.refused.CheckRefused.{CheckRefused}
use Rattle.cypher_check.specs.declared.refused.CheckRefused.TheVariants.{TtWrites, BetweenShape}
use Rattle.cypher_check.specs.Asks.{after, start}
use Rattle.cypher_check.specs.Clauses.{has_aggregate, is_empty, query_asks}

abbrev pub is_update : Clause → Bool
is_update (clause.Match m) = false
is_update (clause.Unwind u) = false
is_update (clause.Update u) = true

abbrev pub writes : Query → Bool
writes q = list_any (λ s. list_any is_update s.clauses) q.stages || list_any is_update q.clauses

abbrev pub is_timed : Time → Bool
is_timed time.None = false
is_timed (time.Snapshot t) = true
is_timed (time.Between t1 t2) = true

abbrev pub is_between : Time → Bool
is_between time.None = false
is_between (time.Snapshot t) = false
is_between (time.Between t1 t2) = true

-- one MATCH, and not an optional one
abbrev pub is_single_match : List Clause → Bool
is_single_match (clause.Match m ∷ []) = not m.optional
is_single_match _ = false

-- items without an aggregate, and nothing else
abbrev pub is_plain_return : Option Projection → Bool
is_plain_return None = false
is_plain_return (Some p) =
    not p.distinct && not p.star && list_all (λ i. not (has_aggregate i.expr)) p.items
    && is_empty p.sort && is_none p.skip && is_none p.limit

abbrev pub has_between_shape : Query → Bool
has_between_shape q = is_empty q.stages && is_single_match q.clauses && is_plain_return q.returns

unfoldable pub verdict : Query → Option CheckRefused
verdict q =
    if is_timed q.time && writes q then Some TtWrites
    else if is_between q.time && not (has_between_shape q) then Some BetweenShape
    else (after start (query_asks q)).fault
