-- Rules at the number of levels that a query has.
use Rattle.std.proofs.Common.{true, false, [], ◌∷◌}
use Rattle.cypher_parse.specs.declared.kind.Kind.TheVariants as k
use Rattle.cypher_parse.specs.Expressions.{At, Expression}
use Rattle.cypher_parse.specs.ExpressionParsers.{expression}
use Rattle.cypher_parse.specs.Projections.{WithItem}
use Rattle.cypher_parse.specs.ProjectionParsers.{with_item}
use Rattle.cypher_parse.proofs.Tied.{Tied}
use Rattle.cypher_parse.proofs.Expressions.{or_shape}
use Rattle.cypher_parse.proofs.ExactProjections.{item_shape}
use Rattle.cypher_parse.specs.QueryParsers.{stage}
use Rattle.cypher_parse.proofs.ExactQueries.{StageBehind, tied_stage, behind_clauses}
use Rattle.cypher_parse.proofs.Levels.{rules}
use Rattle.cypher_parse.proofs.NameAlone.{name_alone, tied_with_item}

pub at_limit : Tied true (Expression 64) (Expression 65) (expression 64) (expression 65) or_shape
at_limit = (rules 64).or

pub with_item_at_limit : Tied true (WithItem (Expression 64)) (WithItem (Expression 65)) (with_item (expression 64)) (with_item (expression 65)) item_shape
with_item_at_limit = tied_with_item (Expression 64) (Expression 65) (expression 64) (expression 65) at_limit (λ t n has is. name_alone (At 64) t n has is) (λ t n has is. name_alone (At 65) t n has is)

pub stage_at_limit : Tied true (StageBehind (Expression 64)) (StageBehind (Expression 65)) (stage (expression 64)) (stage (expression 65)) (record { first = k.With ∷ []; empty = false; more = behind_clauses })
stage_at_limit = tied_stage (Expression 64) (Expression 65) (expression 64) (expression 65) at_limit (λ t n has is. name_alone (At 64) t n has is) (λ t n has is. name_alone (At 65) t n has is)
