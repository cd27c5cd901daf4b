-- The operations of a clause that writes, all found on the graph before the clause.
use Rattle.std.specs.Prelude.{List, Ok}
use Rattle.graph_record.specs.Graph.{Graph}
use Rattle.cypher_syntax.specs.declared.tree.clause.Update.{Update}
use Rattle.cypher_syntax.specs.declared.tree.clause.Update.TheVariants as update
use Rattle.cypher_syntax.specs.declared.tree.pattern.Pattern.{Pattern}
use Rattle.expr_eval.specs.Outcome.{Outcome, and_then}
use Rattle.expr_eval.specs.Row.{Row}
use Rattle.write_ops.specs.Creating.{create_of}
use Rattle.write_ops.specs.Deleting.{delete_of}
use Rattle.write_ops.specs.Setting.{Ops, set_of, remove_of}

abbrev pub created_ops : Graph → List Pattern → List Row → Outcome Ops
created_ops g patterns table = and_then (create_of g patterns table) (λ created. Ok created.ops)

abbrev pub plan_of : Graph → Update → List Row → Outcome Ops
plan_of g (update.Create patterns) table = created_ops g patterns table
plan_of g (update.Set items) table = set_of g items table
plan_of g (update.Remove items) table = remove_of g items table
plan_of g (update.Delete detach names) table = delete_of g detach names table
