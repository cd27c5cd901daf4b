-- Every plan fits.
use Rattle.std.proofs.Common.{◌≡◌, List, [], Ok, subst}
use Rattle.graph_record.specs.Graph.{Graph}
use Rattle.cypher_syntax.specs.declared.tree.clause.Update.{Update}
use Rattle.cypher_syntax.specs.declared.tree.clause.Update.TheVariants as update
use Rattle.expr_eval.specs.Row.{Row}
use Rattle.write_ops.specs.Creating.{create_of}
use Rattle.write_ops.specs.Earlier.{AllFit}
use Rattle.write_ops.specs.Planning.{plan_of}
use Rattle.write_ops.specs.Setting.{Ops}
use Rattle.write_ops.proofs.Fitting.{fine, ok_is, opened}
use Rattle.write_ops.proofs.CreateFits.{create_fits}
use Rattle.write_ops.proofs.SetFits.{set_fits, remove_fits, delete_fits}

pub plan_fits : (g : Graph) (clause : Update) (table : List Row) (ops : Ops) → plan_of g clause table ≡ Ok ops → AllFit [] ops
plan_fits g (update.Create patterns) table ops h =
    let o = opened (create_of g patterns table) (λ created. fine created.ops) ops h in
    subst (AllFit []) (ok_is o.0.ops ops o.2) (create_fits g patterns table o.0 o.1).fit
plan_fits g (update.Set items) table ops h = set_fits g items table ops h
plan_fits g (update.Remove items) table ops h = remove_fits g items table ops h
plan_fits g (update.Delete detach names) table ops h = delete_fits g detach names table ops h
