-- Where memory is wanting at the beginning, nothing is read.
use Rattle.std.proofs.Common.{sym, subst}
use Rattle.script_run.specs.Runs.{ScriptRun}
use Rattle.script_run.proofs.Endings.{not_begun}
use Rattle.script_run.proofs.script.run_script.Goals as goal

pub returns-in-Err : goal.returns-in-Err
returns-in-Err g c = record {
  run = subst (λ status. ScriptRun c.args.anchor g.I.Source g.O.Sink c.args.input.now c.args.input.now c.args.output.now c.args.output.now status) (sym c.status-in-Err.ensures)
      (not_begun c.args.anchor g.I.Source g.O.Sink c.args.input.now c.args.output.now);
}
