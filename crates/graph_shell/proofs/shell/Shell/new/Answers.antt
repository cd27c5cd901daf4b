use Rattle.graph_shell.specs.Stands.{no_past}
use Rattle.graph_shell.proofs.shell.Shell.new.Goals as goal

-- nothing has happened
pub invariant_of-result : goal.invariant_of-result
invariant_of-result c = (no_past c.args.anchor, record { store = c.in_ok-new.ensures; same = c.new-2.ensures; pieces = λ caller x piece none. absurd cc })
