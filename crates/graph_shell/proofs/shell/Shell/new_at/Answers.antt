use Rattle.graph_shell.specs.Stands.{past_of}
use Rattle.graph_shell.proofs.shell.Shell.new_at.Goals as goal

-- nothing has happened
pub invariant_of-result : goal.invariant_of-result
invariant_of-result c = (past_of (record { interval = c.args.anchor; clock = c.args.clock; vertices = c.args.vertices; edges = c.args.edges }), record { store = c.in_ok-new_at.ensures; same = c.new.ensures; pieces = λ caller x piece none. absurd cc })
