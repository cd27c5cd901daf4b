use Rattle.tt_intervals.proofs.Unique.{runs_unique}
use Rattle.tt_intervals.proofs.law.runs_are_unique.Goals as goal

pub returns : goal.returns
returns g c = runs_unique g.T.Same.means_same g.met.T.Same.symmetric g.met.T.Same.transitive
