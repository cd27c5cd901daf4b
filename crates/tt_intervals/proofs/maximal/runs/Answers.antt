use Rattle.std.proofs.Common.{rules}
use Rattle.tt_intervals.proofs.Joining.{runs_joined}
use Rattle.tt_intervals.proofs.maximal.runs.Goals as goal

pub returns : goal.returns
returns g c =
    let laws = g.met.T.Same in
    runs_joined g.T.Same.means_same laws.reflexive laws.symmetric laws.transitive _ (λ s x k b t y l h. search rules) c.args.pieces.items _ _ c.requires c.dedup_by.ensures.filtered
