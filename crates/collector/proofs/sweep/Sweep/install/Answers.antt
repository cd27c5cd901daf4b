use Rattle.std.proofs.Common.{ap, inl, inr}
use Rattle.world_model.specs.Pieces.{PieceParts}
use Rattle.collector.specs.Advancing.{stage_of}
use Rattle.collector.specs.Left.{left_of}
use Rattle.collector.proofs.Kept.{kept_builds}
use Rattle.collector.proofs.Steps.{install_is_stale, install_is_told, install_is_wanted}
use Rattle.collector.proofs.sweep.Sweep.install.Goals as goal

pub build-requires : goal.build-requires
build-requires g c = kept_builds g.S.GraphStore.stands g.met.S.GraphStore.legal c.args.store.now c.args.lifted c.requires.of

pub returns-in-Ok-clause-turns : goal.returns-in-Ok-clause-turns
returns-in-Ok-clause-turns g c =
    let S = g.S.GraphStore in
    let sweep = c.args.self.now in
    inr (inl (install_is_told S.stands S.caller S.alone c.args.store.now c.install.new.self sweep.begun (left_of sweep.left) sweep.kept c.args.mark c.args.x c.requires.begun c.requires.first c.requires.kept c.args.lifted c.in_ok-piece.piece c.in_ok-piece.ensures c.piece.inside.moved (stage_of c.pass.new.self) (ap (λ (p : PieceParts). p.moved) c.piece.view_is) c.pass.ensures c.in-Ok.ensures.sends))

pub returns-in-Err-Stale-clause-turns : goal.returns-in-Err-Stale-clause-turns
returns-in-Err-Stale-clause-turns g c =
    let S = g.S.GraphStore in
    let sweep = c.args.self.now in
    inr (inl (install_is_stale S.stands S.caller S.alone c.args.store.now c.install.new.self sweep.begun (left_of sweep.left) sweep.kept c.args.mark c.args.x c.requires.begun c.requires.first c.requires.kept c.args.lifted c.in_ok-piece.piece c.in_ok-piece.ensures c.in-Err-Stale.cut (stage_of c.pass-in-Err-Stale.new.self) c.pass-in-Err-Stale.ensures (rw c.in-Err-Stale.field-0-is at c.in-Err-Stale.ensures.sends)))

pub returns-clause-turns : goal.returns-clause-turns
returns-clause-turns g c =
    let S = g.S.GraphStore in
    let sweep = c.args.self.now in
    inr (inl (install_is_wanted S.stands S.caller S.alone c.args.store.now c.install.new.self sweep.begun (left_of sweep.left) sweep.kept c.args.mark c.args.x c.requires.begun c.requires.first c.requires.kept c.args.lifted c.in_ok-piece.piece c.in_ok-piece.ensures (record {}) (rw c.in-Err-NoMemory.field-0-is at c.in-Err-NoMemory.ensures.sends)))
