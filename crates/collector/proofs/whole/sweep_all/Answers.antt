use Rattle.std.proofs.Common.{Ok, refl, sym, ap, subst, ◌∙◌}
use Rattle.std.specs.Prelude.{Result}
use Rattle.std.specs.declared.alloc.AllocError.{AllocError}
use Rattle.std.proofs.lemmas.Result.{err_from_is_err_and}
use Rattle.collector.specs.Advancing.{Advances, IsKept, stage_of}
use Rattle.collector.specs.Sweeping.{Stage}
use Rattle.collector.specs.Whole.{Sweeps}
use Rattle.collector.specs.declared.progress.Progress.{Progress}
use Rattle.collector.specs.declared.progress.Swept.{Swept}
use Rattle.collector.proofs.Ended.{ends}
use Rattle.collector.proofs.Moves.{moves_all}
use Rattle.collector.proofs.UnderWay.{UnderWay, not_begun, steps_fail, steps_on}
use Rattle.collector.proofs.Weights.{steps_lessen}
use Rattle.collector.proofs.whole.sweep_all.Goals as goal

pub loop-sweep-init : goal.loop-sweep-init
loop-sweep-init g c =
    let S = g.S.GraphStore in
    record {
      way = not_begun S.stands S.caller S.alone c.args.store.now (stage_of c.new-sweep.result) c.nothing-swept.result c.new-sweep.ensures c.nothing-swept.ensures;
      kept = subst (λ k. IsKept S.stands k c.args.store.now) (sym (ap (λ (s : Stage). s.kept) c.new-sweep.ensures)) tt;
      stays = refl;
    }

pub loop-sweep-preserved : goal.loop-sweep-preserved
loop-sweep-preserved g c =
    let S = g.S.GraphStore in
    let now = c.loop-sweep in
    let told = c.in_ok-progress in
    record {
      way = subst (λ (n : Swept). UnderWay S.stands S.caller S.alone c.args.store.now c.advance.new.store (stage_of c.advance.new.self) n) (sym c.add.ensures)
          (steps_on S.stands S.caller S.alone c.args.store.now now.store c.advance.new.store (stage_of now.sweep) (stage_of c.advance.new.self) now.swept told.progress now.invariant.way told.ensures.turns);
      kept = told.ensures.keeps;
      stays = told.ensures.stays ∙ now.invariant.stays;
    }

pub loop-sweep-smaller : goal.loop-sweep-smaller
loop-sweep-smaller g c =
    let S = g.S.GraphStore in
    let now = c.loop-sweep in
    let told = c.in_ok-progress in
    steps_lessen S.stands S.caller S.alone g.met.S.GraphStore.legal now.store c.advance.new.store (stage_of now.sweep) (stage_of c.advance.new.self) told.progress c.in_default.not-End told.ensures.turns

pub returns-in_err-progress-clause-sweeps : goal.returns-in_err-progress-clause-sweeps
returns-in_err-progress-clause-sweeps g c =
    let S = g.S.GraphStore in
    let now = c.loop-sweep in
    let err = err_from_is_err_and c.from_residual.result c.from_residual.ensures.1 in
    subst (λ (r : Result Swept AllocError). Sweeps S.stands S.caller S.alone c.args.store.now c.advance.new.store r) (sym err.1)
    (steps_fail S.stands S.caller S.alone c.args.store.now now.store c.advance.new.store (stage_of now.sweep) (stage_of c.advance.new.self) now.swept c.in_err-progress.field-0.0 err.0 now.invariant.way c.in_err-progress.ensures.turns)

pub returns-in-End : goal.returns-in-End
returns-in-End g c =
    let S = g.S.GraphStore in
    let now = c.loop-sweep in
    let told = c.in_ok-progress in
    let sweeps =
    ends S.stands S.caller S.alone c.args.store.now now.store c.advance.new.store (stage_of now.sweep) (stage_of c.advance.new.self) now.swept c.in-End.field-0 now.invariant.way
    (subst (λ (p : Progress). Advances S.stands S.caller S.alone (stage_of now.sweep) (stage_of c.advance.new.self) now.store c.advance.new.store (Ok p)) c.in-End.is told.ensures.turns) in
    record {
      sweeps = sweeps;
      moves = moves_all S.stands S.caller S.alone g.met.S.GraphStore.legal c.args.store.now c.advance.new.store now.swept sweeps;
      stays = told.ensures.stays ∙ now.invariant.stays;
    }
