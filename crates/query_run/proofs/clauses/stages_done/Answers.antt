use Rattle.std.proofs.Common.{◌+◌, drop, refl, subst, ◌∙◌}
use Rattle.query_run.specs.Denoted.{stage_part, stages_part}
use Rattle.query_run.specs.Running.{Goes}
use Rattle.query_run.proofs.Loops.{head_is}
use Rattle.query_run.proofs.Moves.{begins, errs, goes, stops}
use Rattle.query_run.proofs.clauses.stages_done.Goals as goal

pub loop-stage-init : goal.loop-stage-init
loop-stage-init g c =
    let S = g.S.GraphStore in
    let a = c.args in
    (begins S.stands S.caller S.alone a.access.now.txn.now.start (stages_part a.stages.now a.table) a.store.now, refl)

pub returns-in_err-table-clause-runs : goal.returns-in_err-table-clause-runs
returns-in_err-table-clause-runs g c =
    let S = g.S.GraphStore in
    let a = c.args in
    let l = c.loop-stage in
    let it = c.stage-item.result in
    let start = a.access.now.txn.now.start in
    let whole = stages_part a.stages.now a.table in
    let why = c.in_err-table.field-0.0 in
    errs S.stands S.caller S.alone start whole a.store.now c.stage_done.new.store c.from_residual.result why c.from_residual.ensures.1
    (stops S.stands S.caller S.alone start whole (stage_part it l.table) (stages_part (drop (l.stage-index + 1) a.stages.now)) why a.store.now l.store c.stage_done.new.store
    (subst (λ ss. Goes S.stands S.caller S.alone start whole (stages_part ss l.table) a.store.now l.store)
    (head_is a.stages.now l.stage-index it c.loop-stage-test.true c.stage-item.is) l.invariant.0)
    c.in_err-table.ensures.runs)

pub loop-stage-preserved : goal.loop-stage-preserved
loop-stage-preserved g c =
    let S = g.S.GraphStore in
    let a = c.args in
    let l = c.loop-stage in
    let it = c.stage-item.result in
    let start = a.access.now.txn.now.start in
    let whole = stages_part a.stages.now a.table in (
      goes S.stands S.caller S.alone start whole (stage_part it l.table) (stages_part (drop (l.stage-index + 1) a.stages.now)) c.in_ok-table.table a.store.now l.store c.stage_done.new.store
          (subst (λ ss. Goes S.stands S.caller S.alone start whole (stages_part ss l.table) a.store.now l.store)
          (head_is a.stages.now l.stage-index it c.loop-stage-test.true c.stage-item.is) l.invariant.0)
          c.in_ok-table.ensures.runs,
      c.stage_done.ensures.stays ∙ l.invariant.1,
    )
