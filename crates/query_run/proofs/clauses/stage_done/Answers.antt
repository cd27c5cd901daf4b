use Rattle.std.proofs.Common.{subst}
use Rattle.row_ops.specs.Projecting.{projected_of}
use Rattle.query_run.specs.Denoted.{Table, clauses_part, stage_part}
use Rattle.query_run.specs.Parts.{Part, found, given}
use Rattle.query_run.specs.Running.{Goes, Stops}
use Rattle.query_run.proofs.Moves.{errs, finishes, halts, opens}
use Rattle.query_run.proofs.clauses.stage_done.Goals as goal

pub returns-in_err-table-clause-runs : goal.returns-in_err-table-clause-runs
returns-in_err-table-clause-runs g c =
    let S = g.S.GraphStore in
    let a = c.args in
    let start = a.access.now.txn.now.start in
    let why = c.in_err-table.field-0.0 in
    let now = c.clauses_done.new.store in
    errs S.stands S.caller S.alone start (stage_part a.stage.now a.table) a.store.now now c.from_residual.result why c.from_residual.ensures.1
    (halts S.stands S.caller S.alone start (clauses_part a.stage.now.clauses a.table) (λ t. found (λ w. projected_of w t a.stage.now.next)) why a.store.now now
    (subst (λ cs. Stops S.stands S.caller S.alone start (clauses_part cs a.table) why a.store.now now) c.as_slice.ensures c.in_err-table.ensures.runs))

pub returns-clause-runs : goal.returns-clause-runs
returns-clause-runs g c =
    let S = g.S.GraphStore in
    let a = c.args in
    let start = a.access.now.txn.now.start in
    let table = c.in_ok-table.table in
    let now = c.clauses_done.new.store in
    let next : Table → Part Table = λ t. found (λ w. projected_of w t a.stage.now.next) in
    finishes S.stands S.caller S.alone start (stage_part a.stage.now a.table) (next table) a.store.now now c.projected.new.store c.projected.result
    (opens S.stands S.caller S.alone start (clauses_part a.stage.now.clauses a.table) next table a.store.now now
    (subst (λ cs. Goes S.stands S.caller S.alone start (clauses_part cs a.table) (given table) a.store.now now) c.as_slice.ensures c.in_ok-table.ensures.runs))
    c.projected.ensures.runs
