use Rattle.std.proofs.Common.{ℕ, List, [], subst}
use Rattle.write_ops.specs.Planning.{plan_of}
use Rattle.write_ops.specs.declared.planned.PlannedOp.{PlannedOp}
use Rattle.query_run.specs.Asked.{planned_part}
use Rattle.query_run.specs.Denoted.{Table, write_part}
use Rattle.query_run.specs.Parts.{Part, found, given, then}
use Rattle.query_run.specs.Running.{Goes, Stops}
use Rattle.query_run.proofs.Moves.{errs, goes, halts, opens, stops}
use Rattle.query_run.proofs.clauses.write_clause.Goals as goal

-- the table as it was, and before it the writes
abbrev same : Table → List ℕ → Part Table
same table ids = given table

abbrev written : Table → List PlannedOp → Part Table
written table ops = then (planned_part ops []) (same table)

pub returns-in_err-ops-clause-runs : goal.returns-in_err-ops-clause-runs
returns-in_err-ops-clause-runs g c =
    let S = g.S.GraphStore in
    let a = c.args in
    let start = a.access.now.txn.now.start in
    let why = c.in_err-ops.field-0.0 in
    errs S.stands S.caller S.alone start (write_part a.table a.clause.now) a.store.now c.plan_found.new.store c.from_residual.result why c.from_residual.ensures.1
    (halts S.stands S.caller S.alone start (found (λ w. plan_of w a.clause.now a.table)) (written a.table) why a.store.now c.plan_found.new.store
    (subst (λ t. Stops S.stands S.caller S.alone start (found (λ w. plan_of w a.clause.now t)) why a.store.now c.plan_found.new.store)
    c.as_slice.ensures c.in_err-ops.ensures.runs))

pub returns-in_err-asked_all-clause-runs : goal.returns-in_err-asked_all-clause-runs
returns-in_err-asked_all-clause-runs g c =
    let S = g.S.GraphStore in
    let a = c.args in
    let start = a.access.now.txn.now.start in
    let whole = write_part a.table a.clause.now in
    let ops = c.in_ok-ops.ops in
    let why = c.in_err-asked_all.field-0.0 in
    errs S.stands S.caller S.alone start whole a.store.now c.asked_all.new.store c.from_residual-in_err-asked_all.result why c.from_residual-in_err-asked_all.ensures.1
    (stops S.stands S.caller S.alone start whole (planned_part ops []) (same a.table) why a.store.now c.plan_found.new.store c.asked_all.new.store
    (opens S.stands S.caller S.alone start (found (λ w. plan_of w a.clause.now a.table)) (written a.table) ops a.store.now c.plan_found.new.store
    (subst (λ t. Goes S.stands S.caller S.alone start (found (λ w. plan_of w a.clause.now t)) (given ops) a.store.now c.plan_found.new.store)
    c.as_slice.ensures c.in_ok-ops.ensures.runs))
    (subst (λ ops. Stops S.stands S.caller S.alone start (planned_part ops []) why c.plan_found.new.store c.asked_all.new.store)
    c.as_slice-2.ensures c.in_err-asked_all.ensures.runs))

pub returns-clause-runs : goal.returns-clause-runs
returns-clause-runs g c =
    let S = g.S.GraphStore in
    let a = c.args in
    let start = a.access.now.txn.now.start in
    let whole = write_part a.table a.clause.now in
    let ops = c.in_ok-ops.ops in
    let ids = c.in_ok-asked_all.field-0 in
    goes S.stands S.caller S.alone start whole (planned_part ops []) (same a.table) ids a.store.now c.plan_found.new.store c.asked_all.new.store
    (opens S.stands S.caller S.alone start (found (λ w. plan_of w a.clause.now a.table)) (written a.table) ops a.store.now c.plan_found.new.store
    (subst (λ t. Goes S.stands S.caller S.alone start (found (λ w. plan_of w a.clause.now t)) (given ops) a.store.now c.plan_found.new.store)
    c.as_slice.ensures c.in_ok-ops.ensures.runs))
    (subst (λ ops. Goes S.stands S.caller S.alone start (planned_part ops []) (given ids) c.plan_found.new.store c.asked_all.new.store)
    c.as_slice-2.ensures c.in_ok-asked_all.ensures.runs)
