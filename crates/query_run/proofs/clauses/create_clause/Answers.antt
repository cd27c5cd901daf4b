use Rattle.std.proofs.Common.{ℕ, List, [], subst, sym, ap, ◌∙◌}
use Rattle.expr_eval.specs.declared.refused.EvalRefused.TheVariants.{NoMemory}
use Rattle.write_ops.specs.Creating.{create_of}
use Rattle.write_ops.specs.declared.creating.Created.{Created}
use Rattle.query_run.specs.declared.stop.Stop.TheVariants.{Eval}
use Rattle.query_run.specs.Asked.{planned_part}
use Rattle.query_run.specs.Denoted.{Table, create_part}
use Rattle.query_run.specs.Named.{table_with}
use Rattle.query_run.specs.Parts.{Part, found, given, then}
use Rattle.query_run.specs.Running.{Goes, Stops}
use Rattle.query_run.proofs.Moves.{errs, goes, halts, opens, stops, wants}
use Rattle.query_run.proofs.clauses.create_clause.Goals as goal

-- the names of the clause, and before them its writes
abbrev named : Table → Created → List ℕ → Part Table
named table created ids = given (table_with ids table created.names)

abbrev written : Table → Created → Part Table
written table created = then (planned_part created.ops []) (named table created)

pub returns-in_err-plan-clause-runs : goal.returns-in_err-plan-clause-runs
returns-in_err-plan-clause-runs g c =
    let S = g.S.GraphStore in
    let a = c.args in
    let start = a.access.now.txn.now.start in
    let why = c.in_err-plan.field-0.0 in
    errs S.stands S.caller S.alone start (create_part a.table a.patterns.now) a.store.now c.created.new.store c.from_residual.result why c.from_residual.ensures.1
    (halts S.stands S.caller S.alone start (found (λ w. create_of w a.patterns.now a.table)) (written a.table) why a.store.now c.created.new.store
    (subst (λ t. Stops S.stands S.caller S.alone start (found (λ w. create_of w a.patterns.now t)) why a.store.now c.created.new.store)
    c.as_slice.ensures c.in_err-plan.ensures.runs))

pub returns-in_err-ids-clause-runs : goal.returns-in_err-ids-clause-runs
returns-in_err-ids-clause-runs g c =
    let S = g.S.GraphStore in
    let a = c.args in
    let start = a.access.now.txn.now.start in
    let whole = create_part a.table a.patterns.now in
    let plan = c.in_ok-plan.plan in
    let why = c.in_err-ids.field-0.0 in
    errs S.stands S.caller S.alone start whole a.store.now c.asked_all.new.store c.from_residual-in_err-ids.result why c.from_residual-in_err-ids.ensures.1
    (stops S.stands S.caller S.alone start whole (planned_part plan.ops []) (named a.table plan) why a.store.now c.created.new.store c.asked_all.new.store
    (opens S.stands S.caller S.alone start (found (λ w. create_of w a.patterns.now a.table)) (written a.table) plan a.store.now c.created.new.store
    (subst (λ t. Goes S.stands S.caller S.alone start (found (λ w. create_of w a.patterns.now t)) (given plan) a.store.now c.created.new.store)
    c.as_slice.ensures c.in_ok-plan.ensures.runs))
    (subst (λ ops. Stops S.stands S.caller S.alone start (planned_part ops []) why c.created.new.store c.asked_all.new.store)
    c.as_slice-2.ensures c.in_err-ids.ensures.runs))

pub returns-in_err-table_with-clause-runs : goal.returns-in_err-table_with-clause-runs
returns-in_err-table_with-clause-runs g c =
    let S = g.S.GraphStore in
    let a = c.args in
    let start = a.access.now.txn.now.start in
    let whole = create_part a.table a.patterns.now in
    let plan = c.in_ok-plan.plan in
    let ids = c.in_ok-ids.ids in
    errs S.stands S.caller S.alone start whole a.store.now c.asked_all.new.store c.from_residual-in_err-table_with.result (Eval NoMemory) c.from_residual-in_err-table_with.ensures.1
    (wants S.stands S.caller S.alone start whole (named a.table plan ids) a.store.now c.asked_all.new.store
    (goes S.stands S.caller S.alone start whole (planned_part plan.ops []) (named a.table plan) ids a.store.now c.created.new.store c.asked_all.new.store
    (opens S.stands S.caller S.alone start (found (λ w. create_of w a.patterns.now a.table)) (written a.table) plan a.store.now c.created.new.store
    (subst (λ t. Goes S.stands S.caller S.alone start (found (λ w. create_of w a.patterns.now t)) (given plan) a.store.now c.created.new.store)
    c.as_slice.ensures c.in_ok-plan.ensures.runs))
    (subst (λ ops. Goes S.stands S.caller S.alone start (planned_part ops []) (given ids) c.created.new.store c.asked_all.new.store)
    c.as_slice-2.ensures c.in_ok-ids.ensures.runs)))

pub returns-clause-runs : goal.returns-clause-runs
returns-clause-runs g c =
    let S = g.S.GraphStore in
    let a = c.args in
    let start = a.access.now.txn.now.start in
    let whole = create_part a.table a.patterns.now in
    let plan = c.in_ok-plan.plan in
    let ids = c.in_ok-ids.ids in
    subst (λ t. Goes S.stands S.caller S.alone start whole (given t) a.store.now c.asked_all.new.store)
    (sym (c.in_ok-table_with.ensures
    ∙ ap (λ n. table_with n c.as_slice-3.result.now c.as_slice-4.result.now) c.as_slice-ids.ensures
    ∙ ap (λ t. table_with ids t c.as_slice-4.result.now) c.as_slice-3.ensures
    ∙ ap (λ names. table_with ids a.table names) c.as_slice-4.ensures))
    (goes S.stands S.caller S.alone start whole (planned_part plan.ops []) (named a.table plan) ids a.store.now c.created.new.store c.asked_all.new.store
    (opens S.stands S.caller S.alone start (found (λ w. create_of w a.patterns.now a.table)) (written a.table) plan a.store.now c.created.new.store
    (subst (λ t. Goes S.stands S.caller S.alone start (found (λ w. create_of w a.patterns.now t)) (given plan) a.store.now c.created.new.store)
    c.as_slice.ensures c.in_ok-plan.ensures.runs))
    (subst (λ ops. Goes S.stands S.caller S.alone start (planned_part ops []) (given ids) c.created.new.store c.asked_all.new.store)
    c.as_slice-2.ensures c.in_ok-ids.ensures.runs))
