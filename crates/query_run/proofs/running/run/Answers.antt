use Rattle.std.proofs.Common.{List, subst, ap, ◌∙◌}
use Rattle.graph_reader.specs.declared.shown.Shown.{Shown}
use Rattle.cypher_syntax.specs.declared.tree.query.Query.{Query}
use Rattle.cypher_check.specs.Answer.{query_of}
use Rattle.expr_eval.specs.declared.refused.EvalRefused.TheVariants.{NoMemory}
use Rattle.query_run.specs.declared.stop.Stop.TheVariants.{Eval}
use Rattle.query_run.specs.Denoted.{Table, clauses_part, denoted, one_row, returned_part, stages_part}
use Rattle.query_run.specs.Parts.{Part, given, then}
use Rattle.query_run.specs.Running.{Goes, Runs, Stops}
use Rattle.query_run.proofs.Moves.{begins, errs, finishes, goes, halts, opens, stops, wants}
use Rattle.query_run.proofs.running.run.Goals as goal

pub returns-in_err-table-clause-runs : goal.returns-in_err-table-clause-runs
returns-in_err-table-clause-runs g c =
    let S = g.S.GraphStore in
    let a = c.args in
    let start = a.txn.now.start in
    let whole = denoted (query_of a.checked.now) in
    errs S.stands S.caller S.alone start whole a.store.now a.store.now c.from_residual.result (Eval NoMemory) c.from_residual.ensures.1
    (wants S.stands S.caller S.alone start whole whole a.store.now a.store.now (begins S.stands S.caller S.alone start whole a.store.now))

-- the clauses behind the last WITH, and what is returned
abbrev ending : Query → Table → Part (List (List Shown))
ending q t = then (clauses_part q.clauses t) (returned_part q.returns)

pub returns-in_err-table-2-clause-runs : goal.returns-in_err-table-2-clause-runs
returns-in_err-table-2-clause-runs g c =
    let S = g.S.GraphStore in
    let a = c.args in
    let start = a.txn.now.start in
    let q = query_of a.checked.now in
    let why = c.in_err-table-2.field-0.0 in
    let now = c.stages_done.new.store in
    errs S.stands S.caller S.alone start (denoted q) a.store.now now c.from_residual-in_err-table-2.result why c.from_residual-in_err-table-2.ensures.1
    (halts S.stands S.caller S.alone start (stages_part q.stages one_row) (ending q) why a.store.now now
    (subst (λ t. Stops S.stands S.caller S.alone start (stages_part q.stages t) why a.store.now now) c.in_ok-table.ensures
    (subst (λ ss. Stops S.stands S.caller S.alone start (stages_part ss c.in_ok-table.table) why a.store.now now)
    (c.as_slice.ensures ∙ ap (λ q. q.stages) c.query-query.ensures.query) c.in_err-table-2.ensures.runs)))

pub returns-in_err-table-3-clause-runs : goal.returns-in_err-table-3-clause-runs
returns-in_err-table-3-clause-runs g c =
    let S = g.S.GraphStore in
    let a = c.args in
    let start = a.txn.now.start in
    let q = query_of a.checked.now in
    let t = c.in_ok-table-2.table in
    let why = c.in_err-table-3.field-0.0 in
    let mid = c.stages_done.new.store in
    let now = c.clauses_done.new.store in
    errs S.stands S.caller S.alone start (denoted q) a.store.now now c.from_residual-in_err-table-3.result why c.from_residual-in_err-table-3.ensures.1
    (stops S.stands S.caller S.alone start (denoted q) (clauses_part q.clauses t) (returned_part q.returns) why a.store.now mid now
    (opens S.stands S.caller S.alone start (stages_part q.stages one_row) (ending q) t a.store.now mid
    (subst (λ t0. Goes S.stands S.caller S.alone start (stages_part q.stages t0) (given t) a.store.now mid) c.in_ok-table.ensures
    (subst (λ ss. Goes S.stands S.caller S.alone start (stages_part ss c.in_ok-table.table) (given t) a.store.now mid)
    (c.as_slice.ensures ∙ ap (λ q. q.stages) c.query-query.ensures.query) c.in_ok-table-2.ensures.runs)))
    (subst (λ cs. Stops S.stands S.caller S.alone start (clauses_part cs t) why mid now)
    (c.as_slice-2.ensures ∙ ap (λ q. q.clauses) c.query-query.ensures.query) c.in_err-table-3.ensures.runs))

pub returns-clause-runs : goal.returns-clause-runs
returns-clause-runs g c =
    let S = g.S.GraphStore in
    let a = c.args in
    let start = a.txn.now.start in
    let q = query_of a.checked.now in
    let t = c.in_ok-table-2.table in
    let last = c.in_ok-table-3.table in
    let mid = c.stages_done.new.store in
    let now = c.clauses_done.new.store in
    finishes S.stands S.caller S.alone start (denoted q) (returned_part q.returns last) a.store.now now c.returned.new.store c.returned.result
    (goes S.stands S.caller S.alone start (denoted q) (clauses_part q.clauses t) (returned_part q.returns) last a.store.now mid now
    (opens S.stands S.caller S.alone start (stages_part q.stages one_row) (ending q) t a.store.now mid
    (subst (λ t0. Goes S.stands S.caller S.alone start (stages_part q.stages t0) (given t) a.store.now mid) c.in_ok-table.ensures
    (subst (λ ss. Goes S.stands S.caller S.alone start (stages_part ss c.in_ok-table.table) (given t) a.store.now mid)
    (c.as_slice.ensures ∙ ap (λ q. q.stages) c.query-query.ensures.query) c.in_ok-table-2.ensures.runs)))
    (subst (λ cs. Goes S.stands S.caller S.alone start (clauses_part cs t) (given last) mid now)
    (c.as_slice-2.ensures ∙ ap (λ q. q.clauses) c.query-query.ensures.query) c.in_ok-table-3.ensures.runs))
    (subst (λ r. Runs S.stands S.caller S.alone start (returned_part r last) now c.returned.new.store c.returned.result)
    (ap (λ q. q.returns) c.query-query.ensures.query) c.returned.ensures.runs)
