use Rattle.std.proofs.Common.{List, [], subst}
use Rattle.graph_reader.specs.declared.shown.Shown.{Shown}
use Rattle.row_ops.specs.Projecting.{projected_of}
use Rattle.query_run.specs.Denoted.{rows_part, Table}
use Rattle.query_run.specs.Parts.{Part, found}
use Rattle.query_run.specs.Running.{Runs}
use Rattle.query_run.specs.Shown.{rows_shown}
use Rattle.query_run.proofs.Moves.{errs, finishes, halts, opens}
use Rattle.query_run.proofs.running.rows_returned.Goals as goal

abbrev rows_behind : Table → Part (List (List Shown))
rows_behind t = found (λ g. rows_shown g [] t)

pub returns-in_err-table-clause-runs : goal.returns-in_err-table-clause-runs
returns-in_err-table-clause-runs g c =
    let S = g.S.GraphStore in
    let a = c.args in
    let start = a.access.now.txn.now.start in
    errs S.stands S.caller S.alone start (rows_part a.projection.now a.table) a.store.now c.projected.new.store c.from_residual.result c.in_err-table.field-0.0 c.from_residual.ensures.1
    (halts S.stands S.caller S.alone start (found (λ g. projected_of g a.table a.projection.now)) rows_behind c.in_err-table.field-0.0 a.store.now c.projected.new.store c.in_err-table.ensures.runs)

pub returns-clause-runs : goal.returns-clause-runs
returns-clause-runs g c =
    let S = g.S.GraphStore in
    let a = c.args in
    let start = a.access.now.txn.now.start in
    let t = c.in_ok-table.table in
    finishes S.stands S.caller S.alone start (rows_part a.projection.now a.table) (rows_behind t) a.store.now c.projected.new.store c.shown.new.store c.shown.result
    (opens S.stands S.caller S.alone start (found (λ g. projected_of g a.table a.projection.now)) rows_behind t a.store.now c.projected.new.store c.in_ok-table.ensures.runs)
    (subst (λ rows. Runs S.stands S.caller S.alone start (rows_behind rows) c.projected.new.store c.shown.new.store c.shown.result) c.as_slice.ensures c.shown.ensures.runs)
