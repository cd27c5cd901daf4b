use Rattle.std.proofs.Common.{Err, ap, subst, sym, ◌∙◌}
use Rattle.cypher_check.specs.Answer.{query_of}
use Rattle.cypher_check.specs.Verdict.{is_timed}
use Rattle.expr_eval.specs.Outcome.{Answers}
use Rattle.query_run.specs.declared.stop.Stop.TheVariants.{TimeAhead}
use Rattle.query_run.specs.Instant.{ShowsAt}
use Rattle.query_run.specs.Plain.{rows_of}
use Rattle.query_run.proofs.Instants.{same_instant, shows_ahead, shows_at, writes_nothing}
use Rattle.query_run.proofs.instant.snapshot.Goals as goal

pub returns-then-start-t-clause-shows : goal.returns-then-start-t-clause-shows
returns-then-start-t-clause-shows g c =
    let S = g.S.GraphStore in
    let q = query_of c.args.checked.now in
    let start = c.args.txn.now.start in
    let store = c.args.store.now in
    λ t is.
    let same = same_instant q.time c.in-Snapshot.t t (sym c.time.ensures ∙ c.in-Snapshot.is) is in
    subst (λ n. ShowsAt S.stands S.caller S.alone start n q store store (Err (TimeAhead c.in-Snapshot.t c.start-start.result))) same
    (subst (λ n. ShowsAt S.stands S.caller S.alone n c.in-Snapshot.t q store store (Err (TimeAhead c.in-Snapshot.t c.start-start.result))) c.start-start.ensures
    (shows_ahead S.stands S.caller S.alone c.start-start.result c.in-Snapshot.t q store c.if-start-t.true))

pub returns-clause-shows : goal.returns-clause-shows
returns-clause-shows g c =
    let S = g.S.GraphStore in
    let q = query_of c.args.checked.now in
    let start = c.args.txn.now.start in
    let old = c.args.store.now in
    let new = c.rows_at.new.store in
    let r = c.rows_at.result in
    λ t is.
    let same = same_instant q.time c.in-Snapshot.t t (sym c.time.ensures ∙ c.in-Snapshot.is) is in
    subst (λ n. ShowsAt S.stands S.caller S.alone start n q old new c.or_stop.result) same
    (subst (λ x. ShowsAt S.stands S.caller S.alone start c.in-Snapshot.t q old new x) (sym c.or_stop.ensures)
    (shows_at S.stands S.caller S.alone start c.in-Snapshot.t q old new r
    (rw (sym c.start-start.ensures) c.if-start-t.false)
    (writes_nothing q c.query.ensures.rules (ap is_timed is))
    (λ w sees. subst (λ x. Answers (rows_of w x) r) c.query.ensures.query (c.rows_at.ensures.on w sees))
    c.rows_at.ensures.reads))
