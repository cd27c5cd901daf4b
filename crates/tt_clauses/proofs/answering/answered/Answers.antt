use Rattle.std.proofs.Common.{subst}
use Rattle.tt_clauses.specs.Between.{Asked, Joins, Unless, plan_of}
use Rattle.tt_clauses.specs.Instants.{instants}
use Rattle.tt_clauses.proofs.Meaning.{maps_refused, meant}
use Rattle.tt_clauses.proofs.Recalled.{nothing_read, passed, tells_now}
use Rattle.tt_clauses.proofs.answering.answered.Goals as goal

pub returns-in_err-plan-clause-tells : goal.returns-in_err-plan-clause-tells
returns-in_err-plan-clause-tells g c =
    let S = g.S.GraphStore in
    let legal = g.met.S.GraphStore.legal in
    let a = c.args in
    let p = a.parts.now in
    let asked : Asked = record { clause = p.clause.now; returns = p.returns.now; first = p.first; last = p.last } in
    passed S.stands S.caller S.alone legal a.access.now.txn.now.start _ a.store.now a.store.now c.from_residual.result c.in_err-plan.field-0.0 c.from_residual.ensures.1
    (tells_now S.stands S.caller S.alone legal a.access.now.txn.now.start _ a.store.now a.store.now _ (nothing_read S.stands S.caller S.alone legal a.store.now)
    (λ graphs recalls. maps_refused graphs asked (plan_of p.clause.now) c.in_err-plan.field-0.0 c.in_err-plan.ensures))

pub returns-clause-tells : goal.returns-clause-tells
returns-clause-tells g c =
    let a = c.args in
    let p = a.parts.now in
    let asked : Asked = record { clause = p.clause.now; returns = p.returns.now; first = p.first; last = p.last } in
    record {
      answers = λ graphs recalls.
          meant graphs asked (plan_of p.clause.now) c.joined.result c.in_ok-plan.plan c.in_ok-plan.ensures
          (subst (λ items. Unless (Joins graphs c.in_ok-plan.plan p.clause.now.filter items (instants p.first p.last)) c.joined.result) c.as_slice.ensures
          (c.joined.ensures.tells.answers graphs recalls));
      reads = c.joined.ensures.tells.reads;
    }
