use Rattle.std.proofs.Common.{◌≤◌, sym, subst}
use Rattle.std.specs.Prelude.{IsSomeAnd}
use Rattle.tt_clauses.specs.Between.{Asked, IsMeantBy}
use Rattle.tt_clauses.specs.Recalling.{Tells}
use Rattle.tt_clauses.proofs.Meaning.{meant_by}
use Rattle.tt_clauses.proofs.answering.between.Goals as goal

pub returns-clause-tells : goal.returns-clause-tells
returns-clause-tells g c =
    let S = g.S.GraphStore in
    let a = c.args in
    let p = c.parts_in-parts.result in
    let asked : Asked = record { clause = p.clause.now; returns = p.returns.now; first = p.first; last = p.last } in
    subst (λ o. IsSomeAnd o (λ (q : Asked). q.last ≤ a.txn.now.start → Tells S.stands S.caller S.alone a.txn.now.start (λ graphs. IsMeantBy graphs q) a.store.now c.answered.new.store c.or_stop.result)) (sym c.parts_in-parts.ensures.parts)
    (λ past. subst (λ r. Tells S.stands S.caller S.alone a.txn.now.start (λ graphs. IsMeantBy graphs asked) a.store.now c.answered.new.store r) (sym c.or_stop.ensures)
    (record {
      answers = λ graphs recalls. meant_by graphs asked c.answered.result (c.answered.ensures.tells.answers graphs recalls);
      reads = c.answered.ensures.tells.reads;
    }))
