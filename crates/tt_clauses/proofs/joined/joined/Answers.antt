use Rattle.std.proofs.Common.{◌+◌, Err, Ok, ap, sym, subst, ◌∙◌, arith}
use Rattle.tt_clauses.specs.Between.{Joins, Unless}
use Rattle.tt_clauses.specs.Found.{all_pieces}
use Rattle.tt_clauses.specs.Instants.{instants}
use Rattle.tt_clauses.specs.Recalling.{Tells}
use Rattle.tt_clauses.specs.Rows.{limited}
use Rattle.tt_clauses.specs.Seen.{Comes, Rises, all_seen}
use Rattle.tt_clauses.proofs.Meaning.{joins_refused, joins_rows, none_seen, says, tuples_are}
use Rattle.tt_clauses.proofs.Outcomes.{ok_equal}
use Rattle.tt_clauses.proofs.Recalled.{passed, tells_later}
use Rattle.tt_clauses.proofs.Times.{rises_wider}
use Rattle.tt_clauses.proofs.joined.joined.Goals as goal

pub returns-in_err-instants-clause-tells : goal.returns-in_err-instants-clause-tells
returns-in_err-instants-clause-tells g c =
    let S = g.S.GraphStore in
    let a = c.args in
    let j = a.join.now in
    passed S.stands S.caller S.alone g.met.S.GraphStore.legal a.access.now.txn.now.start _ a.store.now c.seen.new.store c.from_residual.result c.in_err-instants.field-0.0 c.from_residual.ensures.1
    (record {
      answers = λ graphs recalls.
          none_seen (Joins graphs j.plan.now j.filter.now j.items.now (instants a.first a.last)) _ c.in_err-instants.field-0.0 (c.in_err-instants.ensures.tells.answers graphs recalls);
      reads = c.in_err-instants.ensures.tells.reads;
    })

pub rows-requires : goal.rows-requires
rows-requires g c =
    let a = c.args in
    subst (λ xs. Rises 0 xs (a.access.now.txn.now.start + 1)) (sym c.as_slice-3.ensures)
    (rises_wider 0 a.first (a.last + 1) (a.access.now.txn.now.start + 1) c.in_ok-instants.instants (omega arith) (omega arith) c.in_ok-instants.ensures.rises)

pub returns-in_err-rows-clause-tells : goal.returns-in_err-rows-clause-tells
returns-in_err-rows-clause-tells g c =
    let S = g.S.GraphStore in
    let legal = g.met.S.GraphStore.legal in
    let a = c.args in
    let j = a.join.now in
    let times = instants a.first a.last in
    passed S.stands S.caller S.alone legal a.access.now.txn.now.start _ a.store.now c.rows.new.store c.from_residual-in_err-rows.result c.in_err-rows.field-0.0 c.from_residual-in_err-rows.ensures.1
    (tells_later S.stands S.caller S.alone legal a.access.now.txn.now.start _ _ a.store.now c.seen.new.store c.rows.new.store _ _ c.in_ok-instants.ensures.tells.reads c.in_err-rows.ensures.tells
    (λ graphs recalls come.
    let is = sym (ok_equal _ _ (c.in_ok-instants.ensures.tells.answers graphs recalls)) in
    joins_refused graphs j.plan.now j.filter.now j.items.now times c.in_ok-tuples.tuples c.in_err-rows.field-0.0
    (tuples_are graphs j.plan.now j.filter.now j.items.now times c.in_ok-instants.instants c.in_ok-tuples.tuples is (c.in_ok-tuples.ensures.all ∙ ap (λ s. (all_seen s).keys) c.as_slice.ensures) c.in_ok-tuples.ensures.ascending)
    (subst (λ bs. Comes (all_pieces graphs j.plan.now j.filter.now j.items.now times bs) (Err c.in_err-rows.field-0.0)) c.as_slice-2.ensures (come times (c.as_slice-3.ensures ∙ is)))))

pub returns-clause-tells : goal.returns-clause-tells
returns-clause-tells g c =
    let S = g.S.GraphStore in
    let legal = g.met.S.GraphStore.legal in
    let a = c.args in
    let j = a.join.now in
    let times = instants a.first a.last in
    subst (λ r. Tells S.stands S.caller S.alone a.access.now.txn.now.start (λ graphs. Unless (Joins graphs j.plan.now j.filter.now j.items.now times)) a.store.now c.rows.new.store r) (sym c.limited.ensures)
    (tells_later S.stands S.caller S.alone legal a.access.now.txn.now.start _ _ a.store.now c.seen.new.store c.rows.new.store _ _ c.in_ok-instants.ensures.tells.reads c.in_ok-rows.ensures.tells
    (λ graphs recalls come.
    let is = sym (ok_equal _ _ (c.in_ok-instants.ensures.tells.answers graphs recalls)) in
    says (Joins graphs j.plan.now j.filter.now j.items.now times) (limited c.in_ok-rows.rows)
    (joins_rows graphs j.plan.now j.filter.now j.items.now times c.in_ok-tuples.tuples c.in_ok-rows.rows
    (tuples_are graphs j.plan.now j.filter.now j.items.now times c.in_ok-instants.instants c.in_ok-tuples.tuples is (c.in_ok-tuples.ensures.all ∙ ap (λ s. (all_seen s).keys) c.as_slice.ensures) c.in_ok-tuples.ensures.ascending)
    (subst (λ bs. Comes (all_pieces graphs j.plan.now j.filter.now j.items.now times bs) (Ok c.in_ok-rows.rows)) c.as_slice-2.ensures (come times (c.as_slice-3.ensures ∙ is))))))
