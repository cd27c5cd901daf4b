use Rattle.std.proofs.Common.{◌+◌, ◌≤◌, [], ap, sym, subst, ◌∙◌, refl, arith, drop}
use Rattle.std.proofs.lemmas.List.{drop_all}
use Rattle.expr_eval.specs.declared.refused.EvalRefused.TheVariants.{NoMemory}
use Rattle.tt_clauses.specs.Found.{pieces_on}
use Rattle.tt_clauses.specs.Seen.{Rises}
use Rattle.tt_clauses.proofs.Ascending.{Ends, ends_step, no_pieces}
use Rattle.tt_clauses.proofs.Recalled.{nothing_read, passed, read_on, still, tells_later, tells_now}
use Rattle.tt_clauses.proofs.Steps.{piece_goes, piece_stops, pieces_end}
use Rattle.tt_clauses.proofs.Times.{drop_first, rises_up}
use Rattle.tt_clauses.proofs.joined.pieces.Goals as goal

pub loop-at-init : goal.loop-at-init
loop-at-init g c =
    let S = g.S.GraphStore in
    let j = c.args.join.now in
    record {
      told = λ graphs recalls times is. (times, is, ap (λ ps. pieces_on graphs j.plan.now j.filter.now j.items.now c.args.tuple.now ps times) (sym c.new-pieces.ensures.items));
      ascends = (0, no_pieces 0 c.new-pieces.result.items c.new-pieces.ensures.items, c.requires);
      reads = nothing_read S.stands S.caller S.alone g.met.S.GraphStore.legal c.args.store.now;
      running = refl;
    }

pub given_at-requires : goal.given_at-requires
given_at-requires g c =
    let a = c.args in
    let l = c.loop-at in
    let next = a.access.now.txn.now.start + 1 in
    let left = drop_first a.instants.now l.at-index c.at-item.result c.loop-at-test.true c.at-item.is in
    let r = subst (λ xs. Rises l.invariant.ascends.0 xs next) left l.invariant.ascends.2 in
    let up : c.at-item.result.0 + 1 ≤ next = rises_up (c.at-item.result.0 + 1) next (drop (l.at-index + 1) a.instants.now) r.1 in
    omega (arith, up)

pub returns-in_err-values-clause-tells : goal.returns-in_err-values-clause-tells
returns-in_err-values-clause-tells g c =
    let S = g.S.GraphStore in
    let legal = g.met.S.GraphStore.legal in
    let a = c.args in
    let j = a.join.now in
    let l = c.loop-at in
    let left = drop_first a.instants.now l.at-index c.at-item.result c.loop-at-test.true c.at-item.is in
    passed S.stands S.caller S.alone legal a.access.now.txn.now.start _ a.store.now c.given_at.new.store c.from_residual.result c.in_err-values.field-0.0 c.from_residual.ensures.1
    (tells_later S.stands S.caller S.alone legal a.access.now.txn.now.start _ _ a.store.now l.store c.given_at.new.store _ _ l.invariant.reads c.in_err-values.ensures.tells
    (λ graphs recalls given times is.
    let w = l.invariant.told graphs recalls times is in
    piece_stops graphs j.plan.now j.filter.now j.items.now a.tuple.now (pieces_on graphs j.plan.now j.filter.now j.items.now a.tuple.now [] times) l.pieces.items c.at-item.result (drop (l.at-index + 1) a.instants.now) c.in_err-values.field-0.0
    (w.0, sym left ∙ w.1, w.2) given))

pub returns-in_err-pieces-clause-tells : goal.returns-in_err-pieces-clause-tells
returns-in_err-pieces-clause-tells g c =
    let S = g.S.GraphStore in
    let legal = g.met.S.GraphStore.legal in
    let a = c.args in
    let l = c.loop-at in
    passed S.stands S.caller S.alone legal a.access.now.txn.now.start _ a.store.now c.given_at.new.store c.from_residual-in_err-pieces.result NoMemory c.from_residual-in_err-pieces.ensures.1
    (tells_now S.stands S.caller S.alone legal a.access.now.txn.now.start _ a.store.now c.given_at.new.store _
    (read_on S.stands S.caller S.alone legal a.store.now l.store c.given_at.new.store l.invariant.reads c.in_ok-values.ensures.tells.reads)
    (λ graphs recalls times is. tt))

pub loop-at-preserved : goal.loop-at-preserved
loop-at-preserved g c =
    let S = g.S.GraphStore in
    let legal = g.met.S.GraphStore.legal in
    let a = c.args in
    let j = a.join.now in
    let l = c.loop-at in
    let left = drop_first a.instants.now l.at-index c.at-item.result c.loop-at-test.true c.at-item.is in
    record {
      told = λ graphs recalls times is.
          let w = l.invariant.told graphs recalls times is in
          piece_goes graphs j.plan.now j.filter.now j.items.now a.tuple.now (pieces_on graphs j.plan.now j.filter.now j.items.now a.tuple.now [] times) l.pieces.items c.in_ok-pieces.pieces.items c.at-item.result (drop (l.at-index + 1) a.instants.now) c.in_ok-values.values
          (w.0, sym left ∙ w.1, w.2)
          (c.in_ok-values.ensures.tells.answers graphs (still S.stands S.caller S.alone legal a.access.now.txn.now.start a.store.now l.store graphs l.invariant.reads recalls))
          c.in_ok-pieces.ensures;
      ascends =
          ends_step l.pieces.items c.in_ok-pieces.pieces.items c.at-item.result (drop (l.at-index + 1) a.instants.now) (a.access.now.txn.now.start + 1) c.in_ok-values.values
          (subst (λ xs. Ends l.pieces.items xs (a.access.now.txn.now.start + 1)) left l.invariant.ascends) c.in_ok-pieces.ensures;
      reads = read_on S.stands S.caller S.alone legal a.store.now l.store c.given_at.new.store l.invariant.reads c.in_ok-values.ensures.tells.reads;
      running = c.in_ok-values.ensures.stays ∙ l.invariant.running;
    }

pub returns-clause-tells : goal.returns-clause-tells
returns-clause-tells g c =
    let a = c.args in
    let j = a.join.now in
    let l = c.loop-at in
    record {
      answers = λ graphs recalls times is.
          pieces_end graphs j.plan.now j.filter.now j.items.now a.tuple.now (pieces_on graphs j.plan.now j.filter.now j.items.now a.tuple.now [] times) l.pieces.items (drop l.at-index a.instants.now)
          (l.invariant.told graphs recalls times is) (drop_all l.at-index a.instants.now c.loop-at-test.false);
      reads = l.invariant.reads;
    }
