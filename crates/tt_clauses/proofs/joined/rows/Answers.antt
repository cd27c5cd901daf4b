use Rattle.std.proofs.Common.{◌+◌, ◌++◌, [], ◌∷◌, ap, sym, subst, ◌∙◌, refl, drop}
use Rattle.expr_eval.specs.declared.refused.EvalRefused.TheVariants.{NoMemory}
use Rattle.tt_clauses.specs.Found.{all_pieces, all_pieces_on}
use Rattle.tt_clauses.specs.Rows.{AreRows}
use Rattle.tt_clauses.proofs.Recalled.{nothing_read, passed, read_on, still, tells_later, tells_now}
use Rattle.tt_clauses.proofs.Runs.{no_rows, rows-push}
use Rattle.tt_clauses.proofs.Steps.{tuple_goes, tuple_stops}
use Rattle.tt_clauses.proofs.Times.{drop_first}
use Rattle.tt_clauses.proofs.joined.rows.Goals as goal

pub loop-tuple-init : goal.loop-tuple-init
loop-tuple-init g c =
    let S = g.S.GraphStore in
    record {
      told = λ graphs recalls times is. ([], subst (λ rs. AreRows [] rs) (sym c.new-rows.ensures) no_rows, refl);
      reads = nothing_read S.stands S.caller S.alone g.met.S.GraphStore.legal c.args.store.now;
      running = refl;
    }

pub returns-in_err-pieces-clause-tells : goal.returns-in_err-pieces-clause-tells
returns-in_err-pieces-clause-tells g c =
    let S = g.S.GraphStore in
    let legal = g.met.S.GraphStore.legal in
    let a = c.args in
    let j = a.join.now in
    let l = c.loop-tuple in
    let left = drop_first a.tuples.now l.tuple-index c.tuple-item.result c.loop-tuple-test.true c.tuple-item.is in
    passed S.stands S.caller S.alone legal a.access.now.txn.now.start _ a.store.now c.pieces.new.store c.from_residual.result c.in_err-pieces.field-0.0 c.from_residual.ensures.1
    (tells_later S.stands S.caller S.alone legal a.access.now.txn.now.start _ _ a.store.now l.store c.pieces.new.store _ _ l.invariant.reads c.in_err-pieces.ensures.tells
    (λ graphs recalls told times is.
    let w = l.invariant.told graphs recalls times is in
    tuple_stops graphs j.plan.now j.filter.now j.items.now times (all_pieces graphs j.plan.now j.filter.now j.items.now times a.tuples.now) w.0 c.tuple-item.result (drop (l.tuple-index + 1) a.tuples.now) c.in_err-pieces.field-0.0
    (w.2 ∙ ap (all_pieces_on graphs j.plan.now j.filter.now j.items.now times w.0) left) (told times is)))

pub returns-in_err-rows-clause-tells : goal.returns-in_err-rows-clause-tells
returns-in_err-rows-clause-tells g c =
    let S = g.S.GraphStore in
    let legal = g.met.S.GraphStore.legal in
    let a = c.args in
    let l = c.loop-tuple in
    passed S.stands S.caller S.alone legal a.access.now.txn.now.start _ a.store.now c.pieces.new.store c.from_residual-in_err-rows.result NoMemory c.from_residual-in_err-rows.ensures.1
    (tells_now S.stands S.caller S.alone legal a.access.now.txn.now.start _ a.store.now c.pieces.new.store _
    (read_on S.stands S.caller S.alone legal a.store.now l.store c.pieces.new.store l.invariant.reads c.in_ok-pieces.ensures.tells.reads)
    (λ graphs recalls times is. tt))

pub loop-tuple-preserved : goal.loop-tuple-preserved
loop-tuple-preserved g c =
    let S = g.S.GraphStore in
    let legal = g.met.S.GraphStore.legal in
    let a = c.args in
    let j = a.join.now in
    let l = c.loop-tuple in
    let left = drop_first a.tuples.now l.tuple-index c.tuple-item.result c.loop-tuple-test.true c.tuple-item.is in
    record {
      told = λ graphs recalls times is.
          let w = l.invariant.told graphs recalls times is in (
            w.0 ++ c.in_ok-pieces.pieces.items ∷ [],
            subst (λ rs. AreRows (w.0 ++ c.in_ok-pieces.pieces.items ∷ []) rs) (sym c.in_ok-rows.ensures) (rows-push w.0 l.rows c.in_ok-pieces.pieces.items c.runs.result.items w.1 c.runs.ensures),
            tuple_goes graphs j.plan.now j.filter.now j.items.now times (all_pieces graphs j.plan.now j.filter.now j.items.now times a.tuples.now) w.0 c.tuple-item.result (drop (l.tuple-index + 1) a.tuples.now) c.in_ok-pieces.pieces.items
                (w.2 ∙ ap (all_pieces_on graphs j.plan.now j.filter.now j.items.now times w.0) left)
                (c.in_ok-pieces.ensures.tells.answers graphs (still S.stands S.caller S.alone legal a.access.now.txn.now.start a.store.now l.store graphs l.invariant.reads recalls) times is),
          );
      reads = read_on S.stands S.caller S.alone legal a.store.now l.store c.pieces.new.store l.invariant.reads c.in_ok-pieces.ensures.tells.reads;
      running = c.in_ok-pieces.ensures.stays ∙ l.invariant.running;
    }
