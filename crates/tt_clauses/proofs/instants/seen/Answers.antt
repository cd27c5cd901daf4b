use Rattle.std.proofs.Common.{◌+◌, ◌++◌, ap, sym, subst, ◌∙◌, refl, le_refl, arith, map}
use Rattle.expr_eval.specs.declared.refused.EvalRefused.TheVariants.{NoMemory}
use Rattle.tt_clauses.specs.Instants.{instants}
use Rattle.tt_clauses.specs.Seen.{Rises, seen_at}
use Rattle.tt_clauses.proofs.Outcomes.{memory_only, ok_equal}
use Rattle.tt_clauses.proofs.Recalled.{nothing_read, passed, read_on, still, tells_later, tells_now}
use Rattle.tt_clauses.proofs.Seeing.{all_told, rises_at, seen_all, seen_next}
use Rattle.tt_clauses.proofs.Times.{rises-push}
use Rattle.tt_clauses.proofs.instants.seen.Goals as goal
use Rattle.tt_clauses.proofs.instants.seen.Goals.{else-loop-t-test, then-loop-t-test+in_ok-tuples+in_ok-push+else-t-last}

pub loop-t-init : goal.loop-t-init
loop-t-init g c =
    let S = g.S.GraphStore in
    record {
      told = λ graphs recalls. ap (λ s. s ++ map (seen_at graphs c.args.plan.now) (instants c.args.first c.args.last)) (sym c.new-seen.ensures);
      reads = nothing_read S.stands S.caller S.alone g.met.S.GraphStore.legal c.args.store.now;
      rises = subst (λ s. Rises c.args.first s c.args.first) (sym c.new-seen.ensures) (le_refl c.args.first);
      running = refl;
    }

pub loop-t-preserved : goal.loop-t-preserved
loop-t-preserved g c =
    let S = g.S.GraphStore in
    let legal = g.met.S.GraphStore.legal in
    let a = c.args in
    let l = c.loop-t in
    record {
      told = λ graphs recalls.
          seen_next (seen_at graphs a.plan.now) (map (seen_at graphs a.plan.now) (instants a.first a.last)) l.seen c.push.new.self l.t a.last (l.t, c.in_ok-tuples.tuples) c.loop-t-test.true
          (ap (λ s. (l.t, s)) (sym (ok_equal _ _ (c.in_ok-tuples.ensures.tells.answers graphs (still S.stands S.caller S.alone legal a.access.now.txn.now.start a.store.now l.store graphs l.invariant.reads recalls)))))
          c.in_ok-push.ensures.ok (l.invariant.told graphs recalls);
      reads = read_on S.stands S.caller S.alone legal a.store.now l.store c.matched_at.new.store l.invariant.reads c.in_ok-tuples.ensures.tells.reads;
      rises = subst (λ s. Rises a.first s (l.t + 1)) (sym c.in_ok-push.ensures.ok) (rises-push a.first l.seen l.t (l.t, c.in_ok-tuples.tuples) l.invariant.rises (le_refl l.t));
      running = c.in_ok-tuples.ensures.stays ∙ l.invariant.running;
    }

pub returns-in_err-tuples-clause-tells : goal.returns-in_err-tuples-clause-tells
returns-in_err-tuples-clause-tells g c =
    let S = g.S.GraphStore in
    let legal = g.met.S.GraphStore.legal in
    let a = c.args in
    let l = c.loop-t in
    passed S.stands S.caller S.alone legal a.access.now.txn.now.start _ a.store.now c.matched_at.new.store c.from_residual.result c.in_err-tuples.field-0.0 c.from_residual.ensures.1
    (tells_later S.stands S.caller S.alone legal a.access.now.txn.now.start _ _ a.store.now l.store c.matched_at.new.store _ _ l.invariant.reads c.in_err-tuples.ensures.tells
    (λ graphs recalls. memory_only _ _ c.in_err-tuples.field-0.0))

pub returns-in_err-push-clause-tells : goal.returns-in_err-push-clause-tells
returns-in_err-push-clause-tells g c =
    let S = g.S.GraphStore in
    let legal = g.met.S.GraphStore.legal in
    let a = c.args in
    let l = c.loop-t in
    passed S.stands S.caller S.alone legal a.access.now.txn.now.start _ a.store.now c.matched_at.new.store c.from_residual-in_err-push.result NoMemory c.from_residual-in_err-push.ensures.1
    (tells_now S.stands S.caller S.alone legal a.access.now.txn.now.start _ a.store.now c.matched_at.new.store _
    (read_on S.stands S.caller S.alone legal a.store.now l.store c.matched_at.new.store l.invariant.reads c.in_ok-tuples.ensures.tells.reads)
    (λ graphs recalls. tt))

pub returns-clause-tells : goal.returns-clause-tells
returns-clause-tells g c =
    let S = g.S.GraphStore in
    let legal = g.met.S.GraphStore.legal in
    let a = c.args in
    let l = c.loop-t in
    elim c.loop-t-test.branch [
      | else-loop-t-test w ↦
          all_told S.stands S.caller S.alone a.access.now.txn.now.start (λ graphs. map (seen_at graphs a.plan.now) (instants a.first a.last)) a.store.now l.store c.loop-t-test.store l.seen c.loop-t-test.seen w.store-is w.seen-is l.invariant.reads
          (λ graphs recalls. seen_all (seen_at graphs a.plan.now) (map (seen_at graphs a.plan.now) (instants a.first a.last)) l.seen l.t a.last (omega arith) (l.invariant.told graphs recalls))
      | then-loop-t-test+in_ok-tuples+in_ok-push+else-t-last w ↦
          all_told S.stands S.caller S.alone a.access.now.txn.now.start (λ graphs. map (seen_at graphs a.plan.now) (instants a.first a.last)) a.store.now w.matched_at.new.store c.loop-t-test.store w.push.new.self c.loop-t-test.seen w.store-is w.seen-is
          (read_on S.stands S.caller S.alone legal a.store.now l.store w.matched_at.new.store l.invariant.reads w.in_ok-tuples.ensures.tells.reads)
          (λ graphs recalls.
          seen_all (seen_at graphs a.plan.now) (map (seen_at graphs a.plan.now) (instants a.first a.last)) w.push.new.self (l.t + 1) a.last (omega arith)
          (seen_next (seen_at graphs a.plan.now) (map (seen_at graphs a.plan.now) (instants a.first a.last)) l.seen w.push.new.self l.t a.last (l.t, w.in_ok-tuples.tuples) w.loop-t-test.true
          (ap (λ s. (l.t, s)) (sym (ok_equal _ _ (w.in_ok-tuples.ensures.tells.answers graphs (still S.stands S.caller S.alone legal a.access.now.txn.now.start a.store.now l.store graphs l.invariant.reads recalls)))))
          w.in_ok-push.ensures.ok (l.invariant.told graphs recalls)))
    ]

pub returns-clause-rises : goal.returns-clause-rises
returns-clause-rises g c =
    let a = c.args in
    let l = c.loop-t in
    elim c.loop-t-test.branch [
      | else-loop-t-test w ↦ rises_at a.first c.loop-t-test.seen l.seen l.t (a.last + 1) w.seen-is (omega arith) l.invariant.rises
      | then-loop-t-test+in_ok-tuples+in_ok-push+else-t-last w ↦
          rises_at a.first c.loop-t-test.seen w.push.new.self (l.t + 1) (a.last + 1) w.seen-is (omega arith)
          (subst (λ s. Rises a.first s (l.t + 1)) (sym w.in_ok-push.ensures.ok) (rises-push a.first l.seen l.t (l.t, w.in_ok-tuples.tuples) l.invariant.rises (le_refl l.t)))
    ]
