use Rattle.std.proofs.Common.{ℕ, ◌+◌, List, [], ◌++◌, drop, refl, subst, sym, ap, ◌∙◌}
use Rattle.world_model.specs.declared.answer.Wrote.{Wrote}
use Rattle.expr_eval.specs.declared.refused.EvalRefused.TheVariants.{NoMemory}
use Rattle.query_run.specs.declared.stop.Stop.TheVariants.{Eval}
use Rattle.query_run.specs.Asked.{ask_of, asked, ids_made, planned_part}
use Rattle.query_run.specs.Parts.{Part, given}
use Rattle.query_run.specs.Running.{Goes, Stops}
use Rattle.query_run.proofs.Loops.{head_is}
use Rattle.query_run.proofs.Moves.{begins, errs, goes, stops, wants}
use Rattle.query_run.proofs.asking.asked_all.Goals as goal

pub loop-op-init : goal.loop-op-init
loop-op-init g c =
    let S = g.S.GraphStore in
    let a = c.args in
    let start = a.access.now.txn.now.start in
    let whole = planned_part a.ops.now [] in (
      subst (λ ids. Goes S.stands S.caller S.alone start whole (planned_part a.ops.now ids) a.store.now a.store.now) (sym c.new-ids.ensures)
          (begins S.stands S.caller S.alone start whole a.store.now),
      refl,
    )

pub returns-in_err-ask-clause-runs : goal.returns-in_err-ask-clause-runs
returns-in_err-ask-clause-runs g c =
    let S = g.S.GraphStore in
    let a = c.args in
    let l = c.loop-op in
    let start = a.access.now.txn.now.start in
    let whole = planned_part a.ops.now [] in
    errs S.stands S.caller S.alone start whole a.store.now l.store c.from_residual.result (Eval NoMemory) c.from_residual.ensures.1
    (wants S.stands S.caller S.alone start whole (planned_part (drop l.op-index a.ops.now) l.ids) a.store.now l.store l.invariant.0)

pub returns-in_err-wrote-clause-runs : goal.returns-in_err-wrote-clause-runs
returns-in_err-wrote-clause-runs g c =
    let S = g.S.GraphStore in
    let a = c.args in
    let l = c.loop-op in
    let op = c.op-item.result in
    let start = a.access.now.txn.now.start in
    let whole = planned_part a.ops.now [] in
    let why = c.in_err-wrote.field-0.0 in
    let rest : Wrote → Part (List ℕ) = λ w. planned_part (drop (l.op-index + 1) a.ops.now) (l.ids ++ ids_made w) in
    errs S.stands S.caller S.alone start whole a.store.now c.asked.new.store c.from_residual-in_err-wrote.result why c.from_residual-in_err-wrote.ensures.1
    (stops S.stands S.caller S.alone start whole (asked (ask_of l.ids op)) rest why a.store.now l.store c.asked.new.store
    (subst (λ ops. Goes S.stands S.caller S.alone start whole (planned_part ops l.ids) a.store.now l.store)
    (head_is a.ops.now l.op-index op c.loop-op-test.true c.op-item.is) l.invariant.0)
    (subst (λ ask. Stops S.stands S.caller S.alone start (asked ask) why l.store c.asked.new.store)
    (c.in_ok-ask.ensures ∙ ap (λ ids. ask_of ids op) c.as_slice.ensures) c.in_err-wrote.ensures.runs))

pub returns-in_err-ids-clause-runs : goal.returns-in_err-ids-clause-runs
returns-in_err-ids-clause-runs g c =
    let S = g.S.GraphStore in
    let a = c.args in
    let l = c.loop-op in
    let op = c.op-item.result in
    let start = a.access.now.txn.now.start in
    let whole = planned_part a.ops.now [] in
    let wrote = c.in_ok-wrote.wrote in
    let rest : Wrote → Part (List ℕ) = λ w. planned_part (drop (l.op-index + 1) a.ops.now) (l.ids ++ ids_made w) in
    errs S.stands S.caller S.alone start whole a.store.now c.asked.new.store c.from_residual-in_err-ids.result (Eval NoMemory) c.from_residual-in_err-ids.ensures.1
    (wants S.stands S.caller S.alone start whole (rest wrote) a.store.now c.asked.new.store
    (goes S.stands S.caller S.alone start whole (asked (ask_of l.ids op)) rest wrote a.store.now l.store c.asked.new.store
    (subst (λ ops. Goes S.stands S.caller S.alone start whole (planned_part ops l.ids) a.store.now l.store)
    (head_is a.ops.now l.op-index op c.loop-op-test.true c.op-item.is) l.invariant.0)
    (subst (λ ask. Goes S.stands S.caller S.alone start (asked ask) (given wrote) l.store c.asked.new.store)
    (c.in_ok-ask.ensures ∙ ap (λ ids. ask_of ids op) c.as_slice.ensures) c.in_ok-wrote.ensures.runs)))

pub loop-op-preserved : goal.loop-op-preserved
loop-op-preserved g c =
    let S = g.S.GraphStore in
    let a = c.args in
    let l = c.loop-op in
    let op = c.op-item.result in
    let start = a.access.now.txn.now.start in
    let whole = planned_part a.ops.now [] in
    let wrote = c.in_ok-wrote.wrote in
    let left = drop (l.op-index + 1) a.ops.now in
    let rest : Wrote → Part (List ℕ) = λ w. planned_part left (l.ids ++ ids_made w) in (
      subst (λ ids. Goes S.stands S.caller S.alone start whole (planned_part left ids) a.store.now c.asked.new.store) (sym c.in_ok-ids.ensures)
          (goes S.stands S.caller S.alone start whole (asked (ask_of l.ids op)) rest wrote a.store.now l.store c.asked.new.store
          (subst (λ ops. Goes S.stands S.caller S.alone start whole (planned_part ops l.ids) a.store.now l.store)
          (head_is a.ops.now l.op-index op c.loop-op-test.true c.op-item.is) l.invariant.0)
          (subst (λ ask. Goes S.stands S.caller S.alone start (asked ask) (given wrote) l.store c.asked.new.store)
          (c.in_ok-ask.ensures ∙ ap (λ ids. ask_of ids op) c.as_slice.ensures) c.in_ok-wrote.ensures.runs)),
      c.asked.ensures.stays ∙ l.invariant.1,
    )
