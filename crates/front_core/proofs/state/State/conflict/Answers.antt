use Rattle.std.proofs.Common.{◌≡◌, ◌+◌, ◌≤◌, Some, None, drop, sym, ap, ◌∙◌, arith}
use Rattle.std.proofs.lemmas.Option.{slice_get_within}
use Rattle.undo_delta.specs.Touch.{touches}
use Rattle.world_model.specs.Refusals.{conflict, conflict_at, or_else}
use Rattle.front_core.proofs.Touched.{next_one, no_more}
use Rattle.front_core.proofs.state.State.conflict.Goals as goal

pub returns-in-Some-rival : goal.returns-in-Some-rival
returns-in-Some-rival c = λ w p o.
    sym (c.loop-x.invariant.passed w p o
    ∙ ap (conflict w p) (next_one (touches c.args.op.now) c.loop-x.i c.in-Some.x (sym c.in-Some.ensures))
    ∙ ap (λ r. or_else (conflict_at c.in-Some.x r) (conflict w p (drop (c.loop-x.i + 1) (touches c.args.op.now)))) (sym (c.in-Some-rival.ensures w p o)))

pub loop-x-preserved : goal.loop-x-preserved
loop-x-preserved c = record {
  passed = λ w p o.
      c.loop-x.invariant.passed w p o
      ∙ ap (conflict w p) (next_one (touches c.args.op.now) c.loop-x.i c.in-Some.x (sym c.in-Some.ensures))
      ∙ ap (λ r. or_else (conflict_at c.in-Some.x r) (conflict w p (drop (c.loop-x.i + 1) (touches c.args.op.now)))) (sym (c.in_default-rival.ensures w p o));
  within = omega (arith, slice_get_within (touches c.args.op.now) c.loop-x.i c.in-Some.x (sym c.in-Some.ensures));
}

pub returns : goal.returns
returns c = λ w p o. sym (c.loop-x.invariant.passed w p o ∙ ap (conflict w p) (no_more (touches c.args.op.now) c.loop-x.i (sym c.in_default.ensures)))
