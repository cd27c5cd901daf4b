use Rattle.std.proofs.Common.{◌≡◌, ◌+◌, ◌≤◌, Some, None, Bool, true, false, cond, drop, sym, ap, ◌∙◌, arith}
use Rattle.std.proofs.lemmas.Option.{slice_get_within}
use Rattle.graph_record.specs.Graph.{object_at, is_dead}
use Rattle.world_model.specs.Asked.{named}
use Rattle.world_model.specs.Refusals.{missing}
use Rattle.world_model.specs.World.{view_of}
use Rattle.world_model.specs.declared.answer.Refused.TheVariants.{Missing}
use Rattle.front_core.specs.Outlines.{is_absent}
use Rattle.front_core.proofs.Passing.{absent_dead}
use Rattle.front_core.proofs.Touched.{next_one, no_more}
use Rattle.front_core.proofs.state.State.missing.Goals as goal
use Rattle.front_core.proofs.state.State.missing.Goals.{Then-is_absent, Else-is_absent}

absent : (c : Then-is_absent) → c.is_absent.result ≡ true
absent c = grind (arith, c.if-is_absent.true)

present : (c : Else-is_absent) → c.is_absent.result ≡ false
present c = grind (arith, c.if-is_absent.false)

pub returns-then-is_absent : goal.returns-then-is_absent
returns-then-is_absent c = λ w p o.
    sym (c.loop-x.invariant.passed w p o
    ∙ ap (missing (view_of w p)) (next_one (named c.args.ask.now) c.loop-x.i c.in-Some.x (sym c.in-Some.ensures))
    ∙ ap (λ b. cond b (Some (Missing c.in-Some.x)) (missing (view_of w p) (drop (c.loop-x.i + 1) (named c.args.ask.now))))
    (sym (absent_dead (object_at (view_of w p) c.in-Some.x)) ∙ sym (c.is_absent.ensures ∙ ap is_absent (c.outline.ensures w p o)) ∙ absent c))

pub loop-x-preserved : goal.loop-x-preserved
loop-x-preserved c = record {
  passed = λ w p o.
      c.loop-x.invariant.passed w p o
      ∙ ap (missing (view_of w p)) (next_one (named c.args.ask.now) c.loop-x.i c.in-Some.x (sym c.in-Some.ensures))
      ∙ ap (λ b. cond b (Some (Missing c.in-Some.x)) (missing (view_of w p) (drop (c.loop-x.i + 1) (named c.args.ask.now))))
      (sym (absent_dead (object_at (view_of w p) c.in-Some.x)) ∙ sym (c.is_absent.ensures ∙ ap is_absent (c.outline.ensures w p o)) ∙ present c);
  within = omega (arith, slice_get_within (named c.args.ask.now) c.loop-x.i c.in-Some.x (sym c.in-Some.ensures));
}

pub returns : goal.returns
returns c = λ w p o. sym (c.loop-x.invariant.passed w p o ∙ ap (missing (view_of w p)) (no_more (named c.args.ask.now) c.loop-x.i (sym c.in_default.ensures)))
