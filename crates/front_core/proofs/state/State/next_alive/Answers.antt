use Rattle.std.proofs.Common.{◌≡◌, ℕ, ◌<◌, ◌≤◌, ◌⊎◌, inl, inr, Bool, true, false, Some, None, refl, sym, ap, subst, ◌∙◌, arith}
use Rattle.std.specs.Prelude.{nat_lt}
use Rattle.std.proofs.lemmas.Bool.{false≢true}
use Rattle.std.proofs.lemmas.Bool.Decides.{nat_tests}
use Rattle.graph_record.specs.Graph.{object_at, is_dead}
use Rattle.graph_record.specs.declared.object.Object.{Object}
use Rattle.graph_record.specs.declared.object.Object.TheVariants as object
use Rattle.graph_value.specs.declared.id.Oid.{Oid}
use Rattle.world_model.specs.declared.event.Kind.{Kind}
use Rattle.world_model.specs.declared.event.When.{When}
use Rattle.front_core.specs.declared.outline.Outline.{Outline}
use Rattle.world_model.specs.Views.{first_above, graph_of, oid_of}
use Rattle.world_model.specs.World.{World, Txn}
use Rattle.world_model.proofs.Searches.{next_found, next_none}
use Rattle.front_core.specs.Opened.{Opened}
use Rattle.front_core.specs.Objects.{range_of}
use Rattle.front_core.specs.Outlines.{is_absent, outline_of}
use Rattle.front_core.proofs.Passing.{absent_dead, below_first, graph_coherent, past_last}
use Rattle.front_core.proofs.state.State.next_alive.Goals as goal

-- what the outline tells of the object
told : (w : World) (p : Txn) (kind : Kind) (n : ℕ) (when : When) (x : Oid) (outline : Outline) (absent : Bool) → absent ≡ is_absent outline → x ≡ oid_of kind n → outline ≡ outline_of (object_at (graph_of w p when) x) → absent ≡ is_dead (object_at (graph_of w p when) (oid_of kind n))
told w p kind n when x outline absent is at tells =
    is ∙ ap is_absent (tells ∙ ap (λ y. outline_of (object_at (graph_of w p when) y)) at) ∙ absent_dead (object_at (graph_of w p when) (oid_of kind n))

pub returns-in_default : goal.returns-in_default
returns-in_default c = λ w p o.
    sym (next_none (graph_of w p c.args.when) c.args.kind c.args.after (range_of c.args.self.now.objects c.args.kind).1
    (past_last c.args.self.now w c.args.caller c.args.start p o c.args.when c.args.kind)
    (λ m from below. absurd (omega (arith, from, below, c.in_default.ensures.none, ap (λ r. r.1) c.range-first.ensures))))

pub loop-number-init : goal.loop-number-init
loop-number-init c = record {
  passed = λ w p o m from below. below_first c.args.self.now w c.args.caller c.args.start p o c.args.when c.args.kind m (omega (arith, c.in-Some.ensures.passed m from below, ap (λ r. r.0) c.range-first.ensures));
  above = c.in-Some.ensures.above;
}

pub loop-number-preserved : goal.loop-number-preserved
loop-number-preserved c = record {
  passed = λ w p o m from below.
      elim (nat_lt m c.loop-number.number) as (λ b. nat_lt m c.loop-number.number ≡ b → is_dead (object_at (graph_of w p c.args.when) (oid_of c.args.kind m)) ≡ true) [
        | true ↦ λ e. c.loop-number.invariant.passed w p o m from (grind (arith, nat_tests, e))
        | false ↦ λ e.
            let last : m ≡ c.loop-number.number = grind (arith, nat_tests, e, below) in
            ap (λ n. is_dead (object_at (graph_of w p c.args.when) (oid_of c.args.kind n))) last
            ∙ sym (told w p c.args.kind c.loop-number.number c.args.when c.id_of.result c.outline.result c.is_absent.result c.is_absent.ensures c.id_of.ensures (c.outline.ensures w p o)) ∙ grind (arith, c.if-not-is_absent.false)
      ] refl;
  above = omega (arith, c.loop-number.invariant.above);
}

pub returns-then-not-is_absent : goal.returns-then-not-is_absent
returns-then-not-is_absent c = λ w p o.
    sym (next_found (graph_of w p c.args.when) c.args.kind c.args.after c.loop-number.number
    (graph_coherent c.args.self.now w c.args.caller c.args.start p o c.args.when) c.loop-number.invariant.above
    (sym (told w p c.args.kind c.loop-number.number c.args.when c.id_of.result c.outline.result c.is_absent.result c.is_absent.ensures c.id_of.ensures (c.outline.ensures w p o)) ∙ grind (arith, c.if-not-is_absent.true))
    (c.loop-number.invariant.passed w p o))

pub returns : goal.returns
returns c = λ w p o.
    sym (next_none (graph_of w p c.args.when) c.args.kind c.args.after (range_of c.args.self.now.objects c.args.kind).1
    (past_last c.args.self.now w c.args.caller c.args.start p o c.args.when c.args.kind)
    (λ m from below. c.loop-number.invariant.passed w p o m from (omega (arith, below, c.loop-number-test.false, ap (λ r. r.1) c.range-first.ensures))))
