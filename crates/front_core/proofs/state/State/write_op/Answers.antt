use Rattle.std.proofs.Common.{◌≡◌, Some, None, true, false, not, sym, ap, subst, refl, ◌∙◌, arith}
use Rattle.undo_delta.specs.declared.op.Op.{Op}
use Rattle.world_model.specs.Reply as answer
use Rattle.world_model.specs.declared.answer.Wrote.TheVariants as wrote
use Rattle.world_model.specs.declared.event.Event.TheVariants.{Write}
use Rattle.world_model.specs.Asked.{op_of}
use Rattle.world_model.specs.Op.{changes}
use Rattle.world_model.specs.Refusals.{write_refusal}
use Rattle.world_model.specs.Step.{written_world}
use Rattle.world_model.specs.World.{view_of}
use Rattle.front_core.proofs.Stepping.{obeys_step}
use Rattle.front_core.proofs.Written.{conflict_free, effect_told}
use Rattle.front_core.proofs.state.State.write_op.Goals as goal
use Rattle.front_core.proofs.state.State.write_op.Goals.{Then-not-changes, After-perform-arg-1}

unchanged : (c : Then-not-changes) → c.changes.result ≡ false
unchanged c = grind (arith, c.if-not-changes.true)

changed : (c : After-perform-arg-1) → c.changes.result ≡ true
changed c = grind (arith, c.if-not-changes.false)

pub returns-then-not-changes : goal.returns-then-not-changes
returns-then-not-changes c = λ w p ask o asked.
    let free : write_refusal w p ask ≡ None = sym (c.in_default.ensures w p ask o asked) in
    obeys_step c.args.self.now w w c.args.caller (Write ask) (answer.Wrote wrote.Unchanged)
    (effect_told w c.args.caller p ask c.args.op.now false o.found asked free
    (sym (unchanged c) ∙ c.changes.ensures w c.args.caller c.args.start p o (conflict_free w p ask c.args.op.now asked free)))
    refl o.keeps

pub perform-requires-clause-allowed : goal.perform-requires-clause-allowed
perform-requires-clause-allowed c =
    let m = c.requires.opened in
    let free : write_refusal m.world m.txn m.ask ≡ None = sym (c.in_default.ensures m.world m.txn m.ask m.opened m.asked) in record {
      world = m.world;
      txn = m.txn;
      ask = m.ask;
      opened = m.opened;
      asked = m.asked;
      allowed = record {
        free = free;
        effective = sym (c.changes.ensures m.world c.args.caller c.args.start m.txn m.opened (conflict_free m.world m.txn m.ask c.args.op.now m.asked free)) ∙ changed c;
      };
    }

pub returns-in-Ok : goal.returns-in-Ok
returns-in-Ok c = λ w p ask o asked.
    let free : write_refusal w p ask ≡ None = sym (c.in_default.ensures w p ask o asked) in
    let effective = c.changes.ensures w c.args.caller c.args.start p o (conflict_free w p ask c.args.op.now asked free) in
    let is : c.changes.result ≡ true = grind (arith, c.if-not-changes.false) in
    obeys_step c.perform.new.self w (written_world w c.args.caller ask c.args.op.now) c.args.caller (Write ask) (answer.Wrote c.wrote.result)
    (effect_told w c.args.caller p ask c.args.op.now true o.found asked free (sym is ∙ effective)
    ∙ ap (λ what. record { reply = answer.Wrote what; world = written_world w c.args.caller ask c.args.op.now }) (sym (c.wrote.ensures w (view_of w p) ask asked.is)))
    refl (c.in-Ok.ensures.ok w p ask o asked (record { free = free; effective = sym effective ∙ is }))
