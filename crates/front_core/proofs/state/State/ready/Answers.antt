use Rattle.std.proofs.Common.{◌≡◌, Some, None, sym, ap, ◌∙◌}
use Rattle.world_model.specs.Asked.{named, op_of}
use Rattle.world_model.specs.Refusals.{conflict, has_edges, id_end, or_else}
use Rattle.world_model.specs.Step.{allowed_write_step, write_step}
use Rattle.world_model.specs.World.{view_of}
use Rattle.undo_delta.specs.Touch.{touches}
use Rattle.front_core.proofs.Stepping.{closed, open_at}
use Rattle.front_core.proofs.state.State.ready.Goals as goal

pub returns-in_default-clause-refused : goal.returns-in_default-clause-refused
returns-in_default-clause-refused c = λ w keeps.
    ap (write_step w c.args.caller c.args.ask.now) (closed c.args.self.now w c.args.caller keeps (sym c.in_default.ensures))

pub returns-in-Some-missing-clause-refused : goal.returns-in-Some-missing-clause-refused
returns-in-Some-missing-clause-refused c = λ w keeps.
    let o = open_at c.args.self.now w c.args.caller c.in-Some.place c.at.result.now keeps (sym c.in-Some.ensures) c.at.ensures in
    ap (write_step w c.args.caller c.args.ask.now) o.1.found
    ∙ ap (λ why. allowed_write_step w o.0 c.args.caller c.args.ask.now
    (or_else why (or_else (conflict w o.0 (touches (op_of w (view_of w o.0) c.args.ask.now))) (or_else (has_edges (view_of w o.0) c.args.ask.now) (id_end w c.args.ask.now)))))
    (sym (c.in-Some-missing.ensures w o.0 o.1))

pub returns-in-None-clause-seen : goal.returns-in-None-clause-seen
returns-in-None-clause-seen c = λ w keeps.
    let o = open_at c.args.self.now w c.args.caller c.in-Some.place c.at.result.now keeps (sym c.in-Some.ensures) c.at.ensures in
    record { txn = o.0; opened = o.1; present = sym (c.in-None.ensures w o.0 o.1) }
