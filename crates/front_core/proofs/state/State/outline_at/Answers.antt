use Rattle.std.proofs.Common.{sym, ap, ◌∙◌}
use Rattle.std.specs.Arc.{arc_value}
use Rattle.undo_delta.specs.Apply.{after}
use Rattle.anchor_store.specs.Blocks.{version}
use Rattle.front_core.specs.Outlines.{outline_of}
use Rattle.front_core.specs.Rows.{row_at_instant}
use Rattle.front_core.proofs.Stepping.{row_in_block, row_in_chain}
use Rattle.front_core.proofs.state.State.outline_at.Goals as goal

pub returns-in-Some : goal.returns-in-Some
returns-in-Some c = λ w keeps.
    c.in_block.ensures
    ∙ ap (λ b. outline_of (version after b c.args.t)) c.deref.ensures
    ∙ ap outline_of (row_in_block c.args.self.now w keeps c.args.x c.args.t (arc_value c.in-Some.block.now) c.in-Some.ensures.in_order (sym c.in-Some.ensures.value))

pub returns-in-Some-row : goal.returns-in-Some-row
returns-in-Some-row c = λ w keeps.
    c.outline_at.ensures
    ∙ ap outline_of (ap (row_at_instant c.args.t) c.in-Some-row.ensures ∙ row_in_chain c.args.self.now w keeps c.args.x c.args.t (sym c.in_default.ensures.value))

pub returns-in-None : goal.returns-in-None
returns-in-None c = λ w keeps.
    ap outline_of (ap (row_at_instant c.args.t) c.in-None.ensures ∙ row_in_chain c.args.self.now w keeps c.args.x c.args.t (sym c.in_default.ensures.value))
