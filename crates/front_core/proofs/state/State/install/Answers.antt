use Rattle.std.proofs.Common.{◌≡◌, map, refl, sym, ap, subst, ◌∙◌}
use Rattle.std.specs.Arc.{arc_value}
use Rattle.graph_record.specs.declared.object.Object.{Object}
use Rattle.undo_delta.specs.declared.delta.Delta.{Delta}
use Rattle.history_keeper.specs.Rows.{RowParts}
use Rattle.world_model.specs.Pieces.{PieceParts}
use Rattle.world_model.specs.Placement.{IsRight}
use Rattle.world_model.specs.Reply as reply
use Rattle.world_model.specs.Step.{installed_world}
use Rattle.world_model.specs.World.{cut_of}
use Rattle.world_model.specs.declared.event.Event.TheVariants.{Install}
use Rattle.front_core.specs.Keeps.{Obeys}
use Rattle.front_core.proofs.Installed.{fresh_step, keeps_installed, order_kept}
use Rattle.front_core.proofs.Stepping.{entry, obeys_step}
use Rattle.front_core.proofs.state.State.install.Goals as goal

pub extend-requires : goal.extend-requires
extend-requires c =
    let m = c.requires in
    let piece : PieceParts = record { x = c.piece.inside.x; cut = c.piece.inside.cut; mark = c.piece.inside.mark; moved = c.piece.inside.moved; blocks = map arc_value c.piece.inside.blocks.items } in
    order_kept c.args.self.now m.world piece m.keeps (subst (λ (p : PieceParts). IsRight m.world p) (sym c.piece.view_is) m.right)
    (sym c.if-cut-piece.false ∙ c.cut-cut.ensures ∙ ap (λ (h : RowParts Object Delta). h.cut) (m.keeps.histories piece.x))
    c.has_room-replaces.result c.has_room-replaces.ensures

pub returns-in-Ok : goal.returns-in-Ok
returns-in-Ok c = record {
  obeys = λ w keeps right.
      let s = c.args.self.now in
      let piece : PieceParts = record { x = c.piece.inside.x; cut = c.piece.inside.cut; mark = c.piece.inside.mark; moved = c.piece.inside.moved; blocks = map arc_value c.piece.inside.blocks.items } in
      let here : IsRight w piece = subst (λ (p : PieceParts). IsRight w p) (sym c.piece.view_is) right in
      let same : piece.cut ≡ cut_of w piece.x = sym c.if-cut-piece.false ∙ c.cut-cut.ensures ∙ ap (λ (h : RowParts Object Delta). h.cut) (keeps.histories piece.x) in
      subst (λ (p : PieceParts). Obeys w (record s { objects = c.cut_below.new.self; histories = c.extend.new.self }) (entry c.args.caller (Install p) reply.Installed)) c.piece.view_is
      (obeys_step (record s { objects = c.cut_below.new.self; histories = c.extend.new.self }) w (installed_world w piece) c.args.caller (Install piece) reply.Installed (fresh_step w piece same) refl
      (keeps_installed s w piece keeps here same c.cut_below.new.self c.extend.new.self c.has_room-replaces.result c.has_room-replaces.ensures c.cut_below.ensures c.in-Ok.ensures.ok));
  back = tt;
}
