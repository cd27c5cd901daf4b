use Rattle.std.proofs.Common.{◌≡◌, ◌≤◌, ℕ, sym, ap, subst, ◌∙◌, arith}
use Rattle.graph_record.specs.declared.object.Object.{Object}
use Rattle.undo_delta.specs.Apply.{after}
use Rattle.undo_delta.specs.declared.delta.Delta.{Delta}
use Rattle.anchor_store.specs.Blocks.{newest_of, smaller_than}
use Rattle.history_keeper.specs.Rows.{RowParts}
use Rattle.txn_manager.specs.Transactions.{Transactions, mark_of}
use Rattle.version_chain.specs.Parts.{dated_before, object_before}
use Rattle.world_model.specs.World.{cut_of, mark}
use Rattle.front_core.specs.Rows.{ObjectRow}
use Rattle.front_core.proofs.Expired.{deltas_below, object_is}
use Rattle.front_core.proofs.Lifting.{same_lifted}
use Rattle.front_core.specs.Objects.{row_at}
use Rattle.front_core.proofs.state.State.lifted.Goals as goal

pub returns : goal.returns
returns c = λ w keeps.
    let s = c.args.self.now in
    let x = c.args.x in
    let m : c.mark-mark.result ≡ mark w = c.mark-mark.ensures ∙ ap mark_of keeps.times in
    let told = c.in_ok-tail_below.ensures in
    same_lifted w x c.cut.result c.mark-mark.result s.histories.interval c.in_ok-tail_below.field-0.newest c.in_ok-tail_below.field-0.deltas _
    (c.cut.ensures ∙ ap (λ (h : RowParts Object Delta). h.cut) (keeps.histories x))
    m
    keeps.interval
    (told.object ∙ ap (λ (r : ObjectRow). object_before after r.newest r.chain c.mark-mark.result) c.row_or-row.ensures ∙ ap (object_before after (row_at s.objects x).newest (row_at s.objects x).chain) m
    ∙ object_is w keeps.ordered x (mark w) (keeps.cuts x) (row_at s.objects x) (keeps.rows x))
    (told.deltas ∙ ap (λ (r : ObjectRow). dated_before r.chain c.mark-mark.result) c.row_or-row.ensures ∙ ap (dated_before (row_at s.objects x).chain) m
    ∙ deltas_below w keeps.ordered x (mark w) (row_at s.objects x) (keeps.rows x))
    (c.in_ok-block_with_room.ensures
    ∙ ap (λ (h : RowParts Object Delta). smaller_than s.histories.interval (newest_of h.blocks)) (keeps.histories x)
    ∙ ap (λ k. smaller_than k (newest_of (Rattle.world_model.specs.Placement.blocks_of w x))) keeps.interval)
