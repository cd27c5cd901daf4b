use Rattle.std.proofs.Common.{◌≡◌, List, get_or, map, sym, ap, ◌∙◌}
use Rattle.std.proofs.lemmas.List.{length-map}
use Rattle.std.specs.Arc.{arc_value}
use Rattle.history_keeper.specs.Counted.{counts_of}
use Rattle.history_keeper.specs.Rows.{RowParts}
use Rattle.history_keeper.proofs.Extended.{counts_extended_if, read_row}
use Rattle.history_keeper.proofs.keeper.Keeper.counts_after.Goals as goal

pub returns : goal.returns
returns g c =
    let rows = c.args.self.now in
    let x = c.index.result.now in
    let before : c.self.inside.counts ≡ counts_of rows = c.self.invariant ∙ ap (λ (rs : List (RowParts _ _)). counts_of rs) c.self.view_is in
    let read : x ≡ get_or rows c.args.row x = c.index.ensures ∙ ap (λ (rs : List (RowParts _ _)). get_or rs c.args.row x) c.self.view_is in
    let leaving = c.leaving-leaving in
    let coming = c.in_ok-coming in
    counts_extended_if rows c.args.row x c.args.replaces (map arc_value c.args.blocks.now) c.self.inside.counts leaving.result coming.coming c.changed.result c.requires (read_row rows c.args.row x c.requires read) before leaving.ensures.deltas leaving.ensures.blocks coming.ensures.deltas (coming.ensures.blocks ∙ sym (length-map c.args.blocks.now arc_value)) c.changed.ensures.deltas c.changed.ensures.blocks
