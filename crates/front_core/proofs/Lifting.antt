-- What is copied out of a state is what its world lifts.
use Rattle.std.proofs.Common.{◌≡◌, ℕ, List, Option, refl, sym, ap, ◌∙◌}
use Rattle.graph_value.specs.declared.id.Oid.{Oid}
use Rattle.graph_record.specs.declared.object.Object.{Object}
use Rattle.undo_law.specs.declared.dated.Dated.{Dated}
use Rattle.undo_delta.specs.declared.delta.Delta.{Delta}
use Rattle.anchor_store.specs.Blocks.{BlockParts}
use Rattle.world_model.specs.Pieces.{LiftedParts}
use Rattle.world_model.specs.Placement.{block_with_room, expired, lifted_of, object_below}
use Rattle.world_model.specs.World.{World, cut_of, mark}

pub same_lifted : (w : World) (x : Oid) (cut m k : ℕ) (newest : Object) (deltas : List (Dated Delta)) (older : Option (BlockParts Object Delta)) →
    cut ≡ cut_of w x → m ≡ mark w → k ≡ w.interval → newest ≡ object_below w x (mark w) → deltas ≡ expired w x → older ≡ block_with_room w x →
    record { x = x; cut = cut; mark = m; interval = k; newest = newest; deltas = deltas; older = older } ≡ lifted_of w x
same_lifted w x cut m k newest deltas older a b c d e f =
    ap (λ (n : ℕ). record { x = x; cut = n; mark = m; interval = k; newest = newest; deltas = deltas; older = older }) a
    ∙ ap (λ (n : ℕ). record { x = x; cut = cut_of w x; mark = n; interval = k; newest = newest; deltas = deltas; older = older }) b
    ∙ ap (λ (n : ℕ). record { x = x; cut = cut_of w x; mark = mark w; interval = n; newest = newest; deltas = deltas; older = older }) c
    ∙ ap (λ (n : Object). record { x = x; cut = cut_of w x; mark = mark w; interval = w.interval; newest = n; deltas = deltas; older = older }) d
    ∙ ap (λ (n : List (Dated Delta)). record { x = x; cut = cut_of w x; mark = mark w; interval = w.interval; newest = object_below w x (mark w); deltas = n; older = older }) e
    ∙ ap (λ (n : Option (BlockParts Object Delta)). record { x = x; cut = cut_of w x; mark = mark w; interval = w.interval; newest = object_below w x (mark w); deltas = expired w x; older = n }) f
