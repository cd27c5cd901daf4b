use Rattle.anchor_store.proofs.Grown.{blocks_grown}
use Rattle.anchor_store.proofs.laws.blocks_grow_at_the_newest.Goals as goal

pub returns : goal.returns
returns g c = blocks_grown g.U.Undo.after
