use Rattle.anchor_store.proofs.Grown.{blocks_deltas}
use Rattle.anchor_store.proofs.laws.blocks_have_the_deltas.Goals as goal

pub returns : goal.returns
returns g c = blocks_deltas g.U.Undo.after
