use Rattle.anchor_store.proofs.Grown.{blocks_anchored}
use Rattle.anchor_store.proofs.laws.anchors_are_led_to.Goals as goal

pub returns : goal.returns
returns g c = blocks_anchored g.U.Undo.after
