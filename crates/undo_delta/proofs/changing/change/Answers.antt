use Rattle.undo_delta.proofs.Effect.{result_undone, result_effect}
use Rattle.undo_delta.proofs.changing.change.Goals as goal

pub returns-clause-undone : goal.returns-clause-undone
returns-clause-undone c =
    result_undone _ _ _ _ c.change_parts.result c.form.ensures c.requires.touched c.requires.possible c.change_parts.ensures.object c.change_parts.ensures.deltas

pub returns-clause-effect : goal.returns-clause-effect
returns-clause-effect c =
    result_effect _ _ _ _ c.change_parts.result c.form.ensures c.requires.touched c.requires.possible c.change_parts.ensures.object c.change_parts.ensures.deltas
