use Rattle.std.proofs.Common.{◌∙◌}
use Rattle.row_ops.specs.Grouping.{key_of}
use Rattle.row_ops.proofs.GroupLemmas.{gathered_end}
use Rattle.row_ops.proofs.grouping.by_key.Goals as goal

pub returns : goal.returns
returns c =
    c.from_vec.ensures
    ∙ gathered_end (key_of c.args.items.now) c.loop-cells.keys.keys c.loop-cells.groups.items c.loop-cells.left.items _ c.args.rows c.loop-cells.invariant.rest c.in_default.ensures.items c.in_default.ensures.rest
