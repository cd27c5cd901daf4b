use Rattle.std.proofs.lemmas.Result.{on_ok_weaker}
use Rattle.row_ops.proofs.GroupLemmas.{grown_put}
use Rattle.row_ops.proofs.grouping.add.Goals as goal

pub returns-else-is_new-clause-groups : goal.returns-else-is_new-clause-groups
returns-else-is_new-clause-groups c =
    on_ok_weaker c.put.result
    (λ h. grown_put c.args.key c.args.cells c.args.keys.now.keys c.args.groups.now.items _ c.in_ok-place.place c.in_ok-place.is_new c.requires c.in_ok-place.ensures.added c.if-is_new.false c.in_ok-place.ensures.index h)
    c.put.ensures
