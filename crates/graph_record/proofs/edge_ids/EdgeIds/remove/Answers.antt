use Rattle.std.proofs.Common.{sym, ap, subst, ◌∙◌}
use Rattle.std.specs.List.{remove}
use Rattle.graph_record.proofs.Edges.{edge_cmp_total}
use Rattle.graph_record.specs.Ascending.{IsAscendingIds}
use Rattle.graph_record.proofs.Front.{whole_taken, whole_kept}
use Rattle.graph_record.proofs.Place.{has_at, has_gap, removed_at, removed_absent, removed_ascends}
use Rattle.graph_record.proofs.edge_ids.EdgeIds.remove.Goals as goal

-- the edge that is taken out at its place is removed
pub returns-in_ok-remove-in-Ok-clause-ok : goal.returns-in_ok-remove-in-Ok-clause-ok
returns-in_ok-remove-in-Ok-clause-ok c =
    whole_taken _ _ c.as_slice.ensures
    ∙ c.in_ok-remove-in-Ok.ensures.ok
    ∙ ap (λ ids. remove ids c.in-Ok.at) (c.in_ok-truncate-in-Ok.ensures.ok ∙ c.self.view_is)
    ∙ sym (removed_at edge_cmp_total _ _ _ (rw c.self.view_is at c.self.invariant.1) c.in-Ok.ensures.found)

pub returns-in_ok-remove-in-Ok-clause-was_there : goal.returns-in_ok-remove-in-Ok-clause-was_there
returns-in_ok-remove-in-Ok-clause-was_there c = sym (has_at edge_cmp_total _ _ _ c.in-Ok.ensures.found)

pub invariant_of-self-in-Ok : goal.invariant_of-self-in-Ok
invariant_of-self-in-Ok c =
    let ascends = rw c.self.view_is at c.self.invariant.1 in
    let taken_out =
    c.in_ok-remove-in-Ok.ensures.ok
    ∙ ap (λ ids. remove ids c.in-Ok.at) (c.in_ok-truncate-in-Ok.ensures.ok ∙ c.self.view_is)
    ∙ sym (removed_at edge_cmp_total _ _ _ ascends c.in-Ok.ensures.found) in
    whole_kept _ _ c.as_slice.ensures (subst IsAscendingIds (sym taken_out) (removed_ascends edge_cmp_total c.args.id c.args.self.now ascends))

-- the edge was not there
pub returns-in-Err-clause-ok : goal.returns-in-Err-clause-ok
returns-in-Err-clause-ok c = sym (removed_absent edge_cmp_total _ _ (has_gap edge_cmp_total _ _ _ c.in-Err.ensures.absent))

pub returns-in-Err-clause-was_there : goal.returns-in-Err-clause-was_there
returns-in-Err-clause-was_there c = sym (has_gap edge_cmp_total _ _ _ c.in-Err.ensures.absent)
