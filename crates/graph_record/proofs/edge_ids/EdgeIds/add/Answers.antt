use Rattle.std.proofs.Common.{not, sym, ap, subst, ◌∙◌, arith}
use Rattle.std.specs.List.{insert}
use Rattle.graph_record.proofs.Edges.{edge_cmp_total}
use Rattle.graph_record.specs.Ascending.{IsAscendingIds}
use Rattle.graph_record.proofs.Front.{whole_taken, whole_kept}
use Rattle.graph_record.proofs.Place.{has_at, has_gap, added_at, added_gap, added_ascends}
use Rattle.graph_record.proofs.edge_ids.EdgeIds.add.Goals as goal

-- the edge was there, and nothing changes
pub returns-in-Ok-clause-ok : goal.returns-in-Ok-clause-ok
returns-in-Ok-clause-ok c = sym (added_at edge_cmp_total _ _ _ c.in-Ok.ensures.found)

pub returns-in-Ok-clause-is_new : goal.returns-in-Ok-clause-is_new
returns-in-Ok-clause-is_new c = ap not (sym (has_at edge_cmp_total _ _ _ c.in-Ok.ensures.found))

-- the edge is inserted in the gap
pub insert-requires : goal.insert-requires
insert-requires c = record {
  in_range = rw (c.in_ok-truncate-in-Err.ensures.ok, c.self.view_is) c.in-Err.ensures.absent.in_range;
}

pub returns-in_ok-insert-in-Err-clause-ok : goal.returns-in_ok-insert-in-Err-clause-ok
returns-in_ok-insert-in-Err-clause-ok c =
    whole_taken _ _ c.as_slice.ensures
    ∙ c.in_ok-insert-in-Err.ensures.ok
    ∙ ap (λ ids. insert ids c.in-Err.at c.args.id) (c.in_ok-truncate-in-Err.ensures.ok ∙ c.self.view_is)
    ∙ sym (added_gap edge_cmp_total _ _ _ c.in-Err.ensures.absent)

pub returns-in_ok-insert-in-Err-clause-is_new : goal.returns-in_ok-insert-in-Err-clause-is_new
returns-in_ok-insert-in-Err-clause-is_new c = ap not (sym (has_gap edge_cmp_total _ _ _ c.in-Err.ensures.absent))

pub invariant_of-self-in-Err : goal.invariant_of-self-in-Err
invariant_of-self-in-Err c =
    let inserted =
    c.in_ok-insert-in-Err.ensures.ok
    ∙ ap (λ ids. insert ids c.in-Err.at c.args.id) (c.in_ok-truncate-in-Err.ensures.ok ∙ c.self.view_is)
    ∙ sym (added_gap edge_cmp_total _ _ _ c.in-Err.ensures.absent) in
    whole_kept _ _ c.as_slice.ensures (subst IsAscendingIds (sym inserted) (added_ascends edge_cmp_total c.args.id c.args.self.now (rw c.self.view_is at c.self.invariant.1)))

-- memory can be wanting only for what was not there
pub returns-in_err-truncate-in-Err-clause-there : goal.returns-in_err-truncate-in-Err-clause-there
returns-in_err-truncate-in-Err-clause-there c there = grind (arith, has_gap edge_cmp_total _ _ _ c.in-Err.ensures.absent)

pub returns-in_err-insert-in-Err-clause-there : goal.returns-in_err-insert-in-Err-clause-there
returns-in_err-insert-in-Err-clause-there c there = grind (arith, has_gap edge_cmp_total _ _ _ c.in-Err.ensures.absent)
