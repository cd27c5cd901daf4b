use Rattle.std.proofs.Common.{sym, subst}
use Rattle.std.proofs.lemmas.Cmp.{nat_list_cmp_total}
use Rattle.graph_record.specs.Ascending.{IsAscendingNames}
use Rattle.graph_record.proofs.Place.{has_at, has_gap, removed_at, removed_absent, removed_ascends}
use Rattle.graph_record.proofs.labels.Labels.remove.Goals as goal

-- the label that is taken out at its place is removed
pub returns-in_ok-remove-in-Ok-clause-ok : goal.returns-in_ok-remove-in-Ok-clause-ok
returns-in_ok-remove-in-Ok-clause-ok c =
    rw (c.in_ok-remove-in-Ok.ensures.ok, c.self.view_is) (sym (removed_at nat_list_cmp_total _ _ _ (rw c.self.view_is at c.self.invariant) c.in-Ok.ensures.found))

pub returns-in_ok-remove-in-Ok-clause-was_there : goal.returns-in_ok-remove-in-Ok-clause-was_there
returns-in_ok-remove-in-Ok-clause-was_there c = sym (has_at nat_list_cmp_total _ _ _ c.in-Ok.ensures.found)

pub invariant_of-self-in-Ok : goal.invariant_of-self-in-Ok
invariant_of-self-in-Ok c =
    let ascends = rw c.self.view_is at c.self.invariant in
    let taken_out = removed_at nat_list_cmp_total _ _ _ ascends c.in-Ok.ensures.found in
    rw (c.in_ok-remove-in-Ok.ensures.ok, c.self.view_is) (subst IsAscendingNames taken_out (removed_ascends nat_list_cmp_total c.args.name.now c.args.self.now ascends))

-- the label was not there
pub returns-in-Err-clause-ok : goal.returns-in-Err-clause-ok
returns-in-Err-clause-ok c = sym (removed_absent nat_list_cmp_total _ _ (has_gap nat_list_cmp_total _ _ _ c.in-Err.ensures.absent))

pub returns-in-Err-clause-was_there : goal.returns-in-Err-clause-was_there
returns-in-Err-clause-was_there c = sym (has_gap nat_list_cmp_total _ _ _ c.in-Err.ensures.absent)
