use Rattle.std.proofs.Common.{not, sym, ap, subst, arith}
use Rattle.std.proofs.lemmas.Cmp.{nat_list_cmp_total}
use Rattle.graph_record.specs.Ascending.{IsAscendingNames}
use Rattle.graph_record.proofs.Place.{has_at, has_gap, added_at, added_gap, added_ascends}
use Rattle.graph_record.proofs.labels.Labels.add.Goals as goal

-- the label was there, and nothing changes
pub returns-in-Ok-clause-ok : goal.returns-in-Ok-clause-ok
returns-in-Ok-clause-ok c = rw (← c.as_str.ensures.text) (sym (added_at nat_list_cmp_total _ _ _ c.in-Ok.ensures.found))

pub returns-in-Ok-clause-is_new : goal.returns-in-Ok-clause-is_new
returns-in-Ok-clause-is_new c = rw (← c.as_str.ensures.text) (ap not (sym (has_at nat_list_cmp_total _ _ _ c.in-Ok.ensures.found)))

-- the label is inserted in the gap
pub returns-in_ok-insert-in-Err-clause-ok : goal.returns-in_ok-insert-in-Err-clause-ok
returns-in_ok-insert-in-Err-clause-ok c =
    rw (c.in_ok-insert-in-Err.ensures.ok, c.self.view_is, ← c.as_str.ensures.text) (sym (added_gap nat_list_cmp_total _ _ _ c.in-Err.ensures.absent))

pub returns-in_ok-insert-in-Err-clause-is_new : goal.returns-in_ok-insert-in-Err-clause-is_new
returns-in_ok-insert-in-Err-clause-is_new c = rw (← c.as_str.ensures.text) (ap not (sym (has_gap nat_list_cmp_total _ _ _ c.in-Err.ensures.absent)))

pub invariant_of-self-in-Err : goal.invariant_of-self-in-Err
invariant_of-self-in-Err c =
    let inserted = added_gap nat_list_cmp_total _ _ _ c.in-Err.ensures.absent in
    rw (c.in_ok-insert-in-Err.ensures.ok, c.self.view_is, ← c.as_str.ensures.text) (subst IsAscendingNames inserted (added_ascends nat_list_cmp_total c.as_str.result.now c.args.self.now (rw c.self.view_is at c.self.invariant)))

-- memory can be wanting only for what was not there
pub returns-in_err-insert-in-Err-clause-there : goal.returns-in_err-insert-in-Err-clause-there
returns-in_err-insert-in-Err-clause-there c there = grind (arith, has_gap nat_list_cmp_total _ _ _ c.in-Err.ensures.absent)
