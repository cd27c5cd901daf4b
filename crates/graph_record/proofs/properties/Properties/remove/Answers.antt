use Rattle.std.proofs.Common.{ap, sym, subst, ◌∙◌, Some}
use Rattle.std.proofs.lemmas.Cmp.{nat_list_cmp_total}
use Rattle.graph_record.specs.Stored.{IsPropertyList}
use Rattle.graph_record.proofs.Place.{find_at, find_gap, removed_key_at, removed_key_absent}
use Rattle.graph_record.proofs.Stored.{removed_kept}
use Rattle.graph_record.proofs.properties.Properties.remove.Goals as goal

-- the property that is taken out at its place is the one of the name
pub returns-in_ok-value-in-Ok-clause-value : goal.returns-in_ok-value-in-Ok-clause-value
returns-in_ok-value-in-Ok-clause-value c =
    let found = find_at nat_list_cmp_total _ _ _ (c.in_ok-value-in-Ok.field-0-0, c.in_ok-value-in-Ok.value) c.in-Ok.ensures.found in
    ap (λ p. Some p.1) (rw c.self.view_is at c.in_ok-value-in-Ok.ensures.value) ∙ sym found

pub returns-in_ok-value-in-Ok-clause-ok : goal.returns-in_ok-value-in-Ok-clause-ok
returns-in_ok-value-in-Ok-clause-ok c =
    rw (c.in_ok-value-in-Ok.ensures.ok, c.self.view_is) (sym (removed_key_at nat_list_cmp_total _ _ _ (rw c.self.view_is at c.self.invariant).ascending c.in-Ok.ensures.found))

pub invariant_of-self-in-Ok : goal.invariant_of-self-in-Ok
invariant_of-self-in-Ok c =
    let form = rw c.self.view_is at c.self.invariant in
    let taken_out = removed_key_at nat_list_cmp_total _ _ _ form.ascending c.in-Ok.ensures.found in
    rw (c.in_ok-value-in-Ok.ensures.ok, c.self.view_is) (subst IsPropertyList taken_out (removed_kept c.args.name.now c.args.self.now form))

-- there was no such property
pub returns-in-Err-clause-value : goal.returns-in-Err-clause-value
returns-in-Err-clause-value c = sym (find_gap nat_list_cmp_total _ _ _ c.in-Err.ensures.absent)

pub returns-in-Err-clause-ok : goal.returns-in-Err-clause-ok
returns-in-Err-clause-ok c = sym (removed_key_absent nat_list_cmp_total _ _ (find_gap nat_list_cmp_total _ _ _ c.in-Err.ensures.absent))
