use Rattle.std.proofs.Common.{ℕ, List, ap, sym, subst, ◌∙◌, Some}
use Rattle.std.proofs.lemmas.Cmp.{nat_list_cmp_total}
use Rattle.graph_value.specs.declared.value.Value.{Value}
use Rattle.graph_record.specs.Stored.{IsPropertyList}
use Rattle.graph_record.proofs.Place.{find_at, find_gap, put_at, put_gap}
use Rattle.graph_record.proofs.Stored.{put_kept}
use Rattle.graph_record.proofs.properties.Properties.put.Goals as goal

abbrev Entry : Type 0
Entry = List ℕ × Value

-- the name was there, and its value is written over
pub returns-in_ok-former-in-Ok-clause-ok : goal.returns-in_ok-former-in-Ok-clause-ok
returns-in_ok-former-in-Ok-clause-ok c =
    let entry : Entry = (c.as_str.result.now, c.args.value) in
    let written = put_at nat_list_cmp_total _ c.args.value _ _ entry c.in-Ok.ensures.found in
    rw (c.in_ok-former-in-Ok.ensures.ok entry, c.self.view_is, ← c.as_str.ensures.text) (sym written)

pub returns-in_ok-former-in-Ok-clause-former : goal.returns-in_ok-former-in-Ok-clause-former
returns-in_ok-former-in-Ok-clause-former c =
    let entry : Entry = (c.as_str.result.now, c.args.value) in
    let found = find_at nat_list_cmp_total _ _ _ entry c.in-Ok.ensures.found in
    rw (← c.as_str.ensures.text) (ap Some (rw c.self.view_is at (c.in_ok-former-in-Ok.ensures.former entry)) ∙ sym found)

pub invariant_of-self-in-Ok : goal.invariant_of-self-in-Ok
invariant_of-self-in-Ok c =
    let entry : Entry = (c.as_str.result.now, c.args.value) in
    let written = put_at nat_list_cmp_total _ c.args.value _ _ entry c.in-Ok.ensures.found in
    rw (c.in_ok-former-in-Ok.ensures.ok entry, c.self.view_is) (subst IsPropertyList written (put_kept c.as_str.result.now c.args.value c.args.self.now c.requires (rw c.self.view_is at c.self.invariant)))

-- the property is added in the gap
pub returns-in_ok-insert-in-Err-clause-ok : goal.returns-in_ok-insert-in-Err-clause-ok
returns-in_ok-insert-in-Err-clause-ok c =
    let written = put_gap nat_list_cmp_total _ c.args.value _ _ c.in-Err.ensures.absent in
    rw (c.in_ok-insert-in-Err.ensures.ok, c.in_ok-copy-in-Err.ensures, c.self.view_is, ← c.as_str.ensures.text) (sym written)

pub returns-in_ok-insert-in-Err-clause-former : goal.returns-in_ok-insert-in-Err-clause-former
returns-in_ok-insert-in-Err-clause-former c = rw (← c.as_str.ensures.text) (sym (find_gap nat_list_cmp_total _ _ _ c.in-Err.ensures.absent))

pub invariant_of-self-in-Err : goal.invariant_of-self-in-Err
invariant_of-self-in-Err c =
    let written = put_gap nat_list_cmp_total _ c.args.value _ _ c.in-Err.ensures.absent in
    rw (c.in_ok-insert-in-Err.ensures.ok, c.in_ok-copy-in-Err.ensures, c.self.view_is, ← c.as_str.ensures.text) (subst IsPropertyList written (put_kept c.as_str.result.now c.args.value c.args.self.now c.requires (rw c.self.view_is at c.self.invariant)))
