use Rattle.std.proofs.Common.{◌∙◌, sym, ap, get_or, Some}
use Rattle.std.proofs.lemmas.Cmp.{nat_list_cmp_total}
use Rattle.graph_record.proofs.Place.{find_at, find_gap}
use Rattle.graph_record.proofs.properties.Properties.get.Goals as goal

-- the name is at its place, and the property there is the one that was read
pub returns-in-Ok-clause-value : goal.returns-in-Ok-clause-value
returns-in-Ok-clause-value c =
    let found = find_at nat_list_cmp_total _ _ _ c.index-as_slice-at.result c.in-Ok.ensures.found in
    ap (λ items. Some (get_or items c.in-Ok.at c.index-as_slice-at.result).1) (c.as_slice.ensures ∙ c.self.view_is) ∙ sym found

-- the name is not there
pub returns-in-Err-clause-value : goal.returns-in-Err-clause-value
returns-in-Err-clause-value c = sym (find_gap nat_list_cmp_total _ _ _ c.in-Err.ensures.absent)
