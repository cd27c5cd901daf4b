use Rattle.std.proofs.Common.{◌∙◌}
use Rattle.std.proofs.lemmas.Cmp.{nat_list_cmp_total}
use Rattle.graph_record.proofs.Place.{has_found}
use Rattle.graph_record.proofs.labels.Labels.contains.Goals as goal

pub returns : goal.returns
returns c = c.is_ok.ensures.value ∙ has_found nat_list_cmp_total c.args.name.now _ _ c.place.ensures.found c.place.ensures.absent
