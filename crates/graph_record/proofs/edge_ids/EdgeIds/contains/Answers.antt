use Rattle.std.proofs.Common.{◌∙◌}
use Rattle.graph_record.proofs.Edges.{edge_cmp_total}
use Rattle.graph_record.proofs.Place.{has_found}
use Rattle.graph_record.proofs.edge_ids.EdgeIds.contains.Goals as goal

pub returns : goal.returns
returns c = c.is_ok.ensures.value ∙ has_found edge_cmp_total c.args.id _ _ c.place.ensures.found c.place.ensures.absent
