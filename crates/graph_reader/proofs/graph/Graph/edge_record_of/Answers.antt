use Rattle.std.proofs.Common.{sym, ap, ◌∙◌, get_or, Some}
use Rattle.graph_record.proofs.Edges.{edge_cmp_total}
use Rattle.graph_record.proofs.Place.{find_at, find_gap}
use Rattle.graph_reader.proofs.graph.Graph.edge_record_of.Goals as goal

pub returns-in_ok-copy-in-Ok : goal.returns-in_ok-copy-in-Ok
returns-in_ok-copy-in-Ok c =
    ap Some c.in_ok-copy-in-Ok.ensures
    ∙ ap (λ items. Some (get_or items c.in-Ok.at c.index-as_slice-at.result).1) (c.as_slice.ensures.value ∙ ap (λ g. g.edges) c.self.view_is)
    ∙ sym (find_at edge_cmp_total _ _ _ c.index-as_slice-at.result c.in-Ok.ensures.found)

-- the id is not there
pub returns-in-Err : goal.returns-in-Err
returns-in-Err c = sym (find_gap edge_cmp_total _ _ _ c.in-Err.ensures.absent)
