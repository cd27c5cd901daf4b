-- The order of edges is total, and tells any two apart.
use Rattle.std.specs.Cmp.{IsTotalOrder}
use Rattle.std.proofs.lemmas.Cmp.{nat_cmp_total}
use Rattle.graph_record.specs.Ascending.{edge_cmp}

pub edge_cmp_total : IsTotalOrder edge_cmp
edge_cmp_total = record {
  antisymm = λ x y. nat_cmp_total.antisymm x.0 y.0;
  trans = λ x y z p q. nat_cmp_total.trans x.0 y.0 z.0 p q;
  congr = λ x y z e. nat_cmp_total.congr x.0 y.0 z.0 e;
}
