use Rattle.graph_value.proofs.OrderLaws.{order_total}
use Rattle.graph_value.proofs.sorting.order_is_total.Goals as goal

pub returns : goal.returns
returns c = order_total
