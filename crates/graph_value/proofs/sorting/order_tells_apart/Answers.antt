use Rattle.graph_value.proofs.OrderLaws.{order_apart}
use Rattle.graph_value.proofs.sorting.order_tells_apart.Goals as goal

pub returns : goal.returns
returns c = order_apart
