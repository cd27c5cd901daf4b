use Rattle.graph_value.proofs.EqualsLemmas.{equals_of-List}
use Rattle.graph_value.proofs.equality.+equals.Goals as goal

pub equals-returns-in-List-List : goal.equals-returns-in-List-List
equals-returns-in-List-List t c = cc (equals_of-List c.in-List-List.a c.in-List-List.b)
