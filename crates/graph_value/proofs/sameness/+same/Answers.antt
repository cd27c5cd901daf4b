use Rattle.graph_value.specs.SameLaws.{same_value-List}
use Rattle.graph_value.proofs.sameness.+same.Goals as goal

pub same_values-returns-in-List-List : goal.same_values-returns-in-List-List
same_values-returns-in-List-List t c = cc (same_value-List c.in-List-List.a c.in-List-List.b)
