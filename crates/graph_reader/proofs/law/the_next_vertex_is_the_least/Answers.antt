use Rattle.graph_reader.proofs.Least.{next_is_least, none_is_next}
use Rattle.graph_reader.proofs.law.the_next_vertex_is_the_least.Goals as goal

pub returns-clause-found : goal.returns-clause-found
returns-clause-found c = next_is_least

pub returns-clause-none : goal.returns-clause-none
returns-clause-none c = none_is_next
