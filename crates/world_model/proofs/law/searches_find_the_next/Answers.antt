use Rattle.world_model.proofs.Searches.{found_is_next, none_is_next}
use Rattle.world_model.proofs.law.searches_find_the_next.Goals as goal

pub returns-clause-found : goal.returns-clause-found
returns-clause-found c = found_is_next

pub returns-clause-none : goal.returns-clause-none
returns-clause-none c = none_is_next
