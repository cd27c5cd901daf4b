use Rattle.world_model.proofs.Views.{instant_coherent, view_coherent}
use Rattle.world_model.proofs.law.graphs_are_coherent.Goals as goal

pub returns-clause-instants : goal.returns-clause-instants
returns-clause-instants c = λ w t o. instant_coherent w o t

pub returns-clause-views : goal.returns-clause-views
returns-clause-views c = λ w caller p o f. view_coherent w caller p o f
