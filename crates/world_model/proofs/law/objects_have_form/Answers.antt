use Rattle.world_model.proofs.Answered.{instant_form, view_form}
use Rattle.world_model.proofs.law.objects_have_form.Goals as goal

pub returns-clause-instants : goal.returns-clause-instants
returns-clause-instants c = instant_form

pub returns-clause-views : goal.returns-clause-views
returns-clause-views c = view_form
