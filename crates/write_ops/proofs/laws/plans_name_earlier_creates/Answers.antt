use Rattle.write_ops.proofs.PlanFits.{plan_fits}
use Rattle.write_ops.proofs.laws.plans_name_earlier_creates.Goals as goal

pub returns : goal.returns
returns c = plan_fits
