use Rattle.std.proofs.Common.{false}
use Rattle.world_model.proofs.Staying.{views_stay}
use Rattle.world_model.proofs.law.views_stay.Goals as goal

pub returns : goal.returns
returns c = λ s es later caller p when start found there beside. (views_stay s es later false caller p when start found there beside).1
