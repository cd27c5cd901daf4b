use Rattle.world_model.specs.World.{start_world}
use Rattle.world_model.proofs.Histories.{history_stamps, history_rises}
use Rattle.world_model.proofs.law.commits_rise.Goals as goal

pub returns-clause-stamps : goal.returns-clause-stamps
returns-clause-stamps c = λ s es h legal. history_stamps (start_world s) es legal.answered

pub returns-clause-rise : goal.returns-clause-rise
returns-clause-rise c = history_rises
