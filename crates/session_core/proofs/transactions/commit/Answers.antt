use Rattle.session_core.proofs.transactions.commit.Goals as goal

pub returns-in-None-clause-says : goal.returns-in-None-clause-says
returns-in-None-clause-says g c = rw c.in-None.is c.refused.ensures.says
