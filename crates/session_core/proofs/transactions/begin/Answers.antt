use Rattle.session_core.proofs.transactions.begin.Goals as goal

pub returns-in-Some-clause-says : goal.returns-in-Some-clause-says
returns-in-Some-clause-says g c = rw c.in-Some.is c.refused.ensures.says
