use Rattle.cypher_check.proofs.Standings.{all_stand}
use Rattle.cypher_check.proofs.laws.names_stand.Goals as goal

pub returns : goal.returns
returns c = all_stand
