use Rattle.cypher_print.proofs.ReadSigns.{passed}
use Rattle.cypher_print.proofs.laws.spaces_are_passed.Goals as goal

pub returns : goal.returns
returns c = passed
