use Rattle.cypher_syntax.proofs.Parts.{parted}
use Rattle.cypher_syntax.proofs.laws.text_is_its_tokens.Goals as goal

pub returns : goal.returns
returns c = parted
