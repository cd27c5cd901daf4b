use Rattle.cypher_parse.specs.Expressions.{Expression}
use Rattle.cypher_print.proofs.UpdatesRead.{updating}
use Rattle.cypher_print.proofs.laws.updates_are_read_back.Goals as goal

pub returns : goal.returns
returns c = λ m u behind is parts. (updating (Expression m) u is).reads behind parts
