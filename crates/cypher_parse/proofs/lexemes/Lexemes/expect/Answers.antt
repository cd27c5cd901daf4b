use Rattle.cypher_parse.proofs.Turns.{passes}
use Rattle.cypher_parse.proofs.lexemes.Lexemes.expect.Goals as goal

pub returns : goal.returns
returns c = passes c.args.kinds.now c.args.self.now c.pass.new.self (cc) c.pass.ensures
