use Rattle.cypher_print.proofs.ReadBack.{schema_names}
use Rattle.cypher_print.proofs.laws.schema_names_are_read_back.Goals as goal

pub returns : goal.returns
returns c = schema_names
