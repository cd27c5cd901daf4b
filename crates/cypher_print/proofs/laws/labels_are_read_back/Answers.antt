use Rattle.cypher_print.proofs.LabelsRead.{labels_read}
use Rattle.cypher_print.proofs.laws.labels_are_read_back.Goals as goal

pub returns : goal.returns
returns c = labels_read
