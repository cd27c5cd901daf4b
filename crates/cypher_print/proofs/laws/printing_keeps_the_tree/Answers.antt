use Rattle.cypher_print.specs.QueryText.{query_text}
use Rattle.cypher_print.proofs.PrintedRead.{printed}
use Rattle.cypher_print.proofs.laws.printing_keeps_the_tree.Goals as goal

pub returns-clause-at_each_depth : goal.returns-clause-at_each_depth
returns-clause-at_each_depth c = printed

pub returns-clause-parsed : goal.returns-clause-parsed
returns-clause-parsed c = λ text q is. c.only_the_tree.ensures (query_text q) q (printed 64 text q is)
