use Rattle.std.proofs.Common.{◌≡◌, drop}
use Rattle.cypher_check.specs.Names.{add_all}
use Rattle.cypher_check.proofs.names.lists.add_all.Given as goal

abbrev pub invariant-loop-name : goal.invariant-loop-name
invariant-loop-name l = add_all l.names (drop l.name-index l.more) ≡ add_all l.fn.names l.more
