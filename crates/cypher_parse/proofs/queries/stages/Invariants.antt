use Rattle.std.proofs.Common.{◌≡◌, length}
use Rattle.cypher_parse.proofs.Stages.{regathered, all_stages}
use Rattle.cypher_parse.proofs.queries.stages.Given as goal

abbrev pub invariant-loop-alloc : goal.invariant-loop-alloc
invariant-loop-alloc l = all_stages l.fn.tokens ≡ regathered l.stages l.behind l.tokens

abbrev pub decreases-loop-alloc : goal.decreases-loop-alloc
decreases-loop-alloc l = length l.tokens
