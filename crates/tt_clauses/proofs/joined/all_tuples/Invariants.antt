use Rattle.std.proofs.Common.{◌≡◌, drop}
use Rattle.std.specs.Prelude.{fold}
use Rattle.tt_clauses.specs.Seen.{all_seen, with_seen}
use Rattle.tt_clauses.proofs.joined.all_tuples.Given as goal

abbrev pub invariant-loop-tuples : goal.invariant-loop-tuples
invariant-loop-tuples l = all_seen l.instants ≡ fold with_seen l.all (drop l.tuples-index l.instants)
