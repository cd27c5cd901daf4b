use Rattle.std.proofs.Common.{◌≡◌, ◌≤◌, ◌++◌, length, take, drop, ℕ}
use Rattle.wire_line.specs.Calls.{WhereTaken}
use Rattle.wire_line.specs.Offers.{Offers}
use Rattle.wire_line.proofs.whole.write_whole.Given as goal

abbrev pub invariant-loop-rest : goal.invariant-loop-rest
invariant-loop-rest g l = record {
  offers : Offers g.O.Sink.writes l.initial.output l.text l.output l.rest;
  bytes : (n : ℕ) × (l.rest ≡ drop n l.text) × WhereTaken g.O.Sink l.initial.output l.output (λ taken taken'. taken' ≡ taken ++ take n l.text);
  faults : g.O.Sink.faults l.initial.output ≤ g.O.Sink.faults l.output;
}

abbrev pub decreases-loop-rest : goal.decreases-loop-rest
decreases-loop-rest g l = length l.rest
