use Rattle.std.proofs.Common.{◌≡◌, ◌+◌, ◌≤◌, length}
use Rattle.wire_line.specs.declared.line.TheConstants.{INPUT_LIMIT}
use Rattle.wire_line.specs.Calls.{SameInput, WhereLeft, WhereTaken}
use Rattle.line_run.proofs.SoFar.{SoFar}
use Rattle.line_run.proofs.run.answer_lines.Given as goal

abbrev pub invariant-loop : goal.invariant-loop
invariant-loop g l = record {
  bytes : WhereLeft g.I.Source l.fn.input l.input (λ list left. WhereTaken g.O.Sink l.fn.output l.output (SoFar g.A.Answering l.fn.answering l.answering l.lines left list));
  taken : WhereLeft g.I.Source l.fn.input l.input (λ list left. length left + l.lines.taken ≡ length list);
  same_input : SameInput g.I.Source l.fn.input l.input;
  within : l.lines.taken ≤ INPUT_LIMIT;
  source : g.I.Source.faults l.fn.input ≤ g.I.Source.faults l.input;
  sink : g.O.Sink.faults l.fn.output ≤ g.O.Sink.faults l.output;
}
