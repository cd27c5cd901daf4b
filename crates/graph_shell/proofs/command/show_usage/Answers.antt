-- The usage line was written, or a front of it.
use Rattle.std.proofs.Common.{length, refl, arith, lit<}
use Rattle.wire_line.proofs.Told.{told_weaker}
use Rattle.graph_shell.specs.Commands.{usage_line}
use Rattle.graph_shell.proofs.command.show_usage.Goals as goal

pub returns-in-Ok : goal.returns-in-Ok
returns-in-Ok g c = record {
  statuses = (0, lit< tt, refl);
  whole = λ _. c.in-Ok.ensures.bytes;
  front = told_weaker (g.O.Sink.taken c.args.output.now) (g.O.Sink.taken c.write_whole.new.output) _ _ c.in-Ok.ensures.bytes
      (λ taken taken' all. (length usage_line, all));
  sink = λ four. absurd (omega (arith, four));
}
