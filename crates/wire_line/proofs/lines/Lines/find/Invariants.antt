use Rattle.std.proofs.Common.{◌≡◌, ◌-◌, ◌≤◌, false, length, take}
use Rattle.wire_line.specs.Lines.{HasNoEnd}
use Rattle.wire_line.specs.Calls.{Reads, WhereLeft}
use Rattle.wire_line.specs.Intake.{StillAhead}
use Rattle.wire_line.specs.declared.line.TheConstants.{INPUT_LIMIT}
use Rattle.wire_line.proofs.lines.Lines.find.Given as goal

abbrev pub invariant-fill : goal.invariant-fill
invariant-fill g l = record {
  limit : l.self.taken ≤ INPUT_LIMIT;
  none : HasNoEnd l.self.waiting;
  reads : Reads g.I.Source l.initial.input l.input l.initial.self l.self;
  ahead : WhereLeft g.I.Source l.initial.input l.input (StillAhead l.initial.self l.self);
  waits : l.self.passing ≡ false → take (length l.initial.self.waiting) l.self.waiting ≡ l.initial.self.waiting;
}

abbrev pub decreases-fill : goal.decreases-fill
decreases-fill g l = INPUT_LIMIT - l.self.taken
