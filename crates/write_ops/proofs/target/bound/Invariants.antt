use Rattle.std.proofs.Common.{◌≡◌, drop}
use Rattle.write_ops.specs.Targets.{bound}
use Rattle.write_ops.proofs.target.bound.Given as goal

abbrev pub invariant-loop-known : goal.invariant-loop-known
invariant-loop-known l = bound (drop l.known-index l.row) l.name ≡ bound l.row l.name
