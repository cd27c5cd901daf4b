use Rattle.std.proofs.Common.{◌≡◌, drop}
use Rattle.row_ops.specs.Names.{found}
use Rattle.row_ops.proofs.names.row_value.Given as goal

abbrev pub invariant-loop-known : goal.invariant-loop-known
invariant-loop-known l = found (drop l.known-index l.row) l.name ≡ found l.row l.name
