use Rattle.std.proofs.Common.{◌≡◌, drop}
use Rattle.write_ops.specs.Placing.{given}
use Rattle.write_ops.proofs.placing.given.Given as goal

abbrev pub invariant-loop-known : goal.invariant-loop-known
invariant-loop-known l = given (drop l.known-index l.names) l.name ≡ given l.names l.name
