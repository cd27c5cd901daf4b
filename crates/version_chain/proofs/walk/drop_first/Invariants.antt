use Rattle.std.proofs.Common.{◌≡◌, drop}
use Rattle.version_chain.proofs.walk.drop_first.Given as goal

abbrev pub invariant-loop-i : goal.invariant-loop-i
invariant-loop-i g l = l.entries.items ≡ drop l._i l.initial.entries.items
