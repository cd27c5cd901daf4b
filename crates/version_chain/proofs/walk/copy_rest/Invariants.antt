use Rattle.std.proofs.Common.{◌≡◌, ◌++◌, drop}
use Rattle.std.specs.List.{filter_map}
use Rattle.version_chain.specs.Entry.{dated}
use Rattle.version_chain.proofs.walk.copy_rest.Given as goal

-- what is copied, and what is still to come
abbrev pub invariant-loop-i : goal.invariant-loop-i
invariant-loop-i g l =
    l.deltas ++ filter_map dated (drop l.i l.entries.items) ≡ filter_map dated (drop l.from l.entries.items)
