use Rattle.std.proofs.Common.{◌≡◌, take, fold}
use Rattle.version_chain.specs.Parts.{deltas_of}
use Rattle.front_core.specs.Outlines.{outline_of, outline_after}
use Rattle.front_core.proofs.row.Row.outline_at.Given as goal

-- the first deltas are undone
abbrev pub invariant-loop-i : goal.invariant-loop-i
invariant-loop-i l = l.outline ≡ fold outline_after (outline_of l.self.newest) (take l.i (deltas_of l.self.chain))
