use Rattle.std.proofs.Common.{◌≡◌, ◌≤◌, ◌-◌, true, length}
use Rattle.std.specs.List.{AllWithin}
use Rattle.version_chain.specs.Entry.{is_after}
use Rattle.version_chain.proofs.front.count_after.Given as goal

-- all entries so far passed
abbrev pub invariant-loop-count : goal.invariant-loop-count
invariant-loop-count g l = record {
  within : l.count ≤ length l.entries.items;
  passed : AllWithin (λ e. is_after l.t e ≡ true) l.entries.items 0 l.count;
}

abbrev pub decreases-loop-count : goal.decreases-loop-count
decreases-loop-count g l = length l.entries.items - l.count
