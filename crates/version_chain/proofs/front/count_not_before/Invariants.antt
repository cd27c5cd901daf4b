use Rattle.std.proofs.Common.{◌≡◌, ◌≤◌, true, length}
use Rattle.std.specs.List.{AllWithin}
use Rattle.version_chain.specs.Entry.{is_before}
use Rattle.version_chain.proofs.front.count_not_before.Given as goal

-- all entries that were read are before the mark
abbrev pub invariant-loop-count : goal.invariant-loop-count
invariant-loop-count g l = record {
  within : l.count ≤ length l.entries.items;
  passed : AllWithin (λ e. is_before l.mark e ≡ true) l.entries.items l.count (length l.entries.items);
}

abbrev pub decreases-loop-count : goal.decreases-loop-count
decreases-loop-count g l = l.count
