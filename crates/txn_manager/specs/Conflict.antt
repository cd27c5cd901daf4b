-- Who stands in the way of a write.
use Rattle.std.specs.Prelude.{ℕ, Option, Some, None, nat_lt, if◌then◌else◌}
use Rattle.txn_manager.specs.declared.rivals.Rival.{Rival}
use Rattle.txn_manager.specs.declared.rivals.Rival.TheVariants.{Running, Committed}

-- a commit later than the start of the writer, which therefore does not see it
abbrev pub unseen_commit : ℕ → Option ℕ → Option Rival
unseen_commit start None = None
unseen_commit start (Some ts) = if nat_lt start ts then Some (Committed ts) else None

-- another writer that still runs comes before any commit
abbrev pub rival_of : ℕ → Option ℕ → Option ℕ → Option Rival
rival_of start None newest_commit = unseen_commit start newest_commit
rival_of start (Some other) newest_commit = Some (Running other)
