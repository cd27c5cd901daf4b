-- The clock and the open transactions.
use Rattle.std.specs.Prelude.{◌≢◌, ℕ, Bool, ◌+◌, ◌<◌, ◌≤◌, min, Option, Some, None, is_some, List, [], ◌∷◌, ◌++◌, length, fold, All, AllPairs, nat_lt, nat_le, if◌then◌else◌}
use Rattle.txn_manager.specs.RunningList.{start_of}
use Rattle.txn_manager.specs.declared.TheConstants.{CLOCK_END, MOST_OPEN}
use Rattle.txn_manager.specs.declared.running.Running.{Running}
use Rattle.txn_manager.specs.declared.refusals.BeginRefused.{BeginRefused}
use Rattle.txn_manager.specs.declared.refusals.BeginRefused.TheVariants.{AlreadyOpen, TooMany, ClockEnd}

-- the clock, and the open transactions in the order in which they began
pub record Transactions : Type 0 where
  pub clock : ℕ
  pub running : List Running

-- what holds of every clock and list that the store has
pub record IsReady (s : Transactions) : Type 0 where
  pub begun : 1 ≤ s.clock
  -- each open transaction can still be finished at a time of its own
  pub room : s.clock + length s.running ≤ CLOCK_END
  pub few : length s.running ≤ MOST_OPEN
  pub started : All (λ t. 1 ≤ t.start) s.running
  pub past : All (λ t. t.start < s.clock) s.running
  pub ascending : AllPairs (λ t u. t.start < u.start) s.running
  pub apart : AllPairs (λ t u. t.caller ≢ u.caller) s.running

-- why a caller cannot begin a transaction, if memory is not wanting
abbrev pub begin_refusal : Transactions → ℕ → Option BeginRefused
begin_refusal s caller =
    if is_some (start_of s.running caller) then Some AlreadyOpen
    else if nat_le MOST_OPEN (length s.running) then Some TooMany
    else if nat_lt CLOCK_END (s.clock + length s.running + 2) then Some ClockEnd
    else None

-- a transaction of the caller has begun at the clock, which rose by one
abbrev pub begun : Transactions → ℕ → Transactions
begun s caller =
    record { clock = s.clock + 1; running = s.running ++ record { caller = caller; start = s.clock } ∷ [] }

-- the clock after a transaction ended: it rises where something was written
abbrev pub clock_after_end : Bool → ℕ → ℕ
clock_after_end wrote clock = if wrote then clock + 1 else clock

-- the least start of the list, or the clock where it is empty
abbrev pub least_start : ℕ → List Running → ℕ
least_start clock [] = clock
least_start clock (t ∷ ts) = fold (λ least u. min least u.start) t.start ts

-- the time before which nothing that is open, or begins later, reads the store
abbrev pub mark_of : Transactions → ℕ
mark_of s = least_start s.clock s.running
