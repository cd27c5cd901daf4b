-- The open transactions, each with what it has written.
use Rattle.std.specs.Prelude.{◌≡◌, ℕ, ◌+◌, List, [], ◌∷◌, ◌++◌, Option, Some, None, Bool, true, false, map, nat_eq, option_map, position, ◌==◌, if◌then◌else◌}
use Rattle.graph_value.specs.declared.id.Oid.{Oid}
use Rattle.txn_manager.specs.declared.running.Running.{Running}
use Rattle.txn_manager.specs.RunningList.{without}
use Rattle.txn_manager.specs.Transactions.{Transactions, IsReady}
use Rattle.front_core.specs.declared.transactions.Transaction.{Transaction}

-- the clock, and the open transactions in the order in which they began
pub record Book : Type 0 where
  pub clock : ℕ
  pub txns : List Transaction

abbrev pub running_of : Transaction → Running
running_of t = record { caller = t.caller; start = t.start }

-- the clock and the transactions without their writes
abbrev pub times_of : Book → Transactions
times_of b = record { clock = b.clock; running = map running_of b.txns }

-- the list of times is that of the transactions, and both are as they may be
pub record InStep (times : Transactions) (txns : List Transaction) : Type 0 where
  pub running : times.running ≡ map running_of txns
  pub ready : IsReady times

abbrev pub find_txn : List Transaction → ℕ → Option Transaction
find_txn [] caller = None
find_txn (t ∷ ts) caller = if nat_eq t.caller caller then Some t else find_txn ts caller

-- where the caller's transaction stands
abbrev pub place_in : List Transaction → ℕ → Option ℕ
place_in txns caller = position (λ t. t.caller == caller) txns

-- a transaction of the caller has begun at the clock, which rose by one
abbrev pub opened : Book → ℕ → Book
opened b caller = record { clock = b.clock + 1; txns = b.txns ++ record { caller = caller; start = b.clock; deltas = 0; written = [] } ∷ [] }

abbrev pub with_written : List Oid → Transaction → Transaction
with_written more t = record { caller = t.caller; start = t.start; deltas = t.deltas; written = t.written ++ more }

-- the caller's transaction has written these objects too, and all else stays
pub record Noted (old new : Book) (caller : ℕ) (more : List Oid) : Type 0 where
  pub times : times_of new ≡ times_of old
  pub places : (d : ℕ) → place_in new.txns d ≡ place_in old.txns d
  pub found : (d : ℕ) → find_txn new.txns d ≡ (if nat_eq caller d then option_map (with_written more) (find_txn old.txns d) else find_txn old.txns d)

-- the greatest number of deltas that can be counted
abbrev pub MOST_DELTAS : ℕ
MOST_DELTAS = 18446744073709551615

abbrev pub with_deltas : ℕ → Transaction → Transaction
with_deltas more t = record { caller = t.caller; start = t.start; deltas = t.deltas + more; written = t.written }

-- so many more deltas of the caller's transaction were counted, and all else stays
pub record Counted (old new : Book) (caller : ℕ) (more : ℕ) : Type 0 where
  pub times : times_of new ≡ times_of old
  pub found : (d : ℕ) → find_txn new.txns d ≡ (if nat_eq caller d then option_map (with_deltas more) (find_txn old.txns d) else find_txn old.txns d)

-- the caller's transaction is gone, and the others stay
pub record Closed (old new : Book) (caller now : ℕ) : Type 0 where
  pub clock : new.clock ≡ now
  pub running : map running_of new.txns ≡ without caller (map running_of old.txns)
  pub found : (d : ℕ) → find_txn new.txns d ≡ (if nat_eq caller d then None else find_txn old.txns d)

abbrev pub is_empty : List Oid → Bool
is_empty [] = true
is_empty (x ∷ xs) = false

-- the number of a transaction that ends: the clock where it has written, else its start
abbrev pub end_number : ℕ → Transaction → ℕ
end_number clock t = if is_empty t.written then t.start else clock
