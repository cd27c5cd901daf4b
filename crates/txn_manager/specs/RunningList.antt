-- The list of the open transactions.
use Rattle.std.specs.Prelude.{ℕ, Option, Some, None, List, [], ◌∷◌, ◌==◌, not, filter, if◌then◌else◌}
use Rattle.txn_manager.specs.declared.running.Running.{Running}

-- when the transaction of that caller began
abbrev pub start_of : List Running → ℕ → Option ℕ
start_of [] caller = None
start_of (t ∷ ts) caller = if t.caller == caller then Some t.start else start_of ts caller

-- the transactions of the other callers, in their order
abbrev pub without : ℕ → List Running → List Running
without caller ts = filter (λ t. not (t.caller == caller)) ts
