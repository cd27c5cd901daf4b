-- The world: the clock, the id counters, the commits in order of time, and the open transactions with their writes.
use Rattle.std.specs.Prelude.{◌≡◌, ◌≢◌, ℕ, ◌≤◌, List, [], ◌∷◌, Option, Some, None, Bool, true, false, not, ◌&&◌, map, filter, nat_eq, nat_lt, nat_le, max, option_map, fold, if◌then◌else◌}
use Rattle.std.specs.List.{list_any, list_all, flat_map}
use Rattle.graph_value.specs.declared.id.Oid.{Oid}
use Rattle.graph_record.specs.Graph.{Graph, empty_graph}
use Rattle.world_model.specs.declared.TheConstants.{ID_END}
use Rattle.txn_manager.specs.declared.rivals.Rival.{Rival}
use Rattle.txn_manager.specs.Transactions.{Transactions, IsReady, mark_of}
use Rattle.txn_manager.specs.Conflict.{rival_of}
use Rattle.undo_delta.specs.Touch.{same_oid}
use Rattle.undo_delta.specs.declared.op.Op.{Op}
use Rattle.world_model.specs.Op.{apply_all, are_touching, are_sound, are_below}

-- the writes of one transaction, and the timestamp under which they stand
pub record Commit : Type 0 where
  pub ts : ℕ
  pub ops : List Op

-- an open transaction: who began it, the clock's reading at its begin, and its writes so far
pub record Txn : Type 0 where
  pub caller : ℕ
  pub start : ℕ
  pub ops : List Op

-- the deltas of an object below a mark have been moved into its history
pub record Install : Type 0 where
  pub x : Oid
  pub mark : ℕ

-- the world: and besides, how many deltas a block of history holds, and what was moved into history, the last first
pub record World : Type 0 where
  pub clock : ℕ
  pub vertices : ℕ
  pub edges : ℕ
  pub commits : List Commit
  pub running : List Txn
  pub interval : ℕ
  pub installs : List Install

-- the numbers that a store begins with
pub record Start : Type 0 where
  pub interval : ℕ
  pub clock : ℕ
  pub vertices : ℕ
  pub edges : ℕ

abbrev pub start_world : Start → World
start_world s = record { clock = s.clock; vertices = s.vertices; edges = s.edges; commits = []; running = []; interval = s.interval; installs = [] }

-- The cut of an object: its deltas below have been moved into its history.
abbrev pub cut_in : List Install → Oid → ℕ
cut_in [] x = 0
cut_in (i ∷ installs) x = if same_oid i.x x then i.mark else cut_in installs x

abbrev pub cut_of : World → Oid → ℕ
cut_of w x = cut_in w.installs x

-- all writes of the commits, in order
unfoldable pub ops_of : List Commit → List Op
ops_of commits = flat_map (λ c. c.ops) commits

-- the graph that the commits make of the empty one
abbrev pub fold_of : List Commit → Graph
fold_of commits = apply_all (ops_of commits) empty_graph

-- the commits below a timestamp
unfoldable pub before : ℕ → List Commit → List Commit
before t commits = filter (λ c. nat_lt c.ts t) commits

-- the graph at an instant: the fold of the commits up to it
abbrev pub graph_at : List Commit → ℕ → Graph
graph_at commits t = fold_of (filter (λ c. nat_le c.ts t) commits)

-- What a transaction sees: the commits before its start, and then its own writes.
abbrev pub view_of : World → Txn → Graph
view_of w p = apply_all p.ops (fold_of (before p.start w.commits))

-- the open transaction of a caller
unfoldable pub find_txn : List Txn → ℕ → Option Txn
find_txn [] caller = None
find_txn (p ∷ ps) caller = if nat_eq p.caller caller then Some p else find_txn ps caller

abbrev pub txn_of : World → ℕ → Option Txn
txn_of w caller = find_txn w.running caller

-- an open transaction besides the caller's that has written the object
unfoldable pub other_writer : List Txn → ℕ → Oid → Option Txn
other_writer [] caller x = None
other_writer (q ∷ qs) caller x = if not (nat_eq q.caller caller) && are_touching q.ops x then Some q else other_writer qs caller x

-- the greatest number of a list
abbrev pub greatest : List ℕ → Option ℕ
greatest [] = None
greatest (n ∷ ns) = Some (fold max n ns)

-- the timestamp of the newest commit that touches the object
unfoldable pub newest_touch : List Commit → Oid → Option ℕ
newest_touch commits x = greatest (map (λ c. c.ts) (filter (λ c. are_touching c.ops x) commits))

-- Who stands in the way of a transaction's write of the object: another open transaction that has written it,
-- else the newest commit that touches it, where that is above the transaction's start.
abbrev pub rival_at : World → Txn → Oid → Option Rival
rival_at w p x = rival_of p.start (option_map (λ q. q.start) (other_writer w.running p.caller x)) (newest_touch w.commits x)

-- the clock and the open transactions without their writes
abbrev pub transactions_of : World → Transactions
transactions_of w = record { clock = w.clock; running = map (λ p. record { caller = p.caller; start = p.start }) w.running }

-- The mark: the least start of the open transactions, or the clock where none is open. Nothing that is open, or begins
-- later, reads the store as it was before.
abbrev pub mark : World → ℕ
mark w = mark_of (transactions_of w)

-- whether a commit above the timestamp touches the object
unfoldable pub touched_after : ℕ → List Commit → Oid → Bool
touched_after t commits x = list_any (λ c. nat_lt t c.ts && are_touching c.ops x) commits

-- each number is above those before it
unfoldable pub rises : List ℕ → Bool
rises [] = true
rises (n ∷ ns) = list_all (nat_lt n) ns && rises ns

-- each timestamp is above those before it
unfoldable pub stamps_ascend : List Commit → Bool
stamps_ascend [] = true
stamps_ascend (c ∷ cs) = list_all (λ d. nat_lt c.ts d.ts) cs && stamps_ascend cs

-- What holds of every world that the store comes to.
pub record InOrder (w : World) : Type 0 where
  -- the clock is above each start, and has room for each open transaction to end; callers and starts differ
  pub ready : IsReady (transactions_of w)
  pub counters : (w.vertices ≤ ID_END) × (w.edges ≤ ID_END)
  pub ascending : stamps_ascend w.commits ≡ true
  pub stamped : list_all (λ c. nat_le 1 c.ts && nat_lt c.ts w.clock) w.commits ≡ true
  -- no start is a timestamp
  pub apart : (caller : ℕ) (p : Txn) → txn_of w caller ≡ Some p → list_any (λ c. nat_eq c.ts p.start) w.commits ≡ false
  -- no object is touched by two open transactions, and none by an open one and a commit above its start
  pub alone : (a b : ℕ) (p q : Txn) → txn_of w a ≡ Some p → txn_of w b ≡ Some q → a ≢ b → (x : Oid) → are_touching p.ops x ≡ true → are_touching q.ops x ≡ false
  pub unrivalled : (caller : ℕ) (p : Txn) → txn_of w caller ≡ Some p → (x : Oid) → are_touching p.ops x ≡ true → touched_after p.start w.commits x ≡ false
  -- ids are below the counters
  pub committed_below : are_below w.vertices w.edges (ops_of w.commits) ≡ true
  pub running_below : (caller : ℕ) (p : Txn) → txn_of w caller ≡ Some p → are_below w.vertices w.edges p.ops ≡ true
  -- each write is possible and changes the graph where it stands
  pub committed_sound : are_sound (ops_of w.commits) empty_graph ≡ true
  pub running_sound : (caller : ℕ) (p : Txn) → txn_of w caller ≡ Some p → are_sound p.ops (fold_of (before p.start w.commits)) ≡ true
