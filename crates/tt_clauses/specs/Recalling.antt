-- Reading a store's past: the graph at each instant up to a transaction's start.
use Rattle.std.specs.Prelude.{ℕ, ◌≤◌, Bool, List}
use Rattle.graph_record.specs.Graph.{Graph}
use Rattle.world_model.specs.declared.event.When.TheVariants.{At}
use Rattle.world_model.specs.History.{Entry, run}
use Rattle.world_model.specs.Sending.{IsSeen, OnlyReads}
use Rattle.world_model.specs.World.{Start, start_world}

module _ {S : Type 0} (stands : S → Start → List Entry → Type 0) (caller : S → ℕ) (alone : S → Bool) where
  -- in some history that the store stands for, the caller's transaction with this start has these graphs at the instants
  pub record Recalls (start : ℕ) (store : S) (graphs : ℕ → Graph) : Type 0 where
    pub begin : Start
    pub entries : List Entry
    pub stood : stands store begin entries
    pub seen : (t : ℕ) → t ≤ start → IsSeen (run (start_world begin) entries) (caller store) start (At t) (graphs t)

  -- what is said of an answer holds by all graphs that the store recalled; the caller has only read
  pub record Tells {R : Type 0} (start : ℕ) (says : (ℕ → Graph) → R → Type 0) (old new : S) (result : R) : Type 0 where
    pub answers : (graphs : ℕ → Graph) → Recalls start old graphs → says graphs result
    pub reads : OnlyReads stands caller alone old new
