-- A query of an instant: the graph that the commits up to it left says what it comes to.
use Rattle.std.specs.Prelude.{◌≡◌, ◌<◌, ℕ, List, [], Bool, true, false, Result, Ok, Err}
use Rattle.cypher_syntax.specs.declared.tree.query.Query.{Query}
use Rattle.cypher_syntax.specs.declared.tree.query.Time.{Time}
use Rattle.cypher_syntax.specs.declared.tree.query.Time.TheVariants as time
use Rattle.graph_reader.specs.declared.shown.Shown.{Shown}
use Rattle.graph_record.specs.Graph.{Graph}
use Rattle.world_model.specs.declared.event.When.TheVariants.{At}
use Rattle.world_model.specs.History.{Entry}
use Rattle.world_model.specs.Sending.{OnlyReads, Sees}
use Rattle.world_model.specs.World.{Start}
use Rattle.query_run.specs.declared.stop.Stop.{Stop}
use Rattle.query_run.specs.declared.stop.Stop.TheVariants.{TimeAhead}
use Rattle.query_run.specs.Denoted.{denoted}
use Rattle.query_run.specs.Parts.{told, went}
use Rattle.query_run.specs.Running.{StopsBy}

-- a TT SNAPSHOT stands in the query
abbrev pub is_snapshot : Time → Bool
is_snapshot time.None = false
is_snapshot (time.Snapshot t) = true
is_snapshot (time.Between t1 t2) = false

-- The rows, or the stop, are those of the query on this graph, which asks for no write. Memory may have been wanting.
abbrev pub IsOn : Query → Graph → Result (List (List Shown)) Stop → Type 0
IsOn q g (Ok rows) = denoted q g [] ≡ told [] (went rows g [])
IsOn q g (Err why) = StopsBy (denoted q g []) [] why

-- the instant is past the start of the transaction, and the store is as it was
pub record IsAhead {S : Type 0} (t start : ℕ) (result : Result (List (List Shown)) Stop) (old new : S) : Type 0 where
  pub told : result ≡ Err (TimeAhead t start)
  pub untouched : new ≡ old

module _ {S : Type 0} (stands : S → Start → List Entry → Type 0) (caller : S → ℕ) (alone : S → Bool) (start : ℕ) where
  -- The query was asked of this instant. Its answer is that of the graph which the commits up to the instant left, in each
  -- history that the store stood for and in which its caller has the transaction open.
  pub record ShowsAt (t : ℕ) (q : Query) (old new : S) (result : Result (List (List Shown)) Stop) : Type 0 where
    pub ahead : start < t → IsAhead t start result old new
    pub on : (g : Graph) → Sees stands caller alone start (At t) old g → IsOn q g result
    pub reads : OnlyReads stands caller alone old new
