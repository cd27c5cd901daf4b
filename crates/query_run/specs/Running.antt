-- A part of a query that is run on a store: what was asked and answered is what the part says, in each history that the
-- store stood for.
use Rattle.std.specs.Prelude.{◌≡◌, ℕ, List, [], ◌∷◌, ◌++◌, Bool, true, false, not, Result, Ok, Err, nat_eq, if◌then◌else◌}
use Rattle.std.specs.List.{list_all, flat_map}
use Rattle.graph_record.specs.Graph.{Graph}
use Rattle.undo_delta.specs.declared.ask.Ask.{Ask}
use Rattle.world_model.specs.declared.event.Event.{Event}
use Rattle.world_model.specs.declared.event.Event.TheVariants as event
use Rattle.world_model.specs.declared.event.When.TheVariants.{Own}
use Rattle.world_model.specs.History.{Entry, run}
use Rattle.world_model.specs.Reply.{Reply}
use Rattle.world_model.specs.Sending.{IsSeen}
use Rattle.world_model.specs.World.{Start, start_world}
use Rattle.expr_eval.specs.declared.refused.EvalRefused.TheVariants as eval
use Rattle.query_run.specs.declared.stop.Stop.{Stop}
use Rattle.query_run.specs.declared.stop.Stop.TheVariants as stop
use Rattle.query_run.specs.Parts.{Part, Told, behind, given, told}

-- WHAT A CALLER HAS WRITTEN

abbrev pub ask_in : Event → List Ask
ask_in event.Begin = []
ask_in (event.Next kind after when) = []
ask_in (event.Read x when) = []
ask_in (event.Write a) = a ∷ []
ask_in event.Commit = []
ask_in event.Abort = []
ask_in event.Mark = []
ask_in (event.Lift x) = []
ask_in (event.Install piece) = []
ask_in event.Stats = []

-- the writes that a caller asked for, and what was answered to them
abbrev pub own_ask : ℕ → Entry → List Ask
own_ask caller e = if nat_eq e.caller caller then ask_in e.event else []

abbrev pub answer_in : Reply → Event → List Reply
answer_in r event.Begin = []
answer_in r (event.Next kind after when) = []
answer_in r (event.Read x when) = []
answer_in r (event.Write a) = r ∷ []
answer_in r event.Commit = []
answer_in r event.Abort = []
answer_in r event.Mark = []
answer_in r (event.Lift x) = []
answer_in r (event.Install piece) = []
answer_in r event.Stats = []

abbrev pub own_answer : ℕ → Entry → List Reply
own_answer caller e = if nat_eq e.caller caller then answer_in e.reply e.event else []

unfoldable pub asks_of : ℕ → List Entry → List Ask
asks_of caller es = flat_map (own_ask caller) es

unfoldable pub answers_of : ℕ → List Entry → List Reply
answers_of caller es = flat_map (own_answer caller) es

abbrev pub is_running : Event → Bool
is_running event.Begin = false
is_running (event.Next kind after when) = true
is_running (event.Read x when) = true
is_running (event.Write a) = true
is_running event.Commit = false
is_running event.Abort = false
is_running event.Mark = false
is_running (event.Lift x) = false
is_running (event.Install piece) = false
is_running event.Stats = false

-- An entry that may come while a query runs: one of its caller's that reads or writes, or any of others where these act.
abbrev pub may_come : Bool → ℕ → Entry → Bool
may_come alone caller e = if nat_eq e.caller caller then is_running e.event else not alone

unfoldable pub may_all_come : Bool → ℕ → List Entry → Bool
may_all_come alone caller es = list_all (may_come alone caller) es

-- WHAT IS SAID OF A CALL

-- the first list is the beginning of the other one
pub record IsFront {A : Type 0} (front whole : List A) : Type 0 where
  pub more : List A
  pub parts : whole ≡ front ++ more

-- Where memory was wanting, what was asked until then is the beginning of what the part asks; another stop is the part's.
abbrev pub StopsBy : {A : Type 0} → Told A → List Ask → Stop → Type 0
StopsBy t asks (stop.Eval eval.NoMemory) = IsFront asks t.asks
StopsBy t asks why = t ≡ told asks (Err why)

-- one history that the store stood for, with this graph for its caller's transaction
module _ {S : Type 0} (stands : S → Start → List Entry → Type 0) (caller : ℕ) (alone : Bool) (start : ℕ) where
  -- What came behind it, and the graph that the transaction means now. What the whole part says of all answers is what
  -- was asked and answered, and then what the part that is left says of the others.
  pub record Added {A : Type 0} (whole left : Part A) (now : S) (s : Start) (es : List Entry) (g : Graph) : Type 0 where
    pub later : List Entry
    pub graph : Graph
    pub stood : stands now s (es ++ later)
    pub come : may_all_come alone caller later ≡ true
    pub seen : IsSeen (run (start_world s) (es ++ later)) caller start Own graph
    pub same : (answers : List Reply) → whole g (answers_of caller later ++ answers) ≡ behind (asks_of caller later) (left graph answers)

  -- what came behind it until the part stopped
  pub record AddedLast {A : Type 0} (whole : Part A) (why : Stop) (new : S) (s : Start) (es : List Entry) (g : Graph) : Type 0 where
    pub later : List Entry
    pub stood : stands new s (es ++ later)
    pub come : may_all_come alone caller later ≡ true
    pub says : StopsBy (whole g (answers_of caller later)) (asks_of caller later) why

module _ {S : Type 0} (stands : S → Start → List Entry → Type 0) (caller : S → ℕ) (alone : S → Bool) (start : ℕ) where
  -- on the way, in each history that the store stood for and in which its caller has the transaction open
  pub record Goes {A : Type 0} (whole left : Part A) (old now : S) : Type 0 where
    pub adds : (s : Start) (es : List Entry) (g : Graph) → stands old s es →
        IsSeen (run (start_world s) es) (caller old) start Own g →
        Added stands (caller old) (alone old) start whole left now s es g
    pub same_caller : caller now ≡ caller old
    pub same_alone : alone now ≡ alone old

  -- the same, where the part has stopped
  pub record Stops {A : Type 0} (whole : Part A) (why : Stop) (old new : S) : Type 0 where
    pub adds : (s : Start) (es : List Entry) (g : Graph) → stands old s es →
        IsSeen (run (start_world s) es) (caller old) start Own g →
        AddedLast stands (caller old) (alone old) start whole why new s es g
    pub same_caller : caller new ≡ caller old
    pub same_alone : alone new ≡ alone old

  -- the part was run: it has come to this value, or has stopped
  abbrev pub Runs : {A : Type 0} → Part A → S → S → Result A Stop → Type 0
  Runs whole old new (Ok a) = Goes whole (given a) old new
  Runs whole old new (Err why) = Stops whole why old new
