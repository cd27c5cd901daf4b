-- What a whole sweep does to a store, and what it tells.
use Rattle.std.specs.Prelude.{◌≡◌, ℕ, List, ◌++◌, Bool, true, None, Result, IfOk, filter, length, min, nat_eq}
use Rattle.std.specs.declared.alloc.AllocError.{AllocError}
use Rattle.world_model.specs.History.{Entry}
use Rattle.world_model.specs.Placement.{expired, sum_over}
use Rattle.world_model.specs.World.{Start, World, mark}
use Rattle.collector.specs.Sweeping.{AreAsked, asks, fresh, nothing_yet, stage_after, sum_after}
use Rattle.collector.specs.declared.progress.Swept.{Swept}
use Rattle.collector.specs.declared.progress.TheConstants.{MOST}

-- the entries of one caller
unfoldable pub own_of : ℕ → List Entry → List Entry
own_of caller es = filter (λ e. nat_eq e.caller caller) es

-- A sweep that asked these has nothing left to ask, and this is what it added up.
pub record IsSumOf (own : List Entry) (swept : Swept) : Type 0 where
  pub done : asks (stage_after fresh own) ≡ None
  pub sums : swept ≡ sum_after fresh nothing_yet own

-- A history went on, and of what is new the caller's own entries are those of a sweep, one after the other. Where nobody
-- else acts there are no others.
pub record SweepsOn (alone : Bool) (caller : ℕ) (es more : List Entry) (result : Result Swept AllocError) : Type 0 where
  pub later : List Entry
  pub parts : more ≡ es ++ later
  pub nobody : alone ≡ true → own_of caller later ≡ later
  pub asked : AreAsked fresh (own_of caller later)
  pub told : IfOk result (IsSumOf (own_of caller later))

-- Each history that the store stood for has gone on with a whole sweep, or with the begin of one where memory was wanting.
pub record Sweeps {S : Type 0} (stands : S → Start → List Entry → Type 0) (caller : S → ℕ) (alone : S → Bool) (old new : S) (result : Result Swept AllocError) : Type 0 where
  pub goes_on : (s : Start) (es : List Entry) → stands old s es →
      (more : List Entry) × SweepsOn (alone old) (caller old) es more result × stands new s more
  pub same_caller : caller new ≡ caller old
  pub same_alone : alone new ≡ alone old

-- what a sweep that nobody disturbs adds up: all that has expired of each object
abbrev pub all_moved : World → Swept
all_moved w = record { mark = mark w; moved = min (sum_over w (λ x. length (expired w x))) MOST; stale = 0 }
