-- What one step of a sweep does to the sweep and to the store.
use Rattle.std.specs.Prelude.{◌≡◌, ℕ, List, ◌∷◌, ◌++◌, Option, Some, None, Bool, ◌⊎◌, Result, Ok, IfOk}
use Rattle.std.specs.declared.alloc.AllocError.{AllocError}
use Rattle.world_model.specs.declared.event.Event.{Event}
use Rattle.world_model.specs.History.{Entry}
use Rattle.world_model.specs.Pieces.{LiftedParts}
use Rattle.world_model.specs.Reply.{Reply}
use Rattle.world_model.specs.Reply as reply
use Rattle.world_model.specs.Sending.{Sends}
use Rattle.world_model.specs.World.{Start}
use Rattle.collector.specs.Left.{left_of}
use Rattle.collector.specs.Sweeping.{Stage, asks, turn}
use Rattle.collector.specs.declared.progress.Progress.{Progress}
use Rattle.collector.specs.declared.progress.Progress.TheVariants as progress
use Rattle.collector.specs.declared.sweep.Sweep.{Sweep}

abbrev pub stage_of : Sweep → Stage
stage_of s = record { begun = s.begun; left = left_of s.left; kept = s.kept }

-- the progress is told, or the error that memory was wanting
abbrev pub Tells : Option Progress → Result Progress AllocError → Type 0
Tells (Some p) result = result ≡ Ok p
Tells None result = IfOk result (λ p. ⊥)

-- an entry of the history told this of a lift
pub record IsLiftedIn (es : List Entry) (l : LiftedParts) : Type 0 where
  pub early : List Entry
  pub entry : Entry
  pub late : List Entry
  pub parts : es ≡ early ++ entry ∷ late
  pub answered : entry.reply ≡ reply.Lifted l

module _ {S : Type 0} (stands : S → Start → List Entry → Type 0) where
  -- some history that the store stands for has told what was lifted
  pub record IsLiftedOf (store : S) (l : LiftedParts) : Type 0 where
    pub start : Start
    pub entries : List Entry
    pub stood : stands store start entries
    pub of : IsLiftedIn entries l

  -- what the sweep keeps is of the store
  abbrev pub IsKept : Option LiftedParts → S → Type 0
  IsKept None store = Unit {0}
  IsKept (Some l) store = IsLiftedOf store l

module _ {S : Type 0} (stands : S → Start → List Entry → Type 0) (caller : S → ℕ) (alone : S → Bool) where
  -- no object is left: nothing is sent, and nothing changes
  pub record HasEnded (old new : Stage) (store after : S) (result : Result Progress AllocError) : Type 0 where
    pub mark : ℕ
    pub begun : old.begun ≡ Some mark
    pub done : asks old ≡ None
    pub told : result ≡ Ok (progress.End mark)
    pub stage : new ≡ old
    pub same_store : after ≡ store

  -- one event was sent, and its answer is told
  pub record HasAsked (old new : Stage) (store after : S) (result : Result Progress AllocError) : Type 0 where
    pub event : Event
    pub reply : Reply
    pub asked : asks old ≡ Some event
    pub sent : Sends stands caller alone event reply store after
    pub told : Tells (turn old reply).progress result
    pub stage : new ≡ (turn old reply).stage

  -- what was lifted found no memory to be built, and is to be lifted again; nothing was sent
  pub record HasNotBuilt (old new : Stage) (store after : S) (result : Result Progress AllocError) : Type 0 where
    pub lifted : LiftedParts
    pub kept : old.kept ≡ Some lifted
    pub told : IfOk result (λ p. ⊥)
    pub stage : new ≡ record old { kept = None }
    pub same_store : after ≡ store

  abbrev pub Advances : Stage → Stage → S → S → Result Progress AllocError → Type 0
  Advances old new store after result =
      HasEnded old new store after result ⊎ (HasAsked old new store after result ⊎ HasNotBuilt old new store after result)
