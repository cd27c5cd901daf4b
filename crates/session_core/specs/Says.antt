-- What a line does to a history: which entries come behind it.
use Rattle.std.specs.Prelude.{◌≡◌, ◌⊎◌, ℕ, List, [], ◌∷◌, ◌++◌, Option, Some, None, Bool, true}
use Rattle.collector.specs.Whole.{own_of}
use Rattle.world_model.specs.declared.event.Event.{Event}
use Rattle.world_model.specs.declared.event.Event.TheVariants as event
use Rattle.world_model.specs.History.{Entry}
use Rattle.world_model.specs.Reply.{Reply}
use Rattle.world_model.specs.Reply as reply
use Rattle.world_model.specs.World.{Start}

-- WORDS OF WHAT CAME BEHIND A HISTORY, for a caller

-- a word of a caller, the numbers that the store began with, the history before, and what came behind it
abbrev pub Says : Type 1
Says = ℕ → Start → List Entry → List Entry → Type 0

abbrev pub entry_of : ℕ → Event → Reply → Entry
entry_of caller e r = record { caller = caller; event = e; reply = r }

-- nothing of it is the caller's
abbrev pub Nothing : Says
Nothing caller s es later = own_of caller later ≡ []

-- the caller has sent this event alone, which was answered so
abbrev pub Sent : Event → Reply → Says
Sent e r caller s es later = own_of caller later ≡ entry_of caller e r ∷ []

-- one thing, and behind it another
pub record Then (first second : Says) (caller : ℕ) (s : Start) (es later : List Entry) : Type 0 where
  pub front : List Entry
  pub rest : List Entry
  pub parts : later ≡ front ++ rest
  pub before : first caller s es front
  pub behind : second caller s (es ++ front) rest

-- one thing or another
abbrev pub Or : Says → Says → Says
Or one other caller s es later = one caller s es later ⊎ other caller s es later

-- the open transaction is aborted, where there is one
abbrev pub Aborts : Option ℕ → Says
Aborts None = Nothing
Aborts (Some start) = Sent event.Abort reply.Aborted

-- WORDS OF A STORE

-- One history has gone on so. Where nobody else acts, all that came is the caller's.
pub record Adds (stands : Start → List Entry → Type 0) (alone : Bool) (says : Says) (caller : ℕ) (s : Start) (es : List Entry) : Type 0 where
  pub later : List Entry
  pub stood : stands s (es ++ later)
  pub nobody : alone ≡ true → own_of caller later ≡ later
  pub said : says caller s es later

module _ {S : Type 0} (stands : S → Start → List Entry → Type 0) (caller : S → ℕ) (alone : S → Bool) where
  -- each history that the store stood for has gone on so
  pub record Acts (says : Says) (old new : S) : Type 0 where
    pub adds : (s : Start) (es : List Entry) → stands old s es → Adds (stands new) (alone old) says (caller old) s es
    pub same_caller : caller new ≡ caller old
    pub same_alone : alone new ≡ alone old
