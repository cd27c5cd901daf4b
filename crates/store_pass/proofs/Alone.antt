-- A core that one caller has for itself goes on with that caller's entries alone.
use Rattle.std.proofs.Common.{◌≡◌, ℕ, List, [], ◌∷◌, ◌++◌, Some, None, true, refl, sym, ap, subst, ◌∙◌, inl}
use Rattle.std.proofs.lemmas.List.{append-nil}
use Rattle.world_model.specs.declared.answer.Refused.{Refused}
use Rattle.world_model.specs.declared.answer.Refused.TheVariants.{NoTxn, AlreadyOpen, Missing, Conflict, HasEdges, TimeAhead, ClockEnd, Stale, TooMany, IdEnd, NoMemory}
use Rattle.world_model.specs.declared.event.Event.{Event}
use Rattle.world_model.specs.declared.event.Event.TheVariants as event
use Rattle.world_model.specs.History.{Entry, IsAnswered, MayStand, run, world_after}
use Rattle.world_model.specs.Reply.{Reply}
use Rattle.world_model.specs.Reply as reply
use Rattle.world_model.specs.Sending.{GoesOn, IsReadRefused, Sends, open_start}
use Rattle.world_model.specs.World.{Start, World, start_world}
use Rattle.world_model.proofs.Histories.{run-append}
use Rattle.world_model.proofs.Opened.{abort_answers, abort_ends, begun_opens, commit_answers, commit_ends, entry_keeps, keeps_open, refused_begin_leaves}
use Rattle.front_core.specs.Keeps.{StandsFor, StandsForSome, open_in}
use Rattle.front_core.specs.declared.state.State.{State}
use Rattle.front_core.proofs.Stepping.{open_is}
use Rattle.store_pass.specs.declared.solo.Solo.{Solo}

abbrev pub entry : ℕ → Event → Reply → Entry
entry c e r = record { caller = c; event = e; reply = r }

-- one step of the core: each history goes on with this entry
abbrev pub Steps : State → State → ℕ → Event → Reply → Type 0
Steps old new c e r = (s : Start) (es : List Entry) → StandsFor s old es → MayStand es e → StandsFor s new (es ++ entry c e r ∷ [])

pub retold : (old new : State) (c : ℕ) (e : Event) (r q : Reply) → r ≡ q → Steps old new c e r → Steps old new c e q
retold old new c e r q same steps = subst (Steps old new c e) same steps

goes_alone : (e : Entry) (es : List Entry) → GoesOn true e es (es ++ e ∷ [])
unfolding Rattle.world_model.specs.Sending.are_of_others
goes_alone e es = record { others = []; parts = ap (λ os. os ++ e ∷ []) (sym (append-nil es)); apart = refl; nobody = λ yes. refl }

-- one step of the core is one event of the caller
pub sends : (old new : Solo) (e : Event) (r : Reply) → new.caller ≡ old.caller → StandsForSome old.core →
    Steps old.core new.core old.caller e r →
    Sends (λ (k : Solo) s es. StandsFor s k.core es) (λ (k : Solo). k.caller) (λ (k : Solo). true) e r old new
sends old new e r same some steps = record {
  goes_on = λ s es st may. (es ++ entry old.caller e r ∷ [], goes_alone (entry old.caller e r) es, steps s es st may);
  some = record { start = some.start; entries = some.entries; stood = some.stood };
  same_caller = same;
  same_alone = refl;
}

-- ---- the caller's open transaction

module _ (s : Start) (old new : State) (es : List Entry) (c : ℕ) (e : Event) (r : Reply) (before : StandsFor s old es) (behind : StandsFor s new (es ++ entry c e r ∷ [])) where
  abbrev now : World
  now = run (start_world s) es

  -- it is that of the world behind the entry
  behind_is : open_in new c ≡ open_start (world_after now (entry c e r)) c
  behind_is = sym (open_is new (run (start_world s) (es ++ entry c e r ∷ [])) c behind.keeps) ∙ ap (λ (w : World). open_start w c) (run-append (start_world s) es (entry c e r))

  pub open_stays : keeps_open e ≡ true → open_in new c ≡ open_in old c
  open_stays h = behind_is ∙ entry_keeps now (entry c e r) h ∙ open_is old now c before.keeps

pub open_begun : (s : Start) (old new : State) (es : List Entry) (c start : ℕ) → StandsFor s old es → StandsFor s new (es ++ entry c event.Begin (reply.Begun start) ∷ []) →
    IsAnswered (run (start_world s) es) (entry c event.Begin (reply.Begun start)) → open_in new c ≡ Some start
open_begun s old new es c start before behind answered = behind_is s old new es c event.Begin (reply.Begun start) before behind ∙ begun_opens (run (start_world s) es) c start answered

pub open_refused : (s : Start) (old new : State) (es : List Entry) (c : ℕ) (why : Refused) → StandsFor s old es → StandsFor s new (es ++ entry c event.Begin (reply.Refused why) ∷ []) →
    IsAnswered (run (start_world s) es) (entry c event.Begin (reply.Refused why)) → open_in new c ≡ open_in old c
open_refused s old new es c why before behind answered =
    behind_is s old new es c event.Begin (reply.Refused why) before behind
    ∙ ap (λ (w : World). open_start w c) (refused_begin_leaves (run (start_world s) es) c why answered)
    ∙ open_is old (run (start_world s) es) c before.keeps

pub open_committed : (s : Start) (old new : State) (es : List Entry) (c ts : ℕ) → StandsFor s old es → StandsFor s new (es ++ entry c event.Commit (reply.Committed ts) ∷ []) →
    IsAnswered (run (start_world s) es) (entry c event.Commit (reply.Committed ts)) → open_in new c ≡ None
open_committed s old new es c ts before behind answered = behind_is s old new es c event.Commit (reply.Committed ts) before behind ∙ commit_ends (run (start_world s) es) c ts answered

pub open_aborted : (s : Start) (old new : State) (es : List Entry) (c : ℕ) → StandsFor s old es → StandsFor s new (es ++ entry c event.Abort reply.Aborted ∷ []) →
    IsAnswered (run (start_world s) es) (entry c event.Abort reply.Aborted) → open_in new c ≡ None
open_aborted s old new es c before behind answered = behind_is s old new es c event.Abort reply.Aborted before behind ∙ abort_ends (run (start_world s) es) c answered

-- ---- what is answered where it is open

pub commit_told : (s : Start) (old : State) (es : List Entry) (c start : ℕ) (r : Reply) → StandsFor s old es → open_in old c ≡ Some start →
    IsAnswered (run (start_world s) es) (entry c event.Commit r) → (ts : ℕ) × (r ≡ reply.Committed ts)
commit_told s old es c start r before found answered = commit_answers (run (start_world s) es) c start r answered (open_is old (run (start_world s) es) c before.keeps ∙ found)

pub abort_told : (s : Start) (old : State) (es : List Entry) (c start : ℕ) (r : Reply) → StandsFor s old es → open_in old c ≡ Some start →
    IsAnswered (run (start_world s) es) (entry c event.Abort r) → r ≡ reply.Aborted
abort_told s old es c start r before found answered = abort_answers (run (start_world s) es) c start r answered (open_is old (run (start_world s) es) c before.keeps ∙ found)

-- a refused read is told as it was refused
pub is_refused : (why : Refused) → IsReadRefused why (reply.Refused why)
is_refused NoMemory = inl refl
is_refused NoTxn = refl
is_refused AlreadyOpen = refl
is_refused (Missing x) = refl
is_refused (Conflict x rival) = refl
is_refused (HasEdges v) = refl
is_refused (TimeAhead t start) = refl
is_refused ClockEnd = refl
is_refused (Stale cut) = refl
is_refused TooMany = refl
is_refused IdEnd = refl
