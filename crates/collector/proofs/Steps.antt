-- What one step of a sweep does, by what the store answered.
use Rattle.std.proofs.Common.{◌≡◌, ℕ, List, ◌∷◌, Option, Some, None, Bool, length, refl, sym, ap, subst, ◌∙◌}
use Rattle.std.specs.Prelude.{Ok, Err}
use Rattle.std.specs.declared.alloc.AllocError.{AllocError}
use Rattle.graph_value.specs.declared.id.Oid.{Oid}
use Rattle.world_model.specs.declared.answer.Refused.TheVariants as refused
use Rattle.world_model.specs.declared.event.Event.{Event}
use Rattle.world_model.specs.declared.event.Event.TheVariants as event
use Rattle.world_model.specs.History.{Entry, no_memory}
use Rattle.world_model.specs.Pieces.{LiftedParts, PieceParts}
use Rattle.world_model.specs.Placement.{piece_of}
use Rattle.world_model.specs.Reply.{Reply}
use Rattle.world_model.specs.Reply as reply
use Rattle.world_model.specs.Sending.{Sends}
use Rattle.world_model.specs.World.{Start}
use Rattle.collector.specs.Advancing.{HasAsked, Tells}
use Rattle.collector.specs.Sweeping.{Stage, Turn, asks, asks_at, asks_by, asks_of, first_of, rest_of, stage_at, told, turn, turn_at, turn_by, turn_kept, turn_of, wanting}
use Rattle.collector.specs.declared.progress.Progress.{Progress}
use Rattle.collector.specs.declared.progress.Progress.TheVariants as progress
use Rattle.collector.proofs.Objects.{first_and_rest}

-- ---- where a sweep stands before an object

abbrev before : Option ℕ → List Oid → Option LiftedParts → Stage
before started objects held = record { begun = started; left = objects; kept = held }

module _ (started : Option ℕ) (objects : List Oid) (mark : ℕ) (x : Oid) (b : started ≡ Some mark) (f : first_of objects ≡ Some x) where
  asks_first : (kept : Option LiftedParts) → asks_by started objects kept ≡ Some (asks_of x kept)
  asks_first kept = ap (λ o. asks_by o objects kept) b ∙ ap (λ xs. asks_at xs kept) (first_and_rest objects x f)

  turn_first : (kept : Option LiftedParts) (r : Reply) → turn_by started objects kept r ≡ turn_of mark x (rest_of objects) kept r
  turn_first kept r = ap (λ o. turn_by o objects kept r) b ∙ ap (λ xs. turn_at mark xs kept r) (first_and_rest objects x f)

  stage_first : (kept : Option LiftedParts) → before started objects kept ≡ before (Some mark) (x ∷ rest_of objects) kept
  stage_first kept = ap (λ o. before o objects kept) b ∙ ap (λ xs. before (Some mark) xs kept) (first_and_rest objects x f)

-- an object of which nothing was lifted is done, and what was lifted is kept
turn_nothing : (mark : ℕ) (x : Oid) (xs : List Oid) (l : LiftedParts) (n : ℕ) → n ≡ 0 → turn_kept mark x xs l n ≡ told (progress.Nothing x) (stage_at mark xs)
turn_nothing mark x xs l n none = ap (turn_kept mark x xs l) none

-- ---- what was lifted of the first object

module _ (started : Option ℕ) (objects : List Oid) (held : Option LiftedParts) (mark : ℕ) (x : Oid) (b : started ≡ Some mark) (f : first_of objects ≡ Some x) (none : held ≡ None) where
  turn_lift : (r : Reply) → turn_by started objects held r ≡ turn_of mark x (rest_of objects) None r
  turn_lift r = turn_first started objects mark x b f held r ∙ ap (λ k. turn_of mark x (rest_of objects) k r) none

  pub tells_nothing : (l : LiftedParts) (n : ℕ) (new : Stage) → n ≡ length l.deltas → n ≡ 0 → new ≡ stage_at mark (rest_of objects) → turn_by started objects held (reply.Lifted l) ≡ told (progress.Nothing x) new
  tells_nothing l n new counted zero_is passed =
      turn_lift (reply.Lifted l) ∙ turn_nothing mark x (rest_of objects) l (length l.deltas) (sym counted ∙ zero_is)
      ∙ ap (told (progress.Nothing x)) (sym passed)

  -- where memory was wanting it stays where it is
  wants_still : turn_of mark x (rest_of objects) None no_memory ≡ wanting (before started objects held)
  wants_still = ap wanting (ap (before (Some mark) (x ∷ rest_of objects)) (sym none) ∙ sym (stage_first started objects mark x b f held))

-- ---- an event that was sent

module _ {S : Type 0} (stands : S → Start → List Entry → Type 0) (caller : S → ℕ) (alone : S → Bool) (store after : S) where
  has_told : (old new : Stage) (e : Event) (r : Reply) (p : Progress) → asks old ≡ Some e → Sends stands caller alone e r store after → turn old r ≡ told p new → HasAsked stands caller alone old new store after (Ok p)
  has_told old new e r p next sent tells = record {
    event = e;
    reply = r;
    asked = next;
    sent = sent;
    told = subst (λ o. Tells o (Ok p)) (sym (ap (λ (t : Turn). t.progress) tells)) refl;
    stage = sym (ap (λ (t : Turn). t.stage) tells);
  }

  has_wanted : (old new : Stage) (e : Event) (r : Reply) (err : AllocError) → asks old ≡ Some e → Sends stands caller alone e r store after → turn old r ≡ wanting new → HasAsked stands caller alone old new store after (Err err)
  has_wanted old new e r err next sent tells = record {
    event = e;
    reply = r;
    asked = next;
    sent = sent;
    told = subst (λ o. Tells o (Err err)) (sym (ap (λ (t : Turn). t.progress) tells)) tt;
    stage = sym (ap (λ (t : Turn). t.stage) tells);
  }

  module _ (started : Option ℕ) (objects : List Oid) (held : Option LiftedParts) (mark : ℕ) (x : Oid) (b : started ≡ Some mark) (f : first_of objects ≡ Some x) (none : held ≡ None) where
    -- an installation of what was kept, whose place is empty by now
    module _ (l : LiftedParts) (piece : PieceParts) (built : piece ≡ piece_of l) where
      asks_install : asks_by started objects (Some l) ≡ Some (event.Install piece)
      asks_install = asks_first started objects mark x b f (Some l) ∙ ap (λ p. Some (event.Install p)) (sym built)

      pub install_is_told : (n : ℕ) (new : Stage) → n ≡ piece.moved → new ≡ stage_at mark (rest_of objects) → Sends stands caller alone (event.Install piece) reply.Installed store after →
          HasAsked stands caller alone (before started objects (Some l)) new store after (Ok (progress.Moved x n))
      install_is_told n new counted passed sent =
          has_told (before started objects (Some l)) new (event.Install piece) reply.Installed (progress.Moved x n) asks_install sent
          (turn_first started objects mark x b f (Some l) reply.Installed
          ∙ ap (λ k. told (progress.Moved x k) (stage_at mark (rest_of objects))) (sym (counted ∙ ap (λ (p : PieceParts). p.moved) built))
          ∙ ap (told (progress.Moved x n)) (sym passed))

      pub install_is_stale : (cut : ℕ) (new : Stage) → new ≡ stage_at mark (rest_of objects) → Sends stands caller alone (event.Install piece) (reply.Refused (refused.Stale cut)) store after →
          HasAsked stands caller alone (before started objects (Some l)) new store after (Ok (progress.Stale x cut))
      install_is_stale cut new passed sent =
          has_told (before started objects (Some l)) new (event.Install piece) (reply.Refused (refused.Stale cut)) (progress.Stale x cut) asks_install sent
          (turn_first started objects mark x b f (Some l) (reply.Refused (refused.Stale cut)) ∙ ap (told (progress.Stale x cut)) (sym passed))

      pub install_is_wanted : (err : AllocError) → Sends stands caller alone (event.Install piece) no_memory store after →
          HasAsked stands caller alone (before started objects (Some l)) (before started objects held) store after (Err err)
      install_is_wanted err sent =
          has_wanted (before started objects (Some l)) (before started objects held) (event.Install piece) no_memory err asks_install sent
          (turn_first started objects mark x b f (Some l) no_memory ∙ wants_still started objects held mark x b f none)
