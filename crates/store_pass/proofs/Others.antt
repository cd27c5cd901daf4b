-- What one caller does on a core leaves the transactions that others have open.
use Rattle.std.proofs.Common.{◌≡◌, ◌≢◌, ℕ, List, [], ◌∷◌, ◌++◌, true, false, refl, sym, ap, subst, ◌∙◌, arith}
use Rattle.std.specs.Prelude.{nat_eq, option_map}
use Rattle.std.proofs.lemmas.Bool.Decides.{nat_tests}
use Rattle.std.proofs.lemmas.List.{append-nil}
use Rattle.world_model.specs.declared.event.Event.{Event}
use Rattle.world_model.specs.History.{Entry, MayStand, run}
use Rattle.world_model.specs.Reply.{Reply}
use Rattle.world_model.specs.Sending.{Sends, are_of_others, open_start}
use Rattle.world_model.specs.World.{Start, Txn, World, start_world}
use Rattle.world_model.proofs.Marks.{run-more}
use Rattle.world_model.proofs.Sent.{others_stay}
use Rattle.front_core.specs.Keeps.{StandsFor, open_in}
use Rattle.front_core.specs.declared.state.State.{State}
use Rattle.front_core.proofs.Stepping.{open_is}
use Rattle.store_pass.specs.declared.solo.Solo.{Solo}
use Rattle.store_pass.proofs.Alone.{entry}

-- a history that went on with entries of others leaves the caller's transaction
pub others_leave_open : (s : Start) (old new : State) (es later : List Entry) (c : ℕ) → StandsFor s old es → StandsFor s new (es ++ later) →
    are_of_others c later ≡ true → open_in new c ≡ open_in old c
others_leave_open s old new es later c before behind apart =
    sym (open_is new (run (start_world s) (es ++ later)) c behind.keeps)
    ∙ ap (λ (w : World). open_start w c) (run-more (start_world s) es later)
    ∙ ap (option_map (λ (p : Txn). p.start)) (others_stay (run (start_world s) es) later c apart)
    ∙ open_is old (run (start_world s) es) c before.keeps

other_number : (n m : ℕ) → m ≢ n → nat_eq n m ≡ false
other_number n m h = grind (arith, nat_tests)

one_of_others : (e : Entry) (c : ℕ) → c ≢ e.caller → are_of_others c (e ∷ []) ≡ true
unfolding are_of_others
one_of_others e c h = rw (other_number e.caller c h) refl

-- the caller is the same one, and each other one has open what it had
pub record LeavesOthers (old new : Solo) : Type 0 where
  pub same_caller : new.caller ≡ old.caller
  pub others : (c : ℕ) → c ≢ old.caller → open_in new.core c ≡ open_in old.core c

pub leaves_onward : (a b c : Solo) → LeavesOthers a b → LeavesOthers b c → LeavesOthers a c
leaves_onward a b c first then = record {
  same_caller = then.same_caller ∙ first.same_caller;
  others = λ d h. then.others d (λ e. h (e ∙ first.same_caller)) ∙ first.others d h;
}

-- one event of the caller
pub sent_leaves : (e : Event) (r : Reply) (old new : Solo) →
    (sent : Sends (λ (k : Solo) s es. StandsFor s k.core es) (λ (k : Solo). k.caller) (λ (k : Solo). true) e r old new) → MayStand sent.some.entries e → LeavesOthers old new
sent_leaves e r old new sent may =
    let some = sent.some in
    let on = sent.goes_on some.start some.entries some.stood may in
    let now : Entry = entry old.caller e r in
    let parts : on.0 ≡ some.entries ++ now ∷ [] = on.1.parts ∙ ap (λ os. (some.entries ++ os) ++ now ∷ []) (on.1.nobody refl) ∙ ap (λ es. es ++ now ∷ []) (append-nil some.entries) in
    record {
      same_caller = sent.same_caller;
      others = λ c h. others_leave_open some.start old.core new.core some.entries (now ∷ []) c some.stood (subst (StandsFor some.start new.core) parts on.2) (one_of_others now c h);
    }
