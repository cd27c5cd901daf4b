-- A session is asked a statement, and the desk stands for what this makes of the past.
use Rattle.std.proofs.Common.{◌≡◌, ℕ, List, [], Option, Bool, true, false, refl, sym, ap, subst, ◌∙◌, arith}
use Rattle.std.specs.Prelude.{nat_eq}
use Rattle.std.proofs.lemmas.Bool.Decides.{nat_tests}
use Rattle.front_core.specs.Keeps.{StandsFor, first_start, open_in}
use Rattle.front_core.specs.declared.state.State.{State}
use Rattle.session_core.specs.declared.reply.Reply.{Reply}
use Rattle.session_core.specs.Answering.{AnswersLine as AnswersStatement, answered}
use Rattle.session_core.specs.Says.{Adds}
use Rattle.store_pass.specs.Alone.{solo_opened}
use Rattle.world_model.specs.History.{Entry, run}
use Rattle.world_model.specs.World.{Start, find_txn}
use Rattle.script_desk.specs.Roll.{Roll, enrolled, number_of, running_at, running_of, with_running, with_running_at}
use Rattle.script_desk.specs.Script.{Past, nothing_yet}
use Rattle.script_desk.specs.Stands.{DeskParts, IsAsked, Stands}
use Rattle.script_desk.proofs.Lists.{running_by_number, set_by_number}
use Rattle.script_desk.proofs.Numbers.{its_own, of_another, running_here}
use Rattle.script_desk.proofs.Others.{other_stays}

-- ---- at the begin

pub fresh : (anchor : ℕ) (core : State) (sessions : Roll) → StandsFor (first_start anchor) core [] → sessions ≡ [] →
    Stands (record { core = core; sessions = sessions }) (nothing_yet (first_start anchor))
unfolding run find_txn
fresh anchor core sessions st none = record {
  store = st;
  same = none;
  open_as = λ c. sym (solo_opened core c (first_start anchor) [] st);
}

-- ---- the turn of a session

same_number : (n c : ℕ) → nat_eq n c ≡ true → n ≡ c
same_number n c h = grind (arith, nat_tests)

module _ (past : Past) (old : DeskParts) (name : List ℕ) (n : ℕ) (turned : State) (caller : ℕ) (st : Stands old past)
    (at : n ≡ number_of name old.sessions) (core : turned ≡ old.core) (turn : caller ≡ n) where
  abbrev number : ℕ
  number = number_of name past.sessions

  is_number : n ≡ number
  is_number = at ∙ ap (number_of name) st.same

  -- the store's caller has open what the session has
  pub may_ask : open_in turned caller ≡ running_at n (enrolled name old.sessions)
  may_ask =
      ap (λ k. open_in k caller) core ∙ ap (open_in old.core) (turn ∙ is_number) ∙ st.open_as number ∙ running_here name past.sessions
      ∙ sym (ap (λ m. running_at m (enrolled name old.sessions)) at ∙ running_by_number name old.sessions ∙ ap (running_of name) st.same)

  module _ (new : DeskParts) (statement line : List ℕ) (reply : Reply) (was now : Option ℕ) (after : ℕ) (line_is : line ≡ statement) (was_is : was ≡ running_at n (enrolled name old.sessions))
      (goes : (s : Start) (es : List Entry) → StandsFor s turned es → Adds (λ s es. StandsFor s new.core es) true (AnswersStatement line was (answered reply now)) caller s es)
      (same_caller : after ≡ caller) (mine : open_in new.core after ≡ now)
      (kept : new.sessions ≡ with_running_at n now (enrolled name old.sessions)) where
    was_running : was ≡ running_of name past.sessions
    was_running = was_is ∙ ap (λ m. running_at m (enrolled name old.sessions)) at ∙ running_by_number name old.sessions ∙ ap (running_of name) st.same

    adds : Adds (λ s es. StandsFor s new.core es) true (AnswersStatement statement (running_of name past.sessions) (answered reply now)) number past.start past.es
    adds =
        subst (λ l. Adds (λ s es. StandsFor s new.core es) true (AnswersStatement l (running_of name past.sessions) (answered reply now)) number past.start past.es) line_is
        (subst (λ r. Adds (λ s es. StandsFor s new.core es) true (AnswersStatement line r (answered reply now)) number past.start past.es) was_running
        (subst (λ m. Adds (λ s es. StandsFor s new.core es) true (AnswersStatement line was (answered reply now)) m past.start past.es) (turn ∙ is_number)
        (goes past.start past.es (subst (λ k. StandsFor past.start k past.es) (sym core) st.store))))

    still_open : (c : ℕ) (b : Bool) → nat_eq number c ≡ b → open_in new.core c ≡ running_at c (with_running name now past.sessions)
    still_open c true is =
        subst (λ m. open_in new.core m ≡ running_at m (with_running name now past.sessions)) (same_number number c is)
        (ap (open_in new.core) (sym (same_caller ∙ turn ∙ is_number)) ∙ mine ∙ sym (its_own name now past.sessions))
    still_open c false other =
        other_stays past.start old.core new.core past.es adds.later number c st.store adds.stood (adds.nobody refl) other
        ∙ st.open_as c ∙ sym (of_another c name now past.sessions other)

    pub asked : IsAsked past name statement reply (Stands new)
    asked = record {
      running = now;
      later = adds.later;
      own = adds.nobody refl;
      says = adds.said;
      stood = record {
        store = adds.stood;
        same = kept ∙ ap (λ m. with_running_at m now (enrolled name old.sessions)) at ∙ set_by_number name now old.sessions ∙ ap (with_running name now) st.same;
        open_as = λ c. still_open c (nat_eq number c) refl;
      };
    }
