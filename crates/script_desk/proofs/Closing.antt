-- The sessions are closed one after the other, by their numbers.
use Rattle.std.proofs.Common.{◌≡◌, ◌≤◌, ◌<◌, ◌+◌, ℕ, zero, suc, List, [], ◌∷◌, ◌++◌, Option, None, Bool, true, false, length, refl, sym, subst, ◌∙◌, append_assoc, append-nil, arith}
use Rattle.std.specs.Prelude.{nat_eq, nat_le}
use Rattle.std.proofs.lemmas.Bool.Decides.{nat_tests}
use Rattle.front_core.specs.Keeps.{StandsFor, open_in}
use Rattle.front_core.specs.declared.state.State.{State}
use Rattle.session_core.specs.Says.{Aborts, Adds}
use Rattle.store_pass.specs.Alone.{solo_opened}
use Rattle.world_model.specs.History.{Entry}
use Rattle.world_model.specs.World.{Start}
use Rattle.script_desk.specs.Roll.{Roll, running_at}
use Rattle.script_desk.specs.Script.{Past}
use Rattle.script_desk.specs.Stands.{DeskParts, IsEnded, Stands}
use Rattle.script_desk.proofs.Others.{other_stays}

-- those below a number are closed, and the others are as they were
pub record IsClosing (n : ℕ) (past : Past) (core : State) : Type 0 where
  pub later : List Entry
  pub stood : StandsFor past.start core (past.es ++ later)
  pub closed : (c : ℕ) → c < n → open_in core c ≡ None
  pub rest : (c : ℕ) → n ≤ c → open_in core c ≡ running_at c past.sessions

pub none_closed : (desk : DeskParts) (past : Past) → Stands desk past → IsClosing 0 past desk.core
none_closed desk past st = record {
  later = [];
  stood = subst (StandsFor past.start desk.core) (sym (append-nil past.es)) st.store;
  closed = λ c h. absurd (omega (arith, h));
  rest = λ c h. st.open_as c;
}

same_or_other : (n c : ℕ) → (nat_eq n c ≡ true → n ≡ c) × (nat_eq n c ≡ false → c < n + 1 → c < n)
same_or_other n c = ((λ h. grind (arith, nat_tests, h)), (λ h k. grind (arith, nat_tests, h, k)))

other_above : (n c : ℕ) → n + 1 ≤ c → nat_eq n c ≡ false
other_above n c h = grind (arith, nat_tests, h)

pub one_closed : (n : ℕ) (past : Past) (old new : State) (running : Option ℕ) → IsClosing n past old →
    ((s : Start) (es : List Entry) → StandsFor s old es → Adds (λ s es. StandsFor s new es) true (Aborts running) n s es) →
    open_in new n ≡ None → IsClosing (n + 1) past new
one_closed n past old new running way goes none =
    let adds = goes past.start (past.es ++ way.later) way.stood in
    let stays : (c : ℕ) → nat_eq n c ≡ false → open_in new c ≡ open_in old c =
    λ c other. other_stays past.start old new (past.es ++ way.later) adds.later n c way.stood adds.stood (adds.nobody refl) other in
    record {
      later = way.later ++ adds.later;
      stood = subst (StandsFor past.start new) (append_assoc past.es way.later adds.later) adds.stood;
      closed = λ c h. below c h stays (nat_eq n c) refl;
      rest = λ c h. stays c (other_above n c h) ∙ way.rest c (omega (arith, h));
    }
  where
    below : (c : ℕ) → c < n + 1 → ((d : ℕ) → nat_eq n d ≡ false → open_in new d ≡ open_in old d) → (b : Bool) → nat_eq n c ≡ b → open_in new c ≡ None
    below c h stays true is = subst (λ m. open_in new m ≡ None) ((same_or_other n c).0 is) none
    below c h stays false other = stays c other ∙ way.closed c ((same_or_other n c).1 other h)

past_end : (c : ℕ) (r : Roll) → length r ≤ c → running_at c r ≡ None
past_end c [] h = refl
past_end zero (e ∷ r) h = absurd (omega (arith, h))
past_end (suc c) (e ∷ r) h = past_end c r (omega (arith, h))

pub all_closed : (n : ℕ) (past : Past) (core : State) → length past.sessions ≤ n → IsClosing n past core → IsEnded past
all_closed n past core h way = record {
  later = way.later;
  legal = way.stood.legal;
  closed = λ c. solo_opened core c past.start (past.es ++ way.later) way.stood ∙ by c (nat_le n c) refl;
}
  where
    by : (c : ℕ) (b : Bool) → nat_le n c ≡ b → open_in core c ≡ None
    by c true is = way.rest c (grind (arith, nat_tests, is)) ∙ past_end c past.sessions (grind (arith, nat_tests, is, h))
    by c false is = way.closed c (grind (arith, nat_tests, is))

pub at_end : (n m k : ℕ) → m ≤ n → m ≡ k → k ≤ n
at_end n m k h is = omega (arith, h, is)
