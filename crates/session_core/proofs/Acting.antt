-- Acts on a store: none, one event, one behind another, and a sweep.
use Rattle.std.proofs.Common.{◌≡◌, ℕ, List, [], ◌∷◌, ◌++◌, Bool, refl, sym, ap, subst, ◌∙◌, append_assoc, append-nil, inl, inr}
use Rattle.std.specs.Prelude.{Result, Ok}
use Rattle.std.specs.declared.alloc.AllocError.{AllocError}
use Rattle.std.proofs.lemmas.List.Elements.{filter-append}
use Rattle.std.specs.Prelude.{nat_eq}
use Rattle.collector.specs.Whole.{Sweeps as Swept, own_of}
use Rattle.collector.specs.declared.progress.Swept.{Swept as Sum}
use Rattle.collector.proofs.Asking.{own_more}
use Rattle.session_core.specs.Answering.{Sweeps, SweepsAll}
use Rattle.session_core.specs.Says.{Acts, Adds, Nothing, Or, Says, Sent, Then, entry_of}
use Rattle.world_model.specs.declared.event.Event.{Event}
use Rattle.world_model.specs.History.{Entry, MayStand}
use Rattle.world_model.specs.Reply.{Reply}
use Rattle.world_model.specs.Sending.{Sends}
use Rattle.world_model.specs.World.{Start}

-- nothing is the caller's of nothing
own_of_nothing : (c : ℕ) → own_of c [] ≡ []
unfolding own_of
own_of_nothing c = refl

pub own-append : (c : ℕ) (xs ys : List Entry) → own_of c (xs ++ ys) ≡ own_of c xs ++ own_of c ys
unfolding own_of
own-append c xs ys = filter-append (λ (e : Entry). nat_eq e.caller c) xs ys

-- where all of two lists is the caller's, all of both is
both_own : (c : ℕ) (xs ys : List Entry) → own_of c xs ≡ xs → own_of c ys ≡ ys → own_of c (xs ++ ys) ≡ xs ++ ys
both_own c xs ys h k = own-append c xs ys ∙ ap (λ l. l ++ own_of c ys) h ∙ ap (λ l. xs ++ l) k

module _ {S : Type 0} (stands : S → Start → List Entry → Type 0) (caller : S → ℕ) (alone : S → Bool) where
  -- nothing is sent
  pub idles : (store : S) → Acts stands caller alone Nothing store store
  idles store = record {
    adds = λ s es st. record {
      later = [];
      stood = subst (stands store s) (sym (append-nil es)) st;
      nobody = λ _. own_of_nothing (caller store);
      said = own_of_nothing (caller store);
    };
    same_caller = refl;
    same_alone = refl;
  }

  -- what is said may be said otherwise
  pub says_so : (f g : Says) (old new : S) → ((c : ℕ) (s : Start) (es later : List Entry) → f c s es later → g c s es later) →
      Acts stands caller alone f old new → Acts stands caller alone g old new
  says_so f g old new weaker h = record {
    adds = λ s es st. let x = h.adds s es st in record {
      later = x.later;
      stood = x.stood;
      nobody = x.nobody;
      said = weaker (caller old) s es x.later x.said;
    };
    same_caller = h.same_caller;
    same_alone = h.same_alone;
  }

  pub one : (f g : Says) (old new : S) → Acts stands caller alone f old new → Acts stands caller alone (Or f g) old new
  one f g old new h = says_so f (Or f g) old new (λ c s es later x. inl x) h

  pub other : (f g : Says) (old new : S) → Acts stands caller alone g old new → Acts stands caller alone (Or f g) old new
  other f g old new h = says_so g (Or f g) old new (λ c s es later x. inr x) h

  -- one thing behind another
  pub follows : (f g : Says) (old mid new : S) → Acts stands caller alone f old mid → Acts stands caller alone g mid new → Acts stands caller alone (Then f g) old new
  follows f g old mid new h k = record {
    adds = λ s es st.
        let x = h.adds s es st in
        let raw = k.adds s (es ++ x.later) x.stood in
        let y = subst (λ c. Adds (stands new) (alone old) g c s (es ++ x.later)) h.same_caller
        (subst (λ a. Adds (stands new) a g (caller mid) s (es ++ x.later)) h.same_alone raw) in
        record {
          later = x.later ++ y.later;
          stood = subst (stands new s) (append_assoc es x.later y.later) y.stood;
          nobody = λ a. both_own (caller old) x.later y.later (x.nobody a) (y.nobody a);
          said = record { front = x.later; rest = y.later; parts = refl; before = x.said; behind = y.said };
        };
    same_caller = k.same_caller ∙ h.same_caller;
    same_alone = k.same_alone ∙ h.same_alone;
  }

  -- one event is sent
  pub sends : (e : Event) (r : Reply) (old new : S) → ((es : List Entry) → MayStand es e) → Sends stands caller alone e r old new →
      Acts stands caller alone (Sent e r) old new
  sends e r old new may h = record {
    adds = λ s es st.
        let on = h.goes_on s es st (may es) in
        let c = caller old in
        let later = on.1.others ++ entry_of c e r ∷ [] in
        let own : own_of c later ≡ entry_of c e r ∷ [] =
        own_more c [] on.1.others (entry_of c e r) refl on.1.apart ∙ ap (λ l. l ++ entry_of c e r ∷ []) (own_of_nothing c) in
        record {
          later = later;
          stood = subst (stands new s) (on.1.parts ∙ append_assoc es on.1.others (entry_of c e r ∷ [])) on.2;
          nobody = λ a. own ∙ ap (λ l. l ++ entry_of c e r ∷ []) (sym (on.1.nobody a));
          said = own;
        };
    same_caller = h.same_caller;
    same_alone = h.same_alone;
  }

  -- a sweep is made
  pub sweeps : (old new : S) (swept : Sum) → Swept stands caller alone old new (Ok swept) → Acts stands caller alone (SweepsAll swept) old new
  sweeps old new swept h = record {
    adds = λ s es st.
        let on = h.goes_on s es st in
        record {
          later = on.1.later;
          stood = subst (stands new s) on.1.parts on.2;
          nobody = on.1.nobody;
          said = record { asked = on.1.asked; sums = on.1.told };
        };
    same_caller = h.same_caller;
    same_alone = h.same_alone;
  }

  -- a sweep finds no memory
  pub sweeps_some : (old new : S) (result : Result Sum AllocError) → Swept stands caller alone old new result → Acts stands caller alone Sweeps old new
  sweeps_some old new result h = record {
    adds = λ s es st.
        let on = h.goes_on s es st in
        record {
          later = on.1.later;
          stood = subst (stands new s) on.1.parts on.2;
          nobody = on.1.nobody;
          said = on.1.asked;
        };
    same_caller = h.same_caller;
    same_alone = h.same_alone;
  }
