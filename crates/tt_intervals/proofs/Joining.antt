-- What joining pieces one by one leaves: the maximal runs of them.
use Rattle.std.proofs.Common.{◌≡◌, ℕ, ◌+◌, ◌<◌, ◌≤◌, Bool, true, false, ◌&&◌, ◌||◌, nat_le, Option, Some, List, [], ◌∷◌, ◌↔◌, IsTrue, if◌then◌else◌, refl, sym, subst, ◌∙◌, arith}
use Rattle.std.specs.Bool.{MatchBool}
use Rattle.std.specs.List.Retain.{DedupsFrom, IsDeduped}
use Rattle.std.proofs.lemmas.Bool.{false≢true}
use Rattle.std.proofs.lemmas.Bool.Decides.{nat_tests}
use Rattle.tt_intervals.specs.declared.span.Span.{Span}
use Rattle.tt_intervals.specs.Neighbours.{OnFirst}
use Rattle.tt_intervals.specs.Spans.{is_in}
use Rattle.tt_intervals.proofs.Meanings.{mean_reflexive, mean_transitive}
use Rattle.tt_intervals.specs.Runs.{AreMaximalRuns, Ascends, Continues, EndsBefore, MeanSame, value_at}

-- an instant is in two spans that touch where it is in the one that they make
both_tests : (t a b c d : ℕ) → a ≤ b → b + 1 ≡ c → c ≤ d → (nat_le a t && nat_le t d) ≡ ((nat_le a t && nat_le t b) || (nat_le c t && nat_le t d))
both_tests t a b c d ab bc cd = grind (arith, nat_tests)

-- the run k became l as the piece x was shown to it, and b is whether x continues it
pub record Lengthens {T : Type 0} (Same : T → T → Type 0) (k x : Span × T) (b : Bool) (l : Span × T) : Type 0 where
  pub continues : IsTrue b ↔ Continues Same k x
  pub first : l.0.first ≡ k.0.first
  pub last : l.0.last ≡ (if b then x.0.last else k.0.last)
  pub value : l.1 ≡ k.1

module _ {T : Type 0} (Same : T → T → Type 0)
    (reflexive : (a : T) → Same a a)
    (symmetric : (a b : T) → Same a b → Same b a)
    (transitive : (a b c : T) → Same a b → Same b c → Same a c) where
  -- what an instant has, in two spans and in the one that they make
  value_joined : (a b c : Bool) (u v w : T) (o : Option T) → c ≡ (a || b) → w ≡ u → Same u v → MeanSame Same (if a then Some u else (if b then Some v else o)) (if c then Some w else o)
  value_joined true b c u v w o e f h = rw (e, f) (reflexive u)
  value_joined false true c u v w o e f h = rw (e, f) (symmetric u v h)
  value_joined false false c u v w o e f h = rw e (mean_reflexive Same reflexive o)

  value_parted : (a c : Bool) (u w : T) (o p : Option T) → c ≡ a → w ≡ u → MeanSame Same o p → MeanSame Same (if a then Some u else o) (if c then Some w else p)
  value_parted true c u w o p e f h = rw (e, f) (reflexive u)
  value_parted false c u w o p e f h = rw e h

  -- the first run begins where k does, with its value
  abbrev StartsAs : Span × T → List (Span × T) → Type 0
  StartsAs k [] = ⊥
  StartsAs k (y ∷ ys) = (y.0.first ≡ k.0.first) × (y.1 ≡ k.1)

  -- ys is the maximal runs of k and the pieces behind it
  record AreRuns (k : Span × T) (xs ys : List (Span × T)) : Type 0 where
    runs : AreMaximalRuns Same (k ∷ xs) ys
    starts : StartsAs k ys

  starts_as : (k l : Span × T) (ys : List (Span × T)) → l.0.first ≡ k.0.first → l.1 ≡ k.1 → StartsAs l ys → StartsAs k ys
  starts_as k l [] e f h = h
  starts_as k l (y ∷ ys) e f h = (h.0 ∙ e, h.1 ∙ f)

  ascends_joined : (x l : Span × T) (xs : List (Span × T)) → l.0.last ≡ x.0.last → Ascends (x ∷ xs) → Ascends (l ∷ xs)
  ascends_joined x l [] e h = h
  ascends_joined x l (y ∷ xs) e h = (omega (arith, h.0), h.1)

  in_joined : (t : ℕ) (k x l : Span × T) → Lengthens Same k x true l → is_in t l.0 ≡ (is_in t k.0 || is_in t x.0)
  in_joined t k x l h = rw (h.first, h.last) (both_tests t k.0.first k.0.last x.0.first x.0.last k.0.ordered (h.continues.0 refl).0 x.0.ordered)

  joined : (k x l : Span × T) (xs ys : List (Span × T)) → Lengthens Same k x true l → AreRuns l xs ys → AreRuns k (x ∷ xs) ys
  joined k x l xs ys h r = record {
    runs = record {
      values = λ t. mean_transitive Same transitive _ (value_at t (l ∷ xs)) _ (value_joined (is_in t k.0) (is_in t x.0) (is_in t l.0) k.1 x.1 l.1 (value_at t xs) (in_joined t k x l h) h.value (h.continues.0 refl).1) (r.runs.values t);
      ascends = r.runs.ascends;
      maximal = r.runs.maximal;
    };
    starts = starts_as k l ys h.first h.value r.starts;
  }

  -- what begins where x does stands behind k
  behind : (k x l : Span × T) (zs : List (Span × T)) → k.0.last < x.0.first → l.0.last ≡ k.0.last → StartsAs x zs → OnFirst (EndsBefore l) zs
  behind k x l [] b e s = absurd s
  behind k x l (z ∷ zs) b e s = omega (arith, s.0)

  apart : (k x l : Span × T) (zs : List (Span × T)) → Lengthens Same k x false l → StartsAs x zs → OnFirst (λ z. ¬ Continues Same l z) zs
  apart k x l [] h s = absurd s
  apart k x l (z ∷ zs) h s = λ c. false≢true (h.continues.1 (omega (arith, h.last, s.0, c.0), subst (λ v. Same v x.1) h.value (subst (λ v. Same l.1 v) s.1 c.1)))

  in_same : (t : ℕ) (k l : Span × T) → l.0.first ≡ k.0.first → l.0.last ≡ k.0.last → is_in t l.0 ≡ is_in t k.0
  in_same t k l e f = rw (e, f)

  parted : (k x l : Span × T) (xs zs : List (Span × T)) → k.0.last < x.0.first → Lengthens Same k x false l → AreRuns x xs zs → AreRuns k (x ∷ xs) (l ∷ zs)
  parted k x l xs zs b h r = record {
    runs = record {
      values = λ t. value_parted (is_in t k.0) (is_in t l.0) k.1 l.1 (value_at t (x ∷ xs)) (value_at t zs) (in_same t k l h.first h.last) h.value (r.runs.values t);
      ascends = (behind k x l zs b h.last r.starts, r.runs.ascends);
      maximal = (apart k x l zs h r.starts, r.runs.maximal);
    };
    starts = (h.first, h.value);
  }

  module _ {S : Type 0} (R : S → Span × T → Span × T → Bool → S → Span × T → Span × T → Type 0)
      (call : (s : S) (x k : Span × T) (b : Bool) (t : S) (y l : Span × T) → R s x k b t y l → (y ≡ x) × Lengthens Same k x b l) where
    step : (b : Bool) (k x y l : Span × T) (xs ys : List (Span × T)) (t : S) → Ascends (k ∷ x ∷ xs) → y ≡ x → Lengthens Same k x b l
        → ((s : S) (m : Span × T) (zs : List (Span × T)) → Ascends (m ∷ xs) → DedupsFrom R s m xs zs → AreRuns m xs zs)
        → MatchBool b (DedupsFrom R t l xs ys) ((zs : List (Span × T)) × DedupsFrom R t y xs zs × (ys ≡ l ∷ zs)) → AreRuns k (x ∷ xs) ys
    step true k x y l xs ys t a e h rest d = joined k x l xs ys h (rest t l ys (ascends_joined x l xs h.last a.1) d)
    step false k x y l xs ys t a e h rest d =
        let later : AreRuns x xs d.0 = rest t x d.0 a.1 (subst (λ m. DedupsFrom R t m xs d.0) e d.1) in
        subst (λ zs. AreRuns k (x ∷ xs) zs) (sym d.2) (parted k x l xs d.0 a.0 h later)

    walk : (xs : List (Span × T)) (s : S) (k : Span × T) (ys : List (Span × T)) → Ascends (k ∷ xs) → DedupsFrom R s k xs ys → AreRuns k xs ys
    walk [] s k ys a d = subst (λ zs. AreRuns k [] zs) (sym d) (record { runs = record { values = λ t. mean_reflexive Same reflexive (value_at t (k ∷ [])); ascends = a; maximal = (tt, tt) }; starts = (refl, refl) })
    walk (x ∷ xs) s k ys a d = let c = call s x k d.0 d.1 d.2 d.3 d.4 in step d.0 k x d.2 d.3 xs ys d.1 a c.0 c.1 (walk xs) d.5

    pub runs_joined : (xs ys : List (Span × T)) (s : S) → Ascends xs → IsDeduped R s xs ys → AreMaximalRuns Same xs ys
    runs_joined [] ys s a d = subst (λ zs. AreMaximalRuns Same [] zs) (sym d.told) (record { values = λ t. tt; ascends = tt; maximal = tt })
    runs_joined (x ∷ xs) ys s a d = (walk xs s x ys a d.told).runs
