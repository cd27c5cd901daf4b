-- A sweep that nobody disturbs moves what has expired of each object that is left.
use Rattle.std.proofs.Common.{◌≡◌, ℕ, zero, suc, ◌+◌, ◌≤◌, List, [], ◌∷◌, Option, Some, None, Bool, true, false, not, cond, length, refl, sym, ap, subst, ◌∙◌, inl, inr, arith}
use Rattle.std.specs.Prelude.{min}
use Rattle.std.specs.List.{sum_by}
use Rattle.std.proofs.lemmas.Bool.{false≢true}
use Rattle.std.proofs.lemmas.List.Sums.{sum_by-cons}
use Rattle.graph_value.specs.declared.id.Oid.{Oid}
use Rattle.undo_delta.specs.Touch.{same_oid}
use Rattle.world_model.specs.declared.event.Event.{Event}
use Rattle.world_model.specs.declared.event.Event.TheVariants as event
use Rattle.world_model.specs.History.{AreAnswered, Entry, IsAnswered, world_after}
use Rattle.world_model.specs.Pieces.{LiftedParts}
use Rattle.world_model.specs.Placement.{below, expired, lifted_of, piece_of, since}
use Rattle.world_model.specs.Reply.{Reply}
use Rattle.world_model.specs.Reply as reply
use Rattle.world_model.specs.Undo.{undo_list}
use Rattle.world_model.specs.World.{Install, World, cut_in, cut_of, mark}
use Rattle.world_model.proofs.Folds.{and_left_true, and_right_true}
use Rattle.collector.specs.Sweeping.{AreAsked, Stage, asks, asks_of, count, stage_after, sum_after, turn, turn_kept}
use Rattle.collector.specs.declared.progress.Swept.{Swept}
use Rattle.collector.specs.declared.progress.TheConstants.{MOST}
use Rattle.collector.proofs.Answered.{InstallTold, LiftTold, install_told, lift_leaves, lift_told}
use Rattle.collector.proofs.Apart.{AllApart, is_apart}

-- a sweep before these objects
abbrev pub before : ℕ → List Oid → Option LiftedParts → Stage
before n left kept = record { begun = Some n; left = left; kept = kept }

-- so many deltas more were moved
abbrev pub and_moved : Swept → ℕ → Swept
and_moved sum n = record sum { moved = min (sum.moved + n) MOST }

and_none : (sum : Swept) → sum.moved ≤ MOST → and_moved sum 0 ≡ sum
and_none sum low =
    let same : min (sum.moved + 0) MOST ≡ sum.moved = omega (arith, low) in
    ap (λ n. record sum { moved = n }) same

and_both : (sum : Swept) (n m : ℕ) → and_moved (and_moved sum n) m ≡ and_moved sum (n + m)
and_both sum n m = ap (λ k. record sum { moved = k }) (saturated sum.moved n m)
  where
    saturated : (a n m : ℕ) → min (min (a + n) MOST + m) MOST ≡ min (a + (n + m)) MOST
    saturated a n m = omega arith

pub same_event : (a b : Event) → Some a ≡ Some b → a ≡ b
same_event a b h = cc

nothing_asked : (a : Event) → None ≡ Some a → ⊥
nothing_asked a h = cc

pub something_asked : (a : Event) → Some a ≡ None → ⊥
something_asked a h = cc

module _ (w : World) where
  -- the world where only deltas were moved since
  abbrev pub moving : List Install → World
  moving is = record w { installs = is }

  -- the expired deltas of objects, and that nothing of them was moved since
  abbrev pub expired_in : Oid → ℕ
  expired_in x = length (expired w x)

  abbrev pub Unmoved : List Install → List Oid → Type 0
  Unmoved is [] = Unit {0}
  Unmoved is (x ∷ xs) = (cut_in is x ≡ cut_of w x) × Unmoved is xs

  same_expired : (is : List Install) (x : Oid) → cut_in is x ≡ cut_of w x → length (expired (moving is) x) ≡ expired_in x
  same_expired is x same = ap (λ c. length (below (mark w) (since c (undo_list w x)))) same

  pub unmoved : (xs : List Oid) → Unmoved w.installs xs
  unmoved [] = tt
  unmoved (x ∷ xs) = (refl, unmoved xs)

  -- an installation moves nothing of any other object
  others_unmoved : (is : List Install) (x : Oid) (n : ℕ) (xs : List Oid) → is_apart x xs ≡ true → Unmoved is xs → Unmoved (record { x = x; mark = n } ∷ is) xs
  others_unmoved is x n [] apart h = tt
  others_unmoved is x n (y ∷ ys) apart h =
      (ap (λ b. cond b n (cut_in is y)) (other (same_oid x y) (and_left_true (not (same_oid x y)) _ apart)) ∙ h.0, others_unmoved is x n ys (and_right_true (not (same_oid x y)) _ apart) h.1)
    where
      other : (b : Bool) → not b ≡ true → b ≡ false
      other true h = absurd (false≢true h)
      other false h = refl

  -- what is kept was lifted of the first object since its cut
  pub record IsOfFirst (x : Oid) (l : LiftedParts) : Type 0 where
    pub same : l.x ≡ x
    pub cut : l.cut ≡ cut_of w x
    pub count : length l.deltas ≡ expired_in x

  abbrev pub IsKeptOf : List Oid → Option LiftedParts → Type 0
  IsKeptOf [] kept = Unit {0}
  IsKeptOf (x ∷ xs) None = Unit {0}
  IsKeptOf (x ∷ xs) (Some l) = IsOfFirst x l

  pub unkept : (xs : List Oid) → IsKeptOf xs None
  unkept [] = tt
  unkept (x ∷ xs) = tt

  -- the entries lead to the end, and then what has expired of these objects was moved
  abbrev Leads : Stage → Swept → List Oid → List Entry → Type 0
  Leads s sum left es = AreAsked s es → asks (stage_after s es) ≡ None → sum_after s sum es ≡ and_moved sum (sum_by expired_in left)

  abbrev Moves : List Entry → Type 0
  Moves es = (n : ℕ) (is : List Install) (left : List Oid) (kept : Option LiftedParts) (sum : Swept) →
      sum.moved ≤ MOST → Unmoved is left → AllApart left → IsKeptOf left kept → AreAnswered (moving is) es → Leads (before n left kept) sum left es

  -- the entries behind an answer
  abbrev LeadsBehind : ℕ → List Oid → Option LiftedParts → Swept → List Entry → Reply → Type 0
  LeadsBehind n left kept sum es r =
      AreAsked (turn (before n left kept) r).stage es → asks (stage_after (turn (before n left kept) r).stage es) ≡ None →
      sum_after (turn (before n left kept) r).stage (count sum (turn (before n left kept) r).progress) es ≡ and_moved sum (sum_by expired_in left)

  -- ---- a lift

  counted : (n k : ℕ) (is : List Install) (x : Oid) (xs : List Oid) (l : LiftedParts) (sum : Swept) (es : List Entry) → Moves es → sum.moved ≤ MOST → Unmoved is (x ∷ xs) → AllApart (x ∷ xs) → IsOfFirst x l → expired_in x ≡ k → AreAnswered (moving is) es →
      AreAsked (turn_kept n x xs l k).stage es → asks (stage_after (turn_kept n x xs l k).stage es) ≡ None → sum_after (turn_kept n x xs l k).stage (count sum (turn_kept n x xs l k).progress) es ≡ and_moved sum (sum_by expired_in (x ∷ xs))
  counted n zero is x xs l sum es rest low here apart of none answers asked end =
      rest n is xs None sum low here.1 apart.1 (unkept xs) answers asked end
      ∙ ap (and_moved sum) (nothing (sum_by expired_in xs) ∙ ap (λ m. m + sum_by expired_in xs) (sym none) ∙ sym (sum_by-cons expired_in x xs))
    where
      nothing : (m : ℕ) → m ≡ 0 + m
      nothing m = omega arith
  counted n (suc k) is x xs l sum es rest low here apart of some answers asked end = rest n is (x ∷ xs) (Some l) sum low here apart of answers asked end

  behind_lift : (n : ℕ) (is : List Install) (x : Oid) (xs : List Oid) (sum : Swept) (e : Entry) (es : List Entry) → Moves es → sum.moved ≤ MOST → Unmoved is (x ∷ xs) → AllApart (x ∷ xs) → event.Lift x ≡ e.event →
      IsAnswered (moving is) e → AreAnswered (world_after (moving is) e) es → LeadsBehind n (x ∷ xs) None sum es e.reply
  behind_lift n is x xs sum e es rest low here apart asks_lift answer answers = by_told (lift_told (moving is) e x asks_lift answer)
    where
      later : AreAnswered (moving is) es
      later = subst (λ (v : World). AreAnswered v es) (lift_leaves (moving is) e x asks_lift) answers

      first : IsOfFirst x (lifted_of (moving is) x)
      first = record { same = refl; cut = here.0; count = same_expired is x here.0 }

      by_told : LiftTold (moving is) x e.reply → LeadsBehind n (x ∷ xs) None sum es e.reply
      by_told (inl h) =
          subst (LeadsBehind n (x ∷ xs) None sum es) (sym h)
          (counted n (length (expired (moving is) x)) is x xs (lifted_of (moving is) x) sum es rest low here apart first (sym (same_expired is x here.0)) later)
      by_told (inr h) =
          subst (LeadsBehind n (x ∷ xs) None sum es) (sym h.1) (rest n is (x ∷ xs) None sum low here apart tt later)

  -- ---- an installation

  behind_install : (n : ℕ) (is : List Install) (x : Oid) (xs : List Oid) (l : LiftedParts) (sum : Swept) (e : Entry) (es : List Entry) → Moves es → sum.moved ≤ MOST → Unmoved is (x ∷ xs) → AllApart (x ∷ xs) → IsOfFirst x l → event.Install (piece_of l) ≡ e.event →
      IsAnswered (moving is) e → AreAnswered (world_after (moving is) e) es → LeadsBehind n (x ∷ xs) (Some l) sum es e.reply
  behind_install n is x xs l sum e es rest low here apart of asks_install answer answers = by_told (install_told (moving is) e l asks_install fresh answer)
    where
      fresh : l.cut ≡ cut_of (moving is) l.x
      fresh = of.cut ∙ sym here.0 ∙ ap (cut_in is) (sym of.same)

      most : (m : ℕ) → min m MOST ≤ MOST
      most m = omega arith

      moved : AreAnswered (moving (record { x = l.x; mark = l.mark } ∷ is)) es → LeadsBehind n (x ∷ xs) (Some l) sum es reply.Installed
      moved later asked end =
          rest n (record { x = l.x; mark = l.mark } ∷ is) xs None (and_moved sum (length l.deltas)) (most (sum.moved + length l.deltas))
          (others_unmoved is l.x l.mark xs (subst (λ y. is_apart y xs ≡ true) (sym of.same) apart.0) here.1) apart.1 (unkept xs) later asked end
          ∙ and_both sum (length l.deltas) (sum_by expired_in xs)
          ∙ ap (and_moved sum) (ap (λ m. m + sum_by expired_in xs) of.count ∙ sym (sum_by-cons expired_in x xs))

      by_told : InstallTold (moving is) l e.reply (world_after (moving is) e) → LeadsBehind n (x ∷ xs) (Some l) sum es e.reply
      by_told (inl h) =
          subst (LeadsBehind n (x ∷ xs) (Some l) sum es) (sym h.0) (moved (subst (λ (v : World). AreAnswered v es) h.1 answers))
      by_told (inr h) =
          subst (LeadsBehind n (x ∷ xs) (Some l) sum es) (sym h.0)
          (rest n is (x ∷ xs) None sum low here apart tt (subst (λ (v : World). AreAnswered v es) h.1 answers))

  -- ---- all entries

  pub all_moves : (es : List Entry) → Moves es
  unfolding AreAnswered AreAsked stage_after sum_after
  all_moves [] n is [] kept sum low here apart of answers asked end = sym (and_none sum low)
  all_moves [] n is (x ∷ xs) kept sum low here apart of answers asked end = absurd (something_asked (asks_of x kept) end)
  all_moves (e ∷ es) n is [] kept sum low here apart of answers asked end = absurd (nothing_asked e.event asked.0)
  all_moves (e ∷ es) n is (x ∷ xs) None sum low here apart of answers asked end =
      behind_lift n is x xs sum e es (all_moves es) low here apart (same_event (event.Lift x) e.event asked.0) answers.0 answers.1 asked.1 end
  all_moves (e ∷ es) n is (x ∷ xs) (Some l) sum low here apart of answers asked end =
      behind_install n is x xs l sum e es (all_moves es) low here apart of (same_event (event.Install (piece_of l)) e.event asked.0) answers.0 answers.1 asked.1 end
