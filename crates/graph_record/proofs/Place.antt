-- What stands at the place of a key in a list that rises by its keys, and what an edit there makes of the list.
use Rattle.std.proofs.Common.{◌≡◌, ℕ, zero, suc, ◌+◌, ◌<◌, List, [], ◌∷◌, length, get_or, set, Bool, true, false, not, ◌&&◌, ◌||◌, cond, IsTrue, T, Some, None, Result, Ok, Err, IfOk, IfErr, is_ok, refl, sym, ap, subst, ◌∙◌, arith}
use Rattle.std.specs.Cmp.{IsTotalOrder}
use Rattle.std.specs.declared.cmp.Ordering.{Ordering}
use Rattle.std.specs.declared.cmp.Ordering.TheVariants.{Less, Equal, Greater}
use Rattle.std.specs.FinMap.{find, put, is_sorted}
use Rattle.std.specs.FinMap.Entries.{by_order, below_all, is_sorted-put, is_sorted-where_key}
use Rattle.std.specs.List.{insert, remove, list_all}
use Rattle.std.specs.List.Sorted.{IsSearchInRange, IsBinarySearchResult, IsSortedByKey}
use Rattle.std.specs.Ordering.{is_lt, is_eq, eq_by_cmp, ordering_reverse}
use Rattle.std.proofs.lemmas.Cmp.{tied_back, alike_right}
use Rattle.std.proofs.lemmas.Bool.{false≢true, and_parts}
use Rattle.std.proofs.lemmas.List.Sorted.{searchable_from_sorted}
use Rattle.graph_record.specs.Ascending.{is_ascending}
use Rattle.graph_record.specs.Edits.{has, added, removed, removed_key}
use Rattle.graph_record.specs.Place.{IsAt, IsGapFor, itself, key_of}

less : (r : Ordering) → IsTrue (is_lt r) → r ≡ Less
less Less p = refl
less Equal p = absurd (false≢true p)
less Greater p = absurd (false≢true p)

true_from_T : (b : Bool) → T b → IsTrue b
true_from_T true p = refl
true_from_T false p = absurd p

pub both : (a b : Bool) → IsTrue a → IsTrue b → IsTrue (a && b)
both true b p q = q
both false b p q = p

neither : (a b : Bool) → (a || b) ≡ false → (a ≡ false) × (b ≡ false)
neither true b e = absurd (cc)
neither false b e = (refl, e)

module _ {K : Type 0} {R : K → K → Ordering} (o : IsTotalOrder R) where
  flipped : (a b : K) (r : Ordering) → R a b ≡ r → R b a ≡ ordering_reverse r
  flipped a b r e = o.antisymm b a ∙ ap ordering_reverse e

module _ {K E : Type 0} {R : K → K → Ordering} (o : IsTotalOrder R) (key : E → K) where
  -- in a tail each place is one lower
  pub is_at_tail : (k : K) (e : E) (es : List E) (i : ℕ) → IsAt R key k (e ∷ es) (suc i) → IsAt R key k es i
  is_at_tail k e es i at = record {
    in_range = omega (arith, at.in_range);
    smaller_before = λ j d low lt. at.smaller_before (suc j) d (omega arith) (omega (arith, lt));
    has_key = λ d. at.has_key d;
  }

  pub gap_tail : (k : K) (e : E) (es : List E) (i : ℕ) → IsGapFor R key k (e ∷ es) (suc i) → IsGapFor R key k es i
  gap_tail k e es i gap = record {
    in_range = omega (arith, gap.in_range);
    smaller_before = λ j d low lt. gap.smaller_before (suc j) d (omega arith) (omega (arith, lt));
    greater_after = λ j d low lt. gap.greater_after (suc j) d (omega (arith, low)) (omega (arith, lt));
  }

  gap_after : (k : K) (e : E) (es : List E) → IsGapFor R key k (e ∷ es) 0 → IsGapFor R key k es 0
  gap_after k e es gap = record {
    in_range = omega arith;
    smaller_before = λ j d low lt. absurd (omega (arith, lt));
    greater_after = λ j d low lt. gap.greater_after (suc j) d (omega arith) (omega (arith, lt));
  }

  -- how the key compares with the first element
  at_first : (k : K) (e : E) (es : List E) → IsAt R key k (e ∷ es) 0 → R k (key e) ≡ Equal
  at_first k e es at = tied_back o (key e) k (at.has_key e)

  at_later : (k : K) (e : E) (es : List E) (i : ℕ) → IsAt R key k (e ∷ es) (suc i) → R k (key e) ≡ Greater
  at_later k e es i at = flipped o _ _ _ (at.smaller_before 0 e (omega arith) (omega arith))

  gap_first : (k : K) (e : E) (es : List E) → IsGapFor R key k (e ∷ es) 0 → R k (key e) ≡ Less
  gap_first k e es gap = flipped o _ _ _ (gap.greater_after 0 e (omega arith) (omega arith))

  gap_later : (k : K) (e : E) (es : List E) (i : ℕ) → IsGapFor R key k (e ∷ es) (suc i) → R k (key e) ≡ Greater
  gap_later k e es i gap = flipped o _ _ _ (gap.smaller_before 0 e (omega arith) (omega arith))

  abbrev by_key : E → E → Ordering
  by_key a b = R (key a) (key b)

  below_at : (x : E) (es : List E) (j : ℕ) (d : E) → IsTrue (list_all (λ y. is_lt (R (key x) (key y))) es) → j < length es → R (key x) (key (get_or es j d)) ≡ Less
  below_at x [] j d below lt = absurd (omega (arith, lt))
  below_at x (e ∷ es) zero d below lt = less _ (and_parts _ _ below).0
  below_at x (e ∷ es) (suc j) d below lt = below_at x es j d (and_parts _ _ below).1 (omega (arith, lt))

  -- of two places the earlier has the smaller key
  sorted_at : (es : List E) (i j : ℕ) (d : E) → IsTrue (is_ascending by_key es) → i < j → j < length es → R (key (get_or es i d)) (key (get_or es j d)) ≡ Less
  sorted_at [] i j d sorted lt in_range = absurd (omega (arith, in_range))
  sorted_at (e ∷ es) i zero d sorted lt in_range = absurd (omega (arith, lt))
  sorted_at (e ∷ es) zero (suc j) d sorted lt in_range = below_at e es j d (and_parts _ _ sorted).0 (omega (arith, in_range))
  sorted_at (e ∷ es) (suc i) (suc j) d sorted lt in_range = sorted_at es i j d (and_parts _ _ sorted).1 (omega (arith, lt)) (omega (arith, in_range))

  sorted_by_key : (es : List E) → IsTrue (is_ascending by_key es) → IsSortedByKey key R es
  sorted_by_key es sorted j d low lt = ap is_lt (flipped o _ _ _ (sorted_at es j (j + 1) d sorted (omega arith) lt))

  -- a binary search by the keys ends at the place of the key, or at the gap for it
  pub searched : (k : K) (es : List E) → IsTrue (is_ascending by_key es) → (r : Result ℕ ℕ) → IsSearchInRange r (length es) → IsBinarySearchResult (λ e. R (key e) k) es r → record { found : IfOk r (IsAt R key k es); absent : IfErr r (IsGapFor R key k es) }
  searched k es sorted (Ok at) in_range equal = record {
    found = record {
      in_range = in_range;
      smaller_before = λ j d low lt. sym (alike_right o _ _ _ (equal d)) ∙ sorted_at es j at d sorted lt in_range;
      has_key = equal;
    };
    absent = tt;
  }
  searched k es sorted (Err at) in_range parted =
      let parts = parted (searchable_from_sorted o key es k (sorted_by_key es sorted)) in
      record { found = tt; absent = record { in_range = in_range; smaller_before = parts.0; greater_after = parts.1 } }

-- ---- entries: a value under each key

module _ {K X : Type 0} {R : K → K → Ordering} (o : IsTotalOrder R) where
  -- the entry at the place has the value that is found
  pub find_at : (k : K) (es : List (K × X)) (i : ℕ) (d : K × X) → IsAt R key_of k es i → find R k es ≡ Some (get_or es i d).1
  find_at k [] i d at = absurd (omega (arith, at.in_range))
  find_at k (e ∷ es) zero d at = ap (λ r. cond (is_eq r) (Some e.1) (find R k es)) (at_first o key_of k e es at)
  find_at k (e ∷ es) (suc i) d at =
      ap (λ r. cond (is_eq r) (Some e.1) (find R k es)) (at_later o key_of k e es i at)
      ∙ find_at k es i d (is_at_tail o key_of k e es i at)

  -- a key that has a gap is not found
  pub find_gap : (k : K) (es : List (K × X)) (i : ℕ) → IsGapFor R key_of k es i → find R k es ≡ None
  find_gap k [] i gap = refl
  find_gap k (e ∷ es) zero gap =
      ap (λ r. cond (is_eq r) (Some e.1) (find R k es)) (gap_first o key_of k e es gap)
      ∙ find_gap k es 0 (gap_after o key_of k e es gap)
  find_gap k (e ∷ es) (suc i) gap =
      ap (λ r. cond (is_eq r) (Some e.1) (find R k es)) (gap_later o key_of k e es i gap)
      ∙ find_gap k es i (gap_tail o key_of k e es i gap)

  -- a value that is written over at the place is put
  pub put_at : (k : K) (v : X) (es : List (K × X)) (i : ℕ) (d : K × X) → IsAt R key_of k es i → put R k v es ≡ set es i ((get_or es i d).0, v)
  put_at k v [] i d at = absurd (omega (arith, at.in_range))
  put_at k v (e ∷ es) zero d at = ap (λ r. by_order r ((k, v) ∷ e ∷ es) ((e.0, v) ∷ es) (e ∷ put R k v es)) (at_first o key_of k e es at)
  put_at k v (e ∷ es) (suc i) d at =
      ap (λ r. by_order r ((k, v) ∷ e ∷ es) ((e.0, v) ∷ es) (e ∷ put R k v es)) (at_later o key_of k e es i at)
      ∙ ap (λ fs. e ∷ fs) (put_at k v es i d (is_at_tail o key_of k e es i at))

  -- an entry that is inserted in the gap is put
  pub put_gap : (k : K) (v : X) (es : List (K × X)) (i : ℕ) → IsGapFor R key_of k es i → put R k v es ≡ insert es i (k, v)
  put_gap k v [] zero gap = refl
  put_gap k v [] (suc i) gap = absurd (omega (arith, gap.in_range))
  put_gap k v (e ∷ es) zero gap = ap (λ r. by_order r ((k, v) ∷ e ∷ es) ((e.0, v) ∷ es) (e ∷ put R k v es)) (gap_first o key_of k e es gap)
  put_gap k v (e ∷ es) (suc i) gap =
      ap (λ r. by_order r ((k, v) ∷ e ∷ es) ((e.0, v) ∷ es) (e ∷ put R k v es)) (gap_later o key_of k e es i gap)
      ∙ ap (λ fs. e ∷ fs) (put_gap k v es i (gap_tail o key_of k e es i gap))

  -- a list in order stays in order
  pub put_sorted : (k : K) (v : X) (es : List (K × X)) → IsTrue (is_sorted R es) → IsTrue (is_sorted R (put R k v es))
  put_sorted k v es sorted = true_from_T _ (is_sorted-put R o k v es (subst T (sym sorted) tt))

  pub removed_key_sorted : (k : K) (es : List (K × X)) → IsTrue (is_sorted R es) → IsTrue (is_sorted R (removed_key R k es))
  removed_key_sorted k es sorted = true_from_T _ (is_sorted-where_key R (λ x. not (eq_by_cmp R k x)) es (subst T (sym sorted) tt))

  below_entries : (x : K) (es : List (K × X)) → below_all R x es ≡ list_all (λ (y : K × X). is_lt (R x y.0)) es
  below_entries x [] = refl
  below_entries x (e ∷ es) = ap (λ b. is_lt (R x e.0) && b) (below_entries x es)

  -- entries in order ascend by their keys
  pub sorted_ascends : (es : List (K × X)) → is_sorted R es ≡ is_ascending (λ (a b : K × X). R a.0 b.0) es
  sorted_ascends [] = refl
  sorted_ascends (e ∷ es) = ap (λ b. b && is_sorted R es) (below_entries e.0 es) ∙ ap (λ b. list_all (λ (y : K × X). is_lt (R e.0 y.0)) es && b) (sorted_ascends es)

  -- without a key that is not found nothing changes
  pub removed_key_absent : (k : K) (es : List (K × X)) → find R k es ≡ None → removed_key R k es ≡ es
  removed_key_absent k [] none = refl
  removed_key_absent k (e ∷ es) none =
      elim (eq_by_cmp R k e.0) as (λ b. cond b (Some e.1) (find R k es) ≡ None → cond (not b) (e ∷ removed_key R k es) (removed_key R k es) ≡ e ∷ es) [
        | true ↦ λ some. absurd (cc)
        | false ↦ λ rest. ap (λ fs. e ∷ fs) (removed_key_absent k es rest)
      ] none

  all_greater : (k x : K) (es : List (K × X)) → R k x ≡ Equal → IsTrue (below_all R x es) → find R k es ≡ None
  all_greater k x [] tied below = refl
  all_greater k x (e ∷ es) tied below =
      ap (λ r. cond (is_eq r) (Some e.1) (find R k es)) (o.congr k x e.0 tied ∙ less _ (and_parts _ _ below).0)
      ∙ all_greater k x es tied (and_parts _ _ below).1

  -- the entry that is taken out at the place is the one of the key
  pub removed_key_at : (k : K) (es : List (K × X)) (i : ℕ) → IsTrue (is_sorted R es) → IsAt R key_of k es i → removed_key R k es ≡ remove es i
  removed_key_at k [] i sorted at = absurd (omega (arith, at.in_range))
  removed_key_at k (e ∷ es) zero sorted at =
      let first = at_first o key_of k e es at in
      ap (λ r. cond (not (is_eq r)) (e ∷ removed_key R k es) (removed_key R k es)) first
      ∙ removed_key_absent k es (all_greater k e.0 es first (and_parts _ _ sorted).0)
  removed_key_at k (e ∷ es) (suc i) sorted at =
      ap (λ r. cond (not (is_eq r)) (e ∷ removed_key R k es) (removed_key R k es)) (at_later o key_of k e es i at)
      ∙ ap (λ fs. e ∷ fs) (removed_key_at k es i (and_parts _ _ sorted).1 (is_at_tail o key_of k e es i at))

-- ---- elements that are their own keys

module _ {A : Type 0} {R : A → A → Ordering} (o : IsTotalOrder R) where
  pub has_at : (x : A) (ys : List A) (i : ℕ) → IsAt R itself x ys i → has R x ys ≡ true
  has_at x [] i at = absurd (omega (arith, at.in_range))
  has_at x (y ∷ ys) zero at = ap (λ r. is_eq r || has R x ys) (at_first o itself x y ys at)
  has_at x (y ∷ ys) (suc i) at =
      ap (λ r. is_eq r || has R x ys) (at_later o itself x y ys i at)
      ∙ has_at x ys i (is_at_tail o itself x y ys i at)

  pub has_gap : (x : A) (ys : List A) (i : ℕ) → IsGapFor R itself x ys i → has R x ys ≡ false
  has_gap x [] i gap = refl
  has_gap x (y ∷ ys) zero gap =
      ap (λ r. is_eq r || has R x ys) (gap_first o itself x y ys gap)
      ∙ has_gap x ys 0 (gap_after o itself x y ys gap)
  has_gap x (y ∷ ys) (suc i) gap =
      ap (λ r. is_eq r || has R x ys) (gap_later o itself x y ys i gap)
      ∙ has_gap x ys i (gap_tail o itself x y ys i gap)

  -- a search finds exactly what the list has
  pub has_found : (x : A) (ys : List A) (r : Result ℕ ℕ) → IfOk r (IsAt R itself x ys) → IfErr r (IsGapFor R itself x ys) → is_ok r ≡ has R x ys
  has_found x ys (Ok at) found absent = sym (has_at x ys at found)
  has_found x ys (Err at) found absent = sym (has_gap x ys at absent)

  -- adding what is there leaves the list
  pub added_at : (x : A) (ys : List A) (i : ℕ) → IsAt R itself x ys i → added R x ys ≡ ys
  added_at x [] i at = absurd (omega (arith, at.in_range))
  added_at x (y ∷ ys) zero at = ap (λ r. by_order r (x ∷ y ∷ ys) (y ∷ ys) (y ∷ added R x ys)) (at_first o itself x y ys at)
  added_at x (y ∷ ys) (suc i) at =
      ap (λ r. by_order r (x ∷ y ∷ ys) (y ∷ ys) (y ∷ added R x ys)) (at_later o itself x y ys i at)
      ∙ ap (λ zs. y ∷ zs) (added_at x ys i (is_at_tail o itself x y ys i at))

  -- what is inserted in the gap is added
  pub added_gap : (x : A) (ys : List A) (i : ℕ) → IsGapFor R itself x ys i → added R x ys ≡ insert ys i x
  added_gap x [] zero gap = refl
  added_gap x [] (suc i) gap = absurd (omega (arith, gap.in_range))
  added_gap x (y ∷ ys) zero gap = ap (λ r. by_order r (x ∷ y ∷ ys) (y ∷ ys) (y ∷ added R x ys)) (gap_first o itself x y ys gap)
  added_gap x (y ∷ ys) (suc i) gap =
      ap (λ r. by_order r (x ∷ y ∷ ys) (y ∷ ys) (y ∷ added R x ys)) (gap_later o itself x y ys i gap)
      ∙ ap (λ zs. y ∷ zs) (added_gap x ys i (gap_tail o itself x y ys i gap))

  -- removing what isn't there leaves the list
  pub removed_absent : (x : A) (ys : List A) → has R x ys ≡ false → removed R x ys ≡ ys
  removed_absent x [] none = refl
  removed_absent x (y ∷ ys) none =
      elim (eq_by_cmp R x y) as (λ b. (b || has R x ys) ≡ false → cond (not b) (y ∷ removed R x ys) (removed R x ys) ≡ y ∷ ys) [
        | true ↦ λ some. absurd (cc)
        | false ↦ λ rest. ap (λ zs. y ∷ zs) (removed_absent x ys rest)
      ] none

  none_above : (x y : A) (ys : List A) → R x y ≡ Equal → IsTrue (list_all (λ z. is_lt (R y z)) ys) → has R x ys ≡ false
  none_above x y [] tied below = refl
  none_above x y (z ∷ zs) tied below =
      ap (λ r. is_eq r || has R x zs) (o.congr x y z tied ∙ less _ (and_parts _ _ below).0)
      ∙ none_above x y zs tied (and_parts _ _ below).1

  -- what is taken out at the place is removed
  pub removed_at : (x : A) (ys : List A) (i : ℕ) → IsTrue (is_ascending R ys) → IsAt R itself x ys i → removed R x ys ≡ remove ys i
  removed_at x [] i sorted at = absurd (omega (arith, at.in_range))
  removed_at x (y ∷ ys) zero sorted at =
      let first = at_first o itself x y ys at in
      ap (λ r. cond (not (is_eq r)) (y ∷ removed R x ys) (removed R x ys)) first
      ∙ removed_absent x ys (none_above x y ys first (and_parts _ _ sorted).0)
  removed_at x (y ∷ ys) (suc i) sorted at =
      ap (λ r. cond (not (is_eq r)) (y ∷ removed R x ys) (removed R x ys)) (at_later o itself x y ys i at)
      ∙ ap (λ zs. y ∷ zs) (removed_at x ys i (and_parts _ _ sorted).1 (is_at_tail o itself x y ys i at))

  below_trans : (x y : A) (ys : List A) → R x y ≡ Less → IsTrue (list_all (λ z. is_lt (R y z)) ys) → IsTrue (list_all (λ z. is_lt (R x z)) ys)
  below_trans x y [] lt below = refl
  below_trans x y (z ∷ zs) lt below =
      both _ _ (ap is_lt (o.trans x y z lt (less _ (and_parts _ _ below).0))) (below_trans x y zs lt (and_parts _ _ below).1)

  below_added : (y x : A) (ys : List A) → R y x ≡ Less → IsTrue (list_all (λ z. is_lt (R y z)) ys) → IsTrue (list_all (λ z. is_lt (R y z)) (added R x ys))
  below_added y x [] lt below = both _ _ (ap is_lt lt) refl
  below_added y x (z ∷ zs) lt below =
      elim (R x z) as (λ r. IsTrue (list_all (λ z. is_lt (R y z)) (by_order r (x ∷ z ∷ zs) (z ∷ zs) (z ∷ added R x zs)))) [
        | Less ↦ both _ _ (ap is_lt lt) below
        | Equal ↦ below
        | Greater ↦ both _ _ (and_parts _ _ below).0 (below_added y x zs lt (and_parts _ _ below).1)
      ]

  pub added_ascends : (x : A) (ys : List A) → IsTrue (is_ascending R ys) → IsTrue (is_ascending R (added R x ys))
  added_ascends x [] sorted = refl
  added_ascends x (y ∷ ys) sorted =
      elim (R x y) as (λ r. R x y ≡ r → IsTrue (is_ascending R (by_order r (x ∷ y ∷ ys) (y ∷ ys) (y ∷ added R x ys)))) [
        | Less ↦ λ is. both _ _ (both _ _ (ap is_lt is) (below_trans x y ys is (and_parts _ _ sorted).0)) sorted
        | Equal ↦ λ is. sorted
        | Greater ↦ λ is. both _ _ (below_added y x ys (flipped o x y Greater is) (and_parts _ _ sorted).0) (added_ascends x ys (and_parts _ _ sorted).1)
      ] refl

  below_removed : (y x : A) (ys : List A) → IsTrue (list_all (λ z. is_lt (R y z)) ys) → IsTrue (list_all (λ z. is_lt (R y z)) (removed R x ys))
  below_removed y x [] below = refl
  below_removed y x (z ∷ zs) below =
      let rest = below_removed y x zs (and_parts _ _ below).1 in
      elim (not (eq_by_cmp R x z)) as (λ b. IsTrue (list_all (λ z. is_lt (R y z)) (cond b (z ∷ removed R x zs) (removed R x zs)))) [
        | true ↦ both _ _ (and_parts _ _ below).0 rest
        | false ↦ rest
      ]

  pub removed_ascends : (x : A) (ys : List A) → IsTrue (is_ascending R ys) → IsTrue (is_ascending R (removed R x ys))
  removed_ascends x [] sorted = refl
  removed_ascends x (y ∷ ys) sorted =
      let rest = removed_ascends x ys (and_parts _ _ sorted).1 in
      elim (not (eq_by_cmp R x y)) as (λ b. IsTrue (is_ascending R (cond b (y ∷ removed R x ys) (removed R x ys)))) [
        | true ↦ both _ _ (below_removed y x ys (and_parts _ _ sorted).0) rest
        | false ↦ rest
      ]
