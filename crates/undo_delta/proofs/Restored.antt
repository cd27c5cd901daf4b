-- An edit of an ascending list, and the edit that takes it back.
use Rattle.std.proofs.Common.{◌≡◌, List, [], ◌∷◌, Bool, true, false, not, ◌&&◌, ◌||◌, cond, IsTrue, T, Some, None, refl, sym, ap, ◌∙◌}
use Rattle.std.specs.Cmp.{IsTotalOrder, tied_itself}
use Rattle.std.specs.declared.cmp.Ordering.{Ordering}
use Rattle.std.specs.declared.cmp.Ordering.TheVariants.{Less, Equal, Greater}
use Rattle.std.specs.FinMap.{find, put, is_sorted, IsAntisymmetric}
use Rattle.std.specs.FinMap.Entries.{by_order, find-put, find-where_key, find_tied, is_sorted-put, is_sorted-where_key, same_entries}
use Rattle.std.specs.List.{list_all}
use Rattle.std.specs.Ordering.{is_lt, is_eq, eq_by_cmp, ordering_reverse}
use Rattle.std.proofs.lemmas.Cmp.{alike_right}
use Rattle.std.proofs.lemmas.Bool.{and_parts}
use Rattle.graph_record.specs.Ascending.{is_ascending}
use Rattle.graph_record.specs.Edits.{has, added, removed, removed_key}
use Rattle.graph_record.proofs.Place.{removed_absent}

less : (r : Ordering) → IsTrue (is_lt r) → r ≡ Less
less Less p = refl
less Equal p = absurd (cc)
less Greater p = absurd (cc)

equal : (r : Ordering) → is_eq r ≡ true → r ≡ Equal
equal Less p = absurd (cc)
equal Equal p = refl
equal Greater p = absurd (cc)

turned : (r : Ordering) → is_eq (ordering_reverse r) ≡ is_eq r
turned Less = refl
turned Equal = refl
turned Greater = refl

both : (a b : Bool) → IsTrue a → IsTrue b → IsTrue (a && b)
both true b p q = q
both false b p q = p

module _ {A : Type 0} {R : A → A → Ordering} (o : IsTotalOrder R) where
  -- an element that was added is taken away again
  pub removed_added : (x : A) (ys : List A) → has R x ys ≡ false → removed R x (added R x ys) ≡ ys
  removed_added x [] none = ap (λ r. cond (not (is_eq r)) (x ∷ []) []) (tied_itself o x)
  removed_added x (y ∷ ys) none =
      elim (R x y) as (λ r. R x y ≡ r → (is_eq r || has R x ys) ≡ false → removed R x (by_order r (x ∷ y ∷ ys) (y ∷ ys) (y ∷ added R x ys)) ≡ y ∷ ys) [
        | Less ↦ λ is rest. ap (λ r. cond (not (is_eq r)) (x ∷ removed R x (y ∷ ys)) (removed R x (y ∷ ys))) (tied_itself o x) ∙ removed_absent o x (y ∷ ys) none
        | Equal ↦ λ is rest. absurd (cc)
        | Greater ↦ λ is rest. ap (λ r. cond (not (is_eq r)) (y ∷ removed R x (added R x ys)) (removed R x (added R x ys))) is ∙ ap (λ zs. y ∷ zs) (removed_added x ys rest)
      ] refl none

  none_after : (x : A) (ys : List A) → IsTrue (list_all (λ z. is_lt (R x z)) ys) → has R x ys ≡ false
  none_after x [] below = refl
  none_after x (z ∷ zs) below = ap (λ r. is_eq r || has R x zs) (less _ (and_parts _ _ below).0) ∙ none_after x zs (and_parts _ _ below).1

  added_before : (x : A) (ys : List A) → IsTrue (list_all (λ z. is_lt (R x z)) ys) → added R x ys ≡ x ∷ ys
  added_before x [] below = refl
  added_before x (z ∷ zs) below = ap (λ r. by_order r (x ∷ z ∷ zs) (z ∷ zs) (z ∷ added R x zs)) (less _ (and_parts _ _ below).0)

  below_tied : (x y : A) (ys : List A) → R x y ≡ Equal → IsTrue (list_all (λ z. is_lt (R y z)) ys) → IsTrue (list_all (λ z. is_lt (R x z)) ys)
  below_tied x y [] tied below = refl
  below_tied x y (z ∷ zs) tied below = both _ _ (ap is_lt (o.congr x y z tied) ∙ (and_parts _ _ below).0) (below_tied x y zs tied (and_parts _ _ below).1)

  below_less : (x y : A) (ys : List A) → R x y ≡ Less → IsTrue (list_all (λ z. is_lt (R y z)) ys) → IsTrue (list_all (λ z. is_lt (R x z)) ys)
  below_less x y [] lt below = refl
  below_less x y (z ∷ zs) lt below = both _ _ (ap is_lt (o.trans x y z lt (less _ (and_parts _ _ below).0))) (below_less x y zs lt (and_parts _ _ below).1)

  -- an element that was taken away is added again
  pub added_removed : IsAntisymmetric R → (x : A) (ys : List A) → IsTrue (is_ascending R ys) → has R x ys ≡ true → added R x (removed R x ys) ≡ ys
  added_removed same x [] ascends some = absurd (cc)
  added_removed same x (y ∷ ys) ascends some =
      let below = (and_parts _ _ ascends).0 in
      elim (R x y) as (λ r. R x y ≡ r → (is_eq r || has R x ys) ≡ true → added R x (cond (not (is_eq r)) (y ∷ removed R x ys) (removed R x ys)) ≡ y ∷ ys) [
        | Less ↦ λ is rest. absurd (let none = none_after x ys (below_less x y ys is below) in cc)
        | Equal ↦ λ is rest.
            let above = below_tied x y ys is below in
            ap (added R x) (removed_absent o x ys (none_after x ys above)) ∙ added_before x ys above ∙ ap (λ z. z ∷ ys) (same x y is)
        | Greater ↦ λ is rest. ap (λ r. by_order r (x ∷ y ∷ removed R x ys) (y ∷ removed R x ys) (y ∷ added R x (removed R x ys))) is ∙ ap (λ zs. y ∷ zs) (added_removed same x ys (and_parts _ _ ascends).1 rest)
      ] refl some

  -- an element that is there already is added with no change
  pub added_present : (x : A) (ys : List A) → IsTrue (is_ascending R ys) → has R x ys ≡ true → added R x ys ≡ ys
  added_present x [] ascends some = absurd (cc)
  added_present x (y ∷ ys) ascends some =
      elim (R x y) as (λ r. R x y ≡ r → (is_eq r || has R x ys) ≡ true → by_order r (x ∷ y ∷ ys) (y ∷ ys) (y ∷ added R x ys) ≡ y ∷ ys) [
        | Less ↦ λ is rest. absurd (let none = none_after x ys (below_less x y ys is (and_parts _ _ ascends).0) in cc)
        | Equal ↦ λ is rest. refl
        | Greater ↦ λ is rest. ap (λ zs. y ∷ zs) (added_present x ys (and_parts _ _ ascends).1 rest)
      ] refl some

module _ {K X : Type 0} {R : K → K → Ordering} (o : IsTotalOrder R) where
  pub find_put_here : (k : K) (v : X) (es : List (K × X)) → find R k (put R k v es) ≡ Some v
  find_put_here k v es = find-put R o k k v es ∙ ap (λ r. cond (is_eq r) (Some v) (find R k es)) (tied_itself o k)

  find_put_other : (q k : K) (v : X) (es : List (K × X)) → eq_by_cmp R q k ≡ false → find R q (put R k v es) ≡ find R q es
  find_put_other q k v es apart = find-put R o q k v es ∙ ap (λ b. cond b (Some v) (find R q es)) apart

  find_removed : (q k : K) (es : List (K × X)) → find R q (removed_key R k es) ≡ cond (not (eq_by_cmp R k q)) (find R q es) None
  find_removed q k es = find-where_key R (λ x. not (eq_by_cmp R k x)) q (λ x t. ap (λ r. not (is_eq r)) (sym (alike_right o q x k t))) es

  pub find_removed_here : (k : K) (es : List (K × X)) → find R k (removed_key R k es) ≡ None
  find_removed_here k es = find_removed k k es ∙ ap (λ r. cond (not (is_eq r)) (find R k es) None) (tied_itself o k)

  find_removed_other : (q k : K) (es : List (K × X)) → eq_by_cmp R q k ≡ false → find R q (removed_key R k es) ≡ find R q es
  find_removed_other q k es apart =
      find_removed q k es ∙ ap (λ b. cond (not b) (find R q es) None) (ap is_eq (o.antisymm k q) ∙ turned (R q k) ∙ apart)

  -- two lists that answer alike at the key and at each other key are equal
  alike : IsAntisymmetric R → (k : K) (es fs : List (K × X)) → T (is_sorted R es) → T (is_sorted R fs) → find R k es ≡ find R k fs → ((q : K) → eq_by_cmp R q k ≡ false → find R q es ≡ find R q fs) → es ≡ fs
  alike same k es fs g h here other =
      same_entries R o same es fs g h (λ q.
      elim (eq_by_cmp R q k) as (λ b. eq_by_cmp R q k ≡ b → find R q es ≡ find R q fs) [
        | true ↦ λ is. sym (find_tied R o q k (equal _ is) es) ∙ here ∙ find_tied R o q k (equal _ is) fs
        | false ↦ λ is. other q is
      ] refl)

  put_sorted : (k : K) (v : X) (es : List (K × X)) → T (is_sorted R es) → T (is_sorted R (put R k v es))
  put_sorted k v es h = is_sorted-put R o k v es h

  removed_sorted : (k : K) (es : List (K × X)) → T (is_sorted R es) → T (is_sorted R (removed_key R k es))
  removed_sorted k es h = is_sorted-where_key R (λ x. not (eq_by_cmp R k x)) es h

  -- a value that was written over is put back
  pub put_put : IsAntisymmetric R → (k : K) (old new : X) (es : List (K × X)) → T (is_sorted R es) → find R k es ≡ Some old → put R k old (put R k new es) ≡ es
  put_put same k old new es h was =
      alike same k _ es (put_sorted k old _ (put_sorted k new es h)) h (find_put_here k old _ ∙ sym was) (λ q apart. find_put_other q k old _ apart ∙ find_put_other q k new es apart)

  pub removed_put : IsAntisymmetric R → (k : K) (new : X) (es : List (K × X)) → T (is_sorted R es) → find R k es ≡ None → removed_key R k (put R k new es) ≡ es
  removed_put same k new es h was =
      alike same k _ es (removed_sorted k _ (put_sorted k new es h)) h (find_removed_here k _ ∙ sym was) (λ q apart. find_removed_other q k _ apart ∙ find_put_other q k new es apart)

  pub put_removed : IsAntisymmetric R → (k : K) (old : X) (es : List (K × X)) → T (is_sorted R es) → find R k es ≡ Some old → put R k old (removed_key R k es) ≡ es
  put_removed same k old es h was =
      alike same k _ es (put_sorted k old _ (removed_sorted k es h)) h (find_put_here k old _ ∙ sym was) (λ q apart. find_put_other q k old _ apart ∙ find_removed_other q k es apart)

  pub removed_removed : IsAntisymmetric R → (k : K) (es : List (K × X)) → T (is_sorted R es) → find R k es ≡ None → removed_key R k es ≡ es
  removed_removed same k es h was =
      alike same k _ es (removed_sorted k es h) h (find_removed_here k es ∙ sym was) (λ q apart. find_removed_other q k es apart)

  -- a value that is there already is put with no change
  pub put_same : IsAntisymmetric R → (k : K) (v : X) (es : List (K × X)) → T (is_sorted R es) → find R k es ≡ Some v → put R k v es ≡ es
  put_same same k v es h was =
      alike same k _ es (put_sorted k v es h) h (find_put_here k v es ∙ sym was) (λ q apart. find_put_other q k v es apart)
