-- An element that is added or taken away changes the list.
use Rattle.std.proofs.Common.{◌≡◌, List, [], ◌∷◌, true, false, not, ◌||◌, cond, refl, sym, ap, ◌∙◌}
use Rattle.std.specs.Cmp.{IsTotalOrder, tied_itself}
use Rattle.std.specs.declared.cmp.Ordering.{Ordering}
use Rattle.std.specs.declared.cmp.Ordering.TheVariants.{Less, Equal, Greater}
use Rattle.std.specs.FinMap.Entries.{by_order}
use Rattle.std.specs.Ordering.{is_eq}
use Rattle.graph_record.specs.Edits.{has, added, removed}

module _ {A : Type 0} {R : A → A → Ordering} (o : IsTotalOrder R) where
  has_added : (x : A) (ys : List A) → has R x (added R x ys) ≡ true
  has_added x [] = ap (λ r. is_eq r || false) (tied_itself o x)
  has_added x (y ∷ ys) =
      elim (R x y) as (λ r. R x y ≡ r → has R x (by_order r (x ∷ y ∷ ys) (y ∷ ys) (y ∷ added R x ys)) ≡ true) [
        | Less ↦ λ is. ap (λ r. is_eq r || has R x (y ∷ ys)) (tied_itself o x)
        | Equal ↦ λ is. ap (λ r. is_eq r || has R x ys) is
        | Greater ↦ λ is. ap (λ r. is_eq r || has R x (added R x ys)) is ∙ has_added x ys
      ] refl

  has_removed : (x : A) (ys : List A) → has R x (removed R x ys) ≡ false
  has_removed x [] = refl
  has_removed x (y ∷ ys) =
      elim (R x y) as (λ r. R x y ≡ r → has R x (cond (not (is_eq r)) (y ∷ removed R x ys) (removed R x ys)) ≡ false) [
        | Less ↦ λ is. ap (λ r. is_eq r || has R x (removed R x ys)) is ∙ has_removed x ys
        | Equal ↦ λ is. has_removed x ys
        | Greater ↦ λ is. ap (λ r. is_eq r || has R x (removed R x ys)) is ∙ has_removed x ys
      ] refl

  pub added_differs : (x : A) (ys : List A) → has R x ys ≡ false → added R x ys ≡ ys → ⊥
  added_differs x ys none same = let e : true ≡ false = sym (has_added x ys) ∙ ap (has R x) same ∙ none in absurd (cc)

  pub removed_differs : (x : A) (ys : List A) → has R x ys ≡ true → removed R x ys ≡ ys → ⊥
  removed_differs x ys some same = let e : true ≡ false = sym some ∙ sym (ap (has R x) same) ∙ has_removed x ys in absurd (cc)
