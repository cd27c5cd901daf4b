-- What adding and removing make of an ascending list.
use Rattle.std.specs.Prelude.{List, [], ◌∷◌, Bool, not}
use Rattle.std.specs.List.{filter, list_any, list_all}
use Rattle.std.specs.FinMap.Entries.{by_order, where_key}
use Rattle.std.specs.Ordering.{eq_by_cmp, is_lt}
use Rattle.std.specs.declared.cmp.Ordering.{Ordering}

module _ {A : Type 0} (R : A → A → Ordering) where
  -- whether the element is in the list
  abbrev pub has : A → List A → Bool
  has x ys = list_any (eq_by_cmp R x) ys

  -- whether each element of the list is below it
  abbrev pub is_below : A → List A → Bool
  is_below x ys = list_all (λ y. is_lt (R y x)) ys

  -- the list with the element in its place; one that is there already stays as it is
  abbrev pub added : A → List A → List A
  added x [] = x ∷ []
  added x (y ∷ ys) = by_order (R x y) (x ∷ y ∷ ys) (y ∷ ys) (y ∷ added x ys)

  -- the list without the element
  abbrev pub removed : A → List A → List A
  removed x ys = filter (λ y. not (eq_by_cmp R x y)) ys

module _ {K X : Type 0} (R : K → K → Ordering) where
  -- the entries of all other keys
  abbrev pub removed_key : K → List (K × X) → List (K × X)
  removed_key k es = where_key R (λ x. not (eq_by_cmp R k x)) es
