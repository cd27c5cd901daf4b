-- Where a key stands in a list of elements with keys, and where it would go.
use Rattle.std.specs.Prelude.{◌≡◌, ℕ, ◌<◌, ◌≤◌, List, length}
use Rattle.std.specs.List.{AllWithin, HoldsAt}
use Rattle.std.specs.declared.cmp.Ordering.{Ordering}
use Rattle.std.specs.declared.cmp.Ordering.TheVariants.{Less, Equal, Greater}

module _ {K E : Type 0} (R : K → K → Ordering) (key : E → K) where
  -- the element at place i has the key, and smaller keys stand before it
  pub record IsAt (k : K) (es : List E) (i : ℕ) : Type 0 where
    pub in_range : i < length es
    pub smaller_before : AllWithin (λ e. R (key e) k ≡ Less) es 0 i
    pub has_key : HoldsAt (λ e. R (key e) k ≡ Equal) es i

  -- the key would go at place i: smaller keys stand before it, and greater ones from it on
  pub record IsGapFor (k : K) (es : List E) (i : ℕ) : Type 0 where
    pub in_range : i ≤ length es
    pub smaller_before : AllWithin (λ e. R (key e) k ≡ Less) es 0 i
    pub greater_after : AllWithin (λ e. R (key e) k ≡ Greater) es i (length es)

-- elements that are their own keys, and entries
abbrev pub itself : {A : Type 0} → A → A
itself x = x

abbrev pub key_of : {K X : Type 0} → K × X → K
key_of e = e.0
