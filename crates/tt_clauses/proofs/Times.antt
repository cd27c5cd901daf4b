-- Instants one behind the other.
use Rattle.std.proofs.Common.{◌≡◌, ℕ, suc, ◌+◌, ◌-◌, ◌<◌, ◌≤◌, List, [], ◌∷◌, ◌++◌, sym, ◌∙◌, ap, arith, le_refl, length, get_or, drop}
use Rattle.std.proofs.lemmas.List.{drop_more}
use Rattle.tt_clauses.specs.Instants.{instants_from}
use Rattle.tt_clauses.specs.Seen.{Rises}

-- the first of the instants that are left
pub instants_step : (t end : ℕ) → t < end → instants_from t (end - t) ≡ t ∷ instants_from (t + 1) (end - (t + 1))
instants_step t end below =
    let e : end - t ≡ suc (end - (t + 1)) = omega arith in
    ap (instants_from t) e

pub instants_end : (t end : ℕ) → end ≤ t → instants_from t (end - t) ≡ []
instants_end t end above =
    let e : end - t ≡ 0 = omega arith in
    ap (instants_from t) e

module _ {X : Type 0} where
  pub rises-push : (free : ℕ) (xs : List (ℕ × X)) (next : ℕ) (x : ℕ × X) → Rises free xs next → next ≤ x.0 → Rises free (xs ++ x ∷ []) (x.0 + 1)
  rises-push free [] next x h le = (omega (arith, h), le_refl (x.0 + 1))
  rises-push free (y ∷ ys) next x h le = (h.0, rises-push (y.0 + 1) ys next x h.1 le)

  pub rises_wider : (a b c d : ℕ) (xs : List (ℕ × X)) → a ≤ b → c ≤ d → Rises b xs c → Rises a xs d
  rises_wider a b c d [] l m h = omega (arith, h)
  rises_wider a b c d (x ∷ xs) l m h = (omega (arith, h.0), rises_wider (x.0 + 1) (x.0 + 1) c d xs (le_refl (x.0 + 1)) m h.1)

  pub rises_up : (a b : ℕ) (xs : List (ℕ × X)) → Rises a xs b → a ≤ b
  rises_up a b [] h = h
  rises_up a b (x ∷ xs) h = let k : x.0 + 1 ≤ b = rises_up (x.0 + 1) b xs h.1 in omega (arith, h.0, k)

  -- what is left of a list begins with the element at hand
  pub drop_first : (xs : List X) (i : ℕ) (x : X) → i < length xs → x ≡ get_or xs i x → drop i xs ≡ x ∷ drop (i + 1) xs
  drop_first xs i x below is = drop_more xs i x below ∙ ap (λ y. y ∷ drop (i + 1) xs) (sym is)
