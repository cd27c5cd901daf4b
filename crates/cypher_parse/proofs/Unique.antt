-- Tokens have one answer, unless memory was wanting.
use Rattle.std.proofs.Common.{◌≡◌, ◌⊎◌, inl, inr, ℕ, suc, true, [], ◌∷◌, ◌++◌, Result, Ok, Err, refl, sym, ap, ◌∙◌, subst}
use Rattle.std.proofs.lemmas.List.{append_assoc}
use Rattle.cypher_parse.specs.declared.error.ParseRefused.{ParseRefused}
use Rattle.cypher_parse.specs.declared.error.ParseRefused.TheVariants as error
use Rattle.cypher_parse.specs.declared.lexeme.Lexeme.{Lexeme}
use Rattle.cypher_parse.specs.Answer.{Begins, Deep, place_of, EndsAt, IsSyntax, IsTooDeep, IsAnswer, IsTree, IsSame}
use Rattle.cypher_parse.specs.Languages.{Tokens, Lang}
use Rattle.cypher_parse.specs.Parsers.{Parser}
use Rattle.cypher_parse.proofs.Exact.{Shape}
use Rattle.cypher_parse.proofs.Tied.{Tied}
use Rattle.cypher_parse.proofs.Depth.{only_tree}

-- of two parts in front, the first is the shorter
abbrev Longer : Tokens → Tokens → Tokens → Tokens → Type 0
Longer f r g s = (t : Lexeme) × (m : Tokens) × (g ≡ f ++ t ∷ m) × (r ≡ t ∷ (m ++ s))

abbrev Compared : Tokens → Tokens → Tokens → Tokens → Type 0
Compared f r g s = ((f ≡ g) × (r ≡ s)) ⊎ (Longer f r g s ⊎ Longer g s f r)

with_front : (t : Lexeme) (f r g s : Tokens) → Compared f r g s → Compared (t ∷ f) r (t ∷ g) s
with_front t f r g s (inl h) = inl (ap (λ f. t ∷ f) h.0, h.1)
with_front t f r g s (inr (inl h)) = inr (inl (h.0, h.1, ap (λ g. t ∷ g) h.2, h.3))
with_front t f r g s (inr (inr h)) = inr (inr (h.0, h.1, ap (λ g. t ∷ g) h.2, h.3))

compared : (f r g s : Tokens) → f ++ r ≡ g ++ s → Compared f r g s
compared [] r [] s h = inl (refl, h)
compared [] r (u ∷ g) s h = inr (inl (u, g, refl, h))
compared (t ∷ f) r [] s h = inr (inr (t, f, refl, sym h))
compared (t ∷ f) r (u ∷ g) s h =
    let first : t ≡ u = cc in
    let rest : f ++ r ≡ g ++ s = cc in
    subst (λ u. Compared (t ∷ f) r (u ∷ g) s) first (with_front t f r g s (compared f r g s rest))

module _ {A : Type 0} (L : ℕ → Lang A) where
  -- what begins with a longer part begins with its first tokens
  shorter : (n : ℕ) (f m g : Tokens) (t : Lexeme) → g ≡ f ++ t ∷ m → Begins (L n) g → Begins (L n) (f ++ t ∷ [])
  shorter n f m g t e b =
      (m ++ b.0, b.1, subst (λ ts. L n ts b.1) (ap (λ g. g ++ b.0) e ∙ append_assoc f (t ∷ m) b.0 ∙ sym (append_assoc f (t ∷ []) (m ++ b.0))) b.2)

  deep : (n : ℕ) (f : Tokens) → Begins (L n) f → Begins (Deep L) f
  deep n f b = (b.0, b.1, (n, b.2))

  -- nothing longer begins a sentence
  no_longer : (f r g s : Tokens) → EndsAt (Deep L) f r → Begins (L 64) g → Longer f r g s → ⊥
  no_longer f r g s ends b h = (subst (λ r. EndsAt (Deep L) f r) h.3 ends) (deep 64 (f ++ h.0 ∷ []) (shorter 64 f h.1 g h.0 h.2 b))

  same_syntax : (end : ℕ) (ts : Tokens) (p q : ℕ) → IsSyntax L end ts p → IsSyntax L end ts q → p ≡ q
  same_syntax end ts p q a b = elim (compared a.0 a.1 b.0 b.1 (sym a.2 ∙ b.2)) [
    | inl h ↦ sym a.3 ∙ ap (place_of end) h.1 ∙ b.3
    | inr (inl h) ↦ absurd (no_longer a.0 a.1 b.0 b.1 a.5 b.4 h)
    | inr (inr h) ↦ absurd (no_longer b.0 b.1 a.0 a.1 b.5 a.4 h)
  ]

  no_deeper : (f g s : Tokens) (t : Lexeme) (back : Tokens) → (Begins (L 64) (f ++ t ∷ []) → ⊥) → Begins (L 64) g → Longer f (t ∷ back) g s → ⊥
  no_deeper f g s t back ends b h =
      let first : t ≡ h.0 = let e = h.3 in cc in
      ends (subst (λ t. Begins (L 64) (f ++ t ∷ [])) (sym first) (shorter 64 f h.1 g h.0 h.2 b))

  same_depth : (ts : Tokens) (p q : ℕ) → IsTooDeep L ts p → IsTooDeep L ts q → p ≡ q
  same_depth ts p q a b = elim (compared a.0 (a.1 ∷ a.2) b.0 (b.1 ∷ b.2) (sym a.3 ∙ b.3)) [
    | inl h ↦ (let t : a.1 ≡ b.1 = let e = h.1 in cc in sym a.4 ∙ ap (λ t. t.place) t ∙ b.4)
    | inr (inl h) ↦ absurd (no_deeper a.0 b.0 (b.1 ∷ b.2) a.1 a.2 a.7 b.5 h)
    | inr (inr h) ↦ absurd (no_deeper b.0 a.0 (a.1 ∷ a.2) b.1 b.2 b.7 a.5 h)
  ]

  not_both : (end : ℕ) (ts : Tokens) (p q : ℕ) → IsSyntax L end ts p → IsTooDeep L ts q → ⊥
  not_both end ts p q a b = elim (compared a.0 a.1 b.0 (b.1 ∷ b.2) (sym a.2 ∙ b.3)) [
    | inl h ↦ (subst (λ r. EndsAt (Deep L) a.0 r) h.1 a.5) (deep 65 (a.0 ++ b.1 ∷ []) (subst (λ f. Begins (L 65) (f ++ b.1 ∷ [])) (sym h.0) b.6))
    | inr (inl h) ↦ no_longer a.0 a.1 b.0 (b.1 ∷ b.2) a.5 b.5 h
    | inr (inr h) ↦ no_deeper b.0 a.0 a.1 b.1 b.2 b.7 a.4 h
  ]

  module _ (p : ℕ → Parser A) (s : Shape) (T : (n : ℕ) → Tied true (L n) (L (suc n)) (p n) (p (suc n)) s) where
    pub one_answer : (end : ℕ) (ts : Tokens) (a b : Result A ParseRefused) → IsAnswer L end ts a → IsAnswer L end ts b → IsSame a b
    one_answer end ts (Err error.NoMemory) b h g = tt
    one_answer end ts (Ok x) b h g = of_tree x b (only_tree L p s T end ts x b h g)
      where
        of_tree : (x : A) (b : Result A ParseRefused) → IsTree x b → IsSame (Ok x) b
        of_tree x (Ok y) h = ap (λ x. Ok x) (sym h)
        of_tree x (Err error.NoMemory) h = tt
        of_tree x (Err (error.Syntax place)) h = absurd h
        of_tree x (Err (error.TooDeep place)) h = absurd h
    one_answer end ts (Err (error.Syntax place)) (Ok y) h g = absurd (only_tree L p s T end ts y (Err (error.Syntax place)) g h)
    one_answer end ts (Err (error.Syntax place)) (Err error.NoMemory) h g = tt
    one_answer end ts (Err (error.Syntax place)) (Err (error.Syntax other)) h g = ap (λ place. Err (error.Syntax place)) (same_syntax end ts place other h g)
    one_answer end ts (Err (error.Syntax place)) (Err (error.TooDeep other)) h g = absurd (not_both end ts place other h g)
    one_answer end ts (Err (error.TooDeep place)) (Ok y) h g = absurd (only_tree L p s T end ts y (Err (error.TooDeep place)) g h)
    one_answer end ts (Err (error.TooDeep place)) (Err error.NoMemory) h g = tt
    one_answer end ts (Err (error.TooDeep place)) (Err (error.Syntax other)) h g = absurd (not_both end ts other place g h)
    one_answer end ts (Err (error.TooDeep place)) (Err (error.TooDeep other)) h g = ap (λ place. Err (error.TooDeep place)) (same_depth ts place other h g)
