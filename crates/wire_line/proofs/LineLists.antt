-- The lines of some bytes, one after the other.
use Rattle.std.proofs.Common.{◌≡◌, ◌≢◌, ◌⊎◌, ℕ, Bool, List, [], ◌∷◌, ◌++◌, true, false, cond, eqb, refl, ap, inl, inr, arith}
use Rattle.std.proofs.lemmas.Bool.Decides.{nat_tests}
use Rattle.wire_line.specs.Lines.{first_line, after_line, in_first, lines_of, in_ended, ended_lines, HasNoEnd}
use Rattle.wire_line.proofs.FirstLine.{no_end-first}

in_first-lines : (b : ℕ) (bytes : List ℕ) → in_first b (lines_of bytes) ≡ (b ∷ first_line bytes) ∷ lines_of (after_line bytes)
in_first-lines b [] = refl
in_first-lines b (c ∷ bytes) =
    elim (eqb c 10) as (λ t. in_first b (cond t ([] ∷ lines_of bytes) (in_first c (lines_of bytes)))
    ≡ (b ∷ cond t [] (c ∷ first_line bytes)) ∷ lines_of (cond t bytes (after_line bytes)))
    [ true ↦ refl | false ↦ ap (in_first b) (in_first-lines c bytes) ]

lines_of-first : (b : ℕ) (bytes : List ℕ) → lines_of (b ∷ bytes) ≡ first_line (b ∷ bytes) ∷ lines_of (after_line (b ∷ bytes))
lines_of-first b bytes =
    elim (eqb b 10) as (λ t. cond t ([] ∷ lines_of bytes) (in_first b (lines_of bytes))
    ≡ cond t [] (b ∷ first_line bytes) ∷ lines_of (cond t bytes (after_line bytes)))
    [ true ↦ refl | false ↦ in_first-lines b bytes ]

-- bytes that aren't empty have a first line, and then the lines of what stands behind it
pub lines_of-step : (bytes : List ℕ) → bytes ≢ [] → lines_of bytes ≡ first_line bytes ∷ lines_of (after_line bytes)
lines_of-step [] some = absurd (some refl)
lines_of-step (b ∷ bytes) some = lines_of-first b bytes

-- THE LINES THAT END

-- bytes without a line end have no line that ends
pub ended_lines-none : (bytes : List ℕ) → HasNoEnd bytes → ended_lines bytes ≡ []
ended_lines-none [] none = refl
ended_lines-none (b ∷ bytes) none =
    let parts = no_end-first b bytes none in
    rw parts.0 (ap (in_ended b) (ended_lines-none bytes parts.1))

-- a line with its line end is the first that ends
pub ended_lines-first : (line rest : List ℕ) → HasNoEnd line → ended_lines (line ++ 10 ∷ rest) ≡ line ∷ ended_lines rest
ended_lines-first [] rest none = refl
ended_lines-first (b ∷ line) rest none =
    let parts = no_end-first b line none in
    rw parts.0 (ap (in_ended b) (ended_lines-first line rest parts.1))

-- a byte in front of a line with its line end, or of none
split_more : (b : ℕ) (bytes : List ℕ) → (HasNoEnd bytes × (after_line bytes ≡ [])) ⊎ (bytes ≡ first_line bytes ++ 10 ∷ after_line bytes)
    → ((b ∷ first_line bytes ≡ b ∷ bytes) × (after_line bytes ≡ [])) ⊎ (b ∷ bytes ≡ (b ∷ first_line bytes) ++ 10 ∷ after_line bytes)
split_more b bytes (inl none) = inl (ap (λ (x : List ℕ). b ∷ x) none.0, none.1)
split_more b bytes (inr is) = inr (ap (λ (x : List ℕ). b ∷ x) is)

-- Bytes are a line with its line end and what stands behind it, or they have no line end.
pub first_line-split : (bytes : List ℕ) → (HasNoEnd bytes × (after_line bytes ≡ [])) ⊎ (bytes ≡ first_line bytes ++ 10 ∷ after_line bytes)
first_line-split [] = inl (refl, refl)
first_line-split (b ∷ bytes) =
    let P : Bool → Type 0 = λ t. eqb b 10 ≡ t → ((cond t [] (b ∷ first_line bytes) ≡ b ∷ bytes) × (cond t bytes (after_line bytes) ≡ []))
    ⊎ (b ∷ bytes ≡ cond t [] (b ∷ first_line bytes) ++ 10 ∷ cond t bytes (after_line bytes)) in
    let all : (t : Bool) → P t = λ t. elim t as P [
      | true ↦ λ test. let is : b ≡ 10 = grind (arith, nat_tests) in inr (ap (λ (x : ℕ). x ∷ bytes) is)
      | false ↦ λ test. split_more b bytes (first_line-split bytes)
    ] in
    all (eqb b 10) refl
