-- Facts on parts of a buffer.
use Rattle.std.proofs.Common.{◌≡◌, ℕ, ◌+◌, ◌-◌, ◌<◌, ◌≤◌, Bool, false, cond, eqb, List, [], ◌∷◌, ◌++◌, length, take, drop, get_or, refl, sym, ap, ◌∙◌, arith, ne_eqb}
use Rattle.std.proofs.lemmas.List.Edits.{between_more}
use Rattle.wire_line.specs.Lines.{without_return}
use Rattle.wire_line.proofs.FirstLine.{without_return-push}
use Rattle.std.specs.Prelude.{slice_range}
use Rattle.std.proofs.Math.Seq.{take-add}
use Rattle.std.proofs.lemmas.List.{drop-drop, drop-take, length-drop, length-take-le, take-take}

-- two parts side by side
pub range_join : (xs : List ℕ) (i j k : ℕ) → i ≤ j → j ≤ k → slice_range xs i k ≡ slice_range xs i j ++ slice_range xs j k
range_join xs i j k first second =
    let whole : k - i ≡ (j - i) + (k - j) = omega arith in
    let place : i + (j - i) ≡ j = omega arith in
    rw (whole, take-add (j - i) (k - j) (drop i xs), drop-drop (j - i) i xs, place) refl

pub length-range : (xs : List ℕ) (i j : ℕ) → i ≤ j → j ≤ length xs → length (slice_range xs i j) + i ≡ j
length-range xs i j ordered inside =
    omega (arith, length-take-le (j - i) (drop i xs) (omega (arith, length-drop i xs)))

-- a front of a part
pub take-range : (xs : List ℕ) (n i j : ℕ) → i + n ≤ j → take n (slice_range xs i j) ≡ slice_range xs i (i + n)
take-range xs n i j inside =
    let short : n ≤ j - i = omega arith in
    let size : i + n - i ≡ n = omega arith in
    rw size (take-take n (j - i) (drop i xs) short)

-- a part without its front
pub drop-range : (xs : List ℕ) (n i j : ℕ) → i + n ≤ j → drop n (slice_range xs i j) ≡ slice_range xs (i + n) j
drop-range xs n i j inside =
    let size : j - i ≡ n + (j - (i + n)) = omega arith in
    rw (size, drop-take n (j - (i + n)) (drop i xs), drop-drop n i xs) refl

-- a part whose last byte is a carriage return, or isn't
pub range-return : (xs : List ℕ) (from to : ℕ) → from < to → to ≤ length xs → get_or xs (to - 1) 0 ≡ 13
    → slice_range xs from (to - 1) ≡ without_return (slice_range xs from to)
range-return xs from to some inside is =
    let more : slice_range xs from (to - 1 + 1) ≡ slice_range xs from (to - 1) ++ get_or xs (to - 1) 0 ∷ [] =
    between_more xs from (to - 1) 0 (omega arith) (omega arith) in
    let same : to - 1 + 1 ≡ to = omega arith in
    let split : slice_range xs from to ≡ slice_range xs from (to - 1) ++ 13 ∷ [] =
    ap (λ (end : ℕ). slice_range xs from end) (sym same) ∙ more ∙ ap (λ (b : ℕ). slice_range xs from (to - 1) ++ b ∷ []) is in
    sym (ap without_return split ∙ without_return-push (slice_range xs from (to - 1)) 13)

pub range-other : (xs : List ℕ) (from to : ℕ) → from < to → to ≤ length xs → (get_or xs (to - 1) 0 ≡ 13 → ⊥)
    → slice_range xs from to ≡ without_return (slice_range xs from to)
range-other xs from to some inside other =
    let more : slice_range xs from (to - 1 + 1) ≡ slice_range xs from (to - 1) ++ get_or xs (to - 1) 0 ∷ [] =
    between_more xs from (to - 1) 0 (omega arith) (omega arith) in
    let same : to - 1 + 1 ≡ to = omega arith in
    let split : slice_range xs from to ≡ slice_range xs from (to - 1) ++ get_or xs (to - 1) 0 ∷ [] =
    ap (λ (end : ℕ). slice_range xs from end) (sym same) ∙ more in
    let test : eqb (get_or xs (to - 1) 0) 13 ≡ false = ne_eqb (get_or xs (to - 1) 0) 13 other in
    split ∙ sym (ap without_return split ∙ without_return-push (slice_range xs from (to - 1)) (get_or xs (to - 1) 0)
    ∙ ap (λ (t : Bool). cond t (slice_range xs from (to - 1)) (slice_range xs from (to - 1) ++ get_or xs (to - 1) 0 ∷ [])) test)

pub range-none : (xs : List ℕ) (from to : ℕ) → to ≤ from → slice_range xs from to ≡ without_return (slice_range xs from to)
range-none xs from to none =
    let empty : to - from ≡ 0 = omega arith in rw empty refl
