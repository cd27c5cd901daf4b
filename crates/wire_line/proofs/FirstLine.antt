-- Facts on the first line of some bytes.
use Rattle.std.proofs.Common.{◌≡◌, ℕ, zero, suc, ◌+◌, ◌<◌, ◌≤◌, Bool, true, false, cond, eqb, ltb, Some, None, List, [], ◌∷◌, ◌++◌, length, take, drop, refl, sym, ap, ◌∙◌, arith}
use Rattle.std.specs.Prelude.{not}
use Rattle.std.specs.List.{position_or_len, position}
use Rattle.std.proofs.lemmas.Bool.{ltb-false}
use Rattle.wire_line.specs.Lines.{first_line, after_line, without_return, HasNoEnd}

-- the first place of a line end
pub first_place : (bytes : List ℕ) → position_or_len (λ b. eqb b 10) bytes ≡ length (first_line bytes)
first_place [] = refl
first_place (b ∷ bytes) =
    elim (eqb b 10) as (λ t. cond (not t) (1 + position_or_len (λ b. eqb b 10) bytes) 0 ≡ length (cond t [] (b ∷ first_line bytes)))
    [ true ↦ refl | false ↦ omega (arith, first_place bytes) ]

pub length-first_line : (bytes : List ℕ) → length (first_line bytes) ≤ length bytes
length-first_line [] = omega arith
length-first_line (b ∷ bytes) =
    elim (eqb b 10) as (λ t. length (cond t [] (b ∷ first_line bytes)) ≤ length (b ∷ bytes))
    [ true ↦ omega arith | false ↦ omega (arith, length-first_line bytes) ]

-- the first line has no line end
pub first_line-first_line : (bytes : List ℕ) → HasNoEnd (first_line bytes)
first_line-first_line [] = refl
first_line-first_line (b ∷ bytes) =
    let P : Bool → Type 0 = λ t. eqb b 10 ≡ t → first_line (cond t [] (b ∷ first_line bytes)) ≡ cond t [] (b ∷ first_line bytes) in
    let all : (t : Bool) → P t = λ t. elim t as P [
      | true ↦ λ _. refl
      | false ↦ λ other. rw other (ap (λ (line : List ℕ). b ∷ line) (first_line-first_line bytes))
    ] in
    all (eqb b 10) refl

-- the first line is a front of the bytes
pub first_line-take : (bytes : List ℕ) → take (length (first_line bytes)) bytes ≡ first_line bytes
first_line-take [] = refl
first_line-take (b ∷ bytes) =
    elim (eqb b 10) as (λ t. take (length (cond t [] (b ∷ first_line bytes))) (b ∷ bytes) ≡ cond t [] (b ∷ first_line bytes))
    [ true ↦ refl | false ↦ ap (λ (line : List ℕ). b ∷ line) (first_line-take bytes) ]

-- as long as all the bytes, it is all of them
pub no_end_from_length : (bytes : List ℕ) → length bytes ≤ length (first_line bytes) → HasNoEnd bytes
no_end_from_length [] = λ long. refl
no_end_from_length (b ∷ bytes) =
    elim (eqb b 10) as (λ t. length (b ∷ bytes) ≤ length (cond t [] (b ∷ first_line bytes)) → cond t [] (b ∷ first_line bytes) ≡ b ∷ bytes) [
      | true ↦ λ long. absurd (omega arith)
      | false ↦ λ long. ap (λ (line : List ℕ). b ∷ line) (no_end_from_length bytes (omega arith))
    ]

-- a byte before bytes without a line end
pub no_end-first : (b : ℕ) (bytes : List ℕ) → HasNoEnd (b ∷ bytes) → (eqb b 10 ≡ false) × HasNoEnd bytes
no_end-first b bytes =
    let P : Bool → Type 0 = λ t. cond t [] (b ∷ first_line bytes) ≡ b ∷ bytes → (t ≡ false) × HasNoEnd bytes in
    elim (eqb b 10) as P [ true ↦ λ e. cc | false ↦ λ e. (refl, cc) ]

-- a front without a line end belongs to the first line
pub first_line-append : (front rest : List ℕ) → HasNoEnd front → first_line (front ++ rest) ≡ front ++ first_line rest
first_line-append [] rest none = refl
first_line-append (b ∷ front) rest none =
    let parts = no_end-first b front none in
    rw parts.0 (ap (λ (line : List ℕ). b ∷ line) (first_line-append front rest parts.1))

pub after_line-append : (front rest : List ℕ) → HasNoEnd front → after_line (front ++ rest) ≡ after_line rest
after_line-append [] rest none = refl
after_line-append (b ∷ front) rest none =
    let parts = no_end-first b front none in
    rw parts.0 (after_line-append front rest parts.1)

-- where a line ends, what stands behind makes no difference to the first line
pub first_line-ended : (bytes rest : List ℕ) → length (first_line bytes) < length bytes → first_line (bytes ++ rest) ≡ first_line bytes
first_line-ended [] rest = λ ended. absurd (omega arith)
first_line-ended (b ∷ bytes) rest =
    elim (eqb b 10) as (λ t. length (cond t [] (b ∷ first_line bytes)) < length (b ∷ bytes)
    → cond t [] (b ∷ first_line (bytes ++ rest)) ≡ cond t [] (b ∷ first_line bytes)) [
      | true ↦ λ ended. refl
      | false ↦ λ ended. ap (λ (line : List ℕ). b ∷ line) (first_line-ended bytes rest (omega arith))
    ]

suc_add_one : (n : ℕ) → suc n + 1 ≡ suc (n + 1)
suc_add_one n = omega arith

pub after_line-ended : (bytes rest : List ℕ) → length (first_line bytes) < length bytes
    → after_line (bytes ++ rest) ≡ drop (length (first_line bytes) + 1) bytes ++ rest
after_line-ended [] rest = λ ended. absurd (omega arith)
after_line-ended (b ∷ bytes) rest =
    elim (eqb b 10) as (λ t. length (cond t [] (b ∷ first_line bytes)) < length (b ∷ bytes)
    → cond t (bytes ++ rest) (after_line (bytes ++ rest)) ≡ drop (length (cond t [] (b ∷ first_line bytes)) + 1) (b ∷ bytes) ++ rest) [
      | true ↦ λ ended. refl
      | false ↦ λ ended. rw (suc_add_one (length (first_line bytes))) (after_line-ended bytes rest (omega arith))
    ]

-- a front of bytes without a line end has none
pub no_end-take : (n : ℕ) (bytes : List ℕ) → HasNoEnd bytes → HasNoEnd (take n bytes)
no_end-take zero bytes none = refl
no_end-take (suc n) [] none = refl
no_end-take (suc n) (b ∷ bytes) none =
    let parts = no_end-first b bytes none in
    rw parts.0 (ap (λ (line : List ℕ). b ∷ line) (no_end-take n bytes parts.1))

-- what the place of a line end says of the first line
pub place_some : (bytes : List ℕ) (at : ℕ) → position (λ b. eqb b 10) bytes ≡ Some at → at ≡ length (first_line bytes)
place_some bytes at =
    elim (ltb (position_or_len (λ b. eqb b 10) bytes) (length bytes))
    as (λ t. cond t (Some (position_or_len (λ b. eqb b 10) bytes)) None ≡ Some at → at ≡ length (first_line bytes)) [
      | true ↦ λ found. let same : position_or_len (λ b. eqb b 10) bytes ≡ at = cc in sym same ∙ first_place bytes
      | false ↦ λ found. cc
    ]

pub place_none : (bytes : List ℕ) → position (λ b. eqb b 10) bytes ≡ None → length bytes ≡ length (first_line bytes)
place_none bytes =
    let P : Bool → Type 0 = λ t. ltb (position_or_len (λ b. eqb b 10) bytes) (length bytes) ≡ t
    → cond t (Some (position_or_len (λ b. eqb b 10) bytes)) None ≡ None → length bytes ≡ length (first_line bytes) in
    let all : (t : Bool) → P t = λ t. elim t as P [
      | true ↦ λ test found. cc
      | false ↦ λ test found. omega (arith, ltb-false _ _ test, first_place bytes, length-first_line bytes)
    ] in
    all (ltb (position_or_len (λ b. eqb b 10) bytes) (length bytes)) refl

-- a byte behind a line is dropped exactly where it is a carriage return
pub without_return-push : (line : List ℕ) (b : ℕ) → without_return (line ++ b ∷ []) ≡ cond (eqb b 13) line (line ++ b ∷ [])
without_return-push [] b = refl
without_return-push (a ∷ []) b =
    elim (eqb b 13) as (λ t. a ∷ cond t [] (b ∷ []) ≡ cond t (a ∷ []) (a ∷ b ∷ [])) [ true ↦ refl | false ↦ refl ]
without_return-push (a ∷ c ∷ line) b =
    let P : Bool → Type 0 = λ t. a ∷ cond t (c ∷ line) (c ∷ (line ++ b ∷ [])) ≡ cond t (a ∷ c ∷ line) (a ∷ c ∷ (line ++ b ∷ [])) in
    let each : P (eqb b 13) = elim (eqb b 13) as P [ true ↦ refl | false ↦ refl ] in
    ap (λ (rest : List ℕ). a ∷ rest) (without_return-push (c ∷ line) b) ∙ each
