-- The first space of a text.
use Rattle.std.proofs.Common.{◌≡◌, ℕ, suc, ◌+◌, ◌-◌, Bool, true, false, not, cond, eqb, ltb, Option, Some, None, option_map, List, [], ◌∷◌, length, take, drop, refl, sym, ap, ◌∙◌, arith}
use Rattle.std.specs.List.{position_or_len}
use Rattle.std.proofs.lemmas.Bool.Decides.{nat_tests}
use Rattle.std.proofs.lemmas.List.{length-drop, take_all}
use Rattle.event_lines.specs.Words.{in_front, cut}

abbrev place : List ℕ → ℕ
place text = position_or_len (λ b. eqb b 32) text

abbrev parts_at : ℕ → List ℕ → List ℕ × List ℕ
parts_at at text = (take at text, drop (at + 1) text)

one_more : (n : ℕ) → 1 + n ≡ suc n
one_more n = omega arith

suc_add_one : (n : ℕ) → suc n + 1 ≡ suc (n + 1)
suc_add_one n = omega arith

first_less : (n : ℕ) → ltb 0 (suc n) ≡ true
first_less n = grind (arith, nat_tests)

less_suc : (m n : ℕ) → ltb (suc m) (suc n) ≡ ltb m n
less_suc m n = grind (arith, nat_tests)

moved : (t : Bool) (at b : ℕ) (bytes : List ℕ) → option_map (in_front b) (cond t (Some (parts_at at bytes)) None) ≡ cond t (Some (parts_at (suc at) (b ∷ bytes))) None
moved true at b bytes = rw (suc_add_one at) refl
moved false at b bytes = refl

pub cut_place : (text : List ℕ) → cut text ≡ cond (ltb (place text) (length text)) (Some (parts_at (place text) text)) None
cut_place [] = refl
cut_place (b ∷ bytes) =
    let P : Bool → Type 0 = λ t. cond t (Some ([], bytes)) (option_map (in_front b) (cut bytes))
    ≡ cond (ltb (cond (not t) (1 + place bytes) 0) (suc (length bytes))) (Some (parts_at (cond (not t) (1 + place bytes) 0) (b ∷ bytes))) None in
    let later : P false = rw (one_more (place bytes), less_suc (place bytes) (length bytes)) (ap (option_map (in_front b)) (cut_place bytes) ∙ moved (ltb (place bytes) (length bytes)) (place bytes) b bytes) in
    elim (eqb b 32) as P [ true ↦ rw (first_less (length bytes)) refl | false ↦ later ]

-- what `position` answers says where the text is cut
pub cut_none : (text : List ℕ) (r : Option ℕ) → r ≡ cond (ltb (place text) (length text)) (Some (place text)) None → r ≡ None → cut text ≡ None
cut_none text r h is =
    let P : Bool → Type 0 = λ t. r ≡ cond t (Some (place text)) None → cond t (Some (parts_at (place text) text)) None ≡ None in
    let each : P (ltb (place text) (length text)) = elim (ltb (place text) (length text)) as P [ true ↦ λ found. cc | false ↦ λ _. refl ] in
    cut_place text ∙ each h

pub cut_some : (text : List ℕ) (r : Option ℕ) (at : ℕ) → r ≡ cond (ltb (place text) (length text)) (Some (place text)) None → r ≡ Some at
    → cut text ≡ Some (take at text, take (length text - (at + 1)) (drop (at + 1) text))
cut_some text r at h is =
    let P : Bool → Type 0 = λ t. r ≡ cond t (Some (place text)) None → cond t (Some (parts_at (place text) text)) None ≡ Some (parts_at at text) in
    let found : P true = λ e. let same : place text ≡ at = cc in ap (λ n. Some (parts_at n text)) same in
    let each : P (ltb (place text) (length text)) = elim (ltb (place text) (length text)) as P [ true ↦ found | false ↦ λ none. cc ] in
    let whole : take (length text - (at + 1)) (drop (at + 1) text) ≡ drop (at + 1) text = take_all _ _ (omega (arith, length-drop (at + 1) text)) in
    cut_place text ∙ each h ∙ ap (λ rest. Some (take at text, rest)) (sym whole)
