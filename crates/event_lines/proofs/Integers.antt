-- Digits, with a minus before them or none, are the JSON of the integer that they stand for.
use Rattle.std.proofs.Common.{◌≡◌, ℕ, zero, suc, ◌<◌, ◌^◌, List, ◌∷◌, Some, ℤ, pos, negsuc, ◌-ℤ◌, to_z, of_z, w64, refl, sym, ap, ◌∙◌, arith}
use Rattle.std.proofs.lemmas.Int.{ints, to_z_pos, to_z-of_z}
use Rattle.std.specs.Fmt.{decimal}
use Rattle.graph_value.specs.declared.value.Value.{Value}
use Rattle.graph_value.specs.declared.value.Value.TheVariants as value
use Rattle.event_lines.specs.Values.{json_value}
use Rattle.event_lines.specs.Words.{number_below}
use Rattle.event_lines.proofs.JsonAgain.{integer_again}
use Rattle.event_lines.proofs.ReadWords.{number_reads}

abbrev integer : ℤ → Value
integer z = value.Int z

pub digits_again : (text : List ℕ) (n : ℕ) → number_below (2 ^ 63) text ≡ Some n → json_value text ≡ Some (integer (to_z w64 n))
digits_again text n h =
    let reads = number_reads (2 ^ 63) text n (omega arith) h in
    let is : to_z w64 n ≡ pos n = to_z_pos w64 n reads.0 in
    ap json_value reads.1 ∙ integer_again (pos n) (omega (arith, ints, reads.0)) ∙ ap (λ z. Some (integer z)) (sym is)

-- the integer below zero whose digits stand for n, as the machine computes it
abbrev negated : ℕ → ℤ
negated n = to_z w64 (of_z w64 (pos 0 -ℤ to_z w64 n))

negated_is : (n : ℕ) → suc n < 2 ^ 63 → negated (suc n) ≡ negsuc n
negated_is n small =
    let is : to_z w64 (suc n) ≡ pos (suc n) = to_z_pos w64 (suc n) small in
    let minus : pos 0 -ℤ pos (suc n) ≡ negsuc n = omega (arith, ints) in
    ap (λ z. to_z w64 (of_z w64 (pos 0 -ℤ z))) is ∙ ap (λ z. to_z w64 (of_z w64 z)) minus ∙ to_z-of_z w64 (negsuc n) (omega (arith, ints, small))

pub minus_again : (digits : List ℕ) (n : ℕ) → (n ≡ 0 → ⊥) → number_below (2 ^ 63) digits ≡ Some n → json_value (45 ∷ digits) ≡ Some (integer (negated n))
minus_again digits zero some h = absurd (some refl)
minus_again digits (suc n) some h =
    let reads = number_reads (2 ^ 63) digits (suc n) (omega arith) h in
    let text : (45 ∷ digits) ≡ (45 ∷ decimal (suc n)) = ap (λ (ds : List ℕ). 45 ∷ ds) reads.1 in
    ap json_value text ∙ integer_again (negsuc n) (omega (arith, ints, reads.0)) ∙ ap (λ z. Some (integer z)) (sym (negated_is n reads.0))
