-- Integers of 64 bits: where a checked operation gives a number, it fits.
use Rattle.std.proofs.Common.{◌≡◌, ◌<◌, ◌^◌, ℤ, pos, negsuc, w64, true, false, refl, arith}
use Rattle.std.specs.Prelude.{FitsSigned}
use Rattle.std.proofs.lemmas.Bool.Decides.{nat_tests}
use Rattle.expr_eval.specs.Numbers.{fits}

pub fits_true : (z : ℤ) → FitsSigned w64 z → fits z ≡ true
fits_true (pos n) f = let h : n < 2 ^ 63 = f.sfits in grind (arith, nat_tests)
fits_true (negsuc n) f = let h : n < 2 ^ 63 = f.sfits in grind (arith, nat_tests)

pub fits_back : (z : ℤ) → fits z ≡ true → FitsSigned w64 z
fits_back (pos n) e = record { sfits = grind (arith, nat_tests) }
fits_back (negsuc n) e = record { sfits = grind (arith, nat_tests) }

pub fits_false : (z : ℤ) → (FitsSigned w64 z → ⊥) → fits z ≡ false
fits_false z never = elim (fits z) as (λ b. fits z ≡ b → b ≡ false) [ true ↦ λ e. absurd (never (fits_back z e)) | false ↦ λ e. refl ] refl
