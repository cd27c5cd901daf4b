-- The last byte of a text.
use Rattle.std.proofs.Common.{◌≡◌, ℕ, suc, ◌-◌, ◌<◌, List, [], ◌∷◌, length, get_or, refl, arith}
use Rattle.event_lines.specs.Values.{is_white, ends_white}

less_one : (n : ℕ) → suc (suc n) - 1 ≡ suc (suc n - 1)
less_one n = omega arith

pub ends_last : (text : List ℕ) → 0 < length text → ends_white text ≡ is_white (get_or text (length text - 1) 0)
ends_last [] some = absurd (omega (arith, some))
ends_last (b ∷ []) some = refl
ends_last (b ∷ c ∷ bytes) some = rw (less_one (length bytes)) (ends_last (c ∷ bytes) (omega arith))
