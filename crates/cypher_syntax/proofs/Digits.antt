-- Decimal digits are hexadecimal ones.
use Rattle.std.proofs.Common.{◌≡◌, ℕ, Bool, true, false, ◌&&◌, List, [], ◌∷◌, refl, arith}
use Rattle.std.specs.List.{list_all}
use Rattle.std.specs.Char.{is_ascii_digit, is_ascii_hexdigit}
use Rattle.std.proofs.lemmas.Bool.{false≢true}
use Rattle.std.proofs.lemmas.Bool.Decides.{nat_tests}
use Rattle.cypher_syntax.specs.Numerals.{is_decimal}

digit : (b : ℕ) → is_ascii_digit b ≡ true → is_ascii_hexdigit b ≡ true
digit b h = grind (arith, nat_tests)

both : (a b : Bool) → a && b ≡ true → (a ≡ true) × (b ≡ true)
both true b h = (refl, h)
both false b h = absurd (false≢true h)

and : (a b : Bool) → a ≡ true → b ≡ true → a && b ≡ true
and true b x y = y
and false b x y = x

digits : (xs : List ℕ) → list_all is_ascii_digit xs ≡ true → list_all is_ascii_hexdigit xs ≡ true
digits [] h = refl
digits (x ∷ xs) h = let p = both (is_ascii_digit x) (list_all is_ascii_digit xs) h in and _ _ (digit x p.0) (digits xs p.1)

pub decimal_is_hexadecimal : (xs : List ℕ) → is_decimal xs ≡ true → list_all is_ascii_hexdigit xs ≡ true
decimal_is_hexadecimal [] h = refl
decimal_is_hexadecimal (x ∷ []) h = digits (x ∷ []) (and _ _ h refl)
decimal_is_hexadecimal (x ∷ y ∷ xs) h = digits (x ∷ y ∷ xs) (both _ _ h).1
