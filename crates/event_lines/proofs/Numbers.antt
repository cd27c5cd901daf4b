-- The digits of a word, and what they stand for.
use Rattle.std.proofs.Common.{◌≡◌, ℕ, zero, suc, ◌*◌, ◌+◌, ◌-◌, ◌<◌, ◌≤◌, take, true, cond, nat_lt, List, [], ◌∷◌, length, fold, Some, None, refl, arith, rules}
use Rattle.std.specs.List.{list_all}
use Rattle.std.specs.Char.{is_ascii_digit}
use Rattle.std.proofs.lemmas.Str.Parse.{IsNumeralModel, numerals_by_fold}
use Rattle.std.proofs.lemmas.Bool.Decides.{nat_tests}
use Rattle.event_lines.specs.Words.{value_of, is_number, number_below}

-- Digits stand for the same number here and to `parse`.
pub own : IsNumeralModel (λ ds. list_all is_ascii_digit ds ≡ true) value_of
own = numerals_by_fold _ (search rules) (λ n ds. fold (λ m digit. m * 10 + (digit - 48)) n ds) (search rules)

-- A number is digits, at least one.
pub number_digits : (word : List ℕ) → is_number word ≡ true → (list_all is_ascii_digit word ≡ true) × (0 < length word)
number_digits [] h = absurd (grind arith)
number_digits (c ∷ []) h = grind (arith, nat_tests)
number_digits (c ∷ d ∷ cs) h = grind (arith, nat_tests)

-- what `number_below` computes where the word is a number
pub number_below_at : (limit : ℕ) (word : List ℕ) → is_number word ≡ true → number_below limit word ≡ cond (nat_lt (value_of word) limit) (Some (value_of word)) None
unfolding number_below
number_below_at limit word h = rw h refl

-- more digits never stand for less
step_at_least : (n : ℕ) (ds : List ℕ) → n ≤ fold (λ m digit. m * 10 + (digit - 48)) n ds
step_at_least n [] = omega arith
step_at_least n (d ∷ ds) = omega (arith, step_at_least (n * 10 + (d - 48)) ds)

pub front_at_most : (n k : ℕ) (ds : List ℕ) → fold (λ m digit. m * 10 + (digit - 48)) n (take k ds) ≤ fold (λ m digit. m * 10 + (digit - 48)) n ds
front_at_most n zero ds = step_at_least n ds
front_at_most n (suc k) [] = omega arith
front_at_most n (suc k) (d ∷ ds) = front_at_most (n * 10 + (d - 48)) k ds
