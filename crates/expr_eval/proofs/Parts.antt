-- A text that stands in another one.
use Rattle.std.proofs.Common.{◌≡◌, ℕ, zero, suc, ◌+◌, ◌<◌, List, [], ◌∷◌, length, drop, nat_eq, false, ◌||◌, sym, ap, ◌∙◌, arith, add-one}
use Rattle.std.specs.List.{starts_with}
use Rattle.expr_eval.specs.Texts.{contains}

-- it doesn't begin at this place, so it stands behind it or nowhere
further : (text part : List ℕ) (i : ℕ) → i < length text → starts_with nat_eq (drop i text) part ≡ false → contains (drop (suc i) text) part ≡ contains (drop i text) part
further [] part i h e = absurd (omega (arith, h))
further (b ∷ bytes) part zero h e = sym (ap (λ t. t || contains bytes part) e)
further (b ∷ bytes) part (suc i) h e = further bytes part i (omega (arith, h)) e

pub contains_on : (text part : List ℕ) (i : ℕ) → i < length text → starts_with nat_eq (drop i text) part ≡ false → contains (drop (i + 1) text) part ≡ contains (drop i text) part
contains_on text part i h e = ap (λ n. contains (drop n text) part) (add-one i) ∙ further text part i h e
