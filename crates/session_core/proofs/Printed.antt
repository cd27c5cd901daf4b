-- What stands in a text that was empty, and the parts of a text one behind the other.
use Rattle.std.proofs.Common.{◌≡◌, ℕ, List, [], ◌++◌, sym, ap, ◌∙◌, append_assoc}

pub printed : (old new text : List ℕ) → new ≡ old ++ text → old ≡ [] → new ≡ text
printed old new text h empty = h ∙ ap (λ o. o ++ text) empty

-- five parts behind the first one
pub five : (a b c d e : List ℕ) → a ++ (b ++ (c ++ (d ++ e))) ≡ ((((a ++ b) ++ c) ++ d) ++ e)
five a b c d e =
    sym (append_assoc (((a ++ b) ++ c)) d e ∙ append_assoc (a ++ b) c (d ++ e) ∙ append_assoc a b (c ++ (d ++ e)))
