-- Lists of integers that follow one another.
use Rattle.std.proofs.Common.{◌≡◌, ℕ, suc, ◌+◌, List, [], ◌∷◌, ◌++◌, append_assoc, true, false, cond, ℤ, pos, ◌+ℤ◌, Ok, Err, sym, ap, ◌∙◌}
use Rattle.graph_value.specs.declared.value.Value.{Value}
use Rattle.graph_value.specs.declared.value.Value.TheVariants as value
use Rattle.expr_eval.specs.declared.refused.EvalRefused.TheVariants.{TooLarge}
use Rattle.expr_eval.specs.Lists.{counted}
use Rattle.expr_eval.specs.Size.{is_small, sized}
use Rattle.expr_eval.proofs.Sizes.{small_integers}

-- one more is made
pub counted_step : (front now whole : List Value) (z next : ℤ) (n k : ℕ) → next ≡ z +ℤ pos 1 → n ≡ suc k → now ≡ front ++ value.Int z ∷ [] → front ++ counted z n ≡ whole → now ++ counted next k ≡ whole
counted_step front now whole z next n k on more is so =
    ap (λ vs. vs ++ counted next k) is
    ∙ append_assoc front (value.Int z ∷ []) (counted next k)
    ∙ ap (λ y. front ++ value.Int z ∷ counted y k) on
    ∙ ap (λ m. front ++ counted z m) (sym more)
    ∙ so

pub sized_integers : (a : ℤ) (n : ℕ) (items : List Value) → is_small (1 + n) 1 ≡ true → items ≡ counted a n → sized (value.List (counted a n)) ≡ Ok (value.List items)
sized_integers a n items small is =
    ap (λ b. cond b (Ok (value.List (counted a n))) (Err TooLarge)) (small_integers a n ∙ small)
    ∙ ap (λ vs. Ok (value.List vs)) (sym is)

pub large_integers : (a : ℤ) (n : ℕ) → is_small (1 + n) 1 ≡ false → sized (value.List (counted a n)) ≡ Err TooLarge
large_integers a n large = ap (λ b. cond b (Ok (value.List (counted a n))) (Err TooLarge)) (small_integers a n ∙ large)
