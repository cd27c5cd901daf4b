-- A sum, from a place on.
use Rattle.std.proofs.Common.{◌≡◌, ℕ, zero, suc, ◌+◌, ◌<◌, List, [], ◌∷◌, length, get_or, drop, ℤ, ◌+ℤ◌, Ok, refl, sym, ap, ◌∙◌, arith, add-one}
use Rattle.graph_value.specs.declared.value.Value.{Value}
use Rattle.expr_eval.specs.Outcome.{Outcome, and_then}
use Rattle.row_ops.specs.Aggregates.{integer, total}

total_on : (vs : List Value) (t : ℤ) (i : ℕ) (d : Value) → i < length vs → total t (drop i vs) ≡ and_then (integer (get_or vs i d)) (λ m. total (t +ℤ m) (drop (suc i) vs))
total_on [] t i d h = absurd (omega arith)
total_on (v ∷ vs) t zero d h = refl
total_on (v ∷ vs) t (suc i) d h = total_on vs t i d (omega arith)

pub total_step : (vs : List Value) (t : ℤ) (i : ℕ) (v : Value) (m new : ℤ) (o : Outcome ℤ) → i < length vs → v ≡ get_or vs i v → Ok m ≡ integer v
    → total t (drop i vs) ≡ o → new ≡ t +ℤ m → total new (drop (i + 1) vs) ≡ o
total_step vs t i v m new o h is told so sum =
    ap (λ n. total n (drop (i + 1) vs)) sum
    ∙ ap (λ n. total (t +ℤ m) (drop n vs)) (add-one i)
    ∙ ap (λ (o : Outcome ℤ). and_then o (λ m. total (t +ℤ m) (drop (suc i) vs))) (told ∙ ap integer is)
    ∙ sym (total_on vs t i v h)
    ∙ so
