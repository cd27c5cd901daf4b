-- A piece goes from what is left to what is done.
use Rattle.std.proofs.Common.{◌≡◌, ℕ, zero, suc, ◌+◌, ◌<◌, List, [], ◌∷◌, ◌++◌, length, get_or, drop, sym, ap, ◌∙◌, refl, arith, add-one, append_assoc}
use Rattle.cypher_syntax.specs.declared.tree.clause.Unwind.{Unwind}
use Rattle.graph_record.specs.Graph.{Graph}
use Rattle.expr_eval.specs.Outcome.{and_then}
use Rattle.expr_eval.specs.Row.{Row}
use Rattle.row_ops.specs.Unwinding.{unwound_row, unwound_on}

pub moved : {X : Type 0} (done new piece left rest whole : List X) → new ≡ done ++ piece → left ≡ piece ++ rest → done ++ left ≡ whole → new ++ rest ≡ whole
moved done new piece left rest whole n l w =
    ap (λ xs. xs ++ rest) n ∙ append_assoc done piece rest ∙ ap (λ xs. done ++ xs) (sym l) ∙ w

unwound_at : (g : Graph) (u : Unwind) (rows : List Row) (table : List Row) (i : ℕ) (d : Row) → i < length table
    → unwound_on g u rows (drop i table) ≡ and_then (unwound_row g u rows (get_or table i d)) (λ all. unwound_on g u all (drop (suc i) table))
unwound_at g u rows [] i d h = absurd (omega arith)
unwound_at g u rows (row ∷ table) zero d h = refl
unwound_at g u rows (row ∷ table) (suc i) d h = unwound_at g u rows table i d (omega arith)

pub unwound_step : (g : Graph) (u : Unwind) (rows : List Row) (table : List Row) (i : ℕ) (row : Row) → i < length table → row ≡ get_or table i row
    → unwound_on g u rows (drop i table) ≡ and_then (unwound_row g u rows row) (λ all. unwound_on g u all (drop (i + 1) table))
unwound_step g u rows table i row h is =
    unwound_at g u rows table i row h
    ∙ ap (λ r. and_then (unwound_row g u rows r) (λ all. unwound_on g u all (drop (suc i) table))) (sym is)
    ∙ ap (λ n. and_then (unwound_row g u rows row) (λ all. unwound_on g u all (drop n table))) (sym (add-one i))
