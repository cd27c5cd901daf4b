-- One turn of CASE: a condition, and then its value or the conditions behind it.
use Rattle.std.proofs.Common.{◌≡◌, ℕ, zero, suc, ◌<◌, List, [], ◌∷◌, length, drop, get_or, Bool, cond, Option, Ok, sym, ap, ◌∙◌, refl, arith}
use Rattle.cypher_syntax.specs.declared.tree.expr.Expr.{Expr}
use Rattle.graph_record.specs.Graph.{Graph}
use Rattle.graph_reader.specs.Reading.{Continues}
use Rattle.graph_value.specs.declared.value.Value.{Value}
use Rattle.expr_eval.specs.Eval.{some, holds, eval_of, chosen_of}
use Rattle.expr_eval.specs.Outcome.{Outcome, and_then, Evaluates}
use Rattle.expr_eval.specs.Row.{Row}
use Rattle.expr_eval.proofs.Turns.{goes, turns}

-- the value behind a condition that holds, or what the others give
abbrev pub branch : Graph → Row → Option Value → Expr × Expr → List (Expr × Expr) → Bool → Outcome (Option Value)
branch g row first p ws b = cond b (and_then (eval_of g row p.1) some) (chosen_of g row first ws)

abbrev turn : Graph → Row → Option Value → Expr × Expr → List (Expr × Expr) → Value → Outcome (Option Value)
turn g row first p ws v = and_then (holds first v) (branch g row first p ws)

chosen_on : (g : Graph) (row : Row) (first : Option Value) (ws : List (Expr × Expr)) (i : ℕ) (p : Expr × Expr) → i < length ws →
    chosen_of g row first (drop i ws) ≡ and_then (eval_of g row (get_or ws i p).0) (turn g row first (get_or ws i p) (drop (suc i) ws))
chosen_on g row first [] i p h = absurd (omega (arith, h))
chosen_on g row first (w ∷ ws) zero p h = refl
chosen_on g row first (w ∷ ws) (suc i) p h = chosen_on g row first ws i p (omega (arith, h))

chosen_at : (g : Graph) (row : Row) (first : Option Value) (ws : List (Expr × Expr)) (i : ℕ) (p : Expr × Expr) → i < length ws → p ≡ get_or ws i p →
    chosen_of g row first (drop i ws) ≡ and_then (eval_of g row p.0) (turn g row first p (drop (suc i) ws))
chosen_at g row first ws i p h is =
    chosen_on g row first ws i p h ∙ ap (λ (q : Expr × Expr). and_then (eval_of g row q.0) (turn g row first q (drop (suc i) ws))) (sym is)

module _ {S : Type 0} (stands : S → Graph → Type 0) (follows : S → S → Type 0) (itself : (r : S) → follows r r) (onward : (a b c : S) → follows a b → follows b c → follows a c) where
  pub tried : (row : Row) (first : Option Value) (ws : List (Expr × Expr)) (i : ℕ) (p : Expr × Expr) (old now mid : S) (v : Value) (b t : Bool)
      → i < length ws → p ≡ get_or ws i p
      → Continues stands follows (λ g. chosen_of g row first ws) (λ g. chosen_of g row first (drop i ws)) old now
      → Evaluates stands follows (λ g. eval_of g row p.0) now mid (Ok v) → Ok b ≡ holds first v → b ≡ t
      → Continues stands follows (λ g. chosen_of g row first ws) (λ g. branch g row first p (drop (suc i) ws) t) old mid
  tried row first ws i p old now mid v b t h is c e said so =
      turns stands follows itself onward (λ g. chosen_of g row first ws) (λ g. turn g row first p (drop (suc i) ws) v) (λ g. branch g row first p (drop (suc i) ws) t) old mid
      (goes stands follows itself onward (λ g. chosen_of g row first ws) (λ g. eval_of g row p.0) (λ x g. turn g row first p (drop (suc i) ws) x) old now mid v
      (turns stands follows itself onward (λ g. chosen_of g row first ws) (λ g. chosen_of g row first (drop i ws)) (λ g. and_then (eval_of g row p.0) (turn g row first p (drop (suc i) ws))) old now c
      (λ g. chosen_at g row first ws i p h is))
      e)
      (λ g. ap (λ o. and_then o (branch g row first p (drop (suc i) ws))) (sym said) ∙ ap (branch g row first p (drop (suc i) ws)) so)
