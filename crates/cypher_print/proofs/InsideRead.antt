-- What is known of the expressions inside one more opening token.
use Rattle.std.proofs.Common.{◌≡◌, ℕ, zero, suc, ◌<◌, ◌≤◌, Bool, true, false, List, refl, sym, subst, arith}
use Rattle.cypher_syntax.specs.declared.tree.expr.Expr.{Expr}
use Rattle.cypher_parse.specs.declared.kind.Kind.{Kind}
use Rattle.cypher_parse.specs.Languages.{Lang, Enter}
use Rattle.cypher_parse.specs.Expressions.{Inside, Or, At}
use Rattle.cypher_print.specs.Pieces.{Pieces}
use Rattle.cypher_print.specs.Printed.{expr}
use Rattle.cypher_print.proofs.Holds.{Holds, of_map, of_after}
use Rattle.cypher_print.proofs.PiecesRead.{Read, via}
use Rattle.cypher_print.proofs.ExpressionLevels.{Level, at_most}
use Rattle.cypher_print.proofs.PlacedRead.{own, Ready, ready_as}

-- read without parentheses, wherever one token fewer may be open at once than n
abbrev pub Within : ℕ → Expr → Type 0
Within n x = (m : ℕ) → n ≤ suc m → Read (Level (own x) (At m)) x (expr x 0)

-- read at a place that asks for a level
abbrev pub WithinAt : ℕ → ℕ → Expr → Type 0
WithinAt level n x = (m : ℕ) → n ≤ suc m → Read (Level level (At m)) x (expr x level)

pub record Opened (n : ℕ) (l : Inside) : Type 0 where
  pub some : l.left ≡ true → 0 < n
  pub operand : Holds l.expr (Within n)
  pub negated : Holds l.not (WithinAt 3 n)
  pub signed : Holds l.unary (WithinAt 8 n)

pub loose : (n m : ℕ) (x : Expr) → n ≤ suc m → Within n x → Read (Or (At m)) x (expr x 0)
loose n m x more w = via (λ ts u. at_most (At m) ts x (own x) 0 (omega arith) u) (w m more)

-- what stands behind an opening token
pub of_enter : {A B : Type 0} {L : Lang A} {P : A → Type 0} (b : Bool) (kinds : List Kind) (f : A → B) (Q : B → Type 0) → (b ≡ true → (a : A) → P a → Q (f a)) → Holds L P → Holds (Enter b kinds f L) Q
of_enter true kinds f Q g x = of_map f Q (g refl) (of_after kinds x)
of_enter false kinds f Q g x = record { holds = λ ts b real l. absurd l }

pub at_one_more : (P : ℕ → Type 0) (n m : ℕ) → 0 < n → n ≤ m → ((j : ℕ) → n ≤ suc j → P (suc j)) → P m
at_one_more P n zero some more f = absurd (omega (arith, some, more))
at_one_more P n (suc j) some more f = f j more

-- an expression with an opening token, by its pieces
pub ready_inside : (level j n : ℕ) (x : Expr) (ps : Pieces) → own x ≡ j → level ≤ j → 0 < n → expr x 0 ≡ ps → ((i : ℕ) → n ≤ suc i → Read (Level j (At (suc i))) x ps) → Ready level n x
ready_inside level j n x ps is le some same r =
    ready_as level j n x is le (λ m more. at_one_more (λ m. Read (Level j (At m)) x (expr x 0)) n m some more (λ i far. subst (λ ps. Read (Level j (At (suc i))) x ps) (sym same) (r i far)))

-- another expression, by its pieces
pub ready_plain : (level j n : ℕ) (x : Expr) (ps : Pieces) → own x ≡ j → level ≤ j → expr x 0 ≡ ps → ((m : ℕ) → n ≤ m → Read (Level j (At m)) x ps) → Ready level n x
ready_plain level j n x ps is le same r = ready_as level j n x is le (λ m more. subst (λ ps. Read (Level j (At m)) x ps) (sym same) (r m more))
