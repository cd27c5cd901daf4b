-- A printed expression at a place that asks for a level is read as one of this level: in parentheses where it binds less.
use Rattle.std.proofs.Common.{◌≡◌, inl, ℕ, suc, ◌<◌, ◌≤◌, Bool, true, false, cond, nat_lt, [], ◌∷◌, ◌++◌, codes, refl, sym, subst, arith}
use Rattle.std.proofs.lemmas.Bool.Decides.{nat_tests}
use Rattle.cypher_syntax.specs.declared.tree.expr.Expr.{Expr, out-Expr}
use Rattle.cypher_parse.specs.declared.kind.Kind.TheVariants as k
use Rattle.cypher_parse.specs.Expressions.{Or, Atom, At}
use Rattle.cypher_print.specs.Pieces.{Pieces}
use Rattle.cypher_print.specs.Printed.{level_at, expr}
use Rattle.cypher_print.proofs.PrintLemmas.{placed}
use Rattle.cypher_print.proofs.Parts.{left_paren, right_paren}
use Rattle.cypher_print.proofs.PiecesRead.{Read, Token, of_sure, after_sure, before, via}
use Rattle.cypher_print.proofs.ExpressionLevels.{Level, at_most}

-- how tightly its outermost operator binds
abbrev pub own : Expr → ℕ
own x = level_at (out-Expr x)

-- Without parentheses it is read as one of its own level, wherever so many tokens may be open at once as at n. Where this
-- level is below the one asked for, one token fewer is enough.
pub record Ready (level n : ℕ) (x : Expr) : Type 0 where
  pub bare : (m : ℕ) → n ≤ m → Read (Level (own x) (At m)) x (expr x 0)
  pub inside : own x < level → (m : ℕ) → n ≤ m → (less : ℕ) × (m ≡ suc less) × Read (Level (own x) (At less)) x (expr x 0)

-- ---- parentheses

pub open_paren : Token (k.LeftParen ∷ []) (codes "(" ∷ [])
open_paren = record { token = record { reads = λ behind. left_paren behind } }

pub close_paren : Token (k.RightParen ∷ []) (codes ")" ∷ [])
close_paren = record { token = record { reads = λ behind. right_paren behind } }

in_parentheses : (m : ℕ) (x : Expr) (ps : Pieces) → Read (Or (At m)) x ps → Read (Atom (At (suc m))) x (codes "(" ∷ (ps ++ codes ")" ∷ []))
unfolding At Atom
in_parentheses m x ps r = via (λ ts u. inl (x, u, refl)) (after_sure open_paren (of_sure (before r close_paren (λ behind. refl))))

-- ---- places

not_less : (a b : ℕ) → nat_lt a b ≡ false → b ≤ a
not_less a b h = grind (arith, nat_tests)

less : (a b : ℕ) → nat_lt a b ≡ true → a < b
less a b h = grind (arith, nat_tests)

at_place : (level n m : ℕ) (x : Expr) → level ≤ 10 → n ≤ m → Ready level n x → (c : Bool) → nat_lt (own x) level ≡ c → Read (Level level (At m)) x (cond c (codes "(" ∷ (expr x 0 ++ codes ")" ∷ [])) (expr x 0))
at_place level n m x top le r false e = via (λ ts u. at_most (At m) ts x (own x) level (not_less (own x) level e) u) (r.bare m le)
at_place level n m x top le r true e =
    let i = r.inside (less (own x) level e) m le in
    let j = i.0 in
    let loose : Read (Or (At j)) x (expr x 0) = via (λ ts u. at_most (At j) ts x (own x) 0 (omega arith) u) i.2 in
    let P : ℕ → Type 0 = λ m. Read (Level level (At m)) x (codes "(" ∷ (expr x 0 ++ codes ")" ∷ [])) in
    subst P (sym i.1) (via (λ ts u. at_most (At (suc j)) ts x 10 level top u) (in_parentheses j x (expr x 0) loose))

pub at_level : (level n m : ℕ) (x : Expr) → level ≤ 10 → n ≤ m → Ready level n x → Read (Level level (At m)) x (expr x level)
at_level level n m x top le r = subst (λ ps. Read (Level level (At m)) x ps) (sym (placed x level)) (at_place level n m x top le r (nat_lt (own x) level) refl)

-- ---- what is ready

-- at a looser place
pub looser_place : {level n : ℕ} {x : Expr} → Ready (suc level) n x → Ready level n x
looser_place {level = level} {x = x} r = record { bare = r.bare; inside = λ low. (let lower : own x < suc level = omega (arith, low) in r.inside lower) }

-- an operator of the place's level or a tighter one
pub ready_as : (level j n : ℕ) (x : Expr) → own x ≡ j → level ≤ j → ((m : ℕ) → n ≤ m → Read (Level j (At m)) x (expr x 0)) → Ready level n x
ready_as level j n x is le r = record {
  bare = λ m more. subst (λ j. Read (Level j (At m)) x (expr x 0)) (sym is) (r m more);
  inside = λ low. absurd (omega (arith, low, is, le));
}
