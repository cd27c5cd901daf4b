-- A printed chain of operands is read as that chain.
use Rattle.std.proofs.Common.{◌≡◌, ℕ, suc, ◌≤◌, List, [], ◌∷◌, ◌++◌, refl, sym, ap, subst, arith}
use Rattle.std.specs.List.{flat_map}
use Rattle.cypher_syntax.specs.declared.tree.expr.Expr.{Expr}
use Rattle.cypher_parse.specs.Languages.{Tokens, Lang, Map, Chain}
use Rattle.cypher_parse.specs.Expressions.{Inside, At}
use Rattle.cypher_print.specs.Pieces.{Pieces, written}
use Rattle.cypher_print.specs.Printed.{expr}
use Rattle.cypher_print.specs.Sentences.{All}
use Rattle.cypher_print.proofs.Holds.{Holds, of_map, of_chain}
use Rattle.cypher_print.proofs.PiecesRead.{Read, Apart, seq, via, rewritten, many, many_apart}
use Rattle.cypher_print.proofs.ExpressionLevels.{Level}
use Rattle.cypher_print.proofs.PlacedRead.{own, Ready, at_level, looser_place, ready_as}

-- A first operand of the next level, and further items. Where there are none the chain is its operand.
module _ (level : ℕ) (top : suc level ≤ 10) (B : Type 0) (M : Inside → Lang B) (make : Expr × List B → Expr) (f : B → Pieces)
    (alone : (a : Expr) → make (a, []) ≡ a)
    (is_own : (a : Expr) (b : B) (bs : List B) → own (make (a, b ∷ bs)) ≡ level)
    (text : (a : Expr) (b : B) (bs : List B) → expr (make (a, b ∷ bs)) 0 ≡ expr a (suc level) ++ flat_map f (b ∷ bs))
    (to : (l : Inside) (ts : Tokens) (x : Expr) → Map make (Chain (Level (suc level) l) (M l)) ts x → Level level l ts x)
    (n : ℕ) (l : Inside) (Good : B → Type 0)
    (good : (b : B) → Good b → (m : ℕ) → n ≤ m → Read (M (At m)) b (f b))
    (apart : (b : B) → Good b → Apart (f b))
    (first : Holds (Level (suc level) l) (Ready (suc level) n))
    (next : Holds (M l) Good) where
  made : (a : Expr) (bs : List B) → Ready (suc level) n a → All Good bs → Ready level n (make (a, bs))
  made a [] r are = subst (Ready level n) (sym (alone a)) (looser_place r)
  made a (b ∷ bs) r are =
      let same : level ≤ level = omega arith in
      ready_as level level n (make (a, b ∷ bs)) (is_own a b bs) same
      (λ m more. rewritten (ap (written []) (sym (text a b bs)))
      (via (λ ts u. to (At m) ts (make (a, b ∷ bs)) ((a, b ∷ bs), u, refl))
      (seq (at_level (suc level) n m a top more r) (many {L = M (At m)} f Good (λ b g. good b g m more) apart (b ∷ bs) are) (many_apart f Good apart (b ∷ bs) are))))

  pub chain : Holds (Map make (Chain (Level (suc level) l) (M l))) (Ready level n)
  chain = of_map make (Ready level n) (λ p h. made p.0 p.1 h.0 h.1) (of_chain first next)
