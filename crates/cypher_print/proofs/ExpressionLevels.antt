-- The languages of expressions by how tightly their operators bind: each tighter one is a part of the looser ones.
use Rattle.std.proofs.Common.{◌≡◌, inr, ℕ, zero, suc, ◌+◌, ◌-◌, ◌≤◌, [], ◌++◌, refl, sym, subst, append-nil, arith}
use Rattle.cypher_syntax.specs.declared.tree.expr.Expr.{Expr}
use Rattle.cypher_parse.specs.Languages.{Tokens, Lang}
use Rattle.cypher_parse.specs.Expressions.{Inside, Or, Xor, And, Not, Comparison, Predicate, Sum, Product, Unary, Post, Atom}

-- OR 0, XOR 1, AND 2, NOT 3, comparisons 4, tests 5, sums 6, products 7, signs 8, what stands behind an operand 9, and what
-- stands alone
abbrev pub Level : ℕ → Inside → Lang Expr
Level zero l = Or l
Level (suc zero) l = Xor l
Level (suc (suc zero)) l = And l
Level (suc (suc (suc zero))) l = Not l
Level (suc (suc (suc (suc zero)))) l = Comparison l
Level (suc (suc (suc (suc (suc zero))))) l = Predicate l
Level (suc (suc (suc (suc (suc (suc zero)))))) l = Sum l
Level (suc (suc (suc (suc (suc (suc (suc zero))))))) l = Product l
Level (suc (suc (suc (suc (suc (suc (suc (suc zero)))))))) l = Unary l
Level (suc (suc (suc (suc (suc (suc (suc (suc (suc zero))))))))) l = Post l
Level (suc (suc (suc (suc (suc (suc (suc (suc (suc (suc n)))))))))) l = Atom l

module _ (l : Inside) (ts : Tokens) (x : Expr) where
  none_more : ts ≡ ts ++ []
  none_more = sym (append-nil ts)

  looser : (k : ℕ) → Level (suc k) l ts x → Level k l ts x
  unfolding Or Xor And Not Comparison Predicate Sum Product Unary Post
  looser zero h = ((x, []), (ts, [], none_more, h, refl), refl)
  looser (suc zero) h = ((x, []), (ts, [], none_more, h, refl), refl)
  looser (suc (suc zero)) h = ((x, []), (ts, [], none_more, h, refl), refl)
  looser (suc (suc (suc zero))) h = inr h
  looser (suc (suc (suc (suc zero)))) h = ((x, []), (ts, [], none_more, h, refl), refl)
  looser (suc (suc (suc (suc (suc zero))))) h = ((x, []), (ts, [], none_more, h, refl), refl)
  looser (suc (suc (suc (suc (suc (suc zero)))))) h = ((x, []), (ts, [], none_more, h, refl), refl)
  looser (suc (suc (suc (suc (suc (suc (suc zero))))))) h = ((x, []), (ts, [], none_more, h, refl), refl)
  looser (suc (suc (suc (suc (suc (suc (suc (suc zero)))))))) h = inr (inr h)
  looser (suc (suc (suc (suc (suc (suc (suc (suc (suc zero))))))))) h = ((x, ([], [])), (ts, [], none_more, h, ([], [], refl, inr (refl, refl), refl)), refl)
  looser (suc (suc (suc (suc (suc (suc (suc (suc (suc (suc n)))))))))) h = h

  looser_by : (d k j : ℕ) → j ≡ d + k → Level j l ts x → Level k l ts x
  looser_by zero k j e h = let same : j ≡ k = omega (arith, e) in subst (λ j. Level j l ts x) same h
  looser_by (suc d) k j e h =
      let same : j ≡ suc (d + k) = omega (arith, e) in
      looser_by d k (d + k) refl (looser (d + k) (subst (λ j. Level j l ts x) same h))

  pub at_most : (j k : ℕ) → k ≤ j → Level j l ts x → Level k l ts x
  at_most j k le h = let far : j ≡ (j - k) + k = omega arith in looser_by (j - k) k j far h
