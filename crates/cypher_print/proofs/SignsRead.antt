-- Printed signs and NOT are read as these.
use Rattle.std.proofs.Common.{◌≡◌, inl, inr, ℕ, suc, ◌<◌, ◌^◌, negsuc, cond, [], ◌∷◌, codes, refl, ap, ◌∙◌, arith}
use Rattle.std.specs.Fmt.{decimal}
use Rattle.graph_value.specs.declared.value.Value.TheVariants as value
use Rattle.cypher_syntax.specs.declared.tree.expr.Expr.{Expr}
use Rattle.cypher_syntax.specs.declared.tree.expr.Expr.TheVariants as tree
use Rattle.cypher_syntax.specs.declared.tree.operators.SumOp.TheVariants.{Plus, Minus}
use Rattle.cypher_parse.specs.declared.kind.Kind.TheVariants as k
use Rattle.cypher_parse.specs.Kinds.{number, member}
use Rattle.cypher_parse.specs.Spelling.{kind_of}
use Rattle.cypher_parse.specs.Texts.{lexeme_of}
use Rattle.cypher_parse.specs.Languages.{One, Map}
use Rattle.cypher_parse.specs.Expressions.{Inside, Negative, Post, Unary, Comparison, Not, At}
use Rattle.cypher_print.specs.Pieces.{Pieces, value_level}
use Rattle.cypher_print.specs.Printed.{level_at, is_signed, expr}
use Rattle.cypher_print.proofs.PrintLemmas.{print-Lit, print-Not, print-Sign}
use Rattle.cypher_print.proofs.ReadNumbers.{least}
use Rattle.cypher_print.proofs.Sentences.{one_token}
use Rattle.cypher_print.proofs.Parts.{sign, lone, minus}
use Rattle.cypher_print.proofs.Holds.{Holds, anything, weaker, of_map, of_alt}
use Rattle.cypher_print.proofs.PiecesRead.{Read, Token, after_sure, via, mapped, left, right, rewritten}
use Rattle.cypher_print.proofs.WordsRead.{parts_too}
use Rattle.cypher_print.proofs.ExpressionWords.{not_word}
use Rattle.cypher_print.proofs.PlacedRead.{own, Ready, looser_place}
use Rattle.cypher_print.proofs.InsideRead.{WithinAt, Opened, of_enter, ready_inside}

minus_token : Token (k.Minus ∷ []) (codes "-" ∷ [])
minus_token = record { token = record { reads = λ behind. minus behind } }

plus_token : Token (k.Plus ∷ []) (codes "+" ∷ [])
unfolding kind_of
plus_token = record { token = record { reads = λ behind. sign 43 k.Plus refl refl refl behind (lone 43 refl refl refl refl behind) } }

abbrev Least : Expr
Least = tree.Lit (value.Int (negsuc 9223372036854775807))

least_read : Read (Map (λ t. Least) (One (k.LeastMagnitude ∷ []))) Least (decimal (2 ^ 63) ∷ [])
least_read = record {
  reads = λ behind h. (let r = least behind (parts_too behind h) in
      one_token (Map (λ t. Least) (One (k.LeastMagnitude ∷ []))) Least (decimal (2 ^ 63)) behind (r.0, r.1, λ place. (lexeme_of r.0 (decimal (2 ^ 63)) place, (refl, ap (λ j. member (number j) (k.LeastMagnitude ∷ [])) (r.2 place)), refl)));
}

own_least : own Least ≡ 8
own_least = ap level_at (tree.outs-Lit (value.Int (negsuc 9223372036854775807))) ∙ ap (λ v. cond (is_signed v) 8 10) (value.outs-Int (negsuc 9223372036854775807))

print_least : expr Least 0 ≡ (45 ∷ decimal (2 ^ 63)) ∷ []
print_least = print-Lit (value.Int (negsuc 9223372036854775807)) ∙ ap value_level (value.outs-Int (negsuc 9223372036854775807))

module _ (i : ℕ) where
  negative : (x : Expr) (ps : Pieces) → Read (Negative (At (suc i))) x ps → Read (Unary (At (suc i))) x (codes "-" ∷ ps)
  unfolding Unary At
  negative x ps r = via (λ ts u. inl (x, u, refl)) (after_sure minus_token r)

  minus_least : Read (Unary (At (suc i))) Least ((45 ∷ decimal (2 ^ 63)) ∷ [])
  minus_least = rewritten refl (negative Least (decimal (2 ^ 63) ∷ []) (left least_read))

  minus_read : (x : Expr) (ps : Pieces) → Read (Unary (At i)) x ps → Read (Unary (At (suc i))) (tree.Sign Minus x) (codes "-" ∷ ps)
  unfolding At
  minus_read x ps r = negative (tree.Sign Minus x) ps (right (mapped (tree.Sign Minus) r))

  plus_read : (x : Expr) (ps : Pieces) → Read (Unary (At i)) x ps → Read (Unary (At (suc i))) (tree.Sign Plus x) (codes "+" ∷ ps)
  unfolding Unary At
  plus_read x ps r = via (λ ts u. inr (inl (x, u, refl))) (after_sure plus_token r)

  not_read : (x : Expr) (ps : Pieces) → Read (Not (At i)) x ps → Read (Not (At (suc i))) (tree.Not x) (codes "NOT " ∷ ps)
  unfolding Not At
  not_read x ps r = via (λ ts u. inl (x, u, refl)) (after_sure not_word r)

module _ (n : ℕ) (l : Inside) (o : Opened n l) where
  minus_ready : (x : Expr) → WithinAt 8 n x → 0 < n → Ready 8 n (tree.Sign Minus x)
  minus_ready x w some = ready_inside 8 8 n (tree.Sign Minus x) (codes "-" ∷ expr x 8) (ap level_at (tree.outs-Sign Minus x)) (omega arith) some (print-Sign Minus x) (λ i more. minus_read i x (expr x 8) (w i more))

  plus_ready : (x : Expr) → WithinAt 8 n x → 0 < n → Ready 8 n (tree.Sign Plus x)
  plus_ready x w some = ready_inside 8 8 n (tree.Sign Plus x) (codes "+" ∷ expr x 8) (ap level_at (tree.outs-Sign Plus x)) (omega arith) some (print-Sign Plus x) (λ i more. plus_read i x (expr x 8) (w i more))

  least_ready : 0 < n → Ready 8 n Least
  least_ready some = ready_inside 8 8 n Least ((45 ∷ decimal (2 ^ 63)) ∷ []) own_least (omega arith) some print_least (λ i more. minus_least i)

  negative_ready : Holds (Negative l) (λ x. 0 < n → Ready 8 n x)
  negative_ready = of_alt (of_map (λ t. Least) (λ x. 0 < n → Ready 8 n x) (λ t u. least_ready) anything) (of_map (tree.Sign Minus) (λ x. 0 < n → Ready 8 n x) minus_ready o.signed)

  pub unary_ready : Holds (Post l) (Ready 9 n) → Holds (Unary l) (Ready 8 n)
  unfolding Unary
  unary_ready post =
      of_alt (of_enter l.left (k.Minus ∷ []) (λ x. x) (Ready 8 n) (λ may x h. h (o.some may)) negative_ready)
      (of_alt (of_enter l.left (k.Plus ∷ []) (tree.Sign Plus) (Ready 8 n) (λ may x w. plus_ready x w (o.some may)) o.signed)
      (weaker (λ x. looser_place) post))

  not_ready : (x : Expr) → WithinAt 3 n x → 0 < n → Ready 3 n (tree.Not x)
  not_ready x w some = ready_inside 3 3 n (tree.Not x) (codes "NOT " ∷ expr x 3) (ap level_at (tree.outs-Not x)) (omega arith) some (print-Not x) (λ i more. not_read i x (expr x 3) (w i more))

  pub negation_ready : Holds (Comparison l) (Ready 4 n) → Holds (Not l) (Ready 3 n)
  unfolding Not
  negation_ready comparison =
      of_alt (of_enter l.left (k.Not ∷ []) tree.Not (Ready 3 n) (λ may x w. not_ready x w (o.some may)) o.negated)
      (weaker (λ x. looser_place) comparison)
