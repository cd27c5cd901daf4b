-- Printed tests behind an operand are read as these tests.
use Rattle.std.proofs.Common.{◌≡◌, ℕ, ◌≤◌, [], ◌∷◌, codes, refl, sym, ap, ◌∙◌, subst, arith}
use Rattle.cypher_syntax.specs.declared.tree.expr.Expr.{Expr}
use Rattle.cypher_syntax.specs.declared.tree.expr.Expr.TheOpen.{PredOp-F}
use Rattle.cypher_syntax.specs.declared.tree.expr.PredOp.{PredOp, fold-roll-PredOp}
use Rattle.cypher_syntax.specs.declared.tree.expr.PredOp.TheVariants as test
use Rattle.cypher_parse.specs.declared.kind.Kind.TheVariants as k
use Rattle.cypher_parse.specs.Expressions.{Inside, Sum, Test, At}
use Rattle.cypher_print.specs.Pieces.{Pieces}
use Rattle.cypher_print.specs.Printed.{Placed, expr_level, post_level, pred_level, expr, pred}
use Rattle.cypher_print.proofs.Holds.{Holds, anything, of_map, of_after, of_alt}
use Rattle.cypher_print.proofs.PiecesRead.{Read, Apart, begins, after, after_sure, passed_as, mapped, left, right, rewritten}
use Rattle.cypher_print.proofs.PlacedRead.{Ready, at_level}
use Rattle.cypher_print.proofs.OperatorsRead.{ReadyTest}
use Rattle.cypher_print.proofs.ExpressionWords.{in_word, starts, ends, with_word, contains, is_word, not_behind, null_behind}

print-OneOf : (x : Expr) → pred (test.OneOf x) ≡ codes " IN " ∷ expr x 6
print-OneOf x = ap pred (sym (test.rolls-OneOf x)) ∙ fold-roll-PredOp Placed Pieces Pieces expr_level post_level pred_level (PredOp-F.OneOf x)

print-Starts : (x : Expr) → pred (test.Starts x) ≡ codes " STARTS" ∷ codes " WITH " ∷ expr x 6
print-Starts x = ap pred (sym (test.rolls-Starts x)) ∙ fold-roll-PredOp Placed Pieces Pieces expr_level post_level pred_level (PredOp-F.Starts x)

print-Ends : (x : Expr) → pred (test.Ends x) ≡ codes " ENDS" ∷ codes " WITH " ∷ expr x 6
print-Ends x = ap pred (sym (test.rolls-Ends x)) ∙ fold-roll-PredOp Placed Pieces Pieces expr_level post_level pred_level (PredOp-F.Ends x)

print-Contains : (x : Expr) → pred (test.Contains x) ≡ codes " CONTAINS " ∷ expr x 6
print-Contains x = ap pred (sym (test.rolls-Contains x)) ∙ fold-roll-PredOp Placed Pieces Pieces expr_level post_level pred_level (PredOp-F.Contains x)

print-IsNull : pred test.IsNull ≡ codes " IS NULL" ∷ []
print-IsNull = ap pred (sym test.rolls-IsNull) ∙ fold-roll-PredOp Placed Pieces Pieces expr_level post_level pred_level PredOp-F.IsNull

print-IsNotNull : pred test.IsNotNull ≡ codes " IS NOT" ∷ codes " NULL" ∷ []
print-IsNotNull = ap pred (sym test.rolls-IsNotNull) ∙ fold-roll-PredOp Placed Pieces Pieces expr_level post_level pred_level PredOp-F.IsNotNull

-- by its pieces
ready_test : (n : ℕ) (t : PredOp) (ps : Pieces) → pred t ≡ ps → Apart ps → ((m : ℕ) → n ≤ m → Read (Test (At m)) t ps) → ReadyTest n t
ready_test n t ps is apart r = (subst Apart (sym is) apart, λ m more. subst (λ ps. Read (Test (At m)) t ps) (sym is) (r m more))

module _ (m : ℕ) where
  in_read : (x : Expr) → Read (Sum (At m)) x (expr x 6) → Read (Test (At m)) (test.OneOf x) (codes " IN " ∷ expr x 6)
  unfolding Test
  in_read x r = left (mapped test.OneOf (after_sure in_word r))

  starts_read : (x : Expr) → Read (Sum (At m)) x (expr x 6) → Read (Test (At m)) (test.Starts x) (codes " STARTS" ∷ codes " WITH " ∷ expr x 6)
  unfolding Test
  starts_read x r = right (left (mapped test.Starts (after starts (after_sure with_word r) (begins 32 (codes "WITH ") (expr x 6) refl))))

  ends_read : (x : Expr) → Read (Sum (At m)) x (expr x 6) → Read (Test (At m)) (test.Ends x) (codes " ENDS" ∷ codes " WITH " ∷ expr x 6)
  unfolding Test
  ends_read x r = right (right (left (mapped test.Ends (after ends (after_sure with_word r) (begins 32 (codes "WITH ") (expr x 6) refl)))))

  contains_read : (x : Expr) → Read (Sum (At m)) x (expr x 6) → Read (Test (At m)) (test.Contains x) (codes " CONTAINS " ∷ expr x 6)
  unfolding Test
  contains_read x r = right (right (right (left (mapped test.Contains (after_sure contains r)))))

  not_null_read : Read (Test (At m)) test.IsNotNull (codes " IS NOT" ∷ codes " NULL" ∷ [])
  unfolding Test
  not_null_read =
      let null = begins 32 (codes "NULL") [] refl in
      let not_null = begins 32 (codes "NOT") (codes " NULL" ∷ []) refl in
      right (right (right (right (rewritten refl (after is_word (left (after not_behind (passed_as test.IsNotNull null_behind) null)) not_null)))))

  null_read : Read (Test (At m)) test.IsNull (codes " IS NULL" ∷ [])
  unfolding Test
  null_read =
      let null = begins 32 (codes "NULL") [] refl in
      right (right (right (right (rewritten refl (after is_word (right (passed_as test.IsNull null_behind)) null)))))

module _ (n : ℕ) (l : Inside) (operand : Holds (Sum l) (Ready 6 n)) where
  at_six : (x : Expr) → Ready 6 n x → (m : ℕ) → n ≤ m → Read (Sum (At m)) x (expr x 6)
  at_six x r m more = at_level 6 n m x (omega arith) more r

  one_of : (x : Expr) → Ready 6 n x → ReadyTest n (test.OneOf x)
  one_of x r = ready_test n (test.OneOf x) (codes " IN " ∷ expr x 6) (print-OneOf x) (begins 32 (codes "IN ") (expr x 6) refl) (λ m more. in_read m x (at_six x r m more))

  starts_with : (x : Expr) → Ready 6 n x → ReadyTest n (test.Starts x)
  starts_with x r = ready_test n (test.Starts x) (codes " STARTS" ∷ codes " WITH " ∷ expr x 6) (print-Starts x) (begins 32 (codes "STARTS") (codes " WITH " ∷ expr x 6) refl) (λ m more. starts_read m x (at_six x r m more))

  ends_with : (x : Expr) → Ready 6 n x → ReadyTest n (test.Ends x)
  ends_with x r = ready_test n (test.Ends x) (codes " ENDS" ∷ codes " WITH " ∷ expr x 6) (print-Ends x) (begins 32 (codes "ENDS") (codes " WITH " ∷ expr x 6) refl) (λ m more. ends_read m x (at_six x r m more))

  has_part : (x : Expr) → Ready 6 n x → ReadyTest n (test.Contains x)
  has_part x r = ready_test n (test.Contains x) (codes " CONTAINS " ∷ expr x 6) (print-Contains x) (begins 32 (codes "CONTAINS ") (expr x 6) refl) (λ m more. contains_read m x (at_six x r m more))

  not_null : ReadyTest n test.IsNotNull
  not_null = ready_test n test.IsNotNull (codes " IS NOT" ∷ codes " NULL" ∷ []) print-IsNotNull (begins 32 (codes "IS NOT") (codes " NULL" ∷ []) refl) (λ m more. not_null_read m)

  null : ReadyTest n test.IsNull
  null = ready_test n test.IsNull (codes " IS NULL" ∷ []) print-IsNull (begins 32 (codes "IS NULL") [] refl) (λ m more. null_read m)

  pub test_ready : Holds (Test l) (ReadyTest n)
  unfolding Test
  test_ready =
      of_alt (of_map test.OneOf (ReadyTest n) one_of (of_after (k.In ∷ []) operand))
      (of_alt (of_map test.Starts (ReadyTest n) starts_with (of_after (k.Starts ∷ []) (of_after (k.With ∷ []) operand)))
      (of_alt (of_map test.Ends (ReadyTest n) ends_with (of_after (k.Ends ∷ []) (of_after (k.With ∷ []) operand)))
      (of_alt (of_map test.Contains (ReadyTest n) has_part (of_after (k.Contains ∷ []) operand))
      (of_after (k.Is ∷ [])
      (of_alt (of_after (k.Not ∷ []) (of_map (λ t. test.IsNotNull) (ReadyTest n) (λ t u. not_null) anything))
      (of_map (λ t. test.IsNull) (ReadyTest n) (λ t u. null) anything))))))
