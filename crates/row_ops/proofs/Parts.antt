-- The parts of a node, and what is left of them behind a place.
use Rattle.std.proofs.Common.{◌≡◌, ℕ, zero, suc, ◌+◌, ◌<◌, List, [], ◌∷◌, ◌++◌, length, map, drop, get_or, Option, None, Some, refl, sym, ap, ◌∙◌, arith, add-one, append_assoc, length-append}
use Rattle.std.specs.Prelude.{Result, IfOk, OnOk}
use Rattle.std.proofs.lemmas.Result.{IfOk-weaker, on_ok_weaker}
use Rattle.cypher_syntax.specs.declared.tree.expr.Expr.{Expr, fold-roll-Expr}
use Rattle.cypher_syntax.specs.declared.tree.expr.Expr.TheOpen.{Expr-F}
use Rattle.cypher_syntax.specs.declared.tree.expr.Expr.TheVariants as e
use Rattle.cypher_syntax.specs.declared.tree.expr.PostOp.{PostOp}
use Rattle.cypher_syntax.specs.declared.tree.expr.PredOp.{PredOp}
use Rattle.cypher_syntax.specs.declared.tree.operators.CmpOp.{CmpOp}
use Rattle.cypher_syntax.specs.declared.tree.operators.ProdOp.{ProdOp}
use Rattle.cypher_syntax.specs.declared.tree.operators.SumOp.{SumOp}
use Rattle.row_ops.specs.declared.compiling.Aggregate.{Aggregate}
use Rattle.row_ops.specs.Compiling.{Part, both, all, beside, paired, case_of, expr_level, post_level, pred_level, part_of, post_part, pred_part, optional_part, pair_part, beside_part}

-- NODES

besides : {Op : Type 0} (xs : List (Op × Expr)) → map beside (map (λ p. (p.0, part_of p.1)) xs) ≡ map beside_part xs
besides [] = refl
besides (x ∷ xs) = ap (λ ps. beside_part x ∷ ps) (besides xs)

pairs : (ws : List (Expr × Expr)) → map paired (map (λ p. (part_of p.0, part_of p.1)) ws) ≡ map pair_part ws
pairs [] = refl
pairs (w ∷ ws) = ap (λ ps. pair_part w ∷ ps) (pairs ws)

pub part_cmp : (x : Expr) (xs : List (CmpOp × Expr)) → part_of (e.Cmp x xs) ≡ both e.Cmp (part_of x) (all (map beside_part xs))
part_cmp x xs =
    ap part_of (sym (e.rolls-Cmp x xs))
    ∙ fold-roll-Expr (Part Expr) (Part PostOp) (Part PredOp) expr_level post_level pred_level (Expr-F.Cmp x xs)
    ∙ ap (λ ps. both e.Cmp (part_of x) (all ps)) (besides xs)

pub part_sum : (x : Expr) (xs : List (SumOp × Expr)) → part_of (e.Sum x xs) ≡ both e.Sum (part_of x) (all (map beside_part xs))
part_sum x xs =
    ap part_of (sym (e.rolls-Sum x xs))
    ∙ fold-roll-Expr (Part Expr) (Part PostOp) (Part PredOp) expr_level post_level pred_level (Expr-F.Sum x xs)
    ∙ ap (λ ps. both e.Sum (part_of x) (all ps)) (besides xs)

pub part_prod : (x : Expr) (xs : List (ProdOp × Expr)) → part_of (e.Prod x xs) ≡ both e.Prod (part_of x) (all (map beside_part xs))
part_prod x xs =
    ap part_of (sym (e.rolls-Prod x xs))
    ∙ fold-roll-Expr (Part Expr) (Part PostOp) (Part PredOp) expr_level post_level pred_level (Expr-F.Prod x xs)
    ∙ ap (λ ps. both e.Prod (part_of x) (all ps)) (besides xs)

pub part_pred : (x : Expr) (xs : List PredOp) → part_of (e.Pred x xs) ≡ both e.Pred (part_of x) (all (map pred_part xs))
part_pred x xs =
    ap part_of (sym (e.rolls-Pred x xs))
    ∙ fold-roll-Expr (Part Expr) (Part PostOp) (Part PredOp) expr_level post_level pred_level (Expr-F.Pred x xs)

pub part_post : (x : Expr) (xs : List PostOp) → part_of (e.Post x xs) ≡ both e.Post (part_of x) (all (map post_part xs))
part_post x xs =
    ap part_of (sym (e.rolls-Post x xs))
    ∙ fold-roll-Expr (Part Expr) (Part PostOp) (Part PredOp) expr_level post_level pred_level (Expr-F.Post x xs)

pub part_case : (of : Option Expr) (ws : List (Expr × Expr)) (other : Option Expr) → part_of (e.Case of ws other) ≡ case_of (optional_part of) (all (map pair_part ws)) (optional_part other)
part_case None ws None =
    ap part_of (sym (e.rolls-Case None ws None))
    ∙ fold-roll-Expr (Part Expr) (Part PostOp) (Part PredOp) expr_level post_level pred_level (Expr-F.Case None ws None)
    ∙ ap (λ ps. case_of (optional_part None) (all ps) (optional_part None)) (pairs ws)
part_case None ws (Some b) =
    ap part_of (sym (e.rolls-Case None ws (Some b)))
    ∙ fold-roll-Expr (Part Expr) (Part PostOp) (Part PredOp) expr_level post_level pred_level (Expr-F.Case None ws (Some b))
    ∙ ap (λ ps. case_of (optional_part None) (all ps) (optional_part (Some b))) (pairs ws)
part_case (Some a) ws None =
    ap part_of (sym (e.rolls-Case (Some a) ws None))
    ∙ fold-roll-Expr (Part Expr) (Part PostOp) (Part PredOp) expr_level post_level pred_level (Expr-F.Case (Some a) ws None)
    ∙ ap (λ ps. case_of (optional_part (Some a)) (all ps) (optional_part None)) (pairs ws)
part_case (Some a) ws (Some b) =
    ap part_of (sym (e.rolls-Case (Some a) ws (Some b)))
    ∙ fold-roll-Expr (Part Expr) (Part PostOp) (Part PredOp) expr_level post_level pred_level (Expr-F.Case (Some a) ws (Some b))
    ∙ ap (λ ps. case_of (optional_part (Some a)) (all ps) (optional_part (Some b))) (pairs ws)

-- ONE PART BEHIND ANOTHER

behind : {T : Type 0} (p : Part T) (old mid : List Aggregate) → mid ≡ old ++ p.aggregates → length mid ≡ length old + length p.aggregates
behind p old mid f = ap length f ∙ length-append old p.aggregates

pub both_filled : {R S T : Type 0} (f : R → S → T) (p : Part R) (q : Part S) (whole : Part T) (old mid : List Aggregate) (r : R) (s : S)
    → whole ≡ both f p q → r ≡ p.filled (length old) → mid ≡ old ++ p.aggregates → s ≡ q.filled (length mid)
    → f r s ≡ whole.filled (length old)
both_filled f p q whole old mid r s is a m b =
    ap (λ x. f x s) a
    ∙ ap (f (p.filled (length old))) (b ∙ ap q.filled (behind p old mid m))
    ∙ sym (ap (λ (w : Part _). w.filled (length old)) is)

pub both_found : {R S T : Type 0} (f : R → S → T) (p : Part R) (q : Part S) (whole : Part T) (old mid new : List Aggregate)
    → whole ≡ both f p q → mid ≡ old ++ p.aggregates → new ≡ mid ++ q.aggregates → new ≡ old ++ whole.aggregates
both_found f p q whole old mid new is m n =
    n
    ∙ ap (λ l. l ++ q.aggregates) m
    ∙ append_assoc old p.aggregates q.aggregates
    ∙ sym (ap (λ (w : Part _). old ++ w.aggregates) is)

-- LISTS OF PARTS, FROM A PLACE ON

module _ {X Y : Type 0} (part : X → Part Y) where
  abbrev pub left : ℕ → List X → Part (List Y)
  left i xs = all (map part (drop i xs))

  left_on : (xs : List X) (i : ℕ) (d : X) → i < length xs → left i xs ≡ both (λ t ts. t ∷ ts) (part (get_or xs i d)) (left (suc i) xs)
  left_on [] i d h = absurd (omega arith)
  left_on (x ∷ xs) zero d h = refl
  left_on (x ∷ xs) (suc i) d h = left_on xs i d (omega arith)

  pub left_at : (xs : List X) (i : ℕ) (x : X) → i < length xs → x ≡ get_or xs i x → left i xs ≡ both (λ t ts. t ∷ ts) (part x) (left (i + 1) xs)
  left_at xs i x h is =
      left_on xs i x h
      ∙ ap (λ y. both (λ t ts. t ∷ ts) (part y) (left (suc i) xs)) (sym is)
      ∙ ap (λ n. both (λ t ts. t ∷ ts) (part x) (left n xs)) (sym (add-one i))

  pub step_filled : (xs : List X) (i : ℕ) (x : X) (done : List Y) (old mid : List Aggregate) (y : Y) (whole : List Y)
      → i < length xs → x ≡ get_or xs i x → done ++ (left i xs).filled (length old) ≡ whole → y ≡ (part x).filled (length old) → mid ≡ old ++ (part x).aggregates
      → (done ++ y ∷ []) ++ (left (i + 1) xs).filled (length mid) ≡ whole
  step_filled xs i x done old mid y whole h is so a m =
      append_assoc done (y ∷ []) ((left (i + 1) xs).filled (length mid))
      ∙ ap (λ l. done ++ l) (both_filled (λ t ts. t ∷ ts) (part x) (left (i + 1) xs) (left i xs) old mid y ((left (i + 1) xs).filled (length mid)) (left_at xs i x h is) a m refl)
      ∙ so

  pub step_found : (xs : List X) (i : ℕ) (x : X) (old mid whole : List Aggregate)
      → i < length xs → x ≡ get_or xs i x → old ++ (left i xs).aggregates ≡ whole → mid ≡ old ++ (part x).aggregates
      → mid ++ (left (i + 1) xs).aggregates ≡ whole
  step_found xs i x old mid whole h is so m =
      both_found (λ t ts. t ∷ ts) (part x) (left (i + 1) xs) (left i xs) old mid (mid ++ (left (i + 1) xs).aggregates) (left_at xs i x h is) m refl
      ∙ so

-- a pair of expressions
pub pair_filled : (w : Expr × Expr) (old mid : List Aggregate) (r s : Expr) → r ≡ (part_of w.0).filled (length old) → mid ≡ old ++ (part_of w.0).aggregates → s ≡ (part_of w.1).filled (length mid)
    → (r, s) ≡ (pair_part w).filled (length old)
pair_filled w old mid r s a m b = both_filled (λ x y. (x, y)) (part_of w.0) (part_of w.1) (pair_part w) old mid r s refl a m b

pub pair_found : (w : Expr × Expr) (old mid new : List Aggregate) → mid ≡ old ++ (part_of w.0).aggregates → new ≡ mid ++ (part_of w.1).aggregates → new ≡ old ++ (pair_part w).aggregates
pair_found w old mid new m n = both_found (λ x y. (x, y)) (part_of w.0) (part_of w.1) (pair_part w) old mid new refl m n

-- A FIRST OPERAND AND WHAT STANDS BEHIND IT

module _ {Y : Type 0} (node : Expr → List Y → Expr) (part : Y → Part Y) (law : (x : Expr) (xs : List Y) → part_of (node x xs) ≡ both node (part_of x) (all (map part xs))) where
  pub led_filled : {E : Type 0} (r : Result Expr E) (whole x : Expr) (xs : List Y) (old mid : List Aggregate) (first : Expr)
      → whole ≡ node x xs → first ≡ (part_of x).filled (length old) → mid ≡ old ++ (part_of x).aggregates
      → IfOk r (λ y. y ≡ node first ((all (map part xs)).filled (length mid))) → IfOk r (λ y. y ≡ (part_of whole).filled (length old))
  led_filled r whole x xs old mid first is a m h =
      IfOk-weaker r (λ y. y ≡ node first ((all (map part xs)).filled (length mid))) (λ y. y ≡ (part_of whole).filled (length old))
      (λ y k. k ∙ both_filled node (part_of x) (all (map part xs)) (part_of whole) old mid first ((all (map part xs)).filled (length mid)) (ap part_of is ∙ law x xs) a m refl)
      h

  pub led_found : {E : Type 0} (r : Result Expr E) (whole x : Expr) (xs : List Y) (old mid new : List Aggregate)
      → whole ≡ node x xs → mid ≡ old ++ (part_of x).aggregates
      → OnOk r (new ≡ mid ++ (all (map part xs)).aggregates) → OnOk r (new ≡ old ++ (part_of whole).aggregates)
  led_found r whole x xs old mid new is m h =
      on_ok_weaker r (λ k. both_found node (part_of x) (all (map part xs)) (part_of whole) old mid new (ap part_of is ∙ law x xs) m k) h

-- CASE
module _ (of : Option Expr) (ws : List (Expr × Expr)) (other : Option Expr) where
  abbrev later : Part (List (Expr × Expr))
  later = all (map pair_part ws)

  pub case_whole : {E : Type 0} (r : Result Expr E) (whole : Expr) (old one two : List Aggregate) (a a' : Option Expr) (b' : List (Expr × Expr))
      → whole ≡ e.Case of ws other → a ≡ (optional_part of).filled (length old) → one ≡ old ++ (optional_part of).aggregates
      → ◌≡◌ {A = Option Expr × List (Expr × Expr)} (a', b') (a, later.filled (length one)) → two ≡ one ++ later.aggregates
      → IfOk r (λ y. y ≡ e.Case a' b' ((optional_part other).filled (length two))) → IfOk r (λ y. y ≡ (part_of whole).filled (length old))
  case_whole r whole old one two a a' b' is h i j k l =
      let first = behind (optional_part of) old one i in
      let second : length two ≡ length old + length (optional_part of).aggregates + length later.aggregates = behind later one two k ∙ ap (λ n. n + length later.aggregates) first in
      let front : a' ≡ (optional_part of).filled (length old) = ap (λ (p : Option Expr × List (Expr × Expr)). p.0) j ∙ h in
      let middle : b' ≡ later.filled (length old + length (optional_part of).aggregates) = ap (λ (p : Option Expr × List (Expr × Expr)). p.1) j ∙ ap later.filled first in
      IfOk-weaker r (λ y. y ≡ e.Case a' b' ((optional_part other).filled (length two))) (λ y. y ≡ (part_of whole).filled (length old))
      (λ y q.
      q
      ∙ ap (λ x. e.Case x b' ((optional_part other).filled (length two))) front
      ∙ ap (λ x. e.Case ((optional_part of).filled (length old)) x ((optional_part other).filled (length two))) middle
      ∙ ap (λ n. e.Case ((optional_part of).filled (length old)) (later.filled (length old + length (optional_part of).aggregates)) ((optional_part other).filled n)) second
      ∙ sym (ap (λ (w : Part Expr). w.filled (length old)) (ap part_of is ∙ part_case of ws other)))
      l

  pub case_found : {E : Type 0} (r : Result Expr E) (whole : Expr) (old one two new : List Aggregate)
      → whole ≡ e.Case of ws other → one ≡ old ++ (optional_part of).aggregates → two ≡ one ++ later.aggregates
      → OnOk r (new ≡ two ++ (optional_part other).aggregates) → OnOk r (new ≡ old ++ (part_of whole).aggregates)
  case_found r whole old one two new is i k h =
      on_ok_weaker r
      (λ m.
      m
      ∙ ap (λ l. l ++ (optional_part other).aggregates) (k ∙ ap (λ l. l ++ later.aggregates) i)
      ∙ ap (λ l. l ++ (optional_part other).aggregates) (append_assoc old (optional_part of).aggregates later.aggregates)
      ∙ append_assoc old ((optional_part of).aggregates ++ later.aggregates) (optional_part other).aggregates
      ∙ sym (ap (λ (w : Part Expr). old ++ w.aggregates) (ap part_of is ∙ part_case of ws other)))
      h
