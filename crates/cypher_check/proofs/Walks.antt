-- The marks of an expression by its operands, and the first fault of lists of marks.
use Rattle.std.proofs.Common.{◌≡◌, ℕ, ◌+◌, ◌<◌, Bool, true, false, cond, List, [], ◌∷◌, ◌++◌, map, length, take, drop, get_or, Option, Some, None, refl, sym, ap, ◌∙◌, append-nil, ◌⊎◌, inl, inr}
use Rattle.std.specs.List.{flat_map}
use Rattle.std.proofs.lemmas.List.{take_more, take-append-drop, drop_more}
use Rattle.std.proofs.lemmas.List.Concat.{flat_map-append}
use Rattle.cypher_syntax.specs.declared.tree.expr.Expr.{Expr, fold-roll-Expr}
use Rattle.cypher_syntax.specs.declared.tree.expr.Expr.TheVariants as e
use Rattle.cypher_syntax.specs.declared.tree.expr.Expr.TheOpen.{Expr-F}
use Rattle.cypher_syntax.specs.declared.tree.expr.PostOp.{PostOp}
use Rattle.cypher_syntax.specs.declared.tree.expr.PredOp.{PredOp}
use Rattle.cypher_syntax.specs.declared.tree.operators.CmpOp.{CmpOp}
use Rattle.cypher_syntax.specs.declared.tree.operators.SumOp.{SumOp}
use Rattle.cypher_syntax.specs.declared.tree.operators.ProdOp.{ProdOp}
use Rattle.cypher_syntax.specs.declared.tree.operators.Fun.{Fun}
use Rattle.cypher_syntax.specs.declared.tree.operators.AggFun.{AggFun}
use Rattle.cypher_check.specs.declared.refused.CheckRefused.{CheckRefused}
use Rattle.cypher_check.specs.declared.refused.CheckRefused.TheVariants.{Unbound}
use Rattle.cypher_check.specs.declared.names.place.Place.{Place}
use Rattle.cypher_check.specs.Marks.{Mark, Uses, Misplaced, Marks, expr_level, post_level, pred_level, expr_marks, post_marks, pred_marks, pair_marks, optional_marks, aggregate_marks, inner}
use Rattle.cypher_check.specs.Faults.{first_fault}
use Rattle.cypher_check.specs.Names.{has}

abbrev pub or_else : Option CheckRefused → Option CheckRefused → Option CheckRefused
or_else None b = b
or_else (Some a) b = Some a

pub first_fault-append : (s : List (List ℕ)) (xs ys : List Mark) → first_fault s (xs ++ ys) ≡ or_else (first_fault s xs) (first_fault s ys)
first_fault-append s [] ys = refl
first_fault-append s (Uses n ∷ xs) ys =
    elim (has s n) as (λ b. cond b (first_fault s (xs ++ ys)) (Some (Unbound n)) ≡ or_else (cond b (first_fault s xs) (Some (Unbound n))) (first_fault s ys)) [
      | true ↦ first_fault-append s xs ys
      | false ↦ refl
    ]
first_fault-append s (Misplaced ∷ xs) ys = refl

-- where the first marks have no fault, those behind them count
pub goes_on : (s : List (List ℕ)) (xs ys : List Mark) → None ≡ first_fault s xs → first_fault s ys ≡ first_fault s (xs ++ ys)
goes_on s xs ys none = ap (λ f. or_else f (first_fault s ys)) none ∙ sym (first_fault-append s xs ys)

-- where they have one, it stays
pub stays : (s : List (List ℕ)) (xs ys : List Mark) (f : CheckRefused) → Some f ≡ first_fault s xs → Some f ≡ first_fault s (xs ++ ys)
stays s xs ys f some = ap (λ r. or_else r (first_fault s ys)) some ∙ sym (first_fault-append s xs ys)

split_at : {X : Type 0} (f : X → List Mark) (xs : List X) (i : ℕ) (x : X) → i < length xs → x ≡ get_or xs i x
    → flat_map f (take i xs) ++ (f x ++ flat_map f (drop (i + 1) xs)) ≡ flat_map f xs
split_at f xs i x there is =
    ap (λ y. flat_map f (take i xs) ++ (f y ++ flat_map f (drop (i + 1) xs))) is
    ∙ sym (flat_map-append f (take i xs) (get_or xs i x ∷ drop (i + 1) xs))
    ∙ ap (λ ys. flat_map f (take i xs ++ ys)) (sym (drop_more xs i x there))
    ∙ ap (flat_map f) (take-append-drop i xs)

-- A LOOP OVER A LIST

pub found : {X : Type 0} (f : X → List Mark) (s : List (List ℕ)) (xs : List X) (i : ℕ) (x : X) (fault : CheckRefused) → i < length xs → x ≡ get_or xs i x
    → first_fault s (flat_map f (take i xs)) ≡ None → Some fault ≡ first_fault s (f x) → Some fault ≡ first_fault s (flat_map f xs)
found f s xs i x fault there is none some =
    stays s (f x) (flat_map f (drop (i + 1) xs)) fault some
    ∙ goes_on s (flat_map f (take i xs)) (f x ++ flat_map f (drop (i + 1) xs)) (sym none)
    ∙ ap (first_fault s) (split_at f xs i x there is)

pub passed : {X : Type 0} (f : X → List Mark) (s : List (List ℕ)) (xs : List X) (i : ℕ) (x : X) → i < length xs → x ≡ get_or xs i x
    → first_fault s (flat_map f (take i xs)) ≡ None → None ≡ first_fault s (f x) → first_fault s (flat_map f (take (i + 1) xs)) ≡ None
passed f s xs i x there is none some =
    ap (λ ys. first_fault s (flat_map f ys)) (take_more xs i x there)
    ∙ ap (first_fault s) (flat_map-append f (take i xs) (get_or xs i x ∷ []))
    ∙ sym (goes_on s (flat_map f (take i xs)) (f (get_or xs i x) ++ []) (sym none))
    ∙ ap (first_fault s) (append-nil (f (get_or xs i x)))
    ∙ ap (λ y. first_fault s (f y)) (sym is)
    ∙ sym some

-- AN EXPRESSION BY ITS OPERANDS

fused : {X Y : Type 0} (g : X → Y) (f : Y → List Mark) (xs : List X) → flat_map f (map g xs) ≡ flat_map (λ x. f (g x)) xs
fused g f [] = refl
fused g f (x ∷ xs) = ap (λ ys. f (g x) ++ ys) (fused g f xs)

abbrev at_roll : Marks → Place → List Mark
at_roll m p = m p

pub marks-List : (xs : List Expr) (p : Place) → expr_marks (e.List xs) p ≡ flat_map (λ x. expr_marks x p) xs
marks-List xs p =
    ap (λ x. expr_marks x p) (sym (e.rolls-List xs))
    ∙ ap (λ m. at_roll m p) (fold-roll-Expr Marks Marks Marks expr_level post_level pred_level (Expr-F.List xs))
    ∙ fused expr_marks (λ m. m p) xs

pub marks-Or : (xs : List Expr) (p : Place) → expr_marks (e.Or xs) p ≡ flat_map (λ x. expr_marks x p) xs
marks-Or xs p =
    ap (λ x. expr_marks x p) (sym (e.rolls-Or xs))
    ∙ ap (λ m. at_roll m p) (fold-roll-Expr Marks Marks Marks expr_level post_level pred_level (Expr-F.Or xs))
    ∙ fused expr_marks (λ m. m p) xs

pub marks-Xor : (xs : List Expr) (p : Place) → expr_marks (e.Xor xs) p ≡ flat_map (λ x. expr_marks x p) xs
marks-Xor xs p =
    ap (λ x. expr_marks x p) (sym (e.rolls-Xor xs))
    ∙ ap (λ m. at_roll m p) (fold-roll-Expr Marks Marks Marks expr_level post_level pred_level (Expr-F.Xor xs))
    ∙ fused expr_marks (λ m. m p) xs

pub marks-And : (xs : List Expr) (p : Place) → expr_marks (e.And xs) p ≡ flat_map (λ x. expr_marks x p) xs
marks-And xs p =
    ap (λ x. expr_marks x p) (sym (e.rolls-And xs))
    ∙ ap (λ m. at_roll m p) (fold-roll-Expr Marks Marks Marks expr_level post_level pred_level (Expr-F.And xs))
    ∙ fused expr_marks (λ m. m p) xs

pub marks-Call : (f : Fun) (xs : List Expr) (p : Place) → expr_marks (e.Call f xs) p ≡ flat_map (λ x. expr_marks x p) xs
marks-Call f xs p =
    ap (λ x. expr_marks x p) (sym (e.rolls-Call f xs))
    ∙ ap (λ m. at_roll m p) (fold-roll-Expr Marks Marks Marks expr_level post_level pred_level (Expr-F.Call f xs))
    ∙ fused expr_marks (λ m. m p) xs

pub marks-Agg : (f : AggFun) (d : Bool) (x : Expr) (p : Place) → expr_marks (e.Agg f d x) p ≡ aggregate_marks p ++ expr_marks x (inner p)
marks-Agg f d x p =
    ap (λ x. expr_marks x p) (sym (e.rolls-Agg f d x))
    ∙ ap (λ m. at_roll m p) (fold-roll-Expr Marks Marks Marks expr_level post_level pred_level (Expr-F.Agg f d x))
    ∙ refl

pub marks-Cmp : (x : Expr) (xs : List (CmpOp × Expr)) (p : Place) → expr_marks (e.Cmp x xs) p ≡ expr_marks x p ++ flat_map (λ q. expr_marks q.1 p) xs
marks-Cmp x xs p =
    ap (λ x. expr_marks x p) (sym (e.rolls-Cmp x xs))
    ∙ ap (λ m. at_roll m p) (fold-roll-Expr Marks Marks Marks expr_level post_level pred_level (Expr-F.Cmp x xs))
    ∙ ap (λ ys. expr_marks x p ++ ys) (fused (λ (q : CmpOp × Expr). (q.0, expr_marks q.1)) (λ q. q.1 p) xs)

pub marks-Sum : (x : Expr) (xs : List (SumOp × Expr)) (p : Place) → expr_marks (e.Sum x xs) p ≡ expr_marks x p ++ flat_map (λ q. expr_marks q.1 p) xs
marks-Sum x xs p =
    ap (λ x. expr_marks x p) (sym (e.rolls-Sum x xs))
    ∙ ap (λ m. at_roll m p) (fold-roll-Expr Marks Marks Marks expr_level post_level pred_level (Expr-F.Sum x xs))
    ∙ ap (λ ys. expr_marks x p ++ ys) (fused (λ (q : SumOp × Expr). (q.0, expr_marks q.1)) (λ q. q.1 p) xs)

pub marks-Prod : (x : Expr) (xs : List (ProdOp × Expr)) (p : Place) → expr_marks (e.Prod x xs) p ≡ expr_marks x p ++ flat_map (λ q. expr_marks q.1 p) xs
marks-Prod x xs p =
    ap (λ x. expr_marks x p) (sym (e.rolls-Prod x xs))
    ∙ ap (λ m. at_roll m p) (fold-roll-Expr Marks Marks Marks expr_level post_level pred_level (Expr-F.Prod x xs))
    ∙ ap (λ ys. expr_marks x p ++ ys) (fused (λ (q : ProdOp × Expr). (q.0, expr_marks q.1)) (λ q. q.1 p) xs)

pub marks-Pred : (x : Expr) (xs : List PredOp) (p : Place) → expr_marks (e.Pred x xs) p ≡ expr_marks x p ++ flat_map (λ t. pred_marks t p) xs
marks-Pred x xs p =
    ap (λ x. expr_marks x p) (sym (e.rolls-Pred x xs))
    ∙ ap (λ m. at_roll m p) (fold-roll-Expr Marks Marks Marks expr_level post_level pred_level (Expr-F.Pred x xs))
    ∙ ap (λ ys. expr_marks x p ++ ys) (fused pred_marks (λ m. m p) xs)

pub marks-Post : (x : Expr) (xs : List PostOp) (p : Place) → expr_marks (e.Post x xs) p ≡ expr_marks x p ++ flat_map (λ t. post_marks t p) xs
marks-Post x xs p =
    ap (λ x. expr_marks x p) (sym (e.rolls-Post x xs))
    ∙ ap (λ m. at_roll m p) (fold-roll-Expr Marks Marks Marks expr_level post_level pred_level (Expr-F.Post x xs))
    ∙ ap (λ ys. expr_marks x p ++ ys) (fused post_marks (λ m. m p) xs)

pub marks-Case : (of : Option Expr) (ws : List (Expr × Expr)) (other : Option Expr) (p : Place) → expr_marks (e.Case of ws other) p ≡ optional_marks of p ++ flat_map (λ w. pair_marks w p) ws ++ optional_marks other p
marks-Case None ws None p =
    ap (λ x. expr_marks x p) (sym (e.rolls-Case None ws None))
    ∙ ap (λ m. at_roll m p) (fold-roll-Expr Marks Marks Marks expr_level post_level pred_level (Expr-F.Case None ws None))
    ∙ ap (λ ys. [] ++ ys ++ []) (fused (λ (w : Expr × Expr). (expr_marks w.0, expr_marks w.1)) (λ w. w.0 p ++ w.1 p) ws)
marks-Case None ws (Some b) p =
    ap (λ x. expr_marks x p) (sym (e.rolls-Case None ws (Some b)))
    ∙ ap (λ m. at_roll m p) (fold-roll-Expr Marks Marks Marks expr_level post_level pred_level (Expr-F.Case None ws (Some b)))
    ∙ ap (λ ys. [] ++ ys ++ expr_marks b p) (fused (λ (w : Expr × Expr). (expr_marks w.0, expr_marks w.1)) (λ w. w.0 p ++ w.1 p) ws)
marks-Case (Some a) ws None p =
    ap (λ x. expr_marks x p) (sym (e.rolls-Case (Some a) ws None))
    ∙ ap (λ m. at_roll m p) (fold-roll-Expr Marks Marks Marks expr_level post_level pred_level (Expr-F.Case (Some a) ws None))
    ∙ ap (λ ys. expr_marks a p ++ ys ++ []) (fused (λ (w : Expr × Expr). (expr_marks w.0, expr_marks w.1)) (λ w. w.0 p ++ w.1 p) ws)
marks-Case (Some a) ws (Some b) p =
    ap (λ x. expr_marks x p) (sym (e.rolls-Case (Some a) ws (Some b)))
    ∙ ap (λ m. at_roll m p) (fold-roll-Expr Marks Marks Marks expr_level post_level pred_level (Expr-F.Case (Some a) ws (Some b)))
    ∙ ap (λ ys. expr_marks a p ++ ys ++ expr_marks b p) (fused (λ (w : Expr × Expr). (expr_marks w.0, expr_marks w.1)) (λ w. w.0 p ++ w.1 p) ws)

-- MARKS IN TWO PARTS

pub both_none : (s : List (List ℕ)) (m xs ys : List Mark) (r : Option CheckRefused) → m ≡ xs ++ ys → None ≡ first_fault s xs → r ≡ first_fault s ys → r ≡ first_fault s m
both_none s m xs ys r is none rest = rest ∙ goes_on s xs ys none ∙ ap (first_fault s) (sym is)

pub first_some : (s : List (List ℕ)) (m xs ys : List Mark) (f : CheckRefused) → m ≡ xs ++ ys → Some f ≡ first_fault s xs → Some f ≡ first_fault s m
first_some s m xs ys f is some = stays s xs ys f some ∙ ap (first_fault s) (sym is)

-- an expression with a list of operands
pub listed : (x : Expr) (xs : List Expr) (p : Place)
    → (x ≡ e.List xs) ⊎ (((f : Fun) × (x ≡ e.Call f xs)) ⊎ ((x ≡ e.Or xs) ⊎ ((x ≡ e.Xor xs) ⊎ (x ≡ e.And xs))))
    → flat_map (λ y. expr_marks y p) xs ≡ expr_marks x p
listed x xs p is = sym (elim is [
  | inl h ↦ ap (λ y. expr_marks y p) h ∙ marks-List xs p
  | inr r ↦ elim r [
    | inl h ↦ ap (λ y. expr_marks y p) h.1 ∙ marks-Call h.0 xs p
    | inr r ↦ elim r [
      | inl h ↦ ap (λ y. expr_marks y p) h ∙ marks-Or xs p
      | inr r ↦ elim r [
        | inl h ↦ ap (λ y. expr_marks y p) h ∙ marks-Xor xs p
        | inr h ↦ ap (λ y. expr_marks y p) h ∙ marks-And xs p
      ]
    ]
  ]
])
