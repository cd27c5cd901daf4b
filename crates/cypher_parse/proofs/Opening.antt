-- What an opening token does, at each rule that one begins.
use Rattle.std.proofs.Common.{◌≡◌, ℕ, suc, true, false, List, [], ◌∷◌, drop, Option, Some, None, refl, ap, ◌∙◌}
use Rattle.cypher_syntax.specs.declared.tree.expr.Expr.{Expr}
use Rattle.cypher_syntax.specs.declared.tree.expr.Expr.TheVariants as tree
use Rattle.cypher_syntax.specs.declared.tree.expr.PostOp.{PostOp}
use Rattle.cypher_syntax.specs.declared.tree.expr.PostOp.TheVariants as step
use Rattle.cypher_syntax.specs.declared.tree.operators.SumOp.TheVariants.{Plus}
use Rattle.cypher_parse.specs.declared.kind.Kind.{Kind}
use Rattle.cypher_parse.specs.declared.kind.Kind.TheVariants as k
use Rattle.cypher_parse.specs.declared.kinds.TheConstants.{PLAIN_NAMES, LITERALS}
use Rattle.cypher_parse.specs.Words.{name_of, function_of}
use Rattle.cypher_parse.specs.Languages.{Tokens}
use Rattle.cypher_parse.specs.Parsers.{Outcome, Done, Fault, Parser, and_then, heads, valued, map_out, after, before, alt, enter, empty}
use Rattle.cypher_parse.specs.Expressions.{called, cased}
use Rattle.cypher_parse.specs.ExpressionParsers.{Inner, applied, schema, literal, call, at, disjunction, negation, comparison, unary, post, behind_minus, next, atom, elements, cases}
use Rattle.cypher_parse.proofs.Sets.{chosen, other_chosen}
use Rattle.cypher_parse.proofs.Turns.{after_passed}

pub enters : {A B : Type 0} (kinds : List Kind) (f : A → B) (p : Parser A) (q : Parser B) (ts new : Tokens) → heads kinds ts ≡ true → new ≡ drop 1 ts → alt kinds (enter true kinds f p) q ts ≡ map_out f p new
enters kinds f p q ts new h n = chosen (heads kinds ts) (map_out f (after kinds p) ts) (q ts) h ∙ ap (λ o. and_then o (λ a rest. Done (f a) rest)) (after_passed kinds p ts new h n)

pub shuts : {A B : Type 0} (kinds : List Kind) (f : A → B) (p : Parser A) (q : Parser B) (ts : Tokens) → heads kinds ts ≡ true → alt kinds (enter false kinds f p) q ts ≡ Fault true ts
shuts kinds f p q ts h = chosen (heads kinds ts) (Fault true ts) (q ts) h

pub plain : {A : Type 0} (o : Outcome A) → and_then o (λ a rest. Done a rest) ≡ o
plain (Done a rest) = refl
plain (Fault k rest) = refl

-- what stands behind each choice
abbrev no_minus : Inner → Parser Expr
no_minus l = alt (k.Plus ∷ []) (enter l.left (k.Plus ∷ []) (tree.Sign Plus) l.unary) (post l)

abbrev property : Parser PostOp
property = map_out step.Prop (after (k.Point ∷ []) schema)

abbrev no_case : Inner → Parser Expr
no_case l = alt PLAIN_NAMES (map_out tree.Var (valued PLAIN_NAMES name_of)) (alt LITERALS literal (call l))

abbrev no_bracket : Inner → Parser Expr
no_bracket l = alt (k.Case ∷ []) (enter l.left (k.Case ∷ []) cased (cases l.expr)) (no_case l)

abbrev no_paren : Inner → Parser Expr
no_paren l = alt (k.LeftBracket ∷ []) (enter l.left (k.LeftBracket ∷ []) tree.List (elements l.expr)) (no_bracket l)

abbrev in_paren : Inner → Parser Expr
in_paren l = enter l.left (k.LeftParen ∷ []) (λ x. x) (before l.expr (k.RightParen ∷ []))

abbrev in_bracket : Inner → Parser Expr
in_bracket l = enter l.left (k.LeftBracket ∷ []) tree.List (elements l.expr)

abbrev in_minus : Inner → Parser Expr
in_minus l = enter l.left (k.Minus ∷ []) (λ x. x) (behind_minus l.unary)

-- ---- signs

pub minus_enters : (n d : ℕ) (ts new : Tokens) → n ≡ suc d → heads (k.Minus ∷ []) ts ≡ true → new ≡ drop 1 ts → unary (at n) ts ≡ behind_minus (unary (at d)) new
unfolding unary at
minus_enters n d ts new e h is = ap (λ n. unary (at n) ts) e ∙ enters (k.Minus ∷ []) (λ x. x) (behind_minus (unary (at d))) (no_minus (at (suc d))) ts new h is ∙ plain (behind_minus (unary (at d)) new)

pub minus_shuts : (n : ℕ) (ts : Tokens) → n ≡ 0 → heads (k.Minus ∷ []) ts ≡ true → unary (at n) ts ≡ Fault true ts
unfolding unary at
minus_shuts n ts e h = ap (λ n. unary (at n) ts) e ∙ shuts (k.Minus ∷ []) (λ x. x) (behind_minus (at 0).unary) (no_minus (at 0)) ts h

pub plus_enters : (n d : ℕ) (ts new : Tokens) → n ≡ suc d → heads (k.Minus ∷ []) ts ≡ false → heads (k.Plus ∷ []) ts ≡ true → new ≡ drop 1 ts → unary (at n) ts ≡ map_out (tree.Sign Plus) (unary (at d)) new
unfolding unary at
plus_enters n d ts new e m h is = ap (λ n. unary (at n) ts) e ∙ other_chosen (heads (k.Minus ∷ []) ts) (in_minus (at (suc d)) ts) (no_minus (at (suc d)) ts) m ∙ enters (k.Plus ∷ []) (tree.Sign Plus) (unary (at d)) (post (at (suc d))) ts new h is

pub plus_shuts : (n : ℕ) (ts : Tokens) → n ≡ 0 → heads (k.Minus ∷ []) ts ≡ false → heads (k.Plus ∷ []) ts ≡ true → unary (at n) ts ≡ Fault true ts
unfolding unary at
plus_shuts n ts e m h = ap (λ n. unary (at n) ts) e ∙ other_chosen (heads (k.Minus ∷ []) ts) (in_minus (at 0) ts) (no_minus (at 0) ts) m ∙ shuts (k.Plus ∷ []) (tree.Sign Plus) (at 0).unary (post (at 0)) ts h

-- ---- NOT

pub not_enters : (n d : ℕ) (ts new : Tokens) → n ≡ suc d → heads (k.Not ∷ []) ts ≡ true → new ≡ drop 1 ts → negation (at n) ts ≡ map_out tree.Not (negation (at d)) new
unfolding negation at
not_enters n d ts new e h is = ap (λ n. negation (at n) ts) e ∙ enters (k.Not ∷ []) tree.Not (negation (at d)) (comparison (at (suc d))) ts new h is

pub not_shuts : (n : ℕ) (ts : Tokens) → n ≡ 0 → heads (k.Not ∷ []) ts ≡ true → negation (at n) ts ≡ Fault true ts
unfolding negation at
not_shuts n ts e h = ap (λ n. negation (at n) ts) e ∙ shuts (k.Not ∷ []) tree.Not (at 0).not (comparison (at 0)) ts h

-- ---- an element

pub element_enters : (n d : ℕ) (ts new : Tokens) → n ≡ suc d → heads (k.LeftBracket ∷ []) ts ≡ true → new ≡ drop 1 ts → next (at n) ts ≡ map_out step.At (before (disjunction (at d)) (k.RightBracket ∷ [])) new
unfolding next at
element_enters n d ts new e h is = ap (λ n. next (at n) ts) e ∙ enters (k.LeftBracket ∷ []) step.At (before (disjunction (at d)) (k.RightBracket ∷ [])) property ts new h is

pub element_shuts : (n : ℕ) (ts : Tokens) → n ≡ 0 → heads (k.LeftBracket ∷ []) ts ≡ true → next (at n) ts ≡ Fault true ts
unfolding next at
element_shuts n ts e h = ap (λ n. next (at n) ts) e ∙ shuts (k.LeftBracket ∷ []) step.At (before (at 0).expr (k.RightBracket ∷ [])) property ts h

-- ---- atoms

pub paren_enters : (n d : ℕ) (ts new : Tokens) → n ≡ suc d → heads (k.LeftParen ∷ []) ts ≡ true → new ≡ drop 1 ts → atom (at n) ts ≡ before (disjunction (at d)) (k.RightParen ∷ []) new
unfolding atom at
paren_enters n d ts new e h is = ap (λ n. atom (at n) ts) e ∙ enters (k.LeftParen ∷ []) (λ x. x) (before (disjunction (at d)) (k.RightParen ∷ [])) (no_paren (at (suc d))) ts new h is ∙ plain (before (disjunction (at d)) (k.RightParen ∷ []) new)

pub paren_shuts : (n : ℕ) (ts : Tokens) → n ≡ 0 → heads (k.LeftParen ∷ []) ts ≡ true → atom (at n) ts ≡ Fault true ts
unfolding atom at
paren_shuts n ts e h = ap (λ n. atom (at n) ts) e ∙ shuts (k.LeftParen ∷ []) (λ x. x) (before (at 0).expr (k.RightParen ∷ [])) (no_paren (at 0)) ts h

pub list_enters : (n d : ℕ) (ts new : Tokens) → n ≡ suc d → heads (k.LeftParen ∷ []) ts ≡ false → heads (k.LeftBracket ∷ []) ts ≡ true → new ≡ drop 1 ts → atom (at n) ts ≡ map_out tree.List (elements (disjunction (at d))) new
unfolding atom at
list_enters n d ts new e m h is = ap (λ n. atom (at n) ts) e ∙ other_chosen (heads (k.LeftParen ∷ []) ts) (in_paren (at (suc d)) ts) (no_paren (at (suc d)) ts) m ∙ enters (k.LeftBracket ∷ []) tree.List (elements (disjunction (at d))) (no_bracket (at (suc d))) ts new h is

pub list_shuts : (n : ℕ) (ts : Tokens) → n ≡ 0 → heads (k.LeftParen ∷ []) ts ≡ false → heads (k.LeftBracket ∷ []) ts ≡ true → atom (at n) ts ≡ Fault true ts
unfolding atom at
list_shuts n ts e m h = ap (λ n. atom (at n) ts) e ∙ other_chosen (heads (k.LeftParen ∷ []) ts) (in_paren (at 0) ts) (no_paren (at 0) ts) m ∙ shuts (k.LeftBracket ∷ []) tree.List (elements (at 0).expr) (no_bracket (at 0)) ts h

pub case_enters : (n d : ℕ) (ts new : Tokens) → n ≡ suc d → heads (k.LeftParen ∷ []) ts ≡ false → heads (k.LeftBracket ∷ []) ts ≡ false → heads (k.Case ∷ []) ts ≡ true → new ≡ drop 1 ts → atom (at n) ts ≡ map_out cased (cases (disjunction (at d))) new
unfolding atom at
case_enters n d ts new e p b h is = ap (λ n. atom (at n) ts) e ∙ other_chosen (heads (k.LeftParen ∷ []) ts) (in_paren (at (suc d)) ts) (no_paren (at (suc d)) ts) p ∙ other_chosen (heads (k.LeftBracket ∷ []) ts) (in_bracket (at (suc d)) ts) (no_bracket (at (suc d)) ts) b ∙ enters (k.Case ∷ []) cased (cases (disjunction (at d))) (no_case (at (suc d))) ts new h is

pub case_shuts : (n : ℕ) (ts : Tokens) → n ≡ 0 → heads (k.LeftParen ∷ []) ts ≡ false → heads (k.LeftBracket ∷ []) ts ≡ false → heads (k.Case ∷ []) ts ≡ true → atom (at n) ts ≡ Fault true ts
unfolding atom at
case_shuts n ts e p b h = ap (λ n. atom (at n) ts) e ∙ other_chosen (heads (k.LeftParen ∷ []) ts) (in_paren (at 0) ts) (no_paren (at 0) ts) p ∙ other_chosen (heads (k.LeftBracket ∷ []) ts) (in_bracket (at 0) ts) (no_bracket (at 0) ts) b ∙ shuts (k.Case ∷ []) cased (cases (at 0).expr) (no_case (at 0)) ts h

-- ---- calls

module _ {A : Type 0} (kinds : List Kind) (node : Kind → A → Expr) (p : Parser Expr → Parser A) (f : Kind × List ℕ) (ts mid : Tokens) (read : valued kinds function_of ts ≡ Done f mid) (h : heads (k.LeftParen ∷ []) mid ≡ true) where
  abbrev finish : Outcome (Option A) → Outcome Expr
  finish o = and_then {A = (Kind × List ℕ) × Option A} (and_then {A = Option A} {B = (Kind × List ℕ) × Option A} o (λ b rest. Done (f, b) rest)) (λ p rest. Done (called node p) rest)

  abbrev behind_name : Inner → Parser (Option A)
  behind_name l = alt (k.LeftParen ∷ []) (enter l.left (k.LeftParen ∷ []) Some (before (p l.expr) (k.RightParen ∷ []))) (empty None)

  named : (l : Inner) → applied l kinds node (p l.expr) ts ≡ finish (behind_name l mid)
  named l = ap (λ o. and_then {A = (Kind × List ℕ) × Option A} (and_then {A = Kind × List ℕ} {B = (Kind × List ℕ) × Option A} o (λ a rest. and_then {A = Option A} {B = (Kind × List ℕ) × Option A} (behind_name l rest) (λ b rest. Done (a, b) rest))) (λ p rest. Done (called node p) rest)) read

  node_made : (o : Outcome A) → finish (and_then o (λ a rest. Done (Some a) rest)) ≡ and_then o (λ a rest. Done (node f.0 a) rest)
  node_made (Done a rest) = refl
  node_made (Fault k rest) = refl

  pub call_enters : (n d : ℕ) (new : Tokens) → n ≡ suc d → new ≡ drop 1 mid → applied (at n) kinds node (p (at n).expr) ts ≡ map_out (node f.0) (before (p (disjunction (at d))) (k.RightParen ∷ [])) new
  unfolding at
  call_enters n d new e is =
      ap (λ n. applied (at n) kinds node (p (at n).expr) ts) e ∙ named (at (suc d))
      ∙ ap finish (enters (k.LeftParen ∷ []) Some (before (p (disjunction (at d))) (k.RightParen ∷ [])) (empty None) mid new h is)
      ∙ node_made (before (p (disjunction (at d))) (k.RightParen ∷ []) new)

  pub call_shuts : (n : ℕ) → n ≡ 0 → applied (at n) kinds node (p (at n).expr) ts ≡ Fault true mid
  unfolding at
  call_shuts n e =
      ap (λ n. applied (at n) kinds node (p (at n).expr) ts) e ∙ named (at 0)
      ∙ ap finish (shuts (k.LeftParen ∷ []) Some (before (p (at 0).expr) (k.RightParen ∷ [])) (empty None) mid h)
