-- What a function answers, from what the functions that it calls answered.
use Rattle.std.proofs.Common.{◌≡◌, Bool, true, false, List, ◌++◌, Result, Ok, Err, IsErrAnd, refl, sym, ap, ◌∙◌, subst}
use Rattle.cypher_syntax.specs.declared.tree.expr.Expr.{Expr}
use Rattle.cypher_syntax.specs.declared.tree.expr.Expr.TheVariants as tree
use Rattle.cypher_syntax.specs.declared.tree.expr.PostOp.{PostOp}
use Rattle.cypher_parse.specs.declared.kind.Kind.{Kind}
use Rattle.cypher_parse.specs.declared.kinds.TheConstants.{STEP_SIGNS}
use Rattle.cypher_parse.specs.declared.lexeme.Lexeme.{Lexeme}
use Rattle.cypher_parse.specs.declared.stop.Stop.{Stop}
use Rattle.cypher_parse.specs.declared.stop.Stop.TheVariants.{NoMemory, Syntax, TooDeep}
use Rattle.cypher_parse.specs.Languages.{Tokens}
use Rattle.cypher_parse.specs.Parsers.{Outcome, Done, Fault, Parser, and_then, heads, one, seq, map_out, after, many}
use Rattle.cypher_parse.specs.Reads.{Reads, Stopped, Made}
use Rattle.cypher_parse.specs.Expressions.{flat, chained, posted}
use Rattle.cypher_parse.specs.ExpressionParsers.{Inner, atom, tests, turn, steps, post}
use Rattle.cypher_parse.proofs.Exact.{done_fault, fault_done}
use Rattle.cypher_parse.proofs.Opening.{plain}
use Rattle.cypher_parse.proofs.Turns.{gathered, fault_turn, last_turn}

-- ---- stops

-- a stop is one of what goes on behind it too
pub stops : {A B : Type 0} (o : Outcome A) (f : A → Parser B) (e : Stop) (new : Tokens) → Stopped o e new → Stopped (and_then o f) e new
stops o f NoMemory new h = h
stops o f Syntax new h = ap (λ o. and_then o f) h
stops o f TooDeep new h = ap (λ o. and_then o f) h

-- what `?` returns
pub passes_on : {B : Type 0} (o : Outcome B) (r : Result B Stop) (e : Stop) (new : Tokens) → IsErrAnd r (λ x. x ≡ e) → Stopped o e new → Reads o r new
passes_on o (Ok b) e new h s = absurd h
passes_on o (Err x) e new h s = subst (λ e. Stopped o e new) (sym h) s

pub no_memory : {B : Type 0} (o : Outcome B) (r : Result B Stop) (new : Tokens) → IsErrAnd r (λ x. x ≡ NoMemory) → Reads o r new
no_memory o r new h = passes_on o r NoMemory new h tt

-- ---- one part behind another

module _ {A B : Type 0} (f : A → B) where
  pub part_stops : (o : Outcome A) (r : Result B Stop) (e : Stop) (new : Tokens) → IsErrAnd r (λ x. x ≡ e) → Stopped o e new → Reads (and_then o (λ a rest. Done (f a) rest)) r new
  part_stops o r e new h s = passes_on (and_then o (λ a rest. Done (f a) rest)) r e new h (stops o (λ a rest. Done (f a) rest) e new s)

  pub makes : (o : Outcome A) (got : Result A Stop) (r : Result B Stop) (new : Tokens) → Reads o got new → Made f got r → Reads (and_then o (λ a rest. Done (f a) rest)) r new
  makes o (Ok a) (Ok b) new h m = ap (λ o. and_then o (λ a rest. Done (f a) rest)) h ∙ ap (λ b. Done b new) (sym m)
  makes o (Ok a) (Err e) new h m = subst (λ e. Stopped (and_then o (λ a rest. Done (f a) rest)) e new) (sym m) tt
  makes o (Err e) (Ok b) new h m = absurd m
  makes o (Err e) (Err e') new h m = subst (λ e. Stopped (and_then o (λ a rest. Done (f a) rest)) e new) (sym m) (stops o (λ a rest. Done (f a) rest) e new h)

  pub part_done : (o : Outcome A) (a : A) (b : B) (new : Tokens) → o ≡ Done a new → b ≡ f a → and_then o (λ a rest. Done (f a) rest) ≡ Done b new
  part_done o a b new h e = ap (λ o. and_then o (λ a rest. Done (f a) rest)) h ∙ ap (λ b. Done b new) (sym e)

module _ {A B C : Type 0} (f : A × B → C) (p : Parser A) (q : Parser B) (ts : Tokens) where
  pub first_stopped : (e : Stop) (new : Tokens) → Stopped (p ts) e new → Stopped (map_out f (seq p q) ts) e new
  first_stopped e new s =
      stops (seq p q ts) (λ p rest. Done (f p) rest) e new (stops (p ts) (λ a rest. and_then {A = B} {B = A × B} (q rest) (λ b rest. Done (a, b) rest)) e new s)

  pub first_stops : (r : Result C Stop) (e : Stop) (new : Tokens) → IsErrAnd r (λ x. x ≡ e) → Stopped (p ts) e new → Reads (map_out f (seq p q) ts) r new
  first_stops r e new h s = passes_on (map_out f (seq p q) ts) r e new h (first_stopped e new s)

  pub first_done : (a : A) (mid : Tokens) → p ts ≡ Done a mid → map_out f (seq p q) ts ≡ and_then (q mid) (λ b rest. Done (f (a, b)) rest)
  first_done a mid h =
      ap (λ o. and_then {A = A × B} {B = C} (and_then {A = A} {B = A × B} o (λ a rest. and_then {A = B} {B = A × B} (q rest) (λ b rest. Done (a, b) rest))) (λ p rest. Done (f p) rest)) h ∙ by (q mid)
    where
      by : (o : Outcome B) → and_then {A = A × B} {B = C} (and_then {A = B} {B = A × B} o (λ b rest. Done (a, b) rest)) (λ p rest. Done (f p) rest) ≡ and_then o (λ b rest. Done (f (a, b)) rest)
      by (Done b rest) = refl
      by (Fault k rest) = refl

  -- what the second part says holds of the whole
  pub behind : (a : A) (mid : Tokens) → p ts ≡ Done a mid → (P : Outcome C → Type 0) → P (and_then (q mid) (λ b rest. Done (f (a, b)) rest)) → P (map_out f (seq p q) ts)
  behind a mid h P s = subst P (sym (first_done a mid h)) s

  pub second_stops : (a : A) (mid new : Tokens) (r : Result C Stop) (e : Stop) → p ts ≡ Done a mid → IsErrAnd r (λ x. x ≡ e) → Stopped (q mid) e new → Reads (map_out f (seq p q) ts) r new
  second_stops a mid new r e h x s = behind a mid h (λ o. Reads o r new) (part_stops (λ b. f (a, b)) (q mid) r e new x s)

  pub both_made : (a : A) (mid new : Tokens) (got : Result B Stop) (r : Result C Stop) → p ts ≡ Done a mid → Reads (q mid) got new → Made (λ b. f (a, b)) got r → Reads (map_out f (seq p q) ts) r new
  both_made a mid new got r h g m = subst (λ o. Reads o r new) (sym (first_done a mid h)) (makes (λ b. f (a, b)) (q mid) got r new g m)

-- ---- an operator and its operand

-- the kind of a token, and what it means
module _ {A B : Type 0} (kinds : List Kind) (g : Kind → B) (p : Parser A) (ts : Tokens) where
  abbrev turned : Outcome Lexeme → Outcome (B × A)
  turned o = and_then {A = B} {B = B × A} (and_then {A = Lexeme} {B = B} o (λ t rest. Done (g t.kind) rest)) (λ b rest. and_then {A = A} {B = B × A} (p rest) (λ a rest. Done (b, a) rest))

  no_kind : (o : Outcome Lexeme) (k : Bool) (new : Tokens) → and_then o (λ t rest. Done t.kind rest) ≡ Fault k new → turned o ≡ Fault k new
  no_kind (Done t rest) k new h = absurd (done_fault t.kind k rest new h)
  no_kind (Fault k' rest) k new h = ap (λ o. and_then {A = Kind} {B = B × A} o (λ b rest. and_then {A = A} {B = B × A} (p rest) (λ a rest. Done (g b, a) rest))) h

  some_kind : (o : Outcome Lexeme) (kind : Kind) (mid : Tokens) → and_then o (λ t rest. Done t.kind rest) ≡ Done kind mid → turned o ≡ and_then (p mid) (λ a rest. Done (g kind, a) rest)
  some_kind (Done t rest) kind mid h = ap (λ o. and_then {A = Kind} {B = B × A} o (λ k rest. and_then {A = A} {B = B × A} (p rest) (λ a rest. Done (g k, a) rest))) h
  some_kind (Fault k rest) kind mid h = absurd (fault_done kind k mid rest h)

  pub kind_stops : (r : Result (B × A) Stop) (e : Stop) (new : Tokens) → IsErrAnd r (λ x. x ≡ e) → Stopped (map_out (λ t. t.kind) (one kinds) ts) e new → Reads (seq (map_out (λ t. g t.kind) (one kinds)) p ts) r new
  kind_stops r NoMemory new h s = passes_on (turned (one kinds ts)) r NoMemory new h s
  kind_stops r Syntax new h s = passes_on (turned (one kinds ts)) r Syntax new h (no_kind (one kinds ts) false new s)
  kind_stops r TooDeep new h s = passes_on (turned (one kinds ts)) r TooDeep new h (no_kind (one kinds ts) true new s)

  pub operand_stops : (kind : Kind) (mid : Tokens) (r : Result (B × A) Stop) (e : Stop) (new : Tokens) → map_out (λ t. t.kind) (one kinds) ts ≡ Done kind mid → IsErrAnd r (λ x. x ≡ e) → Stopped (p mid) e new → Reads (seq (map_out (λ t. g t.kind) (one kinds)) p ts) r new
  operand_stops kind mid r e new k h s =
      subst (λ o. Reads o r new) (sym (some_kind (one kinds ts) kind mid k)) (part_stops (λ a. (g kind, a)) (p mid) r e new h s)

  pub operand_done : (kind : Kind) (mid new : Tokens) (a : A) (b : B) → map_out (λ t. t.kind) (one kinds) ts ≡ Done kind mid → p mid ≡ Done a new → b ≡ g kind → seq (map_out (λ t. g t.kind) (one kinds)) p ts ≡ Done (b, a) new
  operand_done kind mid new a b k h e =
      some_kind (one kinds ts) kind mid k ∙ ap (λ o. and_then {A = A} {B = B × A} o (λ a rest. Done (g kind, a) rest)) h ∙ ap (λ b. Done (b, a) new) (sym e)

-- ---- loops

module _ {A : Type 0} (kinds : List Kind) (q : Parser A) (start : Outcome (List A)) (found : List A) (ts : Tokens) (inv : start ≡ gathered kinds q found ts) where
  pub turn_stops : (r : Result (List A) Stop) (e : Stop) (new : Tokens) → heads kinds ts ≡ true → IsErrAnd r (λ x. x ≡ e) → Stopped (q ts) e new → Reads start r new
  turn_stops r NoMemory new is h s = no_memory start r new h
  turn_stops r Syntax new is h s = passes_on start r Syntax new h (fault_turn kinds q start found ts new false inv is s)
  turn_stops r TooDeep new is h s = passes_on start r TooDeep new h (fault_turn kinds q start found ts new true inv is s)

  pub loop_ends : heads kinds ts ≡ false → start ≡ Done found ts
  loop_ends e = last_turn kinds q start found ts inv e

-- ---- an atom and its steps

module _ (l : Inner) where
  pub stepped_atom : (ts mid new : Tokens) (of : Expr) (got : Result (List PostOp) Stop) (r : Result Expr Stop) → atom l ts ≡ Done of mid → Reads (steps l mid) got new → Made (λ items. chained tree.Post (of, items)) got r → Reads (post l ts) r new
  unfolding post steps
  stepped_atom ts mid new of got r h g m =
      subst (λ o. Reads o r new) (sym (first_done posted (atom l) (seq tests (many STEP_SIGNS (turn l))) ts of mid h ∙ by (seq tests (many STEP_SIGNS (turn l)) mid)))
      (makes (λ items. chained tree.Post (of, items)) (steps l mid) got r new g m)
    where
      by : (o : Outcome (List PostOp × List (List PostOp))) → and_then o (λ b rest. Done (posted (of, b)) rest) ≡ and_then (and_then o (λ p rest. Done (p.0 ++ flat p.1) rest)) (λ items rest. Done (chained tree.Post (of, items)) rest)
      by (Done b rest) = refl
      by (Fault k rest) = refl

-- ---- tokens that have to come

pub unmet : {A : Type 0} (o : Outcome A) (e : Stop) (new : Tokens) → (e ≡ Syntax) × (o ≡ Fault false new) → Stopped o e new
unmet o e new h = subst (λ e. Stopped o e new) (sym h.0) h.1

pub after_met : {A : Type 0} (kinds : List Kind) (p : Parser A) (ts mid : Tokens) → (t : Lexeme) × (one kinds ts ≡ Done t mid) → after kinds p ts ≡ p mid
after_met kinds p ts mid h = first_done (λ p. p.1) (one kinds) p ts h.0 mid h.1 ∙ plain (p mid)
