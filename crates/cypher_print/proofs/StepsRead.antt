-- What is asked of an operand behind it is read from its printed form.
use Rattle.std.proofs.Common.{◌≡◌, inl, inr, ℕ, suc, ◌<◌, ◌≤◌, List, [], ◌∷◌, ◌++◌, codes, refl, sym, ap, ◌∙◌, subst, append_assoc, append-nil, arith}
use Rattle.std.specs.List.{flat_map}
use Rattle.cypher_syntax.specs.declared.tree.expr.Expr.{Expr}
use Rattle.cypher_syntax.specs.declared.tree.expr.Expr.TheVariants as tree
use Rattle.cypher_syntax.specs.declared.tree.expr.Expr.TheOpen.{PostOp-F}
use Rattle.cypher_syntax.specs.declared.tree.expr.PostOp.{PostOp, fold-roll-PostOp}
use Rattle.cypher_syntax.specs.declared.tree.expr.PostOp.TheVariants as step
use Rattle.cypher_parse.specs.declared.kind.Kind.TheVariants as k
use Rattle.cypher_parse.specs.declared.kinds.TheConstants.{SCHEMA_NAMES}
use Rattle.cypher_parse.specs.Languages.{Lang, Seq, Map}
use Rattle.cypher_parse.specs.Expressions.{Inside, chained, flat, posted, Atom, Tests, Step, Post, Or, At}
use Rattle.cypher_print.specs.Pieces.{Pieces, written, schema}
use Rattle.cypher_print.specs.Printed.{Placed, level_at, expr_level, post_level, pred_level, expr, post, labels}
use Rattle.cypher_print.specs.Sentences.{All, IsName}
use Rattle.cypher_print.specs.QuerySentences.{AllSome}
use Rattle.cypher_print.proofs.PrintLemmas.{print-Post}
use Rattle.cypher_print.proofs.Parts.{left_bracket, right_bracket}
use Rattle.cypher_print.proofs.Holds.{Holds, of_map, of_seq, of_alt, of_opt, of_after, of_before, of_many, of_name, of_some}
use Rattle.cypher_print.proofs.PiecesRead.{Read, Apart, Token, of_sure, apart_none, begins, apart_both, seq, after_sure, before, via, none, rewritten, many, many_apart}
use Rattle.cypher_print.proofs.PartsRead.{a_schema, some_labels, labels_apart, dotless_schema, after_point}
use Rattle.cypher_print.proofs.PlacedRead.{Ready, at_level, looser_place, ready_as}
use Rattle.cypher_print.proofs.InsideRead.{Within, Opened, loose, of_enter, at_one_more}

pub open_bracket : Token (k.LeftBracket ∷ []) (codes "[" ∷ [])
open_bracket = record { token = record { reads = λ behind. left_bracket behind } }

pub close_bracket : Token (k.RightBracket ∷ []) (codes "]" ∷ [])
close_bracket = record { token = record { reads = λ behind. right_bracket behind } }

-- ---- what is printed

print-Prop : (key : List ℕ) → post (step.Prop key) ≡ codes "." ∷ schema key
print-Prop key = ap post (sym (step.rolls-Prop key)) ∙ fold-roll-PostOp Placed Pieces Pieces expr_level post_level pred_level (PostOp-F.Prop key)

print-At : (x : Expr) → post (step.At x) ≡ codes "[" ∷ (expr x 0 ++ codes "]" ∷ [])
print-At x = ap post (sym (step.rolls-At x)) ∙ fold-roll-PostOp Placed Pieces Pieces expr_level post_level pred_level (PostOp-F.At x)

print-Labels : (names : List (List ℕ)) → post (step.Labels names) ≡ labels names
print-Labels names = ap post (sym (step.rolls-Labels names)) ∙ fold-roll-PostOp Placed Pieces Pieces expr_level post_level pred_level (PostOp-F.Labels names)

abbrev asked : List PostOp → Pieces
asked ps = flat_map post ps

asked_both : (ps qs : List PostOp) → asked (ps ++ qs) ≡ asked ps ++ asked qs
asked_both [] qs = refl
asked_both (p ∷ ps) qs = ap (λ ys. post p ++ ys) (asked_both ps qs) ∙ sym (append_assoc (post p) (asked ps) (asked qs))

asked_flat : (pss : List (List PostOp)) → asked (flat pss) ≡ flat_map asked pss
asked_flat [] = refl
asked_flat (ps ∷ pss) = asked_both ps (flat pss) ∙ ap (λ ys. asked ps ++ ys) (asked_flat pss)

-- ---- labels

abbrev ReadyTests : List PostOp → Type 0
ReadyTests ps = Apart (asked ps) × Read Tests ps (asked ps)

some_tests : (names : List (List ℕ)) → AllSome IsName names → ReadyTests (step.Labels names ∷ [])
some_tests names are =
    let same : labels names ≡ asked (step.Labels names ∷ []) = sym (append-nil (post (step.Labels names)) ∙ print-Labels names) in (
      subst Apart same (labels_apart names are.1),
      rewritten (ap (written []) same) (via (λ ts u. inl (names, u, refl)) (some_labels names are)),
    )

tests_ready : Holds Tests ReadyTests
tests_ready = of_opt [] (apart_none, none) (of_map (λ names. step.Labels names ∷ []) ReadyTests some_tests (of_some (of_after (k.Colon ∷ []) (of_name SCHEMA_NAMES))))

-- ---- steps

-- wherever so many tokens may be open at once as at n
abbrev ReadyStep : ℕ → PostOp → Type 0
ReadyStep n p = Apart (post p) × ((m : ℕ) → n ≤ m → Read (Step (At m)) p (post p))

abbrev Turn : Inside → Lang (List PostOp)
Turn l = Map (λ p. p.0 ∷ p.1) (Seq (Step l) Tests)

abbrev ReadyTurn : ℕ → List PostOp → Type 0
ReadyTurn n ps = Apart (asked ps) × ((m : ℕ) → n ≤ m → Read (Turn (At m)) ps (asked ps))

prop_read : (m : ℕ) (key : List ℕ) → IsName key → Read (Step (At m)) (step.Prop key) (codes "." ∷ schema key)
prop_read m key is = via (λ ts u. inr (key, u, refl)) (after_point (dotless_schema key) (a_schema key is))

index_read : (i : ℕ) (x : Expr) (ps : Pieces) → Read (Or (At i)) x ps → Read (Step (At (suc i))) (step.At x) (codes "[" ∷ (ps ++ codes "]" ∷ []))
unfolding At
index_read i x ps r = via (λ ts u. inl (x, u, refl)) (after_sure open_bracket (of_sure (before r close_bracket (λ behind. refl))))

prop_ready : (n : ℕ) (key : List ℕ) → IsName key → ReadyStep n (step.Prop key)
prop_ready n key is = (
  subst Apart (sym (print-Prop key)) (begins 46 [] (schema key) refl),
  λ m more. subst (λ ps. Read (Step (At m)) (step.Prop key) ps) (sym (print-Prop key)) (prop_read m key is),
)

index_ready : (n : ℕ) (x : Expr) → Within n x → 0 < n → ReadyStep n (step.At x)
index_ready n x w some = (
  subst Apart (sym (print-At x)) (begins 91 [] (expr x 0 ++ codes "]" ∷ []) refl),
  λ m more. at_one_more (λ m. Read (Step (At m)) (step.At x) (post (step.At x))) n m some more
      (λ i far. subst (λ ps. Read (Step (At (suc i))) (step.At x) ps) (sym (print-At x)) (index_read i x (expr x 0) (loose n i x far w))),
)

a_turn : (n : ℕ) (p : PostOp) (ps : List PostOp) → ReadyStep n p → ReadyTests ps → ReadyTurn n (p ∷ ps)
a_turn n p ps s t = (apart_both s.0 t.0, λ m more. via (λ ts u. ((p, ps), u, refl)) (seq (s.1 m more) t.1 t.0))

-- ---- an operand with what is asked of it

module _ (n : ℕ) (a : Expr) (r : Ready 10 n a) (first : List PostOp) (f : ReadyTests first) (turns : List (List PostOp)) (are : All (ReadyTurn n) turns) where
  turns_apart : Apart (flat_map asked turns)
  turns_apart = many_apart asked (ReadyTurn n) (λ ps h. h.0) turns are

  whole_read : (m : ℕ) (b : PostOp) (bs : List PostOp) → first ++ flat turns ≡ b ∷ bs → n ≤ m → Read (Post (At m)) (tree.Post a (b ∷ bs)) (expr a 10 ++ (asked first ++ flat_map asked turns))
  unfolding Post
  whole_read m b bs e more =
      let rest = many {L = Turn (At m)} asked (ReadyTurn n) (λ ps h. h.1 m more) (λ ps h. h.0) turns are in
      via (λ ts u. ((a, (first, turns)), u, ap (λ ps. chained tree.Post (a, ps)) e))
      (seq (at_level 10 n m a (omega arith) more r) (seq f.1 rest turns_apart) (apart_both f.0 turns_apart))

  with_asked : (ps : List PostOp) → first ++ flat turns ≡ ps → Ready 9 n (chained tree.Post (a, ps))
  with_asked [] e = looser_place r
  with_asked (b ∷ bs) e =
      let same : expr a 10 ++ (asked first ++ flat_map asked turns) ≡ expr (tree.Post a (b ∷ bs)) 0 =
      ap (λ ys. expr a 10 ++ ys) (sym (ap asked (sym e) ∙ asked_both first (flat turns) ∙ ap (λ ys. asked first ++ ys) (asked_flat turns))) ∙ sym (print-Post a (b ∷ bs)) in
      ready_as 9 9 n (tree.Post a (b ∷ bs)) (ap level_at (tree.outs-Post a (b ∷ bs))) (omega arith) (λ m more. rewritten (ap (written []) same) (whole_read m b bs e more))

module _ (n : ℕ) (l : Inside) (o : Opened n l) where
  step_ready : Holds (Step l) (ReadyStep n)
  step_ready =
      of_alt (of_enter l.left (k.LeftBracket ∷ []) step.At (ReadyStep n) (λ may x w. index_ready n x w (o.some may)) (of_before (k.RightBracket ∷ []) o.operand))
      (of_map step.Prop (ReadyStep n) (prop_ready n) (of_after (k.Point ∷ []) (of_name SCHEMA_NAMES)))

  turn_ready : Holds (Turn l) (ReadyTurn n)
  turn_ready = of_map (λ p. p.0 ∷ p.1) (ReadyTurn n) (λ p h. a_turn n p.0 p.1 h.0 h.1) (of_seq step_ready tests_ready)

  pub post_ready : Holds (Atom l) (Ready 10 n) → Holds (Post l) (Ready 9 n)
  unfolding Post
  post_ready atom = of_map posted (Ready 9 n) (λ p h. with_asked n p.0 h.0 p.1.0 h.1.0 p.1.1 h.1.1 (p.1.0 ++ flat p.1.1) refl) (of_seq atom (of_seq tests_ready (of_many turn_ready)))
