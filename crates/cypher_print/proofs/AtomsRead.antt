-- Printed expressions that stand alone are read as these expressions.
use Rattle.std.proofs.Common.{◌≡◌, inl, inr, ℕ, suc, ◌<◌, ◌≤◌, List, [], ◌∷◌, ◌++◌, length, codes, Option, Some, None, refl, sym, ap, subst, ◌∙◌, append_assoc, arith}
use Rattle.std.specs.List.{flat_map}
use Rattle.cypher_syntax.specs.declared.tree.expr.Expr.{Expr}
use Rattle.cypher_syntax.specs.declared.tree.expr.Expr.TheVariants as tree
use Rattle.cypher_parse.specs.declared.kind.Kind.TheVariants as k
use Rattle.cypher_parse.specs.declared.kinds.TheConstants.{PLAIN_NAMES}
use Rattle.cypher_parse.specs.Languages.{Lang, Seq, Map, After, Before, Opt, Some1, Listed}
use Rattle.cypher_parse.specs.Expressions.{Inside, cased, Elements, Cases, Atom, Or, At}
use Rattle.cypher_print.specs.Pieces.{Pieces, written}
use Rattle.cypher_print.specs.Printed.{level_at, joined, expr, option, branch}
use Rattle.cypher_print.specs.Sentences.{IsSentence, All}
use Rattle.cypher_print.specs.QuerySentences.{AllSome}
use Rattle.cypher_print.proofs.PrintLemmas.{print-List, print-Case}
use Rattle.cypher_print.proofs.Parts.{spaced, written-behind}
use Rattle.cypher_print.proofs.Holds.{Holds, weaker, of_seq, of_map, of_after, of_before, of_alt, of_opt, of_some, of_listed, of_name}
use Rattle.cypher_print.proofs.PiecesRead.{Read, Apart, of_sure, begins, apart_both, seq, after, after_sure, before, before_read, via, mapped, left, none, many, many_apart}
use Rattle.cypher_print.proofs.PartsRead.{commas, apart_option}
use Rattle.cypher_print.proofs.ExpressionWords.{case_word, when, then, else_word, end}
use Rattle.cypher_print.proofs.ExpressionLevels.{Level}
use Rattle.cypher_print.proofs.PlacedRead.{own, Ready}
use Rattle.cypher_print.proofs.InsideRead.{Within, Opened, loose, of_enter, ready_inside, at_one_more}
use Rattle.cypher_print.proofs.NamesRead.{var_ready}
use Rattle.cypher_print.proofs.LiteralsRead.{literals_ready}
use Rattle.cypher_print.proofs.StepsRead.{open_bracket, close_bracket}
use Rattle.cypher_print.proofs.CallsRead.{calls_ready}

-- with a space in front
space_in_front : {A : Type 0} {L : Lang A} {a : A} {ps : Pieces} → Read L a ps → Read L a (codes " " ∷ ps)
space_in_front {L = L} {a = a} {ps = ps} r = record {
  reads = λ behind h. (let P : List ℕ → Type 0 = λ bytes. IsSentence L a bytes behind in
      subst P (sym (written-behind (32 ∷ []) ps)) (spaced L a (written [] ps) behind (r.reads behind h)));
}

abbrev IsWithin : ℕ → Option Expr → Type 0
IsWithin n None = Unit {0}
IsWithin n (Some x) = Within n x

abbrev IsBranch : ℕ → Expr × Expr → Type 0
IsBranch n w = Within n w.0 × Within n w.1

branch_apart : (w : Expr × Expr) → Apart (branch w)
branch_apart w = begins 32 (codes "WHEN ") (expr w.0 0 ++ (codes " THEN " ∷ expr w.1 0)) refl

branches_apart : (n : ℕ) (ws : List (Expr × Expr)) → All (IsBranch n) ws → Apart (flat_map branch ws)
branches_apart n ws are = many_apart branch (IsBranch n) (λ w h. branch_apart w) ws are

last_text : Option Expr → Pieces
last_text other = option (codes " ELSE ") other ++ codes " END" ∷ []

last_apart : (other : Option Expr) → Apart (last_text other)
unfolding last_text
last_apart other = apart_both (apart_option (codes "ELSE ") other) (begins 32 (codes "END") [] refl)

module _ (i : ℕ) where
  abbrev E : Lang Expr
  E = Or (At i)

  -- ---- lists

  elements_read : (n : ℕ) (xs : List Expr) → n ≤ suc i → All (Within n) xs → Read (Opt [] (Listed (k.Comma ∷ []) E)) xs (joined (codes ", ") (λ x. expr x 0) xs)
  elements_read n [] more are = none
  elements_read n (x ∷ xs) more are = let some : 0 < length (x ∷ xs) = omega arith in left (commas (λ x. expr x 0) (Within n) (λ x w. loose n i x more w) (x ∷ xs) (some, are))

  list_read : (xs : List Expr) → Read (Opt [] (Listed (k.Comma ∷ []) E)) xs (joined (codes ", ") (λ x. expr x 0) xs) → Read (Atom (At (suc i))) (tree.List xs) (codes "[" ∷ (joined (codes ", ") (λ x. expr x 0) xs ++ codes "]" ∷ []))
  unfolding Atom At
  list_read xs r = via (λ ts u. inr (inl (xs, u, refl))) (after_sure open_bracket (of_sure (before r close_bracket (λ behind. refl))))

  -- ---- CASE

  module _ (n : ℕ) (more : n ≤ suc i) where
    one : (x : Expr) → Within n x → Read E x (expr x 0)
    one x w = loose n i x more w

    of_read : (o : Option Expr) → IsWithin n o → Read (Opt None (Map Some E)) o (option (codes " ") o)
    of_read None w = none
    of_read (Some x) w = left (mapped Some (space_in_front (one x w)))

    other_read : (o : Option Expr) → IsWithin n o → Read (Opt None (Map Some (After (k.Else ∷ []) E))) o (option (codes " ELSE ") o)
    other_read None w = none
    other_read (Some x) w = left (mapped Some (after_sure else_word (one x w)))

    branch_read : (w : Expr × Expr) → IsBranch n w → Read (Seq (After (k.When ∷ []) E) (After (k.Then ∷ []) E)) w (branch w)
    branch_read w h = seq (after_sure when (one w.0 h.0)) (after_sure then (one w.1 h.1)) (begins 32 (codes "THEN ") (expr w.1 0) refl)

    branches_read : (ws : List (Expr × Expr)) → AllSome (IsBranch n) ws → Read (Some1 (Seq (After (k.When ∷ []) E) (After (k.Then ∷ []) E))) ws (flat_map branch ws)
    branches_read [] are = absurd (omega (arith, are.0))
    branches_read (w ∷ ws) are = mapped (λ p. p.0 ∷ p.1) (seq (branch_read w are.1.0) (many branch (IsBranch n) branch_read (λ w h. branch_apart w) ws are.1.1) (branches_apart n ws are.1.1))

    last_read : (o : Option Expr) → IsWithin n o → Read (Before (Opt None (Map Some (After (k.Else ∷ []) E))) (k.End ∷ [])) o (last_text o)
    unfolding last_text
    last_read o w = before_read (other_read o w) end (begins 32 (codes "END") [] refl)

    case_read : (of : Option Expr) (ws : List (Expr × Expr)) (other : Option Expr) → IsWithin n of → AllSome (IsBranch n) ws → IsWithin n other
        → Read (Atom (At (suc i))) (tree.Case of ws other) (codes "CASE" ∷ (option (codes " ") of ++ (flat_map branch ws ++ last_text other)))
    unfolding Atom At
    case_read of ws other w are v =
        let behind = apart_both (branches_apart n ws are.1) (last_apart other) in
        via (λ ts u. inr (inr (inl ((of, (ws, other)), u, refl))))
        (after case_word (seq (of_read of w) (seq (branches_read ws are) (last_read other v) (last_apart other)) behind) (apart_both (apart_option [] of) behind))

print_case : (of : Option Expr) (ws : List (Expr × Expr)) (other : Option Expr) → expr (tree.Case of ws other) 0 ≡ codes "CASE" ∷ (option (codes " ") of ++ (flat_map branch ws ++ last_text other))
unfolding last_text
print_case of ws other =
    let O = option (codes " ") of in
    let W = flat_map branch ws in
    let L = option (codes " ELSE ") other in
    print-Case of ws other ∙ ap (λ ys. codes "CASE" ∷ ys) (append_assoc (O ++ W) L (codes " END" ∷ []) ∙ append_assoc O W (L ++ codes " END" ∷ []))

module _ (n : ℕ) (l : Inside) (o : Opened n l) where
  -- what stands in parentheses
  enclosed : (x : Expr) → Within n x → 0 < n → Ready 10 n x
  enclosed x w some = record {
    bare = λ m more. (let far : n ≤ suc m = omega (arith, more) in w m far);
    inside = λ low m more. at_one_more (λ m. (less : ℕ) × (m ≡ suc less) × Read (Level (own x) (At less)) x (expr x 0)) n m some more (λ j far. (j, refl, w j far));
  }

  list_ready : (xs : List Expr) → All (Within n) xs → 0 < n → Ready 10 n (tree.List xs)
  list_ready xs are some =
      ready_inside 10 10 n (tree.List xs) (codes "[" ∷ (joined (codes ", ") (λ x. expr x 0) xs ++ codes "]" ∷ [])) (ap level_at (tree.outs-List xs)) (omega arith) some (print-List xs)
      (λ i more. list_read i xs (elements_read i n xs more are))

  abbrev AreCases : Option Expr × (List (Expr × Expr) × Option Expr) → Type 0
  AreCases p = IsWithin n p.0 × (AllSome (IsBranch n) p.1.0 × IsWithin n p.1.1)

  case_ready : (p : Option Expr × (List (Expr × Expr) × Option Expr)) → AreCases p → 0 < n → Ready 10 n (cased p)
  case_ready p h some =
      let of = p.0 in
      let ws = p.1.0 in
      let other = p.1.1 in
      ready_inside 10 10 n (tree.Case of ws other) (codes "CASE" ∷ (option (codes " ") of ++ (flat_map branch ws ++ last_text other))) (ap level_at (tree.outs-Case of ws other)) (omega arith) some (print_case of ws other)
      (λ i more. case_read i n more of ws other h.0 h.1.0 h.1.1)

  optional : {L : Lang Expr} → Holds L (Within n) → Holds (Opt None (Map Some L)) (IsWithin n)
  optional x = of_opt None tt (of_map Some (IsWithin n) (λ x w. w) x)

  cases_hold : Holds (Cases l) AreCases
  cases_hold =
      of_seq (optional o.operand)
      (of_seq (of_some (of_seq (of_after (k.When ∷ []) o.operand) (of_after (k.Then ∷ []) o.operand)))
      (of_before (k.End ∷ []) (optional (of_after (k.Else ∷ []) o.operand))))

  elements_hold : Holds (Elements l) (All (Within n))
  elements_hold = of_before (k.RightBracket ∷ []) (of_opt [] tt (weaker (λ xs h. h.1) (of_listed (k.Comma ∷ []) o.operand)))

  pub atoms_ready : Holds (Atom l) (Ready 10 n)
  unfolding Atom
  atoms_ready =
      of_alt (of_enter l.left (k.LeftParen ∷ []) (λ x. x) (Ready 10 n) (λ may x w. enclosed x w (o.some may)) (of_before (k.RightParen ∷ []) o.operand))
      (of_alt (of_enter l.left (k.LeftBracket ∷ []) tree.List (Ready 10 n) (λ may xs h. list_ready xs h (o.some may)) elements_hold)
      (of_alt (of_enter l.left (k.Case ∷ []) cased (Ready 10 n) (λ may p h. case_ready p h (o.some may)) cases_hold)
      (of_alt (of_map tree.Var (Ready 10 n) (var_ready n) (of_name PLAIN_NAMES))
      (of_alt (literals_ready n) (calls_ready n l o)))))
