-- Printed calls of functions are read as these calls.
use Rattle.std.proofs.Common.{◌≡◌, inr, ℕ, suc, ◌<◌, ◌≤◌, Bool, true, List, [], ◌∷◌, ◌++◌, codes, Option, Some, None, refl, sym, ap, ◌∙◌, append-nil, arith}
use Rattle.std.proofs.lemmas.Bool.{false≢true}
use Rattle.cypher_syntax.specs.declared.tree.expr.Expr.{Expr}
use Rattle.cypher_syntax.specs.declared.tree.expr.Expr.TheVariants as tree
use Rattle.cypher_syntax.specs.declared.tree.operators.Fun.{Fun}
use Rattle.cypher_syntax.specs.declared.tree.operators.Fun.TheVariants as fun
use Rattle.cypher_syntax.specs.declared.tree.operators.AggFun.TheVariants as agg
use Rattle.cypher_parse.specs.declared.kind.Kind.{Kind}
use Rattle.cypher_parse.specs.declared.kind.Kind.TheVariants as k
use Rattle.cypher_parse.specs.declared.kinds.TheConstants.{SINGLE_FUNCTIONS, AGGREGATES}
use Rattle.cypher_parse.specs.Kinds.{number, member}
use Rattle.cypher_parse.specs.Spelling.{kind_of}
use Rattle.cypher_parse.specs.Texts.{or_name, lexeme_of}
use Rattle.cypher_parse.specs.Words.{name_in, with_name, function_of, function_for, aggregate_for}
use Rattle.cypher_parse.specs.Languages.{Lang, Valued, Map, After, Before, Empty, Alt}
use Rattle.cypher_parse.specs.Expressions.{Inside, called, counted, Called, Operand, Call, Or, Atom, At}
use Rattle.cypher_print.specs.Pieces.{Pieces, written, is_word, fun_text, agg_text}
use Rattle.cypher_print.specs.Printed.{level_at, joined, distinct_word, expr}
use Rattle.cypher_print.specs.QuerySentences.{AllSome}
use Rattle.cypher_print.proofs.PrintLemmas.{print-Call, print-CountRows, print-Agg}
use Rattle.cypher_print.proofs.ReadSigns.{words}
use Rattle.cypher_print.proofs.Sentences.{one_token}
use Rattle.cypher_print.proofs.Holds.{Holds, anything, of_seq, of_map, of_after, of_before, of_alt, of_empty, of_listed, IsFunction, of_function}
use Rattle.cypher_print.proofs.PiecesRead.{Read, of_sure, begins, seq, seq_sure, after_sure, before, via, mapped, passed_as, left, right, rewritten}
use Rattle.cypher_print.proofs.WordsRead.{parts_too, star}
use Rattle.cypher_print.proofs.PartsRead.{comma_token, commas}
use Rattle.cypher_print.proofs.ProjectionsRead.{distinct_read}
use Rattle.cypher_print.proofs.PlacedRead.{Ready, open_paren, close_paren}
use Rattle.cypher_print.proofs.InsideRead.{Within, Opened, loose, of_enter, ready_inside}
use Rattle.cypher_print.proofs.NamesRead.{var_ready}

-- ---- the words of functions

-- the word is spelled so, and is one of these
abbrev IsWordAmong : List Kind → Kind → List ℕ → Type 0
IsWordAmong kinds kind w = (is_word w ≡ true) × (or_name (kind_of w) ≡ kind) × (member (number kind) kinds ≡ true)

named_so : (kind other : Kind) (o : Option (List ℕ)) (w : List ℕ) → kind ≡ other → o ≡ Some w → with_name kind o ≡ Some (other, w)
named_so kind other o w e f = ap (with_name kind) f ∙ ap (λ kind. Some (kind, w)) e

function_word : (kinds : List Kind) (kind : Kind) (w : List ℕ) → IsWordAmong kinds kind w → Read (Valued kinds function_of) (kind, w) (w ∷ [])
function_word kinds kind w is = record {
  reads = λ behind h. (let r = words w behind is.0 (parts_too behind h) in
      one_token (Valued kinds function_of) (kind, w) w behind (
        r.0,
        r.1,
        λ place. (let t = lexeme_of r.0 w place in
            let same = (r.2 place).0 ∙ is.1 in
            (t, refl, ap (λ j. member (number j) kinds) same ∙ is.2, named_so t.kind kind (name_in t.payload) w same (r.2 place).1)),
      ));
}

single_word : (kind : Kind) → member (number kind) SINGLE_FUNCTIONS ≡ true → IsWordAmong SINGLE_FUNCTIONS kind (fun_text (function_for kind))
unfolding kind_of
single_word k.IdWord h = (refl, refl, refl)
single_word k.LabelsWord h = (refl, refl, refl)
single_word k.TypeWord h = (refl, refl, refl)
single_word k.StartNodeWord h = (refl, refl, refl)
single_word k.EndNodeWord h = (refl, refl, refl)
single_word k.KeysWord h = (refl, refl, refl)
single_word k.SizeWord h = (refl, refl, refl)
single_word k.HeadWord h = (refl, refl, refl)
single_word k.LastWord h = (refl, refl, refl)
single_word k.AbsWord h = (refl, refl, refl)
single_word k.ToStringWord h = (refl, refl, refl)
single_word k.ToIntegerWord h = (refl, refl, refl)
single_word kind h = absurd (false≢true h)

aggregate_word : (kind : Kind) → member (number kind) AGGREGATES ≡ true → IsWordAmong AGGREGATES kind (agg_text (aggregate_for kind))
unfolding kind_of
aggregate_word k.SumWord h = (refl, refl, refl)
aggregate_word k.MinWord h = (refl, refl, refl)
aggregate_word k.MaxWord h = (refl, refl, refl)
aggregate_word k.CollectWord h = (refl, refl, refl)
aggregate_word kind h = absurd (false≢true h)

range_word : IsWordAmong (k.RangeWord ∷ []) k.RangeWord (codes "range")
unfolding kind_of
range_word = (refl, refl, refl)

coalesce_word : IsWordAmong (k.CoalesceWord ∷ []) k.CoalesceWord (codes "coalesce")
unfolding kind_of
coalesce_word = (refl, refl, refl)

count_word : IsWordAmong (k.CountWord ∷ []) k.CountWord (codes "count")
unfolding kind_of
count_word = (refl, refl, refl)

-- ---- between parentheses

module _ (i : ℕ) {A : Type 0} {X : Lang A} (kinds : List Kind) (kind : Kind) (w : List ℕ) (is : IsWordAmong kinds kind w) (node : Kind → A → Expr) (a : A) (ps : Pieces) (r : Read X a ps) where
  call_read : Read (Called (At (suc i)) kinds node X) (node kind a) (w ∷ codes "(" ∷ (ps ++ codes ")" ∷ []))
  unfolding At
  call_read =
      let inner = after_sure open_paren (of_sure (before r close_paren (λ behind. refl))) in
      let given : Read (Alt (Map Some (After (k.LeftParen ∷ []) (Before X (k.RightParen ∷ [])))) (Empty None)) (Some a) (codes "(" ∷ (ps ++ codes ")" ∷ [])) = left (mapped Some inner) in
      via (λ ts u. (((kind, w), Some a), u, refl)) (seq (function_word kinds kind w is) given (begins 40 [] (ps ++ codes ")" ∷ []) refl))

module _ (n : ℕ) where
  -- an argument
  argument : (i : ℕ) (x : Expr) → n ≤ suc i → Within n x → Read (Or (At i)) x (expr x 0)
  argument i x more w = loose n i x more w

  call_ready : (f : Fun) (xs : List Expr) → 0 < n → ((i : ℕ) → n ≤ suc i → Read (Atom (At (suc i))) (tree.Call f xs) (fun_text f ∷ codes "(" ∷ (joined (codes ", ") (λ x. expr x 0) xs ++ codes ")" ∷ []))) → Ready 10 n (tree.Call f xs)
  call_ready f xs some r = ready_inside 10 10 n (tree.Call f xs) (fun_text f ∷ codes "(" ∷ (joined (codes ", ") (λ x. expr x 0) xs ++ codes ")" ∷ [])) (ap level_at (tree.outs-Call f xs)) (omega arith) some (print-Call f xs) r

  in_atom : (i : ℕ) (x : Expr) (ps : Pieces) → Read (Call (At (suc i))) x ps → Read (Atom (At (suc i))) x ps
  unfolding Atom
  in_atom i x ps r = via (λ ts u. inr (inr (inr (inr (inr u))))) r

  single : (kind : Kind) → member (number kind) SINGLE_FUNCTIONS ≡ true → (x : Expr) → Within n x → 0 < n → Ready 10 n (tree.Call (function_for kind) (x ∷ []))
  unfolding Call At
  single kind is x w some =
      let f = function_for kind in
      call_ready f (x ∷ []) some (λ i more. in_atom i (tree.Call f (x ∷ [])) _ (left
      (call_read i SINGLE_FUNCTIONS kind (fun_text f) (single_word kind is) (λ f x. tree.Call (function_for f) (x ∷ [])) x (expr x 0 ++ [])
      (rewritten (ap (written []) (sym (append-nil (expr x 0)))) (argument i x more w)))))

  range : (x y : Expr) → Within n x → Within n y → 0 < n → Ready 10 n (tree.Call fun.Range (x ∷ y ∷ []))
  unfolding Call At
  range x y w v some =
      call_ready fun.Range (x ∷ y ∷ []) some (λ i more. in_atom i (tree.Call fun.Range (x ∷ y ∷ [])) _ (right (left
      (call_read i (k.RangeWord ∷ []) k.RangeWord (codes "range") range_word (λ f p. tree.Call fun.Range (p.0 ∷ p.1 ∷ [])) (x, y) (expr x 0 ++ ((codes ", " ∷ expr y 0) ++ []))
      (seq (argument i x more w) (rewritten (ap (written []) (sym (append-nil (codes ", " ∷ expr y 0)))) (after_sure comma_token (argument i y more v))) (begins 44 (32 ∷ []) (expr y 0 ++ []) refl))))))

  coalesce : (xs : List Expr) → AllSome (Within n) xs → 0 < n → Ready 10 n (tree.Call fun.Coalesce xs)
  unfolding Call At
  coalesce xs are some =
      call_ready fun.Coalesce xs some (λ i more. in_atom i (tree.Call fun.Coalesce xs) _ (right (right (left
      (call_read i (k.CoalesceWord ∷ []) k.CoalesceWord (codes "coalesce") coalesce_word (λ f xs. tree.Call fun.Coalesce xs) xs (joined (codes ", ") (λ x. expr x 0) xs)
      (commas (λ x. expr x 0) (Within n) (λ x w. argument i x more w) xs are))))))

  -- DISTINCT or nothing, and the expression
  operand_read : (i : ℕ) (d : Bool) (x : Expr) → n ≤ suc i → Within n x → Read (Operand (At (suc i))) (d, x) (distinct_word d ++ expr x 0)
  unfolding At
  operand_read i d x more w = seq_sure (distinct_read d) (argument i x more w)

  rows : 0 < n → Ready 10 n tree.CountRows
  unfolding Call At
  rows some =
      ready_inside 10 10 n tree.CountRows (codes "count(*)" ∷ []) (ap level_at tree.outs-CountRows) (omega arith) some print-CountRows
      (λ i more. in_atom i tree.CountRows _ (right (right (right (left (rewritten refl
      (call_read i (k.CountWord ∷ []) k.CountWord (codes "count") count_word (λ f o. counted o) None (codes "*" ∷ [])
      (left (passed_as None star)))))))))

  count : (d : Bool) (x : Expr) → Within n x → 0 < n → Ready 10 n (tree.Agg agg.Count d x)
  unfolding Call At
  count d x w some =
      ready_inside 10 10 n (tree.Agg agg.Count d x) (codes "count" ∷ codes "(" ∷ (distinct_word d ++ expr x 0 ++ codes ")" ∷ [])) (ap level_at (tree.outs-Agg agg.Count d x)) (omega arith) some (print-Agg agg.Count d x)
      (λ i more. in_atom i (tree.Agg agg.Count d x) _ (right (right (right (left
      (call_read i (k.CountWord ∷ []) k.CountWord (codes "count") count_word (λ f o. counted o) (Some (d, x)) (distinct_word d ++ expr x 0)
      (right (mapped Some (operand_read i d x more w)))))))))

  aggregate : (kind : Kind) → member (number kind) AGGREGATES ≡ true → (d : Bool) (x : Expr) → Within n x → 0 < n → Ready 10 n (tree.Agg (aggregate_for kind) d x)
  unfolding Call At
  aggregate kind is d x w some =
      let f = aggregate_for kind in
      ready_inside 10 10 n (tree.Agg f d x) (agg_text f ∷ codes "(" ∷ (distinct_word d ++ expr x 0 ++ codes ")" ∷ [])) (ap level_at (tree.outs-Agg f d x)) (omega arith) some (print-Agg f d x)
      (λ i more. in_atom i (tree.Agg f d x) _ (right (right (right (right
      (call_read i AGGREGATES kind (agg_text f) (aggregate_word kind is) (λ f p. tree.Agg (aggregate_for f) p.0 p.1) (d, x) (distinct_word d ++ expr x 0)
      (operand_read i d x more w)))))))

-- ---- calls of the grammar

module _ (n : ℕ) (l : Inside) (o : Opened n l) where
  abbrev IsArgument : {A : Type 0} → (A → Type 0) → Option A → Type 0
  IsArgument P None = Unit {0}
  IsArgument P (Some a) = (0 < n) × P a

  called_ready : {A : Type 0} {X : Lang A} {P : A → Type 0} (kinds : List Kind) (node : Kind → A → Expr) → ((kind : Kind) → member (number kind) kinds ≡ true → (a : A) → P a → 0 < n → Ready 10 n (node kind a)) → Holds X P → Holds (Called l kinds node X) (Ready 10 n)
  called_ready {A = A} {P = P} kinds node ready x =
      of_map (called node) (Ready 10 n) by
      (of_seq (of_function kinds) (of_alt (of_enter l.left (k.LeftParen ∷ []) Some (IsArgument P) (λ may a h. (o.some may, h)) (of_before (k.RightParen ∷ []) x)) (of_empty None (IsArgument P) tt)))
    where
      by : (p : (Kind × List ℕ) × Option A) → IsFunction kinds p.0 × IsArgument P p.1 → Ready 10 n (called node p)
      by (f, None) h = var_ready n f.1 h.0.1
      by (f, Some a) h = ready f.0 h.0.0 a h.1.1 h.1.0

  abbrev IsOperand : Bool × Expr → Type 0
  IsOperand p = Unit {0} × Within n p.1

  abbrev IsCounted : Option (Bool × Expr) → Type 0
  IsCounted None = Unit {0}
  IsCounted (Some p) = IsOperand p

  operand_holds : Holds (Operand l) IsOperand
  operand_holds = of_seq anything o.operand

  counted_ready : (p : Option (Bool × Expr)) → IsCounted p → 0 < n → Ready 10 n (counted p)
  counted_ready None h some = rows n some
  counted_ready (Some p) h some = count n p.0 p.1 h.1 some

  pub calls_ready : Holds (Call l) (Ready 10 n)
  unfolding Call
  calls_ready =
      of_alt (called_ready SINGLE_FUNCTIONS (λ f x. tree.Call (function_for f) (x ∷ [])) (λ kind is x w some. single n kind is x w some) o.operand)
      (of_alt (called_ready (k.RangeWord ∷ []) (λ f p. tree.Call fun.Range (p.0 ∷ p.1 ∷ [])) (λ kind is p h some. range n p.0 p.1 h.0 h.1 some) (of_seq o.operand (of_after (k.Comma ∷ []) o.operand)))
      (of_alt (called_ready (k.CoalesceWord ∷ []) (λ f xs. tree.Call fun.Coalesce xs) (λ kind is xs h some. coalesce n xs h some) (of_listed (k.Comma ∷ []) o.operand))
      (of_alt (called_ready (k.CountWord ∷ []) (λ f o. counted o) (λ kind is p h some. counted_ready p h some) (of_alt (of_map (λ t. None) IsCounted (λ t u. tt) anything) (of_map Some IsCounted (λ p h. h) operand_holds)))
      (called_ready AGGREGATES (λ f p. tree.Agg (aggregate_for f) p.0 p.1) (λ kind is p h some. aggregate n kind is p.0 p.1 h.1 some) operand_holds))))
