-- Printed literals are read as these literals.
use Rattle.std.proofs.Common.{◌≡◌, inl, inr, ℕ, ℤ, pos, true, false, cond, nat_lt, List, [], ◌∷◌, codes, refl, sym, ap, ◌∙◌, subst, arith}
use Rattle.std.specs.Prelude.{int_lt}
use Rattle.std.specs.Fmt.{decimal}
use Rattle.std.proofs.lemmas.Bool.Decides.{nat_tests}
use Rattle.graph_value.specs.declared.value.Value.{Value, out-Value}
use Rattle.graph_value.specs.declared.value.Value.TheOpen.{Value-F}
use Rattle.graph_value.specs.declared.value.Value.TheVariants as value
use Rattle.cypher_syntax.specs.declared.tree.expr.Expr.TheVariants as tree
use Rattle.cypher_parse.specs.declared.kind.Kind.TheVariants as k
use Rattle.cypher_parse.specs.Kinds.{number, member}
use Rattle.cypher_parse.specs.Texts.{lexeme_of}
use Rattle.cypher_parse.specs.Words.{text_of}
use Rattle.cypher_parse.specs.Languages.{Lang, Valued}
use Rattle.cypher_parse.specs.Expressions.{Integer, Literal, Atom}
use Rattle.cypher_print.specs.Pieces.{Pieces, written, quoted, value_level}
use Rattle.cypher_print.specs.Printed.{level_at, is_signed}
use Rattle.cypher_print.specs.QuerySentences.{IsSmall}
use Rattle.cypher_print.proofs.PrintLemmas.{print-Lit}
use Rattle.cypher_print.proofs.ReadBack.{texts}
use Rattle.cypher_print.proofs.ReadNumbers.{numbers}
use Rattle.cypher_print.proofs.Sentences.{one_token}
use Rattle.cypher_print.proofs.Holds.{Holds, anything, of_map, of_alt, of_integer}
use Rattle.cypher_print.proofs.PiecesRead.{Read, via, mapped, passed_as, left, right}
use Rattle.cypher_print.proofs.WordsRead.{parts_too}
use Rattle.cypher_print.proofs.ExpressionWords.{true_word, false_word, null_word}
use Rattle.cypher_print.proofs.PlacedRead.{Ready}
use Rattle.cypher_print.proofs.InsideRead.{ready_plain}

an_integer : (n : ℕ) → IsSmall n → Read Integer (pos n) (decimal n ∷ [])
an_integer n small = record {
  reads = λ behind h. (let r = numbers n behind small (parts_too behind h) in
      one_token Integer (pos n) (decimal n) behind (r.0, r.1, λ place. (lexeme_of r.0 (decimal n) place, refl, ap (λ j. member (number j) (k.Integer ∷ [])) (r.2 place).0, (r.2 place).1)));
}

abbrev Quoted : Lang (List ℕ)
Quoted = Valued (k.Quote ∷ []) text_of

a_text : (text : List ℕ) → Read Quoted text (quoted 39 text)
a_text text = record {
  reads = λ behind h. (let r = texts text behind in
      one_token Quoted text (written [] (quoted 39 text)) behind (r.0, r.1, λ place. (lexeme_of r.0 (written [] (quoted 39 text)) place, refl, ap (λ j. member (number j) (k.Quote ∷ [])) (r.2 place).0, (r.2 place).1)));
}

-- a literal that has no sign
module _ (n : ℕ) (v : Value) (w : Value-F Value) (ps : Pieces) (is : out-Value v ≡ w) (plain : is_signed w ≡ false) (same : value_level w ≡ ps) (r : Read Literal (tree.Lit v) ps) where
  literal_ready : Ready 10 n (tree.Lit v)
  unfolding Atom
  literal_ready =
      ready_plain 10 10 n (tree.Lit v) ps
      (ap level_at (tree.outs-Lit v) ∙ ap (λ w. cond (is_signed w) 8 10) is ∙ ap (λ b. cond b 8 10) plain)
      (omega arith)
      (print-Lit v ∙ ap value_level is ∙ same)
      (λ m more. via (λ ts u. inr (inr (inr (inr (inl u))))) r)

none_below : (n : ℕ) → nat_lt n 0 ≡ false
none_below n = grind (arith, nat_tests)

not_below : (n : ℕ) → int_lt (pos n) (pos 0) ≡ false
not_below n = none_below n

integer_ready : (n : ℕ) (z : ℤ) → (m : ℕ) × (z ≡ pos m) × IsSmall m → Ready 10 n (tree.Lit (value.Int z))
integer_ready n z h =
    let m = h.0 in
    let P : ℤ → Type 0 = λ z. Ready 10 n (tree.Lit (value.Int z)) in
    subst P (sym h.1) (literal_ready n (value.Int (pos m)) (Value-F.Int (pos m)) (decimal m ∷ []) (value.outs-Int (pos m)) (not_below m) refl (left (mapped (λ z. tree.Lit (value.Int z)) (an_integer m h.2))))

text_ready : (n : ℕ) (text : List ℕ) → Ready 10 n (tree.Lit (value.Text text))
text_ready n text = literal_ready n (value.Text text) (Value-F.Text text) (quoted 39 text) (value.outs-Text text) refl refl (right (left (mapped (λ t. tree.Lit (value.Text t)) (a_text text))))

true_ready : (n : ℕ) → Ready 10 n (tree.Lit (value.Bool true))
true_ready n = literal_ready n (value.Bool true) (Value-F.Bool true) (codes "TRUE" ∷ []) (value.outs-Bool true) refl refl (right (right (left (passed_as (tree.Lit (value.Bool true)) true_word))))

false_ready : (n : ℕ) → Ready 10 n (tree.Lit (value.Bool false))
false_ready n = literal_ready n (value.Bool false) (Value-F.Bool false) (codes "FALSE" ∷ []) (value.outs-Bool false) refl refl (right (right (right (left (passed_as (tree.Lit (value.Bool false)) false_word)))))

null_ready : (n : ℕ) → Ready 10 n (tree.Lit value.Null)
null_ready n = literal_ready n value.Null Value-F.Null (codes "NULL" ∷ []) value.outs-Null refl refl (right (right (right (right (passed_as (tree.Lit value.Null) null_word)))))

pub literals_ready : (n : ℕ) → Holds Literal (Ready 10 n)
literals_ready n =
    of_alt (of_map (λ z. tree.Lit (value.Int z)) (Ready 10 n) (integer_ready n) of_integer)
    (of_alt (of_map (λ t. tree.Lit (value.Text t)) (Ready 10 n) (λ t u. text_ready n t) anything)
    (of_alt (of_map (λ t. tree.Lit (value.Bool true)) (Ready 10 n) (λ t u. true_ready n) anything)
    (of_alt (of_map (λ t. tree.Lit (value.Bool false)) (Ready 10 n) (λ t u. false_ready n) anything)
    (of_map (λ t. tree.Lit value.Null) (Ready 10 n) (λ t u. null_ready n) anything))))
