-- A text's query is the query of its printed form.
use Rattle.std.proofs.Common.{◌≡◌, ℕ, List, [], ◌++◌, map, None, refl, sym, ap, subst, ◌∙◌, append-nil}
use Rattle.cypher_syntax.specs.declared.tree.expr.Expr.{Expr}
use Rattle.cypher_syntax.specs.declared.tree.query.Query.{Query}
use Rattle.cypher_syntax.specs.Lexing.{lexed, lexed_from}
use Rattle.cypher_parse.specs.Languages.{Lang, Tokens}
use Rattle.cypher_parse.specs.Queries.{QueryAt}
use Rattle.cypher_parse.specs.Expressions.{Expression}
use Rattle.cypher_parse.specs.Texts.{lexeme, lexemes_in, lexemes}
use Rattle.cypher_print.specs.Pieces.{written}
use Rattle.cypher_print.specs.Printed.{expr}
use Rattle.cypher_print.specs.QueryText.{query_text}
use Rattle.cypher_print.specs.Sentences.{IsSentence}
use Rattle.cypher_print.proofs.RealTokens.{real_lexemes}
use Rattle.cypher_print.proofs.QueriesRead.{query_read}
use Rattle.cypher_print.proofs.QueriesHold.{whole}
use Rattle.cypher_print.proofs.ExpressionsRead.{expressions}

-- a sentence that is the whole text
all_of_text : {A : Type 0} (L : Lang A) (a : A) (text : List ℕ) → IsSentence L a text [] → L (lexemes text) a
unfolding lexemes lexed_from
all_of_text L a text h =
    let x = h [] in
    let nothing : text ++ [] ≡ text = append-nil text in
    let P : List ℕ → Type 0 = λ w. L (map (lexeme w) x.0) a in
    let tokens : lexed text ≡ record { tokens = x.0 ++ []; fault = None } = ap (lexed_from 0 0) (sym nothing) ∙ x.1 in
    let these : map (lexeme text) x.0 ≡ lexemes text =
    sym (ap (lexemes_in text) (tokens ∙ ap (λ ts. record { tokens = ts; fault = None }) (append-nil x.0)) ∙ append-nil (map (lexeme text) x.0)) in
    let Q : Tokens → Type 0 = λ ts. L ts a in
    subst Q these (subst P nothing x.2)

pub printed_expression : (n : ℕ) (text : List ℕ) (x : Expr) → Expression n (lexemes text) x → Expression n (lexemes (written [] (expr x 0))) x
printed_expression n text x is = all_of_text (Expression n) x (written [] (expr x 0)) ((expressions n).holds (lexemes text) x (real_lexemes text) is [] refl)

pub printed : (n : ℕ) (text : List ℕ) (q : Query) → QueryAt n (lexemes text) q → QueryAt n (lexemes (query_text q)) q
printed n text q is =
    all_of_text (QueryAt n) q (query_text q) ((query_read (Expression n) q ((whole (Expression n) (expressions n)).holds (lexemes text) q (real_lexemes text) is)).reads [] refl)
