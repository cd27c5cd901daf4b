-- Printed clauses that read are read as these clauses.
use Rattle.std.proofs.Common.{◌≡◌, inl, inr, ℕ, Bool, true, false, List, [], codes, Option, Some, None, refl}
use Rattle.cypher_syntax.specs.declared.tree.clause.Clause.{Clause}
use Rattle.cypher_syntax.specs.declared.tree.clause.Clause.TheVariants as clause
use Rattle.cypher_syntax.specs.declared.tree.clause.MatchClause.{MatchClause}
use Rattle.cypher_syntax.specs.declared.tree.clause.Unwind.{Unwind}
use Rattle.cypher_syntax.specs.declared.tree.expr.Expr.{Expr}
use Rattle.cypher_parse.specs.declared.kind.Kind.TheVariants as k
use Rattle.cypher_parse.specs.Languages.{Lang}
use Rattle.cypher_parse.specs.Expressions.{Flag}
use Rattle.cypher_parse.specs.Clauses.{Where, Match, Unwind as UnwindClause, Reading}
use Rattle.cypher_print.specs.Pieces.{written, name}
use Rattle.cypher_print.specs.Printed.{option}
use Rattle.cypher_print.specs.QueryText.{pattern, optional_word, match_text, unwind_text, clause_text}
use Rattle.cypher_print.specs.ReadBack.{parts_name}
use Rattle.cypher_print.specs.Sentences.{IsSentence, IsPattern, IsFilter, IsMatch, IsUnwind, IsReading}
use Rattle.cypher_print.proofs.Sentences.{no_token}
use Rattle.cypher_print.proofs.PiecesRead.{Read, Sure, begins, seq, seq_sure, after_sure, via, via_sure, left, none}
use Rattle.cypher_print.proofs.WordsRead.{match_word, unwind_word, where_word, optional_token, as_word}
use Rattle.cypher_print.proofs.PartsRead.{a_name, commas, an_expr, apart_option}
use Rattle.cypher_print.proofs.EdgesRead.{pattern_read}

optional : (b : Bool) → Sure (Flag k.Optional) b (optional_word b)
optional true = via_sure (λ ts u. inl (u.0, (u.1, u.2), refl)) optional_token.token
optional false = record { reads = λ behind. no_token (Flag k.Optional) false behind (inr (refl, refl)) }

module _ (E : Lang Expr) where
  pub where_read : (o : Option Expr) → IsFilter E o → Read (Where E) o (option (codes " WHERE ") o)
  unfolding Where
  where_read None is = none
  where_read (Some x) is = left (via (λ ts u. (x, u, refl)) (after_sure where_word (an_expr E x is)))

  match_read : (m : MatchClause) → IsMatch E m → Read (Match E) (clause.Match m) (match_text m)
  unfolding Match
  match_read m is =
      let patterns = commas pattern (IsPattern E) (λ p h. record { reads = λ behind _. pattern_read E p behind h }) m.patterns is.0 in
      via (λ ts u. ((m.optional, (m.patterns, m.filter)), u, refl))
      (seq_sure (optional m.optional) (after_sure match_word (seq patterns (where_read m.filter is.1) (apart_option (codes "WHERE ") m.filter))))

  unwind_read : (u : Unwind) → IsUnwind E u → Read (UnwindClause E) (clause.Unwind u) (unwind_text u)
  unfolding UnwindClause
  unwind_read u is =
      via (λ ts v. ((u.list, u.name), v, refl))
      (after_sure unwind_word (seq (an_expr E u.list is.0) (after_sure as_word (a_name u.name is.1)) (begins 32 (codes "AS ") (name u.name) refl)))

  pub clause_read : (c : Clause) → IsReading E c → Read (Reading E) c (clause_text c)
  clause_read (clause.Match m) is = via (λ ts u. inr u) (match_read m is)
  clause_read (clause.Unwind u) is = via (λ ts v. inl v) (unwind_read u is)
  clause_read (clause.Update u) is = absurd is

  pub reading : (c : Clause) (behind : List ℕ) → IsReading E c → parts_name behind ≡ true → IsSentence (Reading E) c (written [] (clause_text c)) behind
  reading c behind is parts = (clause_read c is).reads behind parts
