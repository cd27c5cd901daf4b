-- A printed query is read as that query.
use Rattle.std.proofs.Common.{◌≡◌, inl, inr, true, List, [], ◌∷◌, ◌++◌, codes, Option, Some, None, refl, sym, ap, subst, ◌∙◌, append_assoc, append-nil, arith}
use Rattle.std.specs.List.{flat_map}
use Rattle.std.specs.Fmt.{decimal}
use Rattle.cypher_syntax.specs.declared.tree.expr.Expr.{Expr}
use Rattle.cypher_syntax.specs.declared.tree.clause.Clause.{Clause}
use Rattle.cypher_syntax.specs.declared.tree.clause.Clause.TheVariants as clause
use Rattle.cypher_syntax.specs.declared.tree.projection.Projection.{Projection}
use Rattle.cypher_syntax.specs.declared.tree.query.Query.{Query}
use Rattle.cypher_syntax.specs.declared.tree.query.Stage.{Stage}
use Rattle.cypher_syntax.specs.declared.tree.query.Time.{Time}
use Rattle.cypher_syntax.specs.declared.tree.query.Time.TheVariants as time
use Rattle.cypher_parse.specs.declared.kind.Kind.TheVariants as k
use Rattle.cypher_parse.specs.Languages.{Lang, Map, Opt, Many, Some1}
use Rattle.cypher_parse.specs.Expressions.{Flag}
use Rattle.cypher_parse.specs.Clauses.{Reading, Updating}
use Rattle.cypher_parse.specs.Queries.{Instants, Part, Return, Ending, Whole}
use Rattle.cypher_print.specs.Pieces.{Pieces, written}
use Rattle.cypher_print.specs.QueryText.{clause_text, clauses_text, projection, stage_text, returns_text, time_text, query_pieces}
use Rattle.cypher_print.specs.Sentences.{IsSentence, All, IsReading}
use Rattle.cypher_print.specs.QuerySentences.{IsUpdating, IsStage, IsEnd, IsEnding, IsTime, IsWholeQuery}
use Rattle.cypher_print.proofs.Parts.{written-both}
use Rattle.cypher_print.proofs.PiecesRead.{Read, Sure, begins, seq, seq_sure, seq_all, after_sure, after_all, via, via_sure, rewritten, rewritten_sure, many_sure, none_sure}
use Rattle.cypher_print.proofs.WordsRead.{trailing, with_word, return_word, tt_word, snapshot, between_word, and_word, semicolon}
use Rattle.cypher_print.proofs.ReadingsRead.{clause_read}
use Rattle.cypher_print.proofs.UpdatesRead.{updating}
use Rattle.cypher_print.proofs.ProjectionsRead.{a_number, returned, passed}

-- with a space behind it
spaced_behind : {A : Type 0} {L : Lang A} {a : A} {p : Pieces} → Read L a p → Sure L a (p ++ codes " " ∷ [])
spaced_behind {L = L} {a = a} {p = p} x = record { reads = λ behind. subst (λ bytes. IsSentence L a bytes behind) (sym (written-both p (codes " " ∷ []))) (trailing L a (written [] p) behind (x.reads (32 ∷ behind) refl)) }

split_text : (cs ds : List Clause) → clauses_text (cs ++ ds) ≡ clauses_text cs ++ clauses_text ds
split_text [] ds = refl
split_text (c ∷ cs) ds = ap (λ ys. (clause_text c ++ codes " " ∷ []) ++ ys) (split_text cs ds) ∙ sym (append_assoc (clause_text c ++ codes " " ∷ []) (clauses_text cs) (clauses_text ds))

-- ---- the time

time_read : (t : Time) → IsTime t → Sure (Opt time.None Instants) t (time_text t)
time_read time.None is = none_sure
time_read (time.Snapshot t) is = via_sure (λ ts u. inl u) (after_all tt_word (via_sure (λ ts u. inl (t, u, refl)) (after_all snapshot (spaced_behind (a_number t is)))))
time_read (time.Between t u) is =
    via_sure (λ ts u. inl u) (after_all tt_word (via_sure (λ ts v. inr ((t, u), v, refl)) (after_all between_word
    (spaced_behind (seq (a_number t is.0) (after_sure and_word (a_number u is.1)) (begins 32 (codes "AND ") (decimal u ∷ []) refl))))))

module _ (E : Lang Expr) where
  -- ---- clauses

  reading_clauses : (cs : List Clause) → All (IsReading E) cs → Sure (Many (Reading E)) cs (clauses_text cs)
  reading_clauses cs are = many_sure (λ c. clause_text c ++ codes " " ∷ []) (IsReading E) (λ c is. spaced_behind (clause_read E c is)) cs are

  update_read : (c : Clause) → IsUpdating E c → Sure (Updating E) c (clause_text c ++ codes " " ∷ [])
  update_read (clause.Match m) is = absurd is
  update_read (clause.Unwind u) is = absurd is
  update_read (clause.Update u) is = spaced_behind (updating E u is)

  updating_clauses : (cs : List Clause) → All (IsUpdating E) cs → Sure (Many (Updating E)) cs (clauses_text cs)
  updating_clauses cs are = many_sure (λ c. clause_text c ++ codes " " ∷ []) (IsUpdating E) update_read cs are

  -- ---- parts

  part : (s : Stage) → IsStage E s → Sure (Part E) s (stage_text s)
  part s is =
      let rs = is.0 in
      let us = is.1 in
      let cs = is.2 in
      let p = s.next in
      let same : (clauses_text rs ++ clauses_text us) ++ codes "WITH " ∷ (projection p ++ codes " " ∷ []) ≡ stage_text s =
      ap (λ ys. ys ++ codes "WITH " ∷ (projection p ++ codes " " ∷ [])) (sym (ap clauses_text cs.0 ∙ split_text rs us)) in
      let x = seq_all (seq_all (reading_clauses rs cs.1) (updating_clauses us cs.2)) (spaced_behind (after_sure with_word (passed E p is.3))) in
      let S : List Clause → Stage = λ cs. record { clauses = cs; next = p } in
      rewritten_sure same (via_sure (λ ts u. (((rs, us), p), u, ap S (sym cs.0))) x)

  return_read : (p : Projection) → IsEnd E [] (Some p) → Sure (Return E) p (returns_text (Some p))
  return_read p is = spaced_behind (after_sure return_word (returned E p is))

  ends : (rs us : List Clause) (o : Option Projection) → All (IsReading E) rs → All (IsUpdating E) us → IsEnd E us o → Sure (Ending E) (rs ++ us, o) ((clauses_text rs ++ clauses_text us) ++ returns_text o)
  ends rs [] None reads writes is = absurd (omega (arith, is))
  ends rs [] (Some p) reads writes is =
      let x = seq_all (reading_clauses rs reads) (return_read p is) in
      let same : clauses_text rs ++ returns_text (Some p) ≡ (clauses_text rs ++ []) ++ returns_text (Some p) = ap (λ ys. ys ++ returns_text (Some p)) (sym (append-nil (clauses_text rs))) in
      rewritten_sure same (via_sure (λ ts u. inl ((rs, p), u, ap (λ cs. (cs, Some p)) (sym (append-nil rs)))) x)
  ends rs (w ∷ us) o reads writes is =
      let x = seq_all (reading_clauses rs reads) (seq_all some (returns o is)) in
      let same : clauses_text rs ++ (clauses_text (w ∷ us) ++ returns_text o) ≡ (clauses_text rs ++ clauses_text (w ∷ us)) ++ returns_text o = sym (append_assoc (clauses_text rs) (clauses_text (w ∷ us)) (returns_text o)) in
      rewritten_sure same (via_sure (λ ts u. inr ((rs, (w ∷ us, o)), u, refl)) x)
    where
      some : Sure (Some1 (Updating E)) (w ∷ us) (clauses_text (w ∷ us))
      some = via_sure (λ ts u. ((w, us), u, refl)) (seq_all (update_read w writes.0) (updating_clauses us writes.1))

      returns : (o : Option Projection) → IsEnd E (w ∷ us) o → Sure (Opt None (Map Some (Return E))) o (returns_text o)
      returns None is = none_sure
      returns (Some p) is = via_sure (λ ts u. inl (p, u, refl)) (return_read p is)

  ending : (cs : List Clause) (o : Option Projection) → IsEnding E cs o → Sure (Ending E) (cs, o) (clauses_text cs ++ returns_text o)
  ending cs o is =
      let rs = is.0 in
      let us = is.1 in
      let e = is.2.0 in
      let P : List Clause → Type 0 = λ cs. Sure (Ending E) (cs, o) (clauses_text cs ++ returns_text o) in
      subst P (sym e) (rewritten_sure (ap (λ ys. ys ++ returns_text o) (sym (split_text rs us))) (ends rs us o is.2.1 is.2.2 is.3))

  -- ---- the whole

  pub query_read : (q : Query) → IsWholeQuery E q → Read (Whole E) q (query_pieces q)
  unfolding Whole
  query_read q is =
      let S = flat_map stage_text q.stages in
      let C = clauses_text q.clauses in
      let R = returns_text q.returns in
      let T = time_text q.time in
      let front = seq_all (many_sure stage_text (IsStage E) part q.stages is.0) (ending q.clauses q.returns is.1) in
      let stop : Read (Flag k.Semicolon) true (codes ";" ∷ []) = via (λ ts u. inl (u.0, (u.1, u.2), refl)) semicolon.word in
      let back = seq_sure (time_read q.time is.2) stop in
      let same : (S ++ (C ++ R)) ++ (T ++ codes ";" ∷ []) ≡ query_pieces q =
      sym (append_assoc ((S ++ C) ++ R) T (codes ";" ∷ []) ∙ ap (λ ys. ys ++ (T ++ codes ";" ∷ [])) (append_assoc S C R)) in
      rewritten (ap (written []) same) (via (λ ts u. (((q.stages, (q.clauses, q.returns)), (q.time, true)), u, refl)) (seq_sure front back))
