-- The parser of queries is exact where that of expressions is.
use Rattle.std.proofs.Common.{◌≡◌, inl, inr, ℕ, suc, true, false, List, [], ◌∷◌, ◌++◌, Option, Some, None, refl, sym, ap, ◌∙◌, subst}
use Rattle.std.proofs.lemmas.List.{append_assoc, append-nil}
use Rattle.cypher_syntax.specs.declared.tree.clause.Clause.{Clause}
use Rattle.cypher_syntax.specs.declared.tree.expr.Expr.{Expr}
use Rattle.cypher_syntax.specs.declared.tree.expr.Expr.TheVariants as tree
use Rattle.cypher_syntax.specs.declared.tree.projection.Projection.{Projection}
use Rattle.cypher_syntax.specs.declared.tree.query.Stage.{Stage}
use Rattle.cypher_syntax.specs.declared.tree.query.Time.TheVariants as time
use Rattle.cypher_parse.specs.declared.kind.Kind.{Kind}
use Rattle.cypher_parse.specs.declared.kind.Kind.TheVariants as k
use Rattle.cypher_parse.specs.declared.kinds.TheConstants.{NAMES, READINGS, UPDATES}
use Rattle.cypher_parse.specs.declared.lexeme.Lexeme.{Lexeme}
use Rattle.cypher_parse.specs.Words.{name_of}
use Rattle.cypher_parse.specs.Languages.{Tokens, Lang, is_of, Seq, Map, After, Opt, Many, Chain, Bind}
use Rattle.cypher_parse.specs.Parsers.{Outcome, Done, Fault, Parser, and_then, map_out, bind}
use Rattle.cypher_parse.specs.Clauses.{Reading, Updating}
use Rattle.cypher_parse.specs.Expressions.{Expression, At}
use Rattle.cypher_parse.specs.ExpressionParsers.{expression}
use Rattle.cypher_parse.specs.Projections.{Passed}
use Rattle.cypher_parse.specs.Queries.{Last, stage_of, query_of, Instants, Part, Return, Ending, Whole, QueryAt}
use Rattle.cypher_parse.specs.QueryParsers.{Clauses, Stages, last_from, parted, regrouped, instants, readings, updatings, clauses, stage, stages, return_clause, return_behind, parts, times, whole, query_at}
use Rattle.cypher_parse.proofs.Exact.{Shape, one_shape, seq_shape}
use Rattle.cypher_parse.proofs.Tied.{Tied, Same, tied_same, tied_seq, tied_map, tied_alt, tied_many, tied_within, tied_after, tied_opt, tied_chain, tied_like}
use Rattle.cypher_parse.proofs.Dependent.{tied_bind}
use Rattle.cypher_parse.proofs.Expressions.{or_shape, tied_flag}
use Rattle.cypher_parse.proofs.Levels.{rules}
use Rattle.cypher_parse.proofs.ExactClauses.{tied_reading, tied_updating}
use Rattle.cypher_parse.proofs.ExactProjections.{parts_shape, tied_number, tied_returned, tied_passed}
use Rattle.cypher_parse.proofs.NameAlone.{name_alone, tied_with_item}

-- ---- the reader's parts and ending, and the parser's stages

abbrev pub Both : Lang Expr → Lang Clauses
Both E = Seq (Many (Reading E)) (Many (Updating E))

abbrev pub StageBehind : Lang Expr → Lang (Projection × Clauses)
StageBehind E = Seq (After (k.With ∷ []) (Passed E)) (Both E)

abbrev AllStages : Lang Expr → Lang Stages
AllStages E = Chain (Both E) (StageBehind E)

abbrev ReturnBehind : Lang Expr → List Clause → Lang (Option Projection)
ReturnBehind E [] = Map Some (Return E)
ReturnBehind E (u ∷ us) = Opt None (Map Some (Return E))

abbrev Bound : Lang Expr → Lang (List Stage × Last)
Bound E = Bind (AllStages E) (λ v. Map (regrouped (parted v)) (ReturnBehind E (parted v).1.1))

abbrev Read : Lang Expr → Lang (List Stage × Last)
Read E = Seq (Many (Part E)) (Ending E)

module _ (E : Lang Expr) where
  -- the clauses behind the last WITH, and RETURN
  ends : (f h : Tokens) (rs us : List Clause) (r : Option Projection) → Both E f (rs, us) → ReturnBehind E us h r → Ending E (f ++ h) (rs ++ us, r)
  ends f h rs [] r c x =
      let whole : f ++ h ≡ c.0 ++ h = ap (λ ts. ts ++ h) (c.2 ∙ ap (λ g. c.0 ++ g) c.4 ∙ append-nil c.0) in
      inl ((rs, x.0), (c.0, h, whole, c.3, x.1), ap (λ r. (rs, r)) x.2 ∙ ap (λ cs. (cs, r)) (sym (append-nil rs)))
  ends f h rs (u ∷ us) r c x =
      let whole : f ++ h ≡ c.0 ++ (c.1 ++ h) = ap (λ ts. ts ++ h) c.2 ∙ append_assoc c.0 c.1 h in
      inr ((rs, (u ∷ us, r)), (c.0, c.1 ++ h, whole, c.3, (c.1, h, refl, ((u, us), c.4, refl), x)), refl)

  -- a WITH and what stands before and behind it
  to : (items : List (Projection × Clauses)) (first : Clauses) (f g h : Tokens) (r : Option Projection) → Both E f first → Many (StageBehind E) g items → ReturnBehind E (last_from first items).1 h r
      → Read E (f ++ (g ++ h)) (regrouped (parted (first, items)) r)
  to [] first f g h r c m x = ([], f ++ h, ap (λ g. f ++ (g ++ h)) m, refl, ends f h first.0 first.1 r c x)
  to (i ∷ items) first f g h r c m x =
      let s = m.3 in
      let next = to items i.1 s.1 m.1 h r s.4 m.4 x in
      let whole : f ++ (g ++ h) ≡ ((f ++ s.0) ++ next.0) ++ next.1 =
      ap (λ g. f ++ (g ++ h)) (m.2 ∙ ap (λ a. a ++ m.1) s.2)
      ∙ ap (λ ts. f ++ ts) (ap (λ ts. ts ++ h) (append_assoc s.0 s.1 m.1) ∙ append_assoc s.0 (s.1 ++ m.1) h ∙ ap (λ ts. s.0 ++ ts) (append_assoc s.1 m.1 h ∙ next.2))
      ∙ sym (append_assoc f s.0 (next.0 ++ next.1)) ∙ sym (append_assoc (f ++ s.0) next.0 next.1) in
      ((f ++ s.0) ++ next.0, next.1, whole, (f ++ s.0, next.0, refl, ((first, i.0), (f, s.0, refl, c, s.3), refl), next.3), next.4)

  abbrev Found : Tokens → List Stage × Last → Type 0
  Found ts p = (first : Clauses) × (items : List (Projection × Clauses)) × (f : Tokens) × (g : Tokens) × (h : Tokens) × (r : Option Projection) × (ts ≡ f ++ (g ++ h)) × Both E f first × Many (StageBehind E) g items × ReturnBehind E (last_from first items).1 h r × (regrouped (parted (first, items)) r ≡ p)

  begins : (back : Tokens) (last : Last) → Ending E back last → Found back ([], last)
  begins back last (inl x) =
      let s = x.1 in
      ((x.0.0, []), [], s.0, [], s.1, Some x.0.1, s.2, (s.0, [], sym (append-nil s.0), s.3, refl), refl, (x.0.1, s.4, refl), ap (λ l. ([], l)) (ap (λ cs. (cs, Some x.0.1)) (append-nil x.0.0) ∙ x.2))
  begins back last (inr x) =
      let s = x.1 in
      let t = s.4 in
      let u = t.3 in
      let us = u.0 in
      let many : Many (Updating E) t.0 (us.0 ∷ us.1) = u.1 in
      let made : us.0 ∷ us.1 ≡ x.0.1.0 = u.2 in (
        (x.0.0, us.0 ∷ us.1),
        [],
        s.0 ++ t.0,
        [],
        t.1,
        x.0.1.1,
        s.2 ∙ ap (λ b. s.0 ++ b) t.2 ∙ sym (append_assoc s.0 t.0 t.1),
        (s.0, t.0, refl, s.3, many),
        refl,
        t.4,
        ap (λ l. ([], l)) (ap (λ us. (x.0.0 ++ us, x.0.1.1)) made ∙ x.2),
      )

  of : (parts : List Stage) (front back ts : Tokens) (last : Last) → ts ≡ front ++ back → Many (Part E) front parts → Ending E back last → Found ts (parts, last)
  of [] front back ts last e m x =
      subst (λ ts. Found ts ([], last)) (sym (e ∙ ap (λ f. f ++ back) m)) (begins back last x)
  of (p ∷ parts) front back ts last e m x =
      let a = m.3 in
      let s = a.1 in
      let next = of parts m.1 back (m.1 ++ back) last refl m.4 x in
      let f = next.2 in
      let g = next.3 in
      let h = next.4 in
      let whole : ts ≡ s.0 ++ (((s.1 ++ f) ++ g) ++ h) =
      e ∙ ap (λ f. f ++ back) (m.2 ∙ ap (λ a. a ++ m.1) s.2) ∙ append_assoc (s.0 ++ s.1) m.1 back ∙ ap (λ ts. (s.0 ++ s.1) ++ ts) next.6
      ∙ append_assoc s.0 s.1 (f ++ (g ++ h)) ∙ ap (λ ts. s.0 ++ ts) (sym (append_assoc s.1 f (g ++ h)) ∙ sym (append_assoc (s.1 ++ f) g h)) in (
        a.0.0,
        (a.0.1, next.0) ∷ next.1,
        s.0,
        (s.1 ++ f) ++ g,
        h,
        next.5,
        whole,
        s.3,
        (s.1 ++ f, g, refl, (s.1, f, refl, s.4, next.7), next.8),
        next.9,
        ap (λ q. (stage_of a.0 ∷ q.0, q.1)) next.10 ∙ ap (λ stage. (stage ∷ parts, last)) a.2,
      )

  bound : Same (Bound E) (Read E)
  bound = record {
    to = λ ts p x. (let v = x.0 in let s = x.4 in
        subst (λ p. Read E ts p) x.5.2
        (subst (λ ts. Read E ts (regrouped (parted v) x.5.0)) (sym (x.3 ∙ ap (λ f. f ++ x.2) s.2 ∙ append_assoc s.0 s.1 x.2)) (to v.1 v.0 s.0 s.1 x.2 x.5.0 s.3 s.4 x.5.1)));
    of = λ ts p x. (let y = of p.0 x.0 x.1 ts p.1 x.2 x.3 x.4 in
        ((y.0, y.1), y.2 ++ y.3, y.4, y.6 ∙ sym (append_assoc y.2 y.3 y.4), (y.2, y.3, refl, y.7, y.8), (y.5, y.9, y.10)));
  }

-- ---- the rules

tied_instants : Tied true Instants Instants instants instants (one_shape (k.Tt ∷ []))
unfolding instants
tied_instants = tied_within (one_shape (k.Tt ∷ []))
    (tied_after k.Tt [] (tied_alt (k.Snapshot ∷ []) (tied_map time.Snapshot (tied_after k.Snapshot [] tied_number)) (tied_map (λ p. time.Between p.0 p.1) (tied_after k.Between [] (tied_seq tied_number (tied_after k.And [] tied_number) refl))) refl refl refl))
    refl refl refl

abbrev pub behind_clauses : List Kind
behind_clauses = READINGS ++ UPDATES ++ k.Where ∷ k.Comma ∷ k.Less ∷ k.Minus ∷ k.Colon ∷ parts_shape.more

abbrev both_shape : Shape
both_shape = record { first = READINGS ++ UPDATES; empty = true; more = behind_clauses }

abbrev stages_shape : Shape
stages_shape = record { first = k.With ∷ READINGS ++ UPDATES; empty = true; more = k.With ∷ behind_clauses }

abbrev return_shape : Shape
return_shape = record { first = k.Return ∷ []; empty = true; more = k.Return ∷ parts_shape.more }

abbrev pub whole_shape : Shape
whole_shape = record { first = k.With ∷ k.Return ∷ k.Tt ∷ k.Semicolon ∷ READINGS ++ UPDATES; empty = true; more = k.With ∷ k.Return ∷ k.Tt ∷ k.Semicolon ∷ behind_clauses }

-- what is made of a value, before or after it picks a parser
bind_map : {A B D : Type 0} (f : A → B) (q : B → Parser D) (o : Outcome A) → and_then o (λ a rest. q (f a) rest) ≡ and_then (and_then o (λ a rest. Done (f a) rest)) q
bind_map f q (Done a rest) = refl
bind_map f q (Fault k rest) = refl

parts_are : (e : Parser Expr) (ts : Tokens) → bind (stages e) (λ v. map_out (regrouped (parted v)) (return_behind e (parted v).1.1)) ts ≡ parts e ts
unfolding parts
parts_are e ts = bind_map parted (λ p. map_out (regrouped p) (return_behind e p.1.1)) (stages e ts)

module _ (E E' : Lang Expr) (e e' : Parser Expr) (TE : Tied true E E' e e' or_shape) (named : (t : Lexeme) (n : List ℕ) → name_of t ≡ Some n → is_of NAMES t ≡ true → E (t ∷ []) (tree.Var n)) (named' : (t : Lexeme) (n : List ℕ) → name_of t ≡ Some n → is_of NAMES t ≡ true → E' (t ∷ []) (tree.Var n)) where
  tied_both : Tied true (Both E) (Both E') (clauses e) (clauses e') both_shape
  unfolding clauses readings updatings
  tied_both = tied_within both_shape
      (tied_seq (tied_many READINGS (tied_reading E E' e e' TE) refl refl refl) (tied_many UPDATES (tied_updating E E' e e' TE) refl refl refl) refl)
      refl refl refl

  pub tied_stage : Tied true (StageBehind E) (StageBehind E') (stage e) (stage e') (record { first = k.With ∷ []; empty = false; more = behind_clauses })
  unfolding stage
  tied_stage = tied_within (record { first = k.With ∷ []; empty = false; more = behind_clauses })
      (tied_seq (tied_after k.With [] (tied_passed E E' e e' TE (tied_with_item E E' e e' TE named named'))) tied_both refl)
      refl refl refl

  tied_stages : Tied true (AllStages E) (AllStages E') (stages e) (stages e') stages_shape
  unfolding stages
  tied_stages = tied_within stages_shape (tied_chain (k.With ∷ []) tied_both tied_stage refl refl refl refl) refl refl refl

  tied_return : Tied true (Return E) (Return E') (return_clause e) (return_clause e') (record { first = k.Return ∷ []; empty = false; more = parts_shape.more })
  unfolding return_clause
  tied_return = tied_within (record { first = k.Return ∷ []; empty = false; more = parts_shape.more }) (tied_after k.Return [] (tied_returned E E' e e' TE)) refl refl refl

  tied_return_behind : (us : List Clause) → Tied true (ReturnBehind E us) (ReturnBehind E' us) (return_behind e us) (return_behind e' us) return_shape
  tied_return_behind [] = tied_within return_shape (tied_map Some tied_return) refl refl refl
  tied_return_behind (u ∷ us) = tied_within return_shape (tied_opt (k.Return ∷ []) None (tied_map Some tied_return) refl refl) refl refl refl

  tied_parts : Tied true (Read E) (Read E') (parts e) (parts e') (seq_shape stages_shape return_shape)
  unfolding parts
  tied_parts = tied_like (parts_are e) (parts_are e')
      (tied_same (bound E) (bound E') (tied_bind tied_stages (λ v. tied_map (regrouped (parted v)) (tied_return_behind (parted v).1.1)) refl))

  pub tied_whole : Tied true (Whole E) (Whole E') (whole e) (whole e') whole_shape
  unfolding Whole whole times
  tied_whole = tied_within whole_shape
      (tied_map query_of (tied_seq tied_parts (tied_seq (tied_opt (k.Tt ∷ []) time.None tied_instants refl refl) (tied_flag k.Semicolon refl) refl) refl))
      refl refl refl

-- a query at a number of levels and at one more
pub tied_query : (n : ℕ) → Tied true (QueryAt n) (QueryAt (suc n)) (query_at n) (query_at (suc n)) whole_shape
tied_query n =
    tied_whole (Expression n) (Expression (suc n)) (expression n) (expression (suc n)) (rules n).or
    (λ t name has is. name_alone (At n) t name has is) (λ t name has is. name_alone (At (suc n)) t name has is)
