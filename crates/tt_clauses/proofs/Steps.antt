-- Steps of the loops over instants and over tuples.
use Rattle.std.proofs.Common.{◌≡◌, ℕ, ◌+◌, ◌-◌, ◌<◌, List, [], ◌∷◌, ◌++◌, true, false, cond, Option, None, Result, Ok, Err, sym, ap, subst, ◌∙◌, map}
use Rattle.std.proofs.lemmas.List.{append_assoc}
use Rattle.graph_record.specs.Graph.{Graph}
use Rattle.cypher_syntax.specs.declared.tree.expr.Expr.{Expr}
use Rattle.cypher_syntax.specs.declared.tree.projection.Item.{Item}
use Rattle.expr_eval.specs.declared.refused.EvalRefused.{EvalRefused}
use Rattle.expr_eval.specs.Outcome.{Answers, Outcome, and_then}
use Rattle.graph_record.specs.Edits.{has}
use Rattle.pattern_match.specs.declared.steps.Plan.{Plan}
use Rattle.pattern_match.specs.Kept.{columns}
use Rattle.tt_clauses.specs.Found.{Piece, all_pieces_on, given_at, piece_at, pieces_on}
use Rattle.tt_clauses.specs.Instants.{instants_from}
use Rattle.tt_clauses.specs.Seen.{Tuples, seen_at}
use Rattle.tt_clauses.specs.Tuples.{Tuple, matches, tuple_cmp}
use Rattle.tt_clauses.specs.Values.{Values, values_kept}
use Rattle.tt_clauses.proofs.Outcomes.{IsMade, answers_same, answers_stop, made_first, none_made}
use Rattle.tt_clauses.proofs.Sets.{has-seen_at}
use Rattle.tt_clauses.proofs.Times.{instants_step}

-- one more instant is seen
pub seen_step : (f : ℕ → ℕ × Tuples) (whole seen : List (ℕ × Tuples)) (t end : ℕ) (x : ℕ × Tuples) → t < end → x ≡ f t →
    whole ≡ seen ++ map f (instants_from t (end - t)) → whole ≡ (seen ++ x ∷ []) ++ map f (instants_from (t + 1) (end - (t + 1)))
seen_step f whole seen t end x below is h =
    h
    ∙ ap (λ ts. seen ++ map f ts) (instants_step t end below)
    ∙ ap (λ y. seen ++ (y ∷ map f (instants_from (t + 1) (end - (t + 1))))) (sym is)
    ∙ sym (append_assoc seen (x ∷ []) (map f (instants_from (t + 1) (end - (t + 1)))))

module _ (graphs : ℕ → Graph) (plan : Plan) (filter : Option Expr) (items : List Item) (b : Tuple) (x : ℕ × Tuples) (is : x ≡ seen_at graphs plan x.0) where
  -- the set of an instant tells whether the tuple matches at it
  told_by_set : has tuple_cmp b x.1.keys ≡ matches (graphs x.0) plan b
  told_by_set = ap (λ (p : ℕ × Tuples). has tuple_cmp b p.1.keys) is ∙ has-seen_at graphs plan b x.0

  abbrev its_values : Outcome (Option Values)
  its_values = values_kept (graphs x.0) filter items (columns plan.gives b)

  pub given_yes : (r : Result (Option Values) EvalRefused) → has tuple_cmp b x.1.keys ≡ true → Answers its_values r → Answers (given_at graphs plan filter items b x.0) r
  given_yes r it h = answers_same (given_at graphs plan filter items b x.0) its_values r (ap (λ m. cond m its_values (Ok None)) (sym told_by_set ∙ it)) h

  pub given_no : has tuple_cmp b x.1.keys ≡ false → Answers (given_at graphs plan filter items b x.0) (Ok None)
  given_no not_there = ap (λ m. cond m its_values (Ok None)) (sym told_by_set ∙ not_there)

module _ (graphs : ℕ → Graph) (plan : Plan) (filter : Option Expr) (items : List Item) (b : Tuple) where
  abbrev pub OnWay : Outcome (List Piece) → List Piece → List (ℕ × Tuples) → Type 0
  OnWay whole pieces seen = (left : List ℕ) × (seen ≡ map (seen_at graphs plan) left) × (whole ≡ pieces_on graphs plan filter items b pieces left)

  -- what is left begins with this instant
  at_first : (x : ℕ × Tuples) (seen : List (ℕ × Tuples)) (left : List ℕ) → x ∷ seen ≡ map (seen_at graphs plan) left → IsMade (seen_at graphs plan) left x seen
  at_first x seen left h = made_first (seen_at graphs plan) left x seen h

  its_time : (x : ℕ × Tuples) (t : ℕ) → x ≡ seen_at graphs plan t → x ≡ seen_at graphs plan x.0
  its_time x t e = e ∙ ap (seen_at graphs plan) (sym (ap (λ p. p.0) e))

  pub piece_stops : (whole : Outcome (List Piece)) (pieces : List Piece) (x : ℕ × Tuples) (seen : List (ℕ × Tuples)) (e : EvalRefused) → OnWay whole pieces (x ∷ seen) →
      (x ≡ seen_at graphs plan x.0 → Answers (given_at graphs plan filter items b x.0) (Err e)) → Answers whole (Err e)
  piece_stops whole pieces x seen e w h =
      let m = at_first x seen w.0 w.1 in
      let same : x.0 ≡ m.head = ap (λ p. p.0) m.first in
      answers_same whole (and_then (given_at graphs plan filter items b m.head) (λ values. pieces_on graphs plan filter items b (pieces ++ piece_at m.head values) m.tail)) (Err e)
      (w.2 ∙ ap (pieces_on graphs plan filter items b pieces) m.parts)
      (answers_stop (given_at graphs plan filter items b m.head) (λ values. pieces_on graphs plan filter items b (pieces ++ piece_at m.head values) m.tail) e
      (subst (λ t. Answers (given_at graphs plan filter items b t) (Err e)) same (h (its_time x m.head m.first))))

  pub piece_goes : (whole : Outcome (List Piece)) (pieces more : List Piece) (x : ℕ × Tuples) (seen : List (ℕ × Tuples)) (values : Option Values) → OnWay whole pieces (x ∷ seen) →
      (x ≡ seen_at graphs plan x.0 → Answers (given_at graphs plan filter items b x.0) (Ok values)) → more ≡ pieces ++ piece_at x.0 values → OnWay whole more seen
  piece_goes whole pieces more x seen values w h is =
      let m = at_first x seen w.0 w.1 in
      let same : x.0 ≡ m.head = ap (λ p. p.0) m.first in
      let given = subst (λ t. Answers (given_at graphs plan filter items b t) (Ok values)) same (h (its_time x m.head m.first)) in (
        m.tail,
        m.rest,
        w.2
            ∙ ap (pieces_on graphs plan filter items b pieces) m.parts
            ∙ ap (λ o. and_then o (λ values. pieces_on graphs plan filter items b (pieces ++ piece_at m.head values) m.tail)) given
            ∙ ap (λ t. pieces_on graphs plan filter items b (pieces ++ piece_at t values) m.tail) (sym same)
            ∙ ap (λ ps. pieces_on graphs plan filter items b ps m.tail) (sym is),
      )

  -- no instant is left
  pub pieces_end : (whole : Outcome (List Piece)) (pieces : List Piece) (seen : List (ℕ × Tuples)) → OnWay whole pieces seen → seen ≡ [] → whole ≡ Ok pieces
  pieces_end whole pieces seen w e =
      w.2 ∙ ap (pieces_on graphs plan filter items b pieces) (none_made (seen_at graphs plan) w.0 (sym e ∙ w.1))

module _ (graphs : ℕ → Graph) (plan : Plan) (filter : Option Expr) (items : List Item) (times : List ℕ) where
  abbrev left_by : List (List Piece) → List Tuple → List Piece → Outcome (List (List Piece))
  left_by done bs pieces = all_pieces_on graphs plan filter items times (done ++ pieces ∷ []) bs

  -- the pieces of one more tuple
  pub tuple_goes : (whole : Outcome (List (List Piece))) (done : List (List Piece)) (b : Tuple) (bs : List Tuple) (pieces : List Piece) →
      whole ≡ all_pieces_on graphs plan filter items times done (b ∷ bs) → pieces_on graphs plan filter items b [] times ≡ Ok pieces →
      whole ≡ all_pieces_on graphs plan filter items times (done ++ pieces ∷ []) bs
  tuple_goes whole done b bs pieces h e = h ∙ ap (λ o. and_then o (left_by done bs)) e

  pub tuple_stops : (whole : Outcome (List (List Piece))) (done : List (List Piece)) (b : Tuple) (bs : List Tuple) (e : EvalRefused) →
      whole ≡ all_pieces_on graphs plan filter items times done (b ∷ bs) → Answers (pieces_on graphs plan filter items b [] times) (Err e) → Answers whole (Err e)
  tuple_stops whole done b bs e h a =
      answers_same whole (and_then (pieces_on graphs plan filter items b [] times) (left_by done bs)) (Err e) h
      (answers_stop (pieces_on graphs plan filter items b [] times) (left_by done bs) e a)

  pub no_tuple_left : (whole : Outcome (List (List Piece))) (done : List (List Piece)) (bs : List Tuple) →
      whole ≡ all_pieces_on graphs plan filter items times done bs → bs ≡ [] → whole ≡ Ok done
  no_tuple_left whole done bs h e = h ∙ ap (all_pieces_on graphs plan filter items times done) e
