-- From what the loops have come to, to what is answered.
use Rattle.std.proofs.Common.{◌≡◌, ℕ, List, Option, Ok, Err, refl, sym, ap, subst, ◌∙◌, map}
use Rattle.std.specs.List.Sorted.{IsStrictlySortedBy}
use Rattle.graph_record.specs.Edits.{has}
use Rattle.graph_record.specs.Graph.{Graph}
use Rattle.cypher_syntax.specs.declared.tree.expr.Expr.{Expr}
use Rattle.cypher_syntax.specs.declared.tree.projection.Item.{Item}
use Rattle.expr_eval.specs.declared.refused.EvalRefused.{EvalRefused}
use Rattle.expr_eval.specs.declared.refused.EvalRefused.TheVariants.{TypeFault, Overflow, ZeroDivisor, TooLarge, RowLimit, Gone, NoMemory}
use Rattle.expr_eval.specs.Outcome.{Answers, Outcome}
use Rattle.pattern_match.specs.declared.steps.Plan.{Plan}
use Rattle.query_run.specs.Parts.{stopped}
use Rattle.tt_clauses.specs.Between.{Asked, Gives, IsMeant, IsMeantBy, Joins, Means, Unless}
use Rattle.tt_clauses.specs.Found.{all_pieces}
use Rattle.tt_clauses.specs.Rows.{Rows, limited}
use Rattle.tt_clauses.specs.Seen.{Comes, Tuples, all_seen, seen_at}
use Rattle.tt_clauses.specs.Tuples.{AreTuples, Tuple, tuple_cmp}
use Rattle.tt_clauses.proofs.Sets.{has-all_seen}

pub says : (P : Outcome Rows → Type 0) (r : Outcome Rows) → P r → Unless P r
says P (Ok rows) h = h
says P (Err TypeFault) h = h
says P (Err Overflow) h = h
says P (Err ZeroDivisor) h = h
says P (Err TooLarge) h = h
says P (Err RowLimit) h = h
says P (Err (Gone x)) h = h
says P (Err NoMemory) h = tt

-- a refusal is that of something else, unless memory was wanting
pub refuses : {A : Type 0} (P : Outcome Rows → Type 0) (o : Outcome A) (e : EvalRefused) → Answers o (Err e) → (o ≡ Err e → P (Err e)) → Unless P (Err e)
refuses P o TypeFault h on = on h
refuses P o Overflow h on = on h
refuses P o ZeroDivisor h on = on h
refuses P o TooLarge h on = on h
refuses P o RowLimit h on = on h
refuses P o (Gone x) h on = on h
refuses P o NoMemory h on = tt

module _ (graphs : ℕ → Graph) (plan : Plan) (filter : Option Expr) (items : List Item) (times : List ℕ) where
  pub tuples_are : (seen : List (ℕ × Tuples)) (tuples : List Tuple) → seen ≡ map (seen_at graphs plan) times → tuples ≡ (all_seen seen).keys → IsStrictlySortedBy tuple_cmp tuples → AreTuples graphs plan times tuples
  tuples_are seen tuples is keys ascending = record {
    ascending = ascending;
    all = λ b. ap (has tuple_cmp b) keys ∙ ap (λ s. has tuple_cmp b (all_seen s).keys) is ∙ has-all_seen graphs plan b times;
  }

  pub joins_rows : (tuples : List Tuple) (rows : Rows) → AreTuples graphs plan times tuples → Comes (all_pieces graphs plan filter items times tuples) (Ok rows) → Joins graphs plan filter items times (limited rows)
  joins_rows tuples rows they come = record {
    tuples = tuples;
    they = they;
    told = subst (λ found. Gives found (limited rows)) (sym come.1) (record { rows = rows; they = come.2; told = refl });
  }

  pub joins_refused : (tuples : List Tuple) (e : EvalRefused) → AreTuples graphs plan times tuples → Comes (all_pieces graphs plan filter items times tuples) (Err e) → Unless (Joins graphs plan filter items times) (Err e)
  joins_refused tuples e they come = refuses (Joins graphs plan filter items times) (all_pieces graphs plan filter items times tuples) e come
      (λ is. record { tuples = tuples; they = they; told = subst (λ found. Gives found (Err e)) (sym is) refl })

-- the maps have come to a plan, or are refused
pub meant : (graphs : ℕ → Graph) (asked : Asked) (o : Outcome Plan) (r : Outcome Rows) (plan : Plan) → o ≡ Ok plan → Unless (Means graphs asked (Ok plan)) r → Unless (Means graphs asked o) r
meant graphs asked o r plan is h = subst (λ p. Unless (Means graphs asked p) r) (sym is) h

pub maps_refused : (graphs : ℕ → Graph) (asked : Asked) (o : Outcome Plan) (e : EvalRefused) → Answers o (Err e) → Unless (Means graphs asked o) (Err e)
maps_refused graphs asked o e h = refuses (Means graphs asked o) o e h (λ is. subst (λ p. Means graphs asked p (Err e)) (sym is) refl)

-- what an answer means is said of the stop that it comes to
pub meant_by : (graphs : ℕ → Graph) (asked : Asked) (r : Outcome Rows) → IsMeant graphs asked r → IsMeantBy graphs asked (stopped r)
meant_by graphs asked (Ok rows) h = h
meant_by graphs asked (Err why) h = h

-- the list that was seen is there, so an error is for want of memory
pub none_seen : {A : Type 0} (P : Outcome Rows → Type 0) (a : A) (e : EvalRefused) → Answers (Ok a) (Err e) → Unless P (Err e)
none_seen P a e h = refuses P (Ok a) e h (λ is. absurd cc)
