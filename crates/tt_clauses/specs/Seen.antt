-- On the way: which tuples match at the instants, as sets.
use Rattle.std.specs.Prelude.{◌≡◌, ◌≤◌, ◌+◌, ℕ, List, [], ◌∷◌, fold, Result, Ok, Err}
use Rattle.std.specs.BTreeSet.{BTreeSet, insert_key}
use Rattle.graph_record.specs.Graph.{Graph}
use Rattle.expr_eval.specs.Outcome.{Answers, Outcome}
use Rattle.expr_eval.specs.declared.refused.EvalRefused.{EvalRefused}
use Rattle.pattern_match.specs.declared.steps.Plan.{Plan}
use Rattle.pattern_match.specs.Tuples.{tuples_for}
use Rattle.tt_clauses.specs.Found.{Piece}
use Rattle.tt_clauses.specs.Rows.{AreRows, Rows}
use Rattle.tt_clauses.specs.Tuples.{Tuple, tuple_cmp}

abbrev pub Tuples : Type 0
Tuples = BTreeSet Tuple

abbrev pub no_tuple : Tuples
no_tuple = record { keys = [] }

abbrev pub with_tuple : Tuples → Tuple → Tuples
with_tuple set b = record { keys = insert_key tuple_cmp set.keys b }

abbrev pub with_tuples : Tuples → List Tuple → Tuples
with_tuples set bs = fold with_tuple set bs

-- the tuples that match at an instant
abbrev pub seen_at : (ℕ → Graph) → Plan → ℕ → ℕ × Tuples
seen_at graphs plan t = (t, with_tuples no_tuple (tuples_for (graphs t) plan.steps))

-- the tuples that are seen at some instant
abbrev pub with_seen : Tuples → ℕ × Tuples → Tuples
with_seen set seen = with_tuples set seen.1.keys

abbrev pub all_seen : List (ℕ × Tuples) → Tuples
all_seen seen = fold with_seen no_tuple seen

-- the instants rise, from one on and below another one
abbrev pub Rises : {X : Type 0} → ℕ → List (ℕ × X) → ℕ → Type 0
Rises free [] next = free ≤ next
Rises free (x ∷ xs) next = (free ≤ x.0) × Rises (x.0 + 1) xs next

-- pieces have come to rows, or a refusal is that of the whole
abbrev pub Comes : Outcome (List (List Piece)) → Result Rows EvalRefused → Type 0
Comes found (Ok rows) = (pieces : List (List Piece)) × (found ≡ Ok pieces) × AreRows pieces rows
Comes found (Err why) = Answers found (Err why)

-- the outcome is what stands for the answer, unless memory was wanting
abbrev pub AnswersAs : {A B : Type 0} → Result B EvalRefused → (B → A) → Outcome A → Type 0
AnswersAs (Ok b) f o = o ≡ Ok (f b)
AnswersAs (Err why) f o = Answers o (Err why)
