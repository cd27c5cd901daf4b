-- The rows that pieces come to: their maximal runs, each with its first and last instant.
use Rattle.std.specs.Prelude.{◌≡◌, ℕ, pos, List, [], ◌∷◌, ◌++◌, length, map, nat_lt, Ok, Err, if◌then◌else◌}
use Rattle.std.specs.List.{AllZip, flat_map}
use Rattle.graph_reader.specs.declared.shown.Shown.{Shown}
use Rattle.graph_reader.specs.declared.shown.Shown.TheVariants as shown
use Rattle.expr_eval.specs.declared.refused.EvalRefused.TheVariants.{RowLimit}
use Rattle.expr_eval.specs.Outcome.{Outcome}
use Rattle.expr_eval.specs.Row.{row_limit}
use Rattle.tt_intervals.specs.Runs.{AreMaximalRuns}
use Rattle.tt_clauses.specs.Found.{Piece}
use Rattle.tt_clauses.specs.Values.{PrintSame, Values}

abbrev pub Rows : Type 0
Rows = List Values

abbrev pub integer : ℕ → Shown
integer t = shown.Int (pos t)

-- the values, and behind them the first instant and the last one
abbrev pub row_of : Piece → Values
row_of run = run.1 ++ integer run.0.first ∷ integer run.0.last ∷ []

abbrev pub rows_of : List Piece → Rows
rows_of runs = map row_of runs

-- a row for each maximal run of the pieces of each tuple, in order
pub record AreRows (pieces : List (List Piece)) (rows : Rows) : Type 0 where
  pub runs : List (List Piece)
  pub maximal : AllZip (AreMaximalRuns PrintSame) pieces runs
  pub told : rows ≡ flat_map rows_of runs

-- of too many rows none is given
abbrev pub limited : Rows → Outcome Rows
limited rows = if nat_lt row_limit (length rows) then Err RowLimit else Ok rows
