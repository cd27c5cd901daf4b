use Rattle.std.proofs.Common.{◌≡◌, ◌++◌}
use Rattle.tt_clauses.specs.Rows.{rows_of}
use Rattle.tt_clauses.proofs.rows.with_rows.Given as goal

abbrev pub invariant-loop-run : goal.invariant-loop-run
invariant-loop-run l = l.rows ≡ l.fn.rows ++ rows_of l.yielded
