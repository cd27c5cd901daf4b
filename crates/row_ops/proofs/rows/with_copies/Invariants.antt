use Rattle.std.proofs.Common.{◌≡◌, ◌++◌, drop}
use Rattle.row_ops.proofs.rows.with_copies.Given as goal

abbrev pub invariant-loop-name : goal.invariant-loop-name
invariant-loop-name l = l.row ++ drop l.name-index l.columns ≡ l.fn.row ++ l.columns
