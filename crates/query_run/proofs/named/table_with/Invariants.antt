use Rattle.std.proofs.Common.{◌≡◌, ◌++◌, drop}
use Rattle.query_run.specs.Named.{table_with}
use Rattle.query_run.proofs.named.table_with.Given as goal

abbrev pub invariant-loop-row : goal.invariant-loop-row
invariant-loop-row l = l.made ++ table_with l.ids (drop l.row-index l.table) l.rest ≡ table_with l.ids l.table l.names
