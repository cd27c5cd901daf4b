use Rattle.std.proofs.Common.{◌≡◌, ◌++◌, map, drop}
use Rattle.query_run.specs.Named.{column}
use Rattle.query_run.proofs.named.with_names.Given as goal

abbrev pub invariant-loop-name : goal.invariant-loop-name
invariant-loop-name l = l.made ++ map (column l.ids) (drop l.name-index l.names) ≡ l.row ++ map (column l.ids) l.names
