-- How it is told why a query stopped on a store.
use Rattle.std.specs.Prelude.{ℕ, List, ◌++◌, codes}
use Rattle.std.specs.Fmt.{decimal}
use Rattle.graph_value.specs.declared.id.Oid.{Oid}
use Rattle.graph_value.specs.Id.{oid_text, vertex_text}
use Rattle.txn_manager.specs.declared.rivals.Rival.{Rival}
use Rattle.txn_manager.specs.declared.rivals.Rival.TheVariants as rival
use Rattle.query_run.specs.declared.stop.Stop.{Stop}
use Rattle.query_run.specs.declared.stop.Stop.TheVariants as stop
use Rattle.query_reply.specs.Rows.{refused_text}

-- the start of a transaction that is open, or the time of a commit
abbrev pub rival_text : Rival → List ℕ
rival_text (rival.Running start) = codes "open " ++ decimal start
rival_text (rival.Committed ts) = codes "committed " ++ decimal ts

-- the object that somebody else has written, and who
abbrev pub conflict_text : Oid → Rival → List ℕ
conflict_text x rival = codes "ERR 8 conflict " ++ oid_text x ++ codes " " ++ rival_text rival

-- an instant past the start of the transaction
abbrev pub ahead_text : ℕ → ℕ → List ℕ
ahead_text t start = codes "ERR 10 time ahead " ++ decimal t ++ codes " start " ++ decimal start

-- each stop under its number
abbrev pub stop_text : Stop → List ℕ
stop_text (stop.Eval why) = refused_text why
stop_text (stop.Conflict x rival) = conflict_text x rival
stop_text (stop.HasEdges v) = codes "ERR 9 has edges " ++ vertex_text v
stop_text stop.IdEnd = codes "ERR 15 id end"
stop_text (stop.TimeAhead t start) = ahead_text t start
