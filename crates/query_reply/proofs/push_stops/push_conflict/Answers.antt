use Rattle.std.proofs.Common.{◌++◌, codes}
use Rattle.graph_value.specs.Id.{oid_text}
use Rattle.query_reply.specs.Stops.{rival_text}
use Rattle.query_reply.proofs.Pushed.{pushed_after}
use Rattle.query_reply.proofs.push_stops.push_conflict.Goals as goal

-- the text in front of the rival
pub returns : goal.returns
returns c = record { ok = pushed_after _ _ _ _ (codes "ERR 8 conflict " ++ oid_text c.args.x ++ codes " ") (rival_text c.args.rival) c.in_ok-write.ensures.bytes c.push_rival.ensures.ok }
