use Rattle.std.proofs.Common.{codes, string_bytes}
use Rattle.json.specs.Print.{quoted}
use Rattle.query_reply.proofs.Pushed.{pushed, pushed_after}
use Rattle.query_reply.proofs.push_faults.push_check.Goals as goal

pub returns-in_ok-push_str-in-Redeclared : goal.returns-in_ok-push_str-in-Redeclared
returns-in_ok-push_str-in-Redeclared c =
    record { ok = rw c.in-Redeclared.is (pushed_after _ _ _ _ (codes "ERR 4 shape redeclared ") (quoted _) c.in_ok-push_str-in-Redeclared.ensures.bytes c.push_quoted-in-Redeclared.ensures.ok) }

pub returns-in-AggregatePlace : goal.returns-in-AggregatePlace
returns-in-AggregatePlace c = record { ok = rw c.in-AggregatePlace.is (pushed _ (string_bytes c.args.out.now) _ (codes "ERR 4 shape aggregate place") c.push_str-in-AggregatePlace.ensures.bytes) }

pub returns-in-NoMemory : goal.returns-in-NoMemory
returns-in-NoMemory c = record { ok = rw c.in-NoMemory.is (pushed _ (string_bytes c.args.out.now) _ (codes "ERR 16 no memory") c.push_str-in-NoMemory.ensures.bytes) }
