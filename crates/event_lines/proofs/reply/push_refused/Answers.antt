use Rattle.std.proofs.Common.{codes, string_bytes}
use Rattle.graph_value.specs.Id.{oid_text}
use Rattle.event_lines.proofs.Pushed.{pushed, pushed_after}
use Rattle.event_lines.proofs.reply.push_refused.Goals as goal

pub returns-in_ok-push_str-in-Missing : goal.returns-in_ok-push_str-in-Missing
returns-in_ok-push_str-in-Missing c =
    record { ok = rw c.in-Missing.is (pushed_after _ _ _ _ (codes "refused 3 missing ") (oid_text c.in-Missing.x) c.in_ok-push_str-in-Missing.ensures.bytes c.push_oid.ensures.ok) }

pub returns-in-ClockEnd : goal.returns-in-ClockEnd
returns-in-ClockEnd c = record { ok = rw c.in-ClockEnd.is (pushed _ (string_bytes c.args.out.now) _ (codes "refused 7 clock end") c.push_str-in-ClockEnd.ensures.bytes) }

pub returns-in-TooMany : goal.returns-in-TooMany
returns-in-TooMany c = record { ok = rw c.in-TooMany.is (pushed _ (string_bytes c.args.out.now) _ (codes "refused 9 too many") c.push_str-in-TooMany.ensures.bytes) }
