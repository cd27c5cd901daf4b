use Rattle.std.proofs.Common.{◌≡◌, Some}
use Rattle.serde_json.specs.View.{items_view}
use Rattle.event_lines.specs.Values.{list_from}
use Rattle.event_lines.proofs.request.values.list_from.Given as goal

abbrev pub invariant-loop-item : goal.invariant-loop-item
invariant-loop-item l = record { so_far : list_from (items_view l.yielded) ≡ Some l.values }
