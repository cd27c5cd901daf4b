use Rattle.std.proofs.Common.{map, drop, Ok}
use Rattle.graph_reader.specs.Reading.{Continues}
use Rattle.graph_reader.specs.Shown.{then, shown_of, shown_list_of, all_behind}
use Rattle.graph_reader.specs.declared.shown.Shown.TheVariants as shown
use Rattle.graph_reader.proofs.shown.+show.Given as goal

-- the elements so far, and those that are left
abbrev pub invariant-show_list-loop-item : goal.invariant-show_list-loop-item
invariant-show_list-loop-item g l =
    Continues g.G.GraphRead.stands g.G.GraphRead.follows
    (λ w. shown_list_of w l.items)
    (λ w. then (all_behind l.shown (map (shown_of w) (drop l.item-index l.items))) (λ items. Ok (shown.List items)))
    l.fn.graph l.graph
