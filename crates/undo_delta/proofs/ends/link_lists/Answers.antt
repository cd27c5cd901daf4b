use Rattle.std.proofs.Common.{◌≡◌, true, take, length, ◌-◌, sym, ap, ◌∙◌, arith}
use Rattle.graph_record.specs.Ascending.{edge_cmp}
use Rattle.graph_record.specs.Edits.{is_below}
use Rattle.graph_record.proofs.Front.{added_last, last_taken}
use Rattle.undo_delta.proofs.ends.link_lists.Goals as goal

-- the edge that was put at the end of the one list is taken off it again
pub returns-in-Err-clause-outs_stay : goal.returns-in-Err-clause-outs_stay
returns-in-Err-clause-outs_stay c =
    let ids = c.args.outs.now in
    let yes : c.is_below.result ≡ true = grind (arith, c.if-not-is_below.false) in
    let above : is_below edge_cmp c.args.id ids ≡ true = sym c.is_below.ensures ∙ yes in
    c.pop.ensures.rest
    ∙ ap (λ ids. take (length ids - 1) ids) (c.in_ok-add.ensures.ok ∙ added_last c.args.id ids above)
    ∙ last_taken ids c.args.id
