use Rattle.std.proofs.Common.{sym, ap, ◌∙◌, length, ◌-◌}
use Rattle.std.specs.Prelude.{slice_get}
use Rattle.std.specs.Option.{option_copied}
use Rattle.graph_record.proofs.Front.{below_last, below_none}
use Rattle.graph_record.proofs.edge_ids.EdgeIds.is_below.Goals as goal

pub returns-in-Some : goal.returns-in-Some
returns-in-Some c =
    let found = ap (λ ids. slice_get ids (length ids - 1)) (sym c.as_slice.ensures.value) ∙ sym c.last.ensures.value ∙ ap option_copied c.in-Some.is in
    sym (below_last c.args.id c.args.self.now c.in-Some.last.now c.as_slice.ensures.ascending found)

pub returns-in-None : goal.returns-in-None
returns-in-None c =
    let found = ap (λ ids. slice_get ids (length ids - 1)) (sym c.as_slice.ensures.value) ∙ sym c.last.ensures.value ∙ ap option_copied c.in-None.is in
    sym (below_none c.args.id c.args.self.now found)
