use Rattle.std.proofs.Common.{Some, sym, ap, ◌∙◌}
use Rattle.std.specs.Arc.{arc_value}
use Rattle.history_keeper.specs.Rows.{row_of}
use Rattle.rebuild.proofs.Finishes.{in_block, located_among, on_chain}
use Rattle.rebuild.proofs.searching.version.Goals as goal

pub returns-in_ok-try_clone-in-Some-clause-finishes :
    goal.returns-in_ok-try_clone-in-Some-clause-finishes
returns-in_ok-try_clone-in-Some-clause-finishes g c =
    let blocks = (row_of c.args.keeper.now c.args.row).blocks in
    let found = arc_value c.in_ok-try_clone-in-Some.field-0 in
    let here = sym c.in-Some.ensures.value ∙ ap (λ b. Some b) (sym c.in_ok-try_clone-in-Some.ensures) in
    λ line. in_block g.U.Undo.after c.args.newest.now c.args.chain.now.entries blocks c.args.t found c.in-Some.ensures.in_order line (located_among c.args.t blocks found here)

pub returns-in_ok-version_at-in-None-clause-finishes :
    goal.returns-in_ok-version_at-in-None-clause-finishes
returns-in_ok-version_at-in-None-clause-finishes g c =
    let blocks = (row_of c.args.keeper.now c.args.row).blocks in
    λ line. c.in_ok-version_at-in-None.ensures ∙ on_chain g.U.Undo.after c.args.newest.now c.args.chain.now.entries blocks c.args.t (sym c.in-None.ensures.value)
