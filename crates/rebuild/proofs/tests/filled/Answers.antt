use Rattle.std.proofs.Common.{ℕ, List, append-nil, sym, subst}
use Rattle.undo_law.specs.declared.dated.Dated.{Dated}
use Rattle.anchor_store.specs.Groups.{AreDescending}
use Rattle.rebuild.proofs.tests.filled.Goals as goal

pub extend-requires-clause-order : goal.extend-requires-clause-order
extend-requires-clause-order c =
    let law = c.blocks_have_the_deltas.ensures in
    let order = subst (λ (ds : List (Dated ℕ)). AreDescending ds) (sym (append-nil c.in_ok-sample.field-0.deltas)) c.in_ok-sample.ensures in
    rw (c.in_ok-row.ensures.ok, c.in_ok-row.ensures.number, c.new-keeper.ensures, c.in_ok-built.ensures, law) order
