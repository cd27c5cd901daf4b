use Rattle.std.proofs.Common.{◌≡◌, Some, take, fold, filter, sym, ap, subst, ◌∙◌, arith}
use Rattle.std.specs.Prelude.{slice_get}
use Rattle.version_chain.specs.Entry.{is_after}
use Rattle.version_chain.specs.Parts.{deltas_of}
use Rattle.front_core.specs.Outlines.{outline_of, outline_after}
use Rattle.front_core.specs.Rows.{ObjectRow, row_at_instant}
use Rattle.front_core.proofs.Outlining.{instant_outline, one_more}
use Rattle.front_core.proofs.row.Row.outline_at.Goals as goal

pub loop-i-preserved : goal.loop-i-preserved
loop-i-preserved c =
    c.after-outline.ensures
    ∙ ap (λ o. outline_after o c.delta.result.now) c.loop-i.invariant
    ∙ one_more c.args.self.now.newest c.loop-i.i (deltas_of c.args.self.now.chain) c.delta.result.now
    (subst (λ (r : ObjectRow). slice_get (deltas_of r.chain) c.loop-i.i ≡ Some c.delta.result.now) c.self.view_is c.delta.ensures)

pub returns : goal.returns
returns c =
    c.loop-i.invariant
    ∙ ap (λ n. fold outline_after (outline_of c.args.self.now.newest) (take n (deltas_of c.args.self.now.chain))) (omega (arith, c.loop-i-test.false, c.loop-i.auto.i-end))
    ∙ instant_outline c.args.t c.count_after-undone.result c.args.self.now
    (subst (λ (r : ObjectRow). take c.count_after-undone.result r.chain ≡ filter (is_after c.args.t) r.chain) c.self.view_is c.count_after-undone.ensures.first)
