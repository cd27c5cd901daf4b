use Rattle.std.proofs.Common.{sym, ◌∙◌}
use Rattle.row_ops.proofs.KeysLemmas.{keys_step, level_on, told_by, differs, is_level}
use Rattle.row_ops.proofs.sorting.compare_others.Goals as goal

pub returns-then-ne : goal.returns-then-ne
returns-then-ne c =
    let r = c.compare_at-first.result in
    sym (told_by r _ (differs r (sym c.ne.ensures ∙ c.if-ne.true)))
    ∙ sym (keys_step c.args.sorts.now c.args.a.now c.args.b.now c.loop-place.place c.index-sorts-place.result r c.loop-place-test.true c.index-sorts-place.is c.compare_at-first.ensures)
    ∙ c.loop-place.invariant

pub loop-place-preserved : goal.loop-place-preserved
loop-place-preserved c =
    let r = c.compare_at-first.result in
    sym (level_on r _ (is_level r (sym c.ne.ensures ∙ c.if-ne.false)))
    ∙ sym (keys_step c.args.sorts.now c.args.a.now c.args.b.now c.loop-place.place c.index-sorts-place.result r c.loop-place-test.true c.index-sorts-place.is c.compare_at-first.ensures)
    ∙ c.loop-place.invariant
