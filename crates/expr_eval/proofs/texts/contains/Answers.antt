use Rattle.std.proofs.Common.{◌-◌, length, drop, nat_eq, sym, ap, ◌∙◌, arith, length-drop}
use Rattle.std.specs.List.{starts_with}
use Rattle.std.proofs.lemmas.List.{take_all}
use Rattle.expr_eval.proofs.Parts.{contains_on}
use Rattle.expr_eval.proofs.texts.contains.Goals as goal

pub loop-at-preserved : goal.loop-at-preserved
loop-at-preserved c =
    contains_on c.args.text.now c.args.part.now c.loop-at.at c.loop-at-test.true
    (ap (λ text. starts_with nat_eq text c.args.part.now) (sym (take_all (length c.args.text.now - c.loop-at.at) (drop c.loop-at.at c.args.text.now) (omega (arith, length-drop c.loop-at.at c.args.text.now))))
    ∙ sym c.starts_with.ensures.value ∙ c.if-starts_with.false)
    ∙ c.loop-at.invariant
