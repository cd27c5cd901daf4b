use Rattle.std.proofs.Common.{◌&&◌, sym, ap, ◌∙◌}
use Rattle.expr_eval.proofs.Sizes.{small_joined}
use Rattle.expr_eval.proofs.size.fits_as_list.Goals as goal

pub returns-then-light : goal.returns-then-light
returns-then-light c =
    ap (λ b. b && c.are_shallow-shallow.result) (sym c.if-light.true)
    ∙ small_joined c.args.front.now c.args.back.now _ _ c.are_light-light.ensures c.are_shallow-shallow.ensures

pub returns-else-light : goal.returns-else-light
returns-else-light c =
    c.if-light.false
    ∙ ap (λ b. b && c.are_shallow-shallow.result) (sym c.if-light.false)
    ∙ small_joined c.args.front.now c.args.back.now _ _ c.are_light-light.ensures c.are_shallow-shallow.ensures
