use Rattle.std.proofs.Common.{◌+◌, w64, sym, ap, ◌∙◌}
use Rattle.std.specs.Prelude.{FitsSigned}
use Rattle.std.proofs.lemmas.Int.{to_z-of_z}
use Rattle.expr_eval.specs.Lists.{counted}
use Rattle.expr_eval.specs.Size.{is_small}
use Rattle.expr_eval.proofs.Counting.{sized_integers, large_integers}
use Rattle.expr_eval.proofs.lists.integers.Goals as goal

pub returns-then-not-fits_as_integers : goal.returns-then-not-fits_as_integers
returns-then-not-fits_as_integers c =
    let f : FitsSigned w64 c.args.first = c.ranges.first in
    let l : FitsSigned w64 c.args.last = c.ranges.last in
    let number = simp to_z-of_z at c.count_between-count.ensures in
    large_integers c.args.first _ (ap (λ n. is_small (1 + n) 1) (sym number) ∙ sym c.fits_as_integers.ensures ∙ c.if-not-fits_as_integers.true)

pub returns : goal.returns
returns c =
    let f : FitsSigned w64 c.args.first = c.ranges.first in
    let l : FitsSigned w64 c.args.last = c.ranges.last in
    let number = simp to_z-of_z at c.count_between-count.ensures in
    let made = simp to_z-of_z at c.in_ok-counted.ensures in
    sized_integers c.args.first _ c.in_ok-counted.field-0
    (ap (λ n. is_small (1 + n) 1) (sym number) ∙ sym c.fits_as_integers.ensures ∙ c.if-not-fits_as_integers.false)
    (made ∙ ap (counted c.args.first) number)
