use Rattle.std.proofs.Common.{◌∙◌, ◌++◌, codes, ap, sym}
use Rattle.std.specs.List.{flat_map}
use Rattle.cypher_print.specs.Pieces.{written}
use Rattle.cypher_print.specs.Printed.{expr, option, branch}
use Rattle.cypher_print.proofs.PrintLemmas.{on_ok, written-Case}
use Rattle.cypher_print.proofs.expr.+print.Goals as goal

pub bare-returns-in_ok-option-in-Case-2 : goal.bare-returns-in_ok-option-in-Case-2
bare-returns-in_ok-option-in-Case-2 t c =
    let v = c.in-Case in
    on_ok c.push-in-Case-2.result _ _
    (λ h. h ∙ ap (λ t. t ++ codes " END") (
    c.in_ok-option-in-Case-2.ensures
    ∙ ap (λ t. written t (option (codes " ELSE ") v.other)) (
    c.in_ok-branches-in-Case.ensures
    ∙ ap (λ ws. written c.option.new.out (flat_map branch ws)) c.as_slice-in-Case.ensures
    ∙ ap (λ t. written t (flat_map branch v.whens)) (c.in_ok-option-in-Case.ensures ∙ ap (λ t. written t (option (codes " ") v.of)) c.in_ok-push-in-Case.ensures)
    )
    ) ∙ sym (ap (λ x. written c.args.out.now (expr x 0)) v.is ∙ written-Case c.args.out.now v.of v.whens v.other))
    c.push-in-Case-2.ensures
