use Rattle.std.proofs.Common.{◌∙◌, sym, arith}
use Rattle.cypher_syntax.proofs.Fronts.{within_at}
use Rattle.cypher_syntax.proofs.lexer.step.Goals as goal

pub made-requires : goal.made-requires
made-requires c =
    let w = within_at c.args.text.now c.args.at _ c.requires (sym c.in-Made.is ∙ c.in_ok-len.ensures) in omega (arith, w)

pub returns-in-Gap-clause-passed : goal.returns-in-Gap-clause-passed
returns-in-Gap-clause-passed c =
    let w = within_at c.args.text.now c.args.at _ c.requires (sym c.in-Gap.is ∙ c.in_ok-len.ensures) in (w.0, omega (arith, w))

pub returns-in_ok-push-in-Made-clause-passed : goal.returns-in_ok-push-in-Made-clause-passed
returns-in_ok-push-in-Made-clause-passed c =
    let w = within_at c.args.text.now c.args.at _ c.requires (sym c.in-Made.is ∙ c.in_ok-len.ensures) in (w.0, omega (arith, w))
