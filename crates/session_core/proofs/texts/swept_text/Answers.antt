use Rattle.std.proofs.Common.{codes, ap, ◌++◌, ◌∙◌}
use Rattle.std.specs.Fmt.{decimal}
use Rattle.session_core.proofs.Printed.{five, printed}
use Rattle.session_core.proofs.texts.swept_text.Goals as goal

pub returns : goal.returns
returns c =
    printed _ _ _ c.in_ok-write.ensures.bytes c.new-text.ensures.bytes
    ∙ ap (λ t. codes "OK swept mark " ++ t) (five (decimal c.args.swept.mark) (codes " moved ") (decimal c.args.swept.moved) (codes " stale ") (decimal c.args.swept.stale))
