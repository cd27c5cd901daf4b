use Rattle.std.proofs.Common.{codes, ap, ◌++◌, ◌∙◌}
use Rattle.std.specs.Fmt.{decimal}
use Rattle.session_core.proofs.Printed.{five, printed}
use Rattle.session_core.proofs.texts.stats_text.Goals as goal

pub returns : goal.returns
returns c =
    printed _ _ _ c.in_ok-write.ensures.bytes c.new-text.ensures.bytes
    ∙ ap (λ t. codes "OK chain " ++ t) (five (decimal c.args.stats.chain) (codes " history ") (decimal c.args.stats.history) (codes " blocks ") (decimal c.args.stats.blocks))
