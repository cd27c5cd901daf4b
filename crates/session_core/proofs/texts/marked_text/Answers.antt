use Rattle.std.proofs.Common.{codes, append_assoc}
use Rattle.std.specs.Fmt.{decimal}
use Rattle.session_core.proofs.Printed.{printed}
use Rattle.session_core.proofs.texts.marked_text.Goals as goal

pub returns : goal.returns
returns c =
    rw (append_assoc (decimal c.args.marked.clock) (codes " mark ") (decimal c.args.marked.mark))
    (printed _ _ _ c.in_ok-write.ensures.bytes c.new-text.ensures.bytes)
