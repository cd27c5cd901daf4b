-- The next line is answered.
use Rattle.std.proofs.Common.{ℕ, List, ◌++◌, string_bytes, ap, ◌∙◌}
use Rattle.wire_line.proofs.Told.{told_weaker}
use Rattle.graph_shell.specs.Stands.{Stands}
use Rattle.event_lines.specs.Reply.{bad_line}
use Rattle.graph_shell.proofs.Turns.{answers_short, answers_long}
use Rattle.graph_shell.proofs.run.answer_next.Goals as goal

pub returns-in-Ok-clause-turn : goal.returns-in-Ok-clause-turn
returns-in-Ok-clause-turn g c =
    told_weaker (g.I.Source.left c.args.input.now) (g.I.Source.left c.next.new.input) _ _ c.in-Whole.ensures.says
    (λ left left' first es stands start. answers_short (Stands c.answer_line.new.shell) (string_bytes c.answer_line.new.reply) c.bytes.result.now
    (c.args.lines.now.waiting ++ left) (c.next.new.self.waiting ++ left') es c.in-Whole.span c.args.lines.now c.next.new.self first c.bytes.ensures (c.in-Ok.ensures es stands))

pub returns-in-Ok-push_bad_line-clause-turn : goal.returns-in-Ok-push_bad_line-clause-turn
returns-in-Ok-push_bad_line-clause-turn g c =
    told_weaker (g.I.Source.left c.args.input.now) (g.I.Source.left c.next.new.input) _ _ c.in-TooLong.ensures.says
    (λ left left' first es stands start. answers_long (Stands c.args.shell.now) (string_bytes c.push_bad_line.new.out)
    (c.args.lines.now.waiting ++ left) (c.next.new.self.waiting ++ left') es c.args.lines.now c.next.new.self first start
    (c.in-Ok-push_bad_line.ensures.ok ∙ ap (λ (x : List ℕ). x ++ bad_line) c.clear.ensures.bytes) stands)
