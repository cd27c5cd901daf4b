-- A wish is an event, or an installation.
use Rattle.std.proofs.Common.{sym, subst}
use Rattle.event_lines.specs.declared.request.Wish.{Wish}
use Rattle.graph_shell.specs.Events.{answer_wish}
use Rattle.event_lines.specs.Reply.{caller_text}
use Rattle.graph_shell.specs.Stands.{AnswersLine, Stands}
use Rattle.event_lines.specs.Told.{told_text, wished}
use Rattle.graph_shell.proofs.shell.Shell.perform.Goals as goal

pub returns-in-Event-clause-answers : goal.returns-in-Event-clause-answers
returns-in-Event-clause-answers c = λ past st.
    subst (λ (w : Wish). AnswersLine (λ wanting kept. answer_wish wanting kept c.args.caller w) (Stands c.take.new.self) (caller_text c.args.caller (told_text (wished w) c.take.result)) past) (sym c.in-Event.is) (c.take.ensures.answers past st)

pub returns-in-Install-clause-answers : goal.returns-in-Install-clause-answers
returns-in-Install-clause-answers c = λ past st.
    subst (λ (w : Wish). AnswersLine (λ wanting kept. answer_wish wanting kept c.args.caller w) (Stands c.install.new.self) (caller_text c.args.caller (told_text (wished w) c.install.result)) past) (sym c.in-Install.is) (c.install.ensures.answers past st)
