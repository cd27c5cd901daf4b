-- A line that is a request is answered as the shell answers it.
use Rattle.std.proofs.Common.{sym, ap, ◌∙◌}
use Rattle.std.specs.Prelude.{◌++◌, string_bytes}
use Rattle.std.proofs.lemmas.Result.{on_ok_weaker}
use Rattle.event_lines.specs.Reply.{caller_text}
use Rattle.graph_shell.specs.Stands.{Stands}
use Rattle.event_lines.specs.Told.{told_text, wished}
use Rattle.graph_shell.proofs.Answering.{answers_request}
use Rattle.event_lines.proofs.Read.{read_is_sayable}
use Rattle.graph_shell.proofs.answer.answer_line.Goals as goal

pub perform-told-requires : goal.perform-told-requires
perform-told-requires c = read_is_sayable c.args.line.now c.in-Some.field-0 (sym c.in_ok-read_request.ensures ∙ c.in-Some.is)

pub returns-in-Some : goal.returns-in-Some
returns-in-Some c = on_ok_weaker c.push_reply.result
    (λ printed past st. answers_request
    (Stands c.perform-told.new.self)
    c.args.line.now
    c.in-Some.field-0
    (caller_text c.in-Some.field-0.caller (told_text (wished c.in-Some.field-0.wish) c.perform-told.result))
    (string_bytes c.push_reply.new.out)
    past
    (c.perform-told.ensures.answers past st)
    (sym c.if-is_skipped.ensures)
    (sym c.in_ok-read_request.ensures ∙ c.in-Some.is)
    (printed
    ∙ ap (λ bs. bs ++ caller_text c.in-Some.field-0.caller (told_text c.asked-asked.result c.perform-told.result)) c.clear.ensures.bytes
    ∙ ap (λ x. caller_text c.in-Some.field-0.caller (told_text x c.perform-told.result)) c.asked-asked.ensures))
    c.push_reply.ensures.ok
