use Rattle.std.proofs.Common.{◌++◌, ap, subst, ◌∙◌, inl}
use Rattle.std.proofs.lemmas.Result.{on_ok_weaker}
use Rattle.query_reply.specs.Faults.{IsExamined}
use Rattle.query_bench.specs.Reply.{answer_text}
use Rattle.query_bench.proofs.answer.answer_line.Goals as goal

-- the statement is the line, and the text was empty before
pub returns : goal.returns
returns c =
    let same = c.in_ok-statement.ensures ∙ c.in-Ok.ensures.cases.0 in
    let is = subst (λ s. IsExamined s c.examine-answer.result) same c.examine-answer.ensures in
    on_ok_weaker c.push_answer.result
    (λ e. inl (c.in-Ok.ensures.cases.1, (c.examine-answer.result, is, e ∙ ap (λ b. b ++ answer_text c.examine-answer.result) c.clear.ensures.bytes)))
    c.push_answer.ensures.ok
