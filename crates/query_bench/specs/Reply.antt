-- The line that answers a statement.
use Rattle.std.specs.Prelude.{◌≡◌, ◌⊎◌, ℕ, List, ◌++◌, codes, Result, Ok, Err}
use Rattle.std.specs.Str.{IsUtf8}
use Rattle.cypher_check.specs.declared.checked.Checked.{Checked}
use Rattle.cypher_check.specs.Answer.{query_of}
use Rattle.cypher_print.specs.QueryText.{query_text}
use Rattle.query_reply.specs.declared.fault.Fault.{Fault}
use Rattle.query_reply.specs.Faults.{IsExamined, fault_text}

abbrev pub answer_text : Result Checked Fault → List ℕ
answer_text (Ok checked) = codes "ok " ++ query_text (query_of checked)
answer_text (Err why) = fault_text why

-- the text of the answer to the statement that the line is; a line that isn't UTF-8 is none
abbrev pub AnswersLine : List ℕ → List ℕ → Type 0
AnswersLine line reply =
    (IsUtf8 line × ((answer : Result Checked Fault) × IsExamined line answer × (reply ≡ answer_text answer)))
    ⊎ ((IsUtf8 line → ⊥) × (reply ≡ codes "ERR 1 not UTF-8"))
