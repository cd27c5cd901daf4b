-- The lines that answer a statement with its rows.
use Rattle.std.specs.Prelude.{◌≡◌, ◌⊎◌, ℕ, List, ◌++◌, true, false, codes, None, Result, Ok, Err, length}
use Rattle.std.specs.Fmt.{decimal}
use Rattle.std.specs.Str.{IsUtf8}
use Rattle.cypher_check.specs.Verdict.{verdict, writes, is_timed}
use Rattle.cypher_parse.specs.Whole.{IsParse}
use Rattle.cypher_syntax.specs.declared.tree.query.Query.{Query}
use Rattle.expr_eval.specs.Outcome.{Answers}
use Rattle.graph_reader.specs.declared.shown.Shown.{Shown}
use Rattle.graph_record.specs.Graph.{Graph}
use Rattle.query_bench.specs.declared.asking.NoRows.{NoRows}
use Rattle.query_bench.specs.declared.asking.NoRows.TheVariants as no_rows
use Rattle.query_bench.specs.Answered.{answered}
use Rattle.query_reply.specs.Faults.{IsExamined, fault_text}
use Rattle.query_reply.specs.Rows.{refused_text, row_lines}

-- WHAT IS ANSWERED

abbrev pub Answer : Type 0
Answer = Result (List (List Shown)) NoRows

-- the rows of a query without writes and time clauses, or its first refusal, unless memory was wanting
abbrev pub IsRun : Graph → Query → Answer → Type 0
IsRun g q (Ok rows) = (writes q ≡ false) × (is_timed q.time ≡ false) × (answered g q ≡ Ok rows)
IsRun g q (Err (no_rows.Fault why)) = ⊥
IsRun g q (Err no_rows.Writes) = writes q ≡ true
IsRun g q (Err no_rows.Timed) = (writes q ≡ false) × (is_timed q.time ≡ true)
IsRun g q (Err (no_rows.Refused why)) = (writes q ≡ false) × (is_timed q.time ≡ false) × Answers (answered g q) (Err why)

-- what the query comes to that the statement is, or the statement's first fault
abbrev pub IsAsked : Graph → List ℕ → Answer → Type 0
IsAsked g statement (Err (no_rows.Fault why)) = IsExamined statement (Err why)
IsAsked g statement answer = (q : Query) × IsParse statement (Ok q) × (verdict q ≡ None) × IsRun g q answer

-- ITS TEXT

abbrev pub rows_text : List (List Shown) → List ℕ
rows_text rows = row_lines rows ++ (codes "OK " ++ decimal (length rows))

abbrev pub none_text : NoRows → List ℕ
none_text (no_rows.Fault why) = fault_text why
none_text no_rows.Writes = codes "ERR 4 shape write"
none_text no_rows.Timed = codes "ERR 4 shape TT clause"
none_text (no_rows.Refused why) = refused_text why

abbrev pub asked_text : Answer → List ℕ
asked_text (Ok rows) = rows_text rows
asked_text (Err why) = none_text why

-- the text of the answer to the statement that the line is; a line that isn't UTF-8 is none
abbrev pub RowsOfLine : Graph → List ℕ → List ℕ → Type 0
RowsOfLine g line reply =
    (IsUtf8 line × ((answer : Answer) × IsAsked g line answer × (reply ≡ asked_text answer)))
    ⊎ ((IsUtf8 line → ⊥) × (reply ≡ codes "ERR 1 not UTF-8"))
