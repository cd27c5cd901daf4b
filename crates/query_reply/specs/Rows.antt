-- How rows are told, and what refuses them.
use Rattle.std.specs.Prelude.{ℕ, List, [], ◌∷◌, ◌++◌, codes}
use Rattle.expr_eval.specs.declared.refused.EvalRefused.{EvalRefused}
use Rattle.expr_eval.specs.declared.refused.EvalRefused.TheVariants as refused
use Rattle.graph_reader.specs.declared.shown.Shown.{Shown}
use Rattle.graph_reader.specs.Rows.{row_text}
use Rattle.graph_value.specs.Id.{oid_text}

-- each refusal under its number
abbrev pub refused_text : EvalRefused → List ℕ
refused_text refused.TypeFault = codes "ERR 5 type"
refused_text refused.Overflow = codes "ERR 6 overflow"
refused_text refused.ZeroDivisor = codes "ERR 7 zero divisor"
refused_text refused.TooLarge = codes "ERR 14 too large"
refused_text refused.RowLimit = codes "ERR 14 row limit"
refused_text (refused.Gone x) = codes "ERR 17 gone " ++ oid_text x
refused_text refused.NoMemory = codes "ERR 16 no memory"

-- each row with its line end
abbrev pub row_lines : List (List Shown) → List ℕ
row_lines [] = []
row_lines (row ∷ rows) = (row_text row ++ codes "\n") ++ row_lines rows
