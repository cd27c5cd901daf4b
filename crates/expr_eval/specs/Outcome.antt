-- What an evaluation comes to: a value, or the reason why there is none.
use Rattle.std.specs.Prelude.{◌≡◌, Result, Ok, Err}
use Rattle.graph_record.specs.Graph.{Graph}
use Rattle.graph_reader.specs.Reading.{Reads}
use Rattle.expr_eval.specs.declared.refused.EvalRefused.{EvalRefused}
use Rattle.expr_eval.specs.declared.refused.EvalRefused.TheVariants.{TypeFault, Overflow, ZeroDivisor, TooLarge, RowLimit, Gone, NoMemory}

abbrev pub Outcome : Type 0 → Type 0
Outcome A = Result A EvalRefused

-- the first refusal is that of the whole
abbrev pub and_then : {A B : Type 0} → Outcome A → (A → Outcome B) → Outcome B
and_then (Ok a) f = f a
and_then (Err e) f = Err e

-- the outcome is the answer, unless memory was wanting
abbrev pub Answers : {A : Type 0} → Outcome A → Result A EvalRefused → Type 0
Answers o (Ok a) = o ≡ Ok a
Answers o (Err TypeFault) = o ≡ Err TypeFault
Answers o (Err Overflow) = o ≡ Err Overflow
Answers o (Err ZeroDivisor) = o ≡ Err ZeroDivisor
Answers o (Err TooLarge) = o ≡ Err TooLarge
Answers o (Err RowLimit) = o ≡ Err RowLimit
Answers o (Err (Gone x)) = o ≡ Err (Gone x)
Answers o (Err NoMemory) = Unit {0}

-- the outcome by every graph that the reader stood for is the answer; the reader has only read
abbrev pub Evaluates : {S A : Type 0} → (S → Graph → Type 0) → (S → S → Type 0) → (Graph → Outcome A) → S → S → Result A EvalRefused → Type 0
Evaluates stands follows meaning old new result = Reads stands follows (λ g. Answers (meaning g)) old new result
