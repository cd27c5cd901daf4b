-- A line that was read is answered.
use Rattle.std.proofs.Common.{◌≡◌, ◌≢◌, ◌≤◌, ◌<◌, ℕ, List, [], true, false, cond, length, nat_lt, sym, ap, subst, ◌∙◌, arith}
use Rattle.std.proofs.lemmas.Bool.Decides.{nat_tests}
use Rattle.std.specs.Prelude.{slice_range}
use Rattle.wire_line.specs.declared.line.LineSpan.{LineSpan}
use Rattle.wire_line.specs.declared.line.TheConstants.{LINE_LIMIT}
use Rattle.wire_line.specs.Intake.{Intake, IsFirstLine, IsTooLong}
use Rattle.wire_line.specs.Lines.{first_line, without_return}
use Rattle.event_lines.specs.Reply.{bad_line}
use Rattle.graph_shell.specs.Events.{Kept, Answered, answer_line, answer_short}
use Rattle.graph_shell.specs.Stands.{AnswersLine, Past, left_by}
use Rattle.graph_shell.specs.Runs.{AnswersNext}

within : (limit n : ℕ) → n ≤ limit → nat_lt limit n ≡ false
within limit n short = grind (arith, nat_tests)

beyond : (limit n : ℕ) → limit < n → nat_lt limit n ≡ true
beyond limit n long = grind (arith, nat_tests)

-- a line that isn't too long is answered without its carriage return
pub answers_short : (Stands : Past → Type 0) (text line ahead rest : List ℕ) (past : Past) (span : LineSpan) (before after : Intake)
    → IsFirstLine span before after ahead rest → line ≡ slice_range after.buffer span.from span.to
    → AnswersLine (λ wanting k. answer_short wanting k line) Stands text past → AnswersNext Stands text before after ahead rest past
answers_short Stands text line ahead rest past span before after first is a =
    let k : Kept = left_by past in
    let same : answer_short a.wanting k line ≡ answer_line a.wanting k (first_line ahead) =
    ap (answer_short a.wanting k) (is ∙ first.text)
    ∙ sym (ap (λ b. cond b (record { text = bad_line; after = k }) (answer_short a.wanting k (without_return (first_line ahead)))) (within LINE_LIMIT (length (first_line ahead)) first.short)) in
    record {
      there = first.there;
      answers = record {
        wanting = a.wanting;
        after = a.after;
        stands = a.stands;
        text_is = a.text_is ∙ ap (λ (x : Answered). x.text) same;
        left = a.left ∙ ap (λ (x : Answered). x.after) same;
      };
      behind = first.behind;
      at_next = first.at_next ∙ sym first.at_start;
    }

not_empty : (ahead : List ℕ) → LINE_LIMIT < length (first_line ahead) → ahead ≢ []
not_empty ahead long empty = below (subst (λ x. LINE_LIMIT < length (first_line x)) empty long)
  where
    below : LINE_LIMIT < 0 → ⊥
    below l = omega (arith, l)

-- a line that is too long is answered as a bad one
pub answers_long : (Stands : Past → Type 0) (text ahead rest : List ℕ) (past : Past) (before after : Intake)
    → IsTooLong before after ahead rest → before.passing ≡ false → text ≡ bad_line → Stands past → AnswersNext Stands text before after ahead rest past
answers_long Stands text ahead rest past before after first start is stands =
    let long : LINE_LIMIT < length (first_line ahead) = first.long start in
    let k : Kept = left_by past in
    let same : answer_line false k (first_line ahead) ≡ record { text = bad_line; after = k } =
    ap (λ b. cond b (record { text = bad_line; after = k }) (answer_short false k (without_return (first_line ahead)))) (beyond LINE_LIMIT (length (first_line ahead)) long) in
    record {
      there = not_empty ahead long;
      answers = record {
        wanting = false;
        after = past;
        stands = stands;
        text_is = is ∙ sym (ap (λ (x : Answered). x.text) same);
        left = sym (ap (λ (x : Answered). x.after) same);
      };
      behind = first.behind;
      at_next = first.at_next ∙ sym start;
    }
