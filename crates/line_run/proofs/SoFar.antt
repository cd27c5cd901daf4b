-- Turn after turn, the text that was written is the one that answers the lines that were read.
use Rattle.std.proofs.Common.{◌≡◌, ◌≢◌, ℕ, List, [], ◌∷◌, ◌++◌, false, refl, sym, ap, ◌∙◌}
use Rattle.std.proofs.lemmas.List.{append_assoc, append-nil}
use Rattle.wire_line.specs.Intake.{Intake}
use Rattle.wire_line.specs.Lines.{lines_of, first_line, after_line}
use Rattle.wire_line.proofs.LineLists.{lines_of-step, first_line-split}
use Rattle.line_run.specs.declared.answering.Answering as answering
use Rattle.line_run.specs.Turns.{AreAnswered}
use Rattle.line_run.specs.Next.{AnswersNext}
use Rattle.line_run.proofs.Gone.{Gone, gone_none, gone_split}
use Rattle.line_run.proofs.Turns.{answered-push}

module _ {A : Type 0} (a : answering.Ghosts A) (first : A) where
  -- What was answered and written so far, of an input of which some is still ahead.
  pub record SoFar (current : A) (reader : Intake) (left list before now : List ℕ) : Type 0 where
    pub at_start : reader.passing ≡ false
    pub text : List ℕ
    pub written : now ≡ before ++ text
    pub given : List (List ℕ)
    pub answered : AreAnswered a.answers a.answers_long first given text current
    pub lines : lines_of list ≡ given ++ lines_of (reader.waiting ++ left)
    pub gone : Gone list given (reader.waiting ++ left)

-- the lines behind the first of those ahead
pub lines_behind : (list ahead rest : List ℕ) (given : List (List ℕ)) → lines_of list ≡ given ++ lines_of ahead → ahead ≢ []
    → rest ≡ after_line ahead → lines_of list ≡ (given ++ first_line ahead ∷ []) ++ lines_of rest
lines_behind list ahead rest given lines there behind =
    lines ∙ ap (λ (x : List (List ℕ)). given ++ x) (lines_of-step ahead there)
    ∙ ap (λ (x : List ℕ). given ++ first_line ahead ∷ lines_of x) (sym behind)
    ∙ sym (append_assoc given (first_line ahead ∷ []) (lines_of rest))

-- what was written behind a text, of which a front was written
pub written_behind : (before now then text reply : List ℕ) → now ≡ before ++ text → then ≡ now ++ reply → then ≡ before ++ (text ++ reply)
written_behind before now then text reply written is = is ∙ ap (λ (x : List ℕ). x ++ reply) written ∙ append_assoc before text reply

module _ {A : Type 0} (a : answering.Ghosts A) (first : A) where
  pub at_first : (reader : Intake) (list before : List ℕ) → reader.waiting ≡ [] → reader.passing ≡ false → SoFar a first first reader list list before before
  at_first reader list before empty start =
      let all : reader.waiting ++ list ≡ list = ap (λ (x : List ℕ). x ++ list) empty in
      record {
        at_start = start;
        text = [];
        written = sym (append-nil before);
        given = [];
        answered = (refl, refl);
        lines = sym (ap lines_of all);
        gone = gone_none list (reader.waiting ++ list) all;
      }

  pub one_more : {current after : A} {reader reader' : Intake} {left rest list before now then reply : List ℕ} → (so_far : SoFar a first current reader left list before now)
      → AnswersNext a current after false reply reader' (reader.waiting ++ left) (reader'.waiting ++ rest) → then ≡ now ++ reply → SoFar a first after reader' rest list before then
  one_more {current} {after} {reader} {reader'} {left} {rest} {list} {before} {now} {then} {reply} so_far next is =
      let ahead : List ℕ = reader.waiting ++ left in
      record {
        at_start = next.at_next;
        text = so_far.text ++ reply;
        written = written_behind before now then so_far.text reply so_far.written is;
        given = so_far.given ++ first_line ahead ∷ [];
        answered = answered-push a.answers a.answers_long first current after so_far.given (first_line ahead) so_far.text reply so_far.answered next.turn;
        lines = lines_behind list ahead (reader'.waiting ++ rest) so_far.given so_far.lines next.there next.behind;
        gone = gone_split list ahead (reader'.waiting ++ rest) so_far.given so_far.gone next.there next.behind (first_line-split ahead);
      }
