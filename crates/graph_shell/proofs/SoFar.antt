-- Turn after turn, the text that was written is the one that answers the lines that were read.
use Rattle.std.proofs.Common.{◌≡◌, ◌≢◌, ◌⊎◌, ◌≤◌, ℕ, ◌+◌, List, [], ◌∷◌, ◌++◌, Bool, false, length, take, drop, refl, sym, ap, ◌∙◌, arith, inl, inr}
use Rattle.std.proofs.lemmas.List.{append_assoc, append-nil, take-append-drop, length-append, nil_from_length}
use Rattle.std.proofs.Math.Seq.{take-append-add}
use Rattle.world_model.specs.History.{run}
use Rattle.wire_line.specs.declared.line.TheConstants.{INPUT_LIMIT}
use Rattle.wire_line.specs.Intake.{Intake, IsEnd, StillAhead, GoesPast, within_limit}
use Rattle.wire_line.specs.Lines.{lines_of, ended_lines, first_line, after_line, HasNoEnd}
use Rattle.wire_line.proofs.LineLists.{lines_of-step, ended_lines-none, ended_lines-first, first_line-split}
use Rattle.wire_line.proofs.FirstLine.{first_line-append, first_line-first_line}
use Rattle.graph_shell.specs.Events.{Kept, answer_line, answers_text, events_text, lines_text}
use Rattle.graph_shell.specs.Stands.{Past, no_past, left_by}
use Rattle.graph_shell.specs.Runs.{AnswersAll, AnswersNext, AnswersRead, AnswersWithin, WritesFront}

-- THE LINES THAT ARE GONE

-- The bytes that are gone hold these lines, each with its line end; or the last lacks it, and nothing is ahead.
pub record Gone (list : List ℕ) (given : List (List ℕ)) (ahead : List ℕ) : Type 0 where
  pub gone : List ℕ
  pub stream : list ≡ gone ++ ahead
  pub ended : ((more : List ℕ) → ended_lines (gone ++ more) ≡ given ++ ended_lines more) ⊎ (ahead ≡ [])

gone_none : (list ahead : List ℕ) → ahead ≡ list → Gone list [] ahead
gone_none list ahead all = record { gone = []; stream = sym all; ended = inl (λ more. refl) }

ended_more : (gone ahead : List ℕ) (given : List (List ℕ)) → ahead ≢ [] → ((more : List ℕ) → ended_lines (gone ++ more) ≡ given ++ ended_lines more) ⊎ (ahead ≡ [])
    → (more : List ℕ) → ended_lines ((gone ++ (first_line ahead ++ 10 ∷ [])) ++ more) ≡ (given ++ first_line ahead ∷ []) ++ ended_lines more
ended_more gone ahead given there (inl ended) more =
    ap ended_lines (append_assoc gone (first_line ahead ++ 10 ∷ []) more ∙ ap (λ (x : List ℕ). gone ++ x) (append_assoc (first_line ahead) (10 ∷ []) more))
    ∙ ended (first_line ahead ++ 10 ∷ more)
    ∙ ap (λ (x : List (List ℕ)). given ++ x) (ended_lines-first (first_line ahead) more (first_line-first_line ahead))
    ∙ sym (append_assoc given (first_line ahead ∷ []) (ended_lines more))
ended_more gone ahead given there (inr empty) more = absurd (there empty)

gone_split : (list ahead rest : List ℕ) (given : List (List ℕ)) → (g : Gone list given ahead) → ahead ≢ [] → rest ≡ after_line ahead
    → (HasNoEnd ahead × (after_line ahead ≡ [])) ⊎ (ahead ≡ first_line ahead ++ 10 ∷ after_line ahead) → Gone list (given ++ first_line ahead ∷ []) rest
gone_split list ahead rest given g there behind (inl none) =
    let nothing : rest ≡ [] = behind ∙ none.1 in
    record {
      gone = g.gone ++ ahead;
      stream = g.stream ∙ sym (ap (λ (x : List ℕ). (g.gone ++ ahead) ++ x) nothing ∙ append-nil (g.gone ++ ahead));
      ended = inr nothing;
    }
gone_split list ahead rest given g there behind (inr is) = record {
  gone = g.gone ++ (first_line ahead ++ 10 ∷ []);
  stream = g.stream ∙ ap (λ (x : List ℕ). g.gone ++ x) (is ∙ ap (λ (x : List ℕ). first_line ahead ++ 10 ∷ x) (sym behind) ∙ sym (append_assoc (first_line ahead) (10 ∷ []) rest))
      ∙ sym (append_assoc g.gone (first_line ahead ++ 10 ∷ []) rest);
  ended = inl (ended_more g.gone ahead given there g.ended);
}

-- WHAT WAS ANSWERED

-- What was answered and written so far, of an event list of which some is still ahead.
pub record SoFar (anchor : ℕ) (Stands : Past → Type 0) (reader : Intake) (left list before now : List ℕ) : Type 0 where
  pub past : Past
  pub stands : Stands past
  pub at_start : reader.passing ≡ false
  pub text : List ℕ
  pub written : now ≡ before ++ text
  pub given : List (List ℕ)
  pub choices : List Bool → List Bool
  pub answered : (later : List Bool) (lines : List (List ℕ)) → answers_text anchor (choices later) (given ++ lines) ≡ text ++ lines_text later (left_by past) lines
  pub lines : lines_of list ≡ given ++ lines_of (reader.waiting ++ left)
  pub gone : Gone list given (reader.waiting ++ left)

pub at_first : (anchor : ℕ) (Stands : Past → Type 0) (reader : Intake) (list before : List ℕ) → Stands (no_past anchor) → reader.waiting ≡ [] → reader.passing ≡ false → SoFar anchor Stands reader list list before before
unfolding run
at_first anchor Stands reader list before stands empty start =
    let all : reader.waiting ++ list ≡ list = ap (λ (x : List ℕ). x ++ list) empty in
    record {
      past = no_past anchor;
      stands = stands;
      at_start = start;
      text = [];
      written = sym (append-nil before);
      given = [];
      choices = λ later. later;
      answered = λ later lines. refl;
      lines = sym (ap lines_of all);
      gone = gone_none list (reader.waiting ++ list) all;
    }

one_line : (wanting : Bool) (later : List Bool) (k after : Kept) (line text : List ℕ) (lines : List (List ℕ))
    → text ≡ (answer_line wanting k line).text → after ≡ (answer_line wanting k line).after
    → lines_text (wanting ∷ later) k (line ∷ lines) ≡ text ++ lines_text later after lines
unfolding lines_text
one_line wanting later k after line text lines is goes =
    sym (ap (λ x. x ++ lines_text later after lines) is ∙ ap (λ x. (answer_line wanting k line).text ++ lines_text later x lines) goes)

pub one_more : {anchor : ℕ} (Stands After : Past → Type 0) (a b : Intake) (left rest list before now then text : List ℕ) → (so_far : SoFar anchor Stands a left list before now)
    → AnswersNext After text a b (a.waiting ++ left) (b.waiting ++ rest) so_far.past → then ≡ now ++ text → SoFar anchor After b rest list before then
one_more {anchor} Stands After a b left rest list before now then text so_far next is =
    let answer = next.answers in
    let ahead : List ℕ = a.waiting ++ left in
    let k : Kept = left_by so_far.past in
    record {
      past = answer.after;
      stands = answer.stands;
      at_start = next.at_next ∙ so_far.at_start;
      text = so_far.text ++ text;
      written = is ∙ ap (λ x. x ++ text) so_far.written ∙ append_assoc before so_far.text text;
      given = so_far.given ++ first_line ahead ∷ [];
      choices = λ later. so_far.choices (answer.wanting ∷ later);
      answered = λ later lines. ap (answers_text anchor (so_far.choices (answer.wanting ∷ later))) (append_assoc so_far.given (first_line ahead ∷ []) lines)
          ∙ so_far.answered (answer.wanting ∷ later) (first_line ahead ∷ lines)
          ∙ ap (λ x. so_far.text ++ x) (one_line answer.wanting later k (left_by answer.after) (first_line ahead) text lines answer.text_is answer.left)
          ∙ sym (append_assoc so_far.text text (lines_text later (left_by answer.after) lines));
      lines = so_far.lines ∙ ap (λ x. so_far.given ++ x) (lines_of-step ahead next.there)
          ∙ ap (λ x. so_far.given ++ first_line ahead ∷ lines_of x) (sym next.behind)
          ∙ sym (append_assoc so_far.given (first_line ahead ∷ []) (lines_of (b.waiting ++ rest)));
      gone = gone_split list ahead (b.waiting ++ rest) so_far.given so_far.gone next.there next.behind (first_line-split ahead);
    }

no_lines : (later : List Bool) (k : Kept) → lines_text later k [] ≡ []
unfolding lines_text
no_lines later k = refl

-- what was written so far answers the lines that were given
text_of : {anchor : ℕ} {Stands : Past → Type 0} {reader : Intake} {left list before now : List ℕ} → (so_far : SoFar anchor Stands reader left list before now)
    → so_far.text ≡ answers_text anchor (so_far.choices []) so_far.given
text_of {anchor} so_far =
    sym (ap (answers_text anchor (so_far.choices [])) (sym (append-nil so_far.given)) ∙ so_far.answered [] []
    ∙ ap (λ x. so_far.text ++ x) (no_lines [] (left_by so_far.past)) ∙ append-nil so_far.text)

-- WHERE A RUN ENDS

-- where nothing stands in two lists together, nothing stands in the second
second_empty : (first second : List ℕ) → first ++ second ≡ [] → second ≡ []
second_empty first second none = nil_from_length second (omega (arith, ap length none, length-append first second))

-- at the end of the input
pub answers_all : {anchor : ℕ} {Stands : Past → Type 0} {a : Intake} {left list before now : List ℕ} (rest waiting : List ℕ) → (so_far : SoFar anchor Stands a left list before now)
    → IsEnd a (a.waiting ++ left) (waiting ++ rest) → AnswersAll anchor list rest before now
answers_all {anchor} {Stands} {a} {left} {list} {before} {now} rest waiting so_far end = record {
  read = second_empty waiting rest end.still;
  wanting = so_far.choices [];
  written = so_far.written ∙ ap (λ x. before ++ x)
      (text_of so_far ∙ ap (answers_text anchor (so_far.choices [])) (sym (so_far.lines ∙ ap (λ x. so_far.given ++ lines_of x) end.nothing ∙ append-nil so_far.given)));
}

-- at a failure of the source
ended_at : (list given' : List ℕ) (given : List (List ℕ)) (ahead dropped waiting rest : List ℕ) → (g : Gone list given ahead)
    → lines_of list ≡ given ++ lines_of ahead → ahead ≡ dropped ++ (waiting ++ rest) → HasNoEnd (dropped ++ waiting)
    → ((more : List ℕ) → ended_lines (g.gone ++ more) ≡ given ++ ended_lines more) ⊎ (ahead ≡ [])
    → (given ≡ ended_lines (g.gone ++ (dropped ++ waiting))) ⊎ ((rest ≡ []) × (given ≡ lines_of (g.gone ++ (dropped ++ waiting))))
ended_at list _ given ahead dropped waiting rest g lines is none (inl ended) =
    inl (sym (ended (dropped ++ waiting) ∙ ap (λ (x : List (List ℕ)). given ++ x) (ended_lines-none (dropped ++ waiting) none) ∙ append-nil given))
ended_at list _ given ahead dropped waiting rest g lines is none (inr empty) =
    let all : dropped ++ (waiting ++ rest) ≡ [] = sym is ∙ empty in
    let size = ap length all in
    let no_rest : rest ≡ [] = nil_from_length rest (omega (arith, size, length-append dropped (waiting ++ rest), length-append waiting rest)) in
    let no_more : dropped ++ waiting ≡ [] = nil_from_length (dropped ++ waiting) (omega (arith, size, length-append dropped (waiting ++ rest), length-append waiting rest, length-append dropped waiting)) in
    let whole : g.gone ++ (dropped ++ waiting) ≡ list = ap (λ (x : List ℕ). g.gone ++ x) (no_more ∙ sym empty) ∙ sym g.stream in
    inr (no_rest, sym (ap lines_of whole ∙ lines ∙ ap (λ (x : List ℕ). given ++ lines_of x) empty ∙ append-nil given))

pub answers_read : {anchor : ℕ} {Stands : Past → Type 0} {a b : Intake} {left list before now : List ℕ} (rest : List ℕ) → (so_far : SoFar anchor Stands a left list before now)
    → StillAhead a b left rest → HasNoEnd b.waiting → AnswersRead anchor list rest before now
answers_read {anchor} {Stands} {a} {b} {left} {list} {before} {now} rest so_far still none =
    let free : HasNoEnd (still.dropped ++ b.waiting) = first_line-append still.dropped b.waiting still.no_end ∙ ap (λ (x : List ℕ). still.dropped ++ x) none in
    record {
      read = so_far.gone.gone ++ (still.dropped ++ b.waiting);
      all = so_far.gone.stream ∙ ap (λ (x : List ℕ). so_far.gone.gone ++ x) (still.ahead ∙ sym (append_assoc still.dropped b.waiting rest))
          ∙ sym (append_assoc so_far.gone.gone (still.dropped ++ b.waiting) rest);
      lines = so_far.given;
      ended = ended_at list [] so_far.given (a.waiting ++ left) still.dropped b.waiting rest so_far.gone so_far.lines still.ahead free so_far.gone.ended;
      wanting = so_far.choices [];
      written = so_far.written ∙ ap (λ x. before ++ x) (text_of so_far);
    }

-- at the limit of the input
within_gone : (list ahead : List ℕ) (given : List (List ℕ)) (n : ℕ) → (g : Gone list given ahead) → length g.gone + n ≡ INPUT_LIMIT → GoesPast n ahead
    → ((more : List ℕ) → ended_lines (g.gone ++ more) ≡ given ++ ended_lines more) ⊎ (ahead ≡ []) → given ≡ ended_lines (take INPUT_LIMIT list)
within_gone list ahead given n g width past (inl ended) =
    sym (ap (λ (k : ℕ). ended_lines (take k list)) (sym width) ∙ ap (λ (x : List ℕ). ended_lines (take (length g.gone + n) x)) g.stream
    ∙ ap ended_lines (take-append-add g.gone ahead n) ∙ ended (take n ahead)
    ∙ ap (λ (x : List (List ℕ)). given ++ x) (ended_lines-none (take n ahead) past.no_end) ∙ append-nil given)
within_gone list ahead given n g width past (inr empty) = absurd (omega (arith, past.more, ap length empty))

pub answers_within : {anchor : ℕ} {Stands : Past → Type 0} {a : Intake} {left list before now : List ℕ} → (so_far : SoFar anchor Stands a left list before now)
    → GoesPast (within_limit a) (a.waiting ++ left) → a.taken ≤ INPUT_LIMIT → length left + a.taken ≡ length list → AnswersWithin anchor list before now
answers_within {anchor} {Stands} {a} {left} {list} {before} {now} so_far past limit counted =
    let width : length so_far.gone.gone + within_limit a ≡ INPUT_LIMIT =
    omega (arith, ap length so_far.gone.stream, length-append so_far.gone.gone (a.waiting ++ left), length-append a.waiting left, counted, limit) in
    record {
      wanting = so_far.choices [];
      written = so_far.written ∙ ap (λ x. before ++ x) (text_of so_far ∙ ap (answers_text anchor (so_far.choices []))
          (within_gone list (a.waiting ++ left) so_far.given (within_limit a) so_far.gone width past so_far.gone.ended));
    }

-- what was written so far is a front of the whole text
pub front_of : {anchor : ℕ} {Stands : Past → Type 0} {a : Intake} {left list before now : List ℕ} → SoFar anchor Stands a left list before now → WritesFront anchor list before now
front_of {anchor} {Stands} {a} {left} {list} {before} {now} so_far =
    let rest : List ℕ = lines_text [] (left_by so_far.past) (lines_of (a.waiting ++ left)) in
    record {
      wanting = so_far.choices [];
      unwritten = rest;
      front = ap (λ x. x ++ rest) so_far.written ∙ append_assoc before so_far.text rest
          ∙ ap (λ x. before ++ x) (sym (ap (answers_text anchor (so_far.choices [])) so_far.lines ∙ so_far.answered [] (lines_of (a.waiting ++ left))));
    }

front_and_rest : (now text rest : List ℕ) (n : ℕ) → (now ++ take n text) ++ (drop n text ++ rest) ≡ (now ++ text) ++ rest
front_and_rest now text rest n =
    append_assoc now (take n text) (drop n text ++ rest)
    ∙ ap (λ x. now ++ x) (sym (append_assoc (take n text) (drop n text) rest) ∙ ap (λ x. x ++ rest) (take-append-drop n text))
    ∙ sym (append_assoc now text rest)

-- so it is where only a front of the next reply was written
pub front_of_reply : {anchor : ℕ} (Stands After : Past → Type 0) (a b : Intake) (left rest list before now then text : List ℕ) (n : ℕ) → (so_far : SoFar anchor Stands a left list before now)
    → AnswersNext After text a b (a.waiting ++ left) (b.waiting ++ rest) so_far.past → then ≡ now ++ take n text → WritesFront anchor list before then
front_of_reply {anchor} Stands After a b left rest list before now then text n so_far next is =
    let f : WritesFront anchor list before (now ++ text) = front_of (one_more Stands After a b left rest list before now (now ++ text) text so_far next refl) in
    record {
      wanting = f.wanting;
      unwritten = drop n text ++ f.unwritten;
      front = ap (λ x. x ++ (drop n text ++ f.unwritten)) is ∙ front_and_rest now text f.unwritten n ∙ f.front;
    }

-- nothing was written yet
pub front_of_nothing : (anchor : ℕ) (list before : List ℕ) → WritesFront anchor list before before
front_of_nothing anchor list before = record { wanting = []; unwritten = events_text anchor [] list; front = refl }
