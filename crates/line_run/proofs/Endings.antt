-- What was answered and written where a run ends.
use Rattle.std.proofs.Common.{◌≡◌, ◌≤◌, ℕ, ◌+◌, List, [], ◌∷◌, ◌++◌, Bool, true, false, length, take, drop, refl, sym, ap, subst, ◌∙◌, arith, inl, inr}
use Rattle.std.proofs.lemmas.List.{append_assoc, append-nil, take-append-drop, length-append, nil_from_length}
use Rattle.std.specs.Prelude.{Result, Ok, Err, is_err}
use Rattle.wire_line.specs.declared.line.TheConstants.{INPUT_LIMIT}
use Rattle.wire_line.specs.Calls.{TakesText}
use Rattle.wire_line.specs.Failures.{FailsByRise, Rose}
use Rattle.wire_line.specs.Intake.{Intake, IsEnd, StillAhead, GoesPast, within_limit}
use Rattle.wire_line.specs.Lines.{lines_of, ended_lines, first_line, HasNoEnd}
use Rattle.wire_line.proofs.FirstLine.{first_line-append}
use Rattle.line_run.specs.declared.answering.Answering as answering
use Rattle.line_run.specs.Turns.{AreAnswered, QuitsAt}
use Rattle.line_run.specs.Next.{AnswersNext}
use Rattle.line_run.specs.Runs.{AnswersAll, AnswersRead, AnswersToQuit, AnswersWithin, WritesFront}
use Rattle.line_run.proofs.Gone.{ended_at, within_gone}
use Rattle.line_run.proofs.SoFar.{SoFar, one_more, lines_behind, written_behind}

-- where nothing stands in two lists together, nothing stands in the second
second_empty : (first second : List ℕ) → first ++ second ≡ [] → second ≡ []
second_empty first second none = nil_from_length second (omega (arith, ap length none, length-append first second))

front_and_rest : (now text rest : List ℕ) (n : ℕ) → (now ++ take n text) ++ (drop n text ++ rest) ≡ (now ++ text) ++ rest
front_and_rest now text rest n =
    append_assoc now (take n text) (drop n text ++ rest)
    ∙ ap (λ x. now ++ x) (sym (append_assoc (take n text) (drop n text) rest) ∙ ap (λ x. x ++ rest) (take-append-drop n text))
    ∙ sym (append_assoc now text rest)

module _ {A : Type 0} (a : answering.Ghosts A) (first : A) where
  -- at the end of the input
  pub answers_all : {current after : A} {reader : Intake} {left list before now : List ℕ} (rest waiting : List ℕ) → after ≡ current → (so_far : SoFar a first current reader left list before now)
      → IsEnd reader (reader.waiting ++ left) (waiting ++ rest) → AnswersAll a first after list rest before now
  answers_all {current} {after} {reader} {left} {list} {before} {now} rest waiting same so_far end =
      let all : so_far.given ≡ lines_of list = sym (so_far.lines ∙ ap (λ (x : List ℕ). so_far.given ++ lines_of x) end.nothing ∙ append-nil so_far.given) in
      record {
        read = second_empty waiting rest end.still;
        writes = record {
          text = so_far.text;
          answered = rw same (subst (λ (x : List (List ℕ)). AreAnswered a.answers a.answers_long first x so_far.text current) all so_far.answered);
          written = so_far.written;
        };
      }

  -- at a failure of the source
  pub answers_read : {current after : A} {reader reader' : Intake} {left list before now : List ℕ} (rest : List ℕ) → after ≡ current → (so_far : SoFar a first current reader left list before now)
      → StillAhead reader reader' left rest → HasNoEnd reader'.waiting → AnswersRead a first after list rest before now
  answers_read {current} {after} {reader} {reader'} {left} {list} {before} {now} rest same so_far still none =
      let free : HasNoEnd (still.dropped ++ reader'.waiting) = first_line-append still.dropped reader'.waiting still.no_end ∙ ap (λ (x : List ℕ). still.dropped ++ x) none in
      record {
        read = so_far.gone.gone ++ (still.dropped ++ reader'.waiting);
        all = so_far.gone.stream ∙ ap (λ (x : List ℕ). so_far.gone.gone ++ x) (still.ahead ∙ sym (append_assoc still.dropped reader'.waiting rest))
            ∙ sym (append_assoc so_far.gone.gone (still.dropped ++ reader'.waiting) rest);
        lines = so_far.given;
        ended = ended_at list so_far.given (reader.waiting ++ left) still.dropped reader'.waiting rest so_far.gone so_far.lines still.ahead free so_far.gone.ended;
        writes = record { text = so_far.text; answered = rw same so_far.answered; written = so_far.written };
      }

  -- at the limit of the input
  pub answers_within : {current after : A} {reader : Intake} {left list before now : List ℕ} → after ≡ current → (so_far : SoFar a first current reader left list before now)
      → GoesPast (within_limit reader) (reader.waiting ++ left) → reader.taken ≤ INPUT_LIMIT → length left + reader.taken ≡ length list → AnswersWithin a first after list before now
  answers_within {current} {after} {reader} {left} {list} {before} {now} same so_far past limit counted =
      let width : length so_far.gone.gone + within_limit reader ≡ INPUT_LIMIT =
      omega (arith, ap length so_far.gone.stream, length-append so_far.gone.gone (reader.waiting ++ left), length-append reader.waiting left, counted, limit) in
      let all : so_far.given ≡ ended_lines (take INPUT_LIMIT list) =
      within_gone list (reader.waiting ++ left) so_far.given (within_limit reader) so_far.gone width past so_far.gone.ended in
      record {
        text = so_far.text;
        answered = rw same (subst (λ (x : List (List ℕ)). AreAnswered a.answers a.answers_long first x so_far.text current) all so_far.answered);
        written = so_far.written;
      }

  -- behind the reply to a line that ended the run
  quits_at : {current after : A} {reader reader' : Intake} {left list before now reply : List ℕ} (rest : List ℕ) → (so_far : SoFar a first current reader left list before now)
      → AnswersNext a current after true reply reader' (reader.waiting ++ left) (reader'.waiting ++ rest)
      → QuitsAt a.answers a.answers_long first (so_far.given ++ first_line (reader.waiting ++ left) ∷ []) (so_far.text ++ reply) after
  quits_at {current} {after} {reader} {reader'} {left} {list} {before} {now} {reply} rest so_far next = record {
    front = so_far.given;
    last = first_line (reader.waiting ++ left);
    all = refl;
    next = current;
    told = so_far.text;
    answered = so_far.answered;
    reply = reply;
    quits = next.turn;
    parts = refl;
  }

  pub answers_to_quit : {current after : A} {reader reader' : Intake} {left list before now then reply : List ℕ} (rest : List ℕ) → (so_far : SoFar a first current reader left list before now)
      → AnswersNext a current after true reply reader' (reader.waiting ++ left) (reader'.waiting ++ rest) → then ≡ now ++ reply → AnswersToQuit a first after list before then
  answers_to_quit {current} {after} {reader} {reader'} {left} {list} {before} {now} {then} {reply} rest so_far next is = record {
    lines = so_far.given ++ first_line (reader.waiting ++ left) ∷ [];
    unread = lines_of (reader'.waiting ++ rest);
    all = lines_behind list (reader.waiting ++ left) (reader'.waiting ++ rest) so_far.given so_far.lines next.there next.behind;
    text = so_far.text ++ reply;
    answered = quits_at rest so_far next;
    written = written_behind before now then so_far.text reply so_far.written is;
  }

  -- WHAT IS KNOWN AT EVERY ENDING

  -- what was written so far answers lines from the first one on
  pub front_of : {current : A} {reader : Intake} {left list before now : List ℕ} → SoFar a first current reader left list before now → WritesFront a first list before now
  front_of {current} {reader} {left} {list} {before} {now} so_far = record {
    lines = so_far.given;
    unread = lines_of (reader.waiting ++ left);
    all = so_far.lines;
    text = so_far.text;
    after = current;
    answered = inl so_far.answered;
    unwritten = [];
    front = append-nil now ∙ so_far.written;
  }

  -- so it does with the reply that ended the run
  pub front_of_quit : {after : A} {list before now : List ℕ} → AnswersToQuit a first after list before now → WritesFront a first list before now
  front_of_quit {after} {list} {before} {now} to_quit = record {
    lines = to_quit.lines;
    unread = to_quit.unread;
    all = to_quit.all;
    text = to_quit.text;
    after = after;
    answered = inr to_quit.answered;
    unwritten = [];
    front = append-nil now ∙ to_quit.written;
  }

  -- where only a front of the last reply was written
  front_less : {list before then : List ℕ} (now text : List ℕ) (n : ℕ) → WritesFront a first list before (now ++ text) → then ≡ now ++ take n text
      → WritesFront a first list before then
  front_less {list} {before} {then} now text n f is = record {
    lines = f.lines;
    unread = f.unread;
    all = f.all;
    text = f.text;
    after = f.after;
    answered = f.answered;
    unwritten = drop n text ++ f.unwritten;
    front = ap (λ x. x ++ (drop n text ++ f.unwritten)) is ∙ front_and_rest now text f.unwritten n ∙ f.front;
  }

  pub front_of_reply : {current after : A} {reader reader' : Intake} {left list before now then reply : List ℕ} (rest : List ℕ) (quits : Bool) (n : ℕ) → (so_far : SoFar a first current reader left list before now)
      → AnswersNext a current after quits reply reader' (reader.waiting ++ left) (reader'.waiting ++ rest) → then ≡ now ++ take n reply → WritesFront a first list before then
  front_of_reply {current} {after} {reader} {reader'} {left} {list} {before} {now} {then} {reply} rest false n so_far next is =
      front_less now reply n (front_of (one_more a first so_far next refl)) is
  front_of_reply {current} {after} {reader} {reader'} {left} {list} {before} {now} {then} {reply} rest true n so_far next is =
      front_less now reply n (front_of_quit (answers_to_quit rest so_far next refl)) is

  -- nothing was written yet
  pub front_of_nothing : (list before : List ℕ) → WritesFront a first list before before
  front_of_nothing list before = record {
    lines = [];
    unread = lines_of list;
    all = refl;
    text = [];
    after = first;
    answered = inl (refl, refl);
    unwritten = [];
    front = refl;
  }

-- WHAT WAS WRITTEN OF A REPLY

-- all of it, where no write failed
pub took_all : {E : Type 0} (result : Result Unit E) (text taken taken' : List ℕ) → is_err result ≡ false → TakesText result text taken taken' → taken' ≡ taken ++ text
took_all (Ok done) text taken taken' well takes = takes
took_all (Err why) text taken taken' well takes = cc

-- a front of it, where one failed
pub took_front : {E : Type 0} (result : Result Unit E) (text taken taken' : List ℕ) → is_err result ≡ true → TakesText result text taken taken' → (n : ℕ) × (taken' ≡ taken ++ take n text)
took_front (Ok done) text taken taken' failed takes = cc
took_front (Err why) text taken taken' failed takes = takes

-- and then the count of faults rose
pub rose_at : {E : Type 0} (result : Result Unit E) (before now : ℕ) → is_err result ≡ true → FailsByRise before now result → Rose before now
rose_at (Ok done) before now failed why = cc
rose_at (Err error) before now failed why = why.risen
