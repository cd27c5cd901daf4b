-- What a script's run comes to at each of its endings.
use Rattle.std.proofs.Common.{◌≡◌, ℕ, ◌-◌, ◌⊎◌, List, [], length, refl, arith, lit<, inl, inr, take}
use Rattle.std.specs.Prelude.{Contains}
use Rattle.wire_line.specs.declared.source.Source as source
use Rattle.wire_line.specs.declared.sink.Sink as sink
use Rattle.wire_line.specs.declared.line.TheConstants.{INPUT_LIMIT}
use Rattle.wire_line.specs.Calls.{WhereLeft, WhereTaken}
use Rattle.wire_line.specs.Lines.{ended_lines, lines_of}
use Rattle.wire_line.proofs.Told.{told_same, told_weaker, together_same}
use Rattle.line_run.specs.declared.answering.Answering as answering
use Rattle.line_run.specs.declared.ending.Ending.{Ending}
use Rattle.line_run.specs.declared.ending.Ending.TheVariants.{Done, Quit, SourceFault, SinkFault, NoMemory, Limit}
use Rattle.line_run.specs.Runs as run
use Rattle.line_run.specs.Turns.{AreAnswered, QuitsAt}
use Rattle.script_desk.specs.Script.{Past}
use Rattle.script_desk.specs.Stands.{DeskParts, IsEnded, Stands}
use Rattle.script_run.specs.Runs.{AnswersAll, AnswersRead, AnswersToQuit, AnswersWithin, IsStatusAfter, ScriptRun, Writes, WritesFront, before, run_statuses}
use Rattle.script_run.proofs.Pasts.{answers, answers_long, lines_of_past, quits_of_past}

-- ---- statuses

status_after : (ending : Ending) (taken : ℕ) → run.IsEndingAfter ending taken → IsStatusAfter (run.status_of ending) taken
status_after Done taken after = record { only = λ seven. omega (arith, seven); always = λ more. omega (arith, after, more) }
status_after Quit taken after = record { only = λ seven. omega (arith, seven); always = λ more. omega (arith, after, more) }
status_after SourceFault taken after = record { only = λ seven. omega (arith, seven); always = λ more. omega (arith, after, more) }
status_after SinkFault taken after = record { only = λ seven. omega (arith, seven); always = λ more. omega (arith, after, more) }
status_after NoMemory taken after = record { only = λ seven. omega (arith, seven); always = λ more. omega (arith, after, more) }
status_after Limit taken after = record { only = λ seven. after; always = λ more. refl }

is_status : (ending : Ending) → Contains run_statuses (run.status_of ending)
is_status Done = (0, lit< tt, refl)
is_status Quit = (0, lit< tt, refl)
is_status SourceFault = (1, lit< tt, refl)
is_status SinkFault = (2, lit< tt, refl)
is_status NoMemory = (3, lit< tt, refl)
is_status Limit = (4, lit< tt, refl)

is_done : (ending : Ending) → run.status_of ending ≡ 0 → (ending ≡ Done) ⊎ (ending ≡ Quit)
is_done Done status = inl refl
is_done Quit status = inr refl
is_done SourceFault status = absurd (omega (arith, status))
is_done SinkFault status = absurd (omega (arith, status))
is_done NoMemory status = absurd (omega (arith, status))
is_done Limit status = absurd (omega (arith, status))

is_source : (ending : Ending) → run.status_of ending ≡ 3 → ending ≡ SourceFault
is_source SourceFault status = refl
is_source Done status = absurd (omega (arith, status))
is_source Quit status = absurd (omega (arith, status))
is_source SinkFault status = absurd (omega (arith, status))
is_source NoMemory status = absurd (omega (arith, status))
is_source Limit status = absurd (omega (arith, status))

is_sink : (ending : Ending) → run.status_of ending ≡ 4 → ending ≡ SinkFault
is_sink SinkFault status = refl
is_sink Done status = absurd (omega (arith, status))
is_sink Quit status = absurd (omega (arith, status))
is_sink SourceFault status = absurd (omega (arith, status))
is_sink NoMemory status = absurd (omega (arith, status))
is_sink Limit status = absurd (omega (arith, status))

is_limit : (ending : Ending) → run.status_of ending ≡ 7 → ending ≡ Limit
is_limit Limit status = refl
is_limit Done status = absurd (omega (arith, status))
is_limit Quit status = absurd (omega (arith, status))
is_limit SourceFault status = absurd (omega (arith, status))
is_limit SinkFault status = absurd (omega (arith, status))
is_limit NoMemory status = absurd (omega (arith, status))

-- ---- from the run of a desk to the script

module _ {A : Type 0} (desk : A → DeskParts) where
  abbrev pub of_desk : answering.Ghosts A
  of_desk = record { answers = answers desk; answers_long = answers_long desk }

  module _ (first after : A) (anchor : ℕ) (begins : Stands (desk first) (before anchor)) (ends : (past : Past) → Stands (desk after) past → IsEnded past) where
    writes : (lines : List (List ℕ)) (taken taken' : List ℕ) → run.Writes of_desk first after lines taken taken' → Writes anchor lines taken taken'
    writes lines taken taken' w =
        let all = lines_of_past desk first after lines w.text (before anchor) w.answered begins in
        record { text = w.text; after = all.past'; answered = all.answered; ended = ends all.past' all.stood; written = w.written }

    answers_all : (left left' taken taken' : List ℕ) → run.AnswersAll of_desk first after left left' taken taken' → AnswersAll anchor left left' taken taken'
    answers_all left left' taken taken' w = record { read = w.read; writes = writes (lines_of left) taken taken' w.writes }

    answers_read : (left left' taken taken' : List ℕ) → run.AnswersRead of_desk first after left left' taken taken' → AnswersRead anchor left left' taken taken'
    answers_read left left' taken taken' w =
        record { read = w.read; all = w.all; lines = w.lines; ended = w.ended; writes = writes w.lines taken taken' w.writes }

    answers_to_quit : (left taken taken' : List ℕ) → run.AnswersToQuit of_desk first after left taken taken' → AnswersToQuit anchor left taken taken'
    answers_to_quit left taken taken' w =
        let all = quits_of_past desk first after w.lines w.text (before anchor) w.answered begins in
        record {
          lines = w.lines;
          unread = w.unread;
          all = w.all;
          text = w.text;
          after = all.past';
          answered = all.quits;
          ended = ends all.past' all.stood;
          written = w.written;
        }

    front_to : (left taken taken' : List ℕ) → (w : run.WritesFront of_desk first left taken taken')
        → AreAnswered (answers desk) (answers_long desk) first w.lines w.text w.after ⊎ QuitsAt (answers desk) (answers_long desk) first w.lines w.text w.after → WritesFront anchor left taken taken'
    front_to left taken taken' w (inl answered) =
        let all = lines_of_past desk first w.after w.lines w.text (before anchor) answered begins in
        record { lines = w.lines; unread = w.unread; all = w.all; text = w.text; after = all.past'; answered = inl all.answered; unwritten = w.unwritten; front = w.front }
    front_to left taken taken' w (inr quits) =
        let all = quits_of_past desk first w.after w.lines w.text (before anchor) quits begins in
        record { lines = w.lines; unread = w.unread; all = w.all; text = w.text; after = all.past'; answered = inr all.quits; unwritten = w.unwritten; front = w.front }

    module _ {I O : Type 0} (g : source.Ghosts I) (h : sink.Ghosts O) (input input' : I) (output output' : O) (ending : Ending)
        (r : run.Run of_desk first after g h input input' output output' ending) where
      abbrev ToldOf : (List ℕ → List ℕ → List ℕ → List ℕ → Type 0) → Type 0
      ToldOf P = WhereLeft g input input' (λ left left'. WhereTaken h output output' (P left left'))

      weaker : (P Q : List ℕ → List ℕ → List ℕ → List ℕ → Type 0) → ToldOf P → ((left left' taken taken' : List ℕ) → P left left' taken taken' → Q left left' taken taken') → ToldOf Q
      weaker P Q has each = told_weaker (g.left input) (g.left input') _ _ has
          (λ left left' x. told_weaker (h.taken output) (h.taken output') (P left left') (Q left left') x (each left left'))

      abbrev Answered : List ℕ → List ℕ → List ℕ → List ℕ → Type 0
      Answered left left' taken taken' = AnswersAll anchor left left' taken taken' ⊎ AnswersToQuit anchor left taken taken'

      done : (ending ≡ Done) ⊎ (ending ≡ Quit) → ToldOf Answered
      done (inl is) = weaker (run.AnswersAll of_desk first after) Answered (r.done is) (λ left left' taken taken' w. inl (answers_all left left' taken taken' w))
      done (inr is) = weaker (λ left left'. run.AnswersToQuit of_desk first after left) Answered (r.quit is) (λ left left' taken taken' w. inr (answers_to_quit left taken taken' w))

      pub script_run : ScriptRun anchor g h input input' output output' (run.status_of ending)
      script_run = record {
        statuses = is_status ending;
        same_input = r.same_input;
        done = λ status. done (is_done ending status);
        source = λ status. r.source (is_source ending status);
        ended = λ status. weaker (run.AnswersRead of_desk first after) (AnswersRead anchor) (r.ended (is_source ending status)) answers_read;
        sink = λ status. r.sink (is_sink ending status);
        limit = told_weaker (g.left input) (g.left input') _ _ r.limit (λ left left' at. status_after ending (length left - length left') at);
        within = λ status. weaker (λ left left'. run.AnswersWithin of_desk first after left) (λ left left'. AnswersWithin anchor left) (r.within (is_limit ending status))
            (λ left left' taken taken' w. writes (ended_lines (take INPUT_LIMIT left)) taken taken' w);
        front = weaker (λ left left'. run.WritesFront of_desk first left) (λ left left'. WritesFront anchor left) r.front
            (λ left left' taken taken' w. front_to left taken taken' w w.answered);
      }

-- no memory was there to begin
pub not_begun : {I O : Type 0} (anchor : ℕ) (g : source.Ghosts I) (h : sink.Ghosts O) (input : I) (output : O) → ScriptRun anchor g h input input output output 5
not_begun anchor g h input output = record {
  statuses = (3, lit< tt, refl);
  same_input = together_same (g.came input) (g.left input);
  done = λ status. absurd (omega (arith, status));
  source = λ status. absurd (omega (arith, status));
  ended = λ status. absurd (omega (arith, status));
  sink = λ status. absurd (omega (arith, status));
  limit = told_same (g.left input) _ (λ left. record { only = λ seven. omega (arith, seven); always = λ more. omega (arith, more) });
  within = λ status. absurd (omega (arith, status));
  front = told_same (g.left input) _ (λ left. told_same (h.taken output) _ (λ taken. record {
    lines = [];
    unread = lines_of left;
    all = refl;
    text = [];
    after = before anchor;
    answered = inl (refl, refl);
    unwritten = [];
    front = refl;
  }));
}
