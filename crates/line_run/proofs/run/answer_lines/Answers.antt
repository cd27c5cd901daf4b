-- Each turn answers one more line.
use Rattle.std.proofs.Common.{◌≡◌, ◌++◌, ◌+◌, take, length, string_bytes, ap, sym, subst, ◌∙◌, arith}
use Rattle.std.specs.Prelude.{Err, Ok, Bool}
use Rattle.wire_line.specs.Calls.{WhereTaken}
use Rattle.wire_line.proofs.Told.{told_same, told_then, told_weaker, told_both, together_same, together_then}
use Rattle.line_run.specs.declared.ending.Ending.{Ending}
use Rattle.line_run.specs.Next.{Continues}
use Rattle.line_run.specs.Runs.{AnswersToQuit, IsEndingAfter}
use Rattle.line_run.proofs.SoFar.{SoFar, at_first, one_more}
use Rattle.line_run.proofs.Endings.{answers_all, answers_read, answers_to_quit, answers_within, front_of, front_of_nothing, front_of_quit, front_of_reply, rose_at, took_all, took_front}
use Rattle.line_run.proofs.run.answer_lines.Goals as goal

-- the run ended before its first turn
pub returns-in_default : goal.returns-in_default
returns-in_default g c = record {
  same_input = together_same (g.I.Source.came c.args.input.now) (g.I.Source.left c.args.input.now);
  done = λ e. cc;
  quit = λ e. cc;
  source = λ e. cc;
  ended = λ e. cc;
  sink = λ e. cc;
  limit = told_same (g.I.Source.left c.args.input.now) _ (λ left. omega arith);
  within = λ e. cc;
  front = told_same (g.I.Source.left c.args.input.now) _ (λ left. told_same (g.O.Sink.taken c.args.output.now) _ (λ taken. front_of_nothing g.A.Answering c.args.answering.now left taken));
}

pub loop-init : goal.loop-init
loop-init g c = record {
  bytes = told_same (g.I.Source.left c.args.input.now) _ (λ list. told_same (g.O.Sink.taken c.args.output.now) _
      (λ taken. at_first g.A.Answering c.args.answering.now c.in-Ok.lines list taken c.in-Ok.ensures.waiting c.in-Ok.ensures.passing));
  taken = told_same (g.I.Source.left c.args.input.now) _ (λ list. omega (arith, c.in-Ok.ensures.taken));
  same_input = together_same (g.I.Source.came c.args.input.now) (g.I.Source.left c.args.input.now);
  within = omega (arith, c.in-Ok.ensures.taken);
  source = omega arith;
  sink = omega arith;
}

-- no line was answered in the last turn
pub returns-in-Err : goal.returns-in-Err
returns-in-Err g c = record {
  same_input = together_then (g.I.Source.came c.args.input.now) (g.I.Source.left c.args.input.now) (g.I.Source.came c.loop.input) (g.I.Source.left c.loop.input) (g.I.Source.came c.answer_next.new.input) (g.I.Source.left c.answer_next.new.input) c.loop.invariant.same_input c.in-Err.ensures.reads.same_input;
  done = λ e. told_then (g.I.Source.left c.args.input.now) (g.I.Source.left c.loop.input) (g.I.Source.left c.answer_next.new.input) _ _ _ c.loop.invariant.bytes c.in-Err.ensures.turn
      (λ list left rest so_far turn. told_weaker (g.O.Sink.taken c.args.output.now) (g.O.Sink.taken c.loop.output) _ _ so_far
      (λ before now some. answers_all g.A.Answering c.args.answering.now rest c.answer_next.new.lines.waiting (c.in-Err.ensures.unasked (λ other. cc)) some (subst (λ (x : Ending). Continues g.A.Answering c.loop.answering c.answer_next.new.answering (Err x) (string_bytes c.answer_next.new.reply) c.loop.lines c.answer_next.new.lines left rest) e (turn some.at_start))));
  quit = λ e. absurd (c.in-Err.ensures.no_quit (ap Err e));
  source = λ e. let rose = c.in-Err.ensures.fault (ap Err e) in omega (arith, rose, c.loop.invariant.source);
  ended = λ e. told_then (g.I.Source.left c.args.input.now) (g.I.Source.left c.loop.input) (g.I.Source.left c.answer_next.new.input) _ _ _ c.loop.invariant.bytes c.in-Err.ensures.turn
      (λ list left rest so_far turn. told_weaker (g.O.Sink.taken c.args.output.now) (g.O.Sink.taken c.loop.output) _ _ so_far
      (λ before now some. let stopped = subst (λ (x : Ending). Continues g.A.Answering c.loop.answering c.answer_next.new.answering (Err x) (string_bytes c.answer_next.new.reply) c.loop.lines c.answer_next.new.lines left rest) e (turn some.at_start) in
      answers_read g.A.Answering c.args.answering.now rest (c.in-Err.ensures.unasked (λ other. cc)) some stopped.0 stopped.1));
  sink = λ e. absurd (c.in-Err.ensures.no_sink (ap Err e));
  limit = told_then (g.I.Source.left c.args.input.now) (g.I.Source.left c.loop.input) (g.I.Source.left c.answer_next.new.input) _ _ _ c.loop.invariant.taken c.in-Err.ensures.reads.counted
      (λ list left rest was now. subst (IsEndingAfter c.in-Err.ending) (omega (arith, was, now)) c.in-Err.ensures.limit);
  within = λ e. told_then (g.I.Source.left c.args.input.now) (g.I.Source.left c.loop.input) (g.I.Source.left c.answer_next.new.input) _ _ _ (told_both (g.I.Source.left c.args.input.now) (g.I.Source.left c.loop.input) _ _ (λ list left. WhereTaken g.O.Sink c.args.output.now c.loop.output (SoFar g.A.Answering c.args.answering.now c.loop.answering c.loop.lines left list) × (length left + c.loop.lines.taken ≡ length list)) c.loop.invariant.bytes c.loop.invariant.taken (λ list left so_far counted. (so_far, counted))) c.in-Err.ensures.turn
      (λ list left rest both turn. told_weaker (g.O.Sink.taken c.args.output.now) (g.O.Sink.taken c.loop.output) _ _ both.0
      (λ before now some. answers_within g.A.Answering c.args.answering.now (c.in-Err.ensures.unasked (λ other. cc)) some (subst (λ (x : Ending). Continues g.A.Answering c.loop.answering c.answer_next.new.answering (Err x) (string_bytes c.answer_next.new.reply) c.loop.lines c.answer_next.new.lines left rest) e (turn some.at_start) c.loop.invariant.within) c.loop.invariant.within both.1));
  front = told_then (g.I.Source.left c.args.input.now) (g.I.Source.left c.loop.input) (g.I.Source.left c.answer_next.new.input) _ _ _ c.loop.invariant.bytes c.in-Err.ensures.turn
      (λ list left rest so_far turn. told_weaker (g.O.Sink.taken c.args.output.now) (g.O.Sink.taken c.loop.output) _ _ so_far (λ before now some. front_of g.A.Answering c.args.answering.now some));
}

-- a reply wasn't written whole
pub returns-then-is_err : goal.returns-then-is_err
returns-then-is_err g c = record {
  same_input = together_then (g.I.Source.came c.args.input.now) (g.I.Source.left c.args.input.now) (g.I.Source.came c.loop.input) (g.I.Source.left c.loop.input) (g.I.Source.came c.answer_next.new.input) (g.I.Source.left c.answer_next.new.input) c.loop.invariant.same_input c.in-Ok-answer_next.ensures.reads.same_input;
  done = λ e. cc;
  quit = λ e. cc;
  source = λ e. cc;
  ended = λ e. cc;
  sink = λ e. let rose = rose_at c.write_whole.result _ _ (sym c.is_err.ensures.value ∙ c.if-is_err.true) c.write_whole.ensures.cause in omega (arith, rose, c.loop.invariant.sink);
  limit = told_then (g.I.Source.left c.args.input.now) (g.I.Source.left c.loop.input) (g.I.Source.left c.answer_next.new.input) _ _ _ c.loop.invariant.taken c.in-Ok-answer_next.ensures.reads.counted
      (λ list left rest was now. omega (arith, was, now, c.in-Ok-answer_next.ensures.limit));
  within = λ e. cc;
  front = told_then (g.I.Source.left c.args.input.now) (g.I.Source.left c.loop.input) (g.I.Source.left c.answer_next.new.input) _ _ _ c.loop.invariant.bytes c.in-Ok-answer_next.ensures.turn
      (λ list left rest so_far turn. told_then (g.O.Sink.taken c.args.output.now) (g.O.Sink.taken c.loop.output) (g.O.Sink.taken c.write_whole.new.output) _ _ _ so_far c.write_whole.ensures.bytes
      (λ before now then some wrote. let wrote' = took_front c.write_whole.result _ now then (sym c.is_err.ensures.value ∙ c.if-is_err.true) wrote in
      front_of_reply g.A.Answering c.args.answering.now rest c.in-Ok-answer_next.quits wrote'.0 some (turn some.at_start) (wrote'.1 ∙ ap (λ x. now ++ take wrote'.0 x) c.as_bytes.ensures.value)));
}

-- the run ends behind a reply
pub returns-then-quits : goal.returns-then-quits
returns-then-quits g c =
    let to_quit = told_then (g.I.Source.left c.args.input.now) (g.I.Source.left c.loop.input) (g.I.Source.left c.answer_next.new.input) _ _ (λ list left. WhereTaken g.O.Sink c.args.output.now c.write_whole.new.output (AnswersToQuit g.A.Answering c.args.answering.now c.answer_next.new.answering list)) c.loop.invariant.bytes c.in-Ok-answer_next.ensures.turn
    (λ list left rest so_far turn. told_then (g.O.Sink.taken c.args.output.now) (g.O.Sink.taken c.loop.output) (g.O.Sink.taken c.write_whole.new.output) _ _ _ so_far c.write_whole.ensures.bytes
    (λ before now then some wrote. answers_to_quit g.A.Answering c.args.answering.now rest some (subst (λ (x : Bool). Continues g.A.Answering c.loop.answering c.answer_next.new.answering (Ok x) (string_bytes c.answer_next.new.reply) c.loop.lines c.answer_next.new.lines left rest) c.if-quits.true (turn some.at_start))
    (took_all c.write_whole.result _ now then (sym c.is_err.ensures.value ∙ c.if-is_err.false) wrote ∙ ap (λ x. now ++ x) c.as_bytes.ensures.value))) in
    record {
      same_input = together_then (g.I.Source.came c.args.input.now) (g.I.Source.left c.args.input.now) (g.I.Source.came c.loop.input) (g.I.Source.left c.loop.input) (g.I.Source.came c.answer_next.new.input) (g.I.Source.left c.answer_next.new.input) c.loop.invariant.same_input c.in-Ok-answer_next.ensures.reads.same_input;
      done = λ e. cc;
      quit = λ e. to_quit;
      source = λ e. cc;
      ended = λ e. cc;
      sink = λ e. cc;
      limit = told_then (g.I.Source.left c.args.input.now) (g.I.Source.left c.loop.input) (g.I.Source.left c.answer_next.new.input) _ _ _ c.loop.invariant.taken c.in-Ok-answer_next.ensures.reads.counted
          (λ list left rest was now. omega (arith, was, now, c.in-Ok-answer_next.ensures.limit));
      within = λ e. cc;
      front = told_weaker (g.I.Source.left c.args.input.now) (g.I.Source.left c.answer_next.new.input) _ _ to_quit
          (λ list left wrote. told_weaker (g.O.Sink.taken c.args.output.now) (g.O.Sink.taken c.write_whole.new.output) _ _ wrote (λ before then all. front_of_quit g.A.Answering c.args.answering.now all));
    }

pub loop-preserved : goal.loop-preserved
loop-preserved g c = record {
  bytes = told_then (g.I.Source.left c.args.input.now) (g.I.Source.left c.loop.input) (g.I.Source.left c.answer_next.new.input) _ _ _ c.loop.invariant.bytes c.in-Ok-answer_next.ensures.turn
      (λ list left rest so_far turn. told_then (g.O.Sink.taken c.args.output.now) (g.O.Sink.taken c.loop.output) (g.O.Sink.taken c.write_whole.new.output) _ _ _ so_far c.write_whole.ensures.bytes
      (λ before now then some wrote. one_more g.A.Answering c.args.answering.now some (subst (λ (x : Bool). Continues g.A.Answering c.loop.answering c.answer_next.new.answering (Ok x) (string_bytes c.answer_next.new.reply) c.loop.lines c.answer_next.new.lines left rest) c.if-quits.false (turn some.at_start))
      (took_all c.write_whole.result _ now then (sym c.is_err.ensures.value ∙ c.if-is_err.false) wrote ∙ ap (λ x. now ++ x) c.as_bytes.ensures.value)));
  taken = told_then (g.I.Source.left c.args.input.now) (g.I.Source.left c.loop.input) (g.I.Source.left c.answer_next.new.input) _ _ _ c.loop.invariant.taken c.in-Ok-answer_next.ensures.reads.counted (λ list left rest was now. omega (arith, was, now));
  same_input = together_then (g.I.Source.came c.args.input.now) (g.I.Source.left c.args.input.now) (g.I.Source.came c.loop.input) (g.I.Source.left c.loop.input) (g.I.Source.came c.answer_next.new.input) (g.I.Source.left c.answer_next.new.input) c.loop.invariant.same_input c.in-Ok-answer_next.ensures.reads.same_input;
  within = c.in-Ok-answer_next.ensures.limit;
  source = omega (arith, c.loop.invariant.source, c.in-Ok-answer_next.ensures.reads.faults);
  sink = omega (arith, c.loop.invariant.sink, c.write_whole.ensures.cause.never_falls);
}

-- the turns were used up
pub returns : goal.returns
returns g c = record {
  same_input = c.loop.invariant.same_input;
  done = λ e. cc;
  quit = λ e. cc;
  source = λ e. cc;
  ended = λ e. cc;
  sink = λ e. cc;
  limit = told_weaker (g.I.Source.left c.args.input.now) (g.I.Source.left c.loop.input) _ _ c.loop.invariant.taken (λ list left counted. omega (arith, counted, c.loop.invariant.within));
  within = λ e. cc;
  front = told_weaker (g.I.Source.left c.args.input.now) (g.I.Source.left c.loop.input) _ _ c.loop.invariant.bytes
      (λ list left so_far. told_weaker (g.O.Sink.taken c.args.output.now) (g.O.Sink.taken c.loop.output) _ _ so_far (λ before now some. front_of g.A.Answering c.args.answering.now some));
}
