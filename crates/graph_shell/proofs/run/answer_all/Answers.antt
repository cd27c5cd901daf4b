-- Each turn answers one more line.
use Rattle.std.proofs.Common.{◌≡◌, ◌++◌, ◌+◌, take, length, string_bytes, ap, subst, ◌∙◌, arith}
use Rattle.std.specs.Prelude.{Err}
use Rattle.wire_line.specs.Calls.{WhereTaken}
use Rattle.wire_line.proofs.Told.{told_same, told_then, told_weaker, told_both, together_same, together_then}
use Rattle.graph_shell.specs.Stands.{Stands}
use Rattle.graph_shell.specs.declared.run.Ending.{Ending}
use Rattle.graph_shell.specs.declared.run.Ending.TheVariants.{SinkFault, NoMemory}
use Rattle.graph_shell.specs.Runs.{Continues, IsEndingAfter}
use Rattle.graph_shell.proofs.Endings.{run_ends}
use Rattle.graph_shell.proofs.SoFar.{SoFar, at_first, one_more, answers_all, answers_read, answers_within, front_of, front_of_nothing, front_of_reply}
use Rattle.graph_shell.proofs.run.answer_all.Goals as goal

-- the run ended before its first turn
pub returns-in_default : goal.returns-in_default
returns-in_default g c = record {
  run = run_ends c.args.anchor g.I.Source g.O.Sink c.args.input.now c.args.input.now c.args.output.now c.args.output.now NoMemory (record {
    same_input = together_same (g.I.Source.came c.args.input.now) (g.I.Source.left c.args.input.now);
    done = λ e. cc;
    source = λ e. cc;
    ended = λ e. cc;
    sink = λ e. cc;
    limit = told_same (g.I.Source.left c.args.input.now) _ (λ left. omega arith);
    within = λ e. cc;
    front = told_same (g.I.Source.left c.args.input.now) _ (λ left. told_same (g.O.Sink.taken c.args.output.now) _ (λ taken. front_of_nothing c.args.anchor left taken));
  });
}

pub loop-init : goal.loop-init
loop-init g c = record {
  bytes = told_same (g.I.Source.left c.args.input.now) _ (λ list. told_same (g.O.Sink.taken c.args.output.now) _
      (λ taken. at_first c.args.anchor (Stands c.in-Ok-Ok.shell) c.in-Ok-Ok.lines list taken c.in-Ok-Ok.ensures c.in-Ok-Ok.ensures'.waiting c.in-Ok-Ok.ensures'.passing));
  taken = told_same (g.I.Source.left c.args.input.now) _ (λ list. omega (arith, c.in-Ok-Ok.ensures'.taken));
  same_input = together_same (g.I.Source.came c.args.input.now) (g.I.Source.left c.args.input.now);
  within = omega (arith, c.in-Ok-Ok.ensures'.taken);
  source = omega arith;
  sink = omega arith;
}

-- no line was answered in the last turn
pub returns-in-Err : goal.returns-in-Err
returns-in-Err g c = record {
  run = run_ends c.args.anchor g.I.Source g.O.Sink c.args.input.now c.answer_next.new.input c.args.output.now c.loop.output c.in-Err.ending (record {
    same_input = together_then (g.I.Source.came c.args.input.now) (g.I.Source.left c.args.input.now) (g.I.Source.came c.loop.input) (g.I.Source.left c.loop.input) (g.I.Source.came c.answer_next.new.input) (g.I.Source.left c.answer_next.new.input) c.loop.invariant.same_input c.in-Err.ensures.reads.same_input;
    done = λ e. told_then (g.I.Source.left c.args.input.now) (g.I.Source.left c.loop.input) (g.I.Source.left c.answer_next.new.input) _ _ _ c.loop.invariant.bytes c.in-Err.ensures.turn
        (λ list left rest so_far turn. told_weaker (g.O.Sink.taken c.args.output.now) (g.O.Sink.taken c.loop.output) _ _ so_far
        (λ before now some. answers_all rest c.answer_next.new.lines.waiting some
        (subst (λ (x : Ending). Continues (Err x) (Stands c.answer_next.new.shell) (string_bytes c.answer_next.new.reply) c.loop.lines c.answer_next.new.lines left rest some.past) e (turn some.past some.stands some.at_start))));
    source = λ e. let rose = c.in-Err.ensures.fault (ap Err e) in omega (arith, rose, c.loop.invariant.source);
    ended = λ e. told_then (g.I.Source.left c.args.input.now) (g.I.Source.left c.loop.input) (g.I.Source.left c.answer_next.new.input) _ _ _ c.loop.invariant.bytes c.in-Err.ensures.turn
        (λ list left rest so_far turn. told_weaker (g.O.Sink.taken c.args.output.now) (g.O.Sink.taken c.loop.output) _ _ so_far
        (λ before now some. let stopped = subst (λ (x : Ending). Continues (Err x) (Stands c.answer_next.new.shell) (string_bytes c.answer_next.new.reply) c.loop.lines c.answer_next.new.lines left rest some.past) e (turn some.past some.stands some.at_start) in
        answers_read rest some stopped.0 stopped.1));
    sink = λ e. absurd (c.in-Err.ensures.no_sink (ap Err e));
    limit = told_then (g.I.Source.left c.args.input.now) (g.I.Source.left c.loop.input) (g.I.Source.left c.answer_next.new.input) _ _ _ c.loop.invariant.taken c.in-Err.ensures.reads.counted
        (λ list left rest was now. subst (IsEndingAfter c.in-Err.ending) (omega (arith, was, now)) c.in-Err.ensures.limit);
    within = λ e. told_then (g.I.Source.left c.args.input.now) (g.I.Source.left c.loop.input) (g.I.Source.left c.answer_next.new.input) _ _ _ (told_both (g.I.Source.left c.args.input.now) (g.I.Source.left c.loop.input) _ _ (λ list left. WhereTaken g.O.Sink c.args.output.now c.loop.output (SoFar c.args.anchor (Stands c.loop.shell) c.loop.lines left list) × (length left + c.loop.lines.taken ≡ length list)) c.loop.invariant.bytes c.loop.invariant.taken (λ list left so_far counted. (so_far, counted))) c.in-Err.ensures.turn
        (λ list left rest both turn. told_weaker (g.O.Sink.taken c.args.output.now) (g.O.Sink.taken c.loop.output) _ _ both.0
        (λ before now some. answers_within some (subst (λ (x : Ending). Continues (Err x) (Stands c.answer_next.new.shell) (string_bytes c.answer_next.new.reply) c.loop.lines c.answer_next.new.lines left rest some.past) e (turn some.past some.stands some.at_start) c.loop.invariant.within) c.loop.invariant.within both.1));
    front = told_then (g.I.Source.left c.args.input.now) (g.I.Source.left c.loop.input) (g.I.Source.left c.answer_next.new.input) _ _ _ c.loop.invariant.bytes c.in-Err.ensures.turn
        (λ list left rest so_far turn. told_weaker (g.O.Sink.taken c.args.output.now) (g.O.Sink.taken c.loop.output) _ _ so_far (λ before now some. front_of some));
  });
}

-- a reply wasn't written whole
pub returns-in-Err-write_whole : goal.returns-in-Err-write_whole
returns-in-Err-write_whole g c = record {
  run = run_ends c.args.anchor g.I.Source g.O.Sink c.args.input.now c.answer_next.new.input c.args.output.now c.write_whole.new.output SinkFault (record {
    same_input = together_then (g.I.Source.came c.args.input.now) (g.I.Source.left c.args.input.now) (g.I.Source.came c.loop.input) (g.I.Source.left c.loop.input) (g.I.Source.came c.answer_next.new.input) (g.I.Source.left c.answer_next.new.input) c.loop.invariant.same_input c.in_default-answer_next.ensures.reads.same_input;
    done = λ e. cc;
    source = λ e. cc;
    ended = λ e. cc;
    sink = λ e. let rose = c.in-Err-write_whole.ensures.cause.risen in omega (arith, rose, c.loop.invariant.sink);
    limit = told_then (g.I.Source.left c.args.input.now) (g.I.Source.left c.loop.input) (g.I.Source.left c.answer_next.new.input) _ _ _ c.loop.invariant.taken c.in_default-answer_next.ensures.reads.counted
        (λ list left rest was now. omega (arith, was, now, c.in_default-answer_next.ensures.limit));
    within = λ e. cc;
    front = told_then (g.I.Source.left c.args.input.now) (g.I.Source.left c.loop.input) (g.I.Source.left c.answer_next.new.input) _ _ _ c.loop.invariant.bytes c.in_default-answer_next.ensures.turn
        (λ list left rest so_far turn. told_then (g.O.Sink.taken c.args.output.now) (g.O.Sink.taken c.loop.output) (g.O.Sink.taken c.write_whole.new.output) _ _ _ so_far c.in-Err-write_whole.ensures.bytes
        (λ before now then some wrote. front_of_reply (Stands c.loop.shell) (Stands c.answer_next.new.shell) c.loop.lines c.answer_next.new.lines left rest list before now then
        (string_bytes c.answer_next.new.reply) wrote.0 some (turn some.past some.stands some.at_start) (wrote.1 ∙ ap (λ x. now ++ take wrote.0 x) c.as_bytes.ensures.value)));
  });
}

pub loop-preserved : goal.loop-preserved
loop-preserved g c = record {
  bytes = told_then (g.I.Source.left c.args.input.now) (g.I.Source.left c.loop.input) (g.I.Source.left c.answer_next.new.input) _ _ _ c.loop.invariant.bytes c.in_default-answer_next.ensures.turn
      (λ list left rest so_far turn. told_then (g.O.Sink.taken c.args.output.now) (g.O.Sink.taken c.loop.output) (g.O.Sink.taken c.write_whole.new.output) _ _ _ so_far c.in-Ok.ensures.bytes
      (λ before now then some wrote. one_more (Stands c.loop.shell) (Stands c.answer_next.new.shell) c.loop.lines c.answer_next.new.lines left rest list before now then
      (string_bytes c.answer_next.new.reply) some (turn some.past some.stands some.at_start) (wrote ∙ ap (λ x. now ++ x) c.as_bytes.ensures.value)));
  taken = told_then (g.I.Source.left c.args.input.now) (g.I.Source.left c.loop.input) (g.I.Source.left c.answer_next.new.input) _ _ _ c.loop.invariant.taken c.in_default-answer_next.ensures.reads.counted (λ list left rest was now. omega (arith, was, now));
  same_input = together_then (g.I.Source.came c.args.input.now) (g.I.Source.left c.args.input.now) (g.I.Source.came c.loop.input) (g.I.Source.left c.loop.input) (g.I.Source.came c.answer_next.new.input) (g.I.Source.left c.answer_next.new.input) c.loop.invariant.same_input c.in_default-answer_next.ensures.reads.same_input;
  within = c.in_default-answer_next.ensures.limit;
  source = omega (arith, c.loop.invariant.source, c.in_default-answer_next.ensures.reads.faults);
  sink = omega (arith, c.loop.invariant.sink, c.in-Ok.ensures.cause.never_falls);
}

-- the turns were used up
pub returns : goal.returns
returns g c = record {
  run = run_ends c.args.anchor g.I.Source g.O.Sink c.args.input.now c.loop.input c.args.output.now c.loop.output NoMemory (record {
    same_input = c.loop.invariant.same_input;
    done = λ e. cc;
    source = λ e. cc;
    ended = λ e. cc;
    sink = λ e. cc;
    limit = told_weaker (g.I.Source.left c.args.input.now) (g.I.Source.left c.loop.input) _ _ c.loop.invariant.taken (λ list left counted. omega (arith, counted, c.loop.invariant.within));
    within = λ e. cc;
    front = told_weaker (g.I.Source.left c.args.input.now) (g.I.Source.left c.loop.input) _ _ c.loop.invariant.bytes
        (λ list left so_far. told_weaker (g.O.Sink.taken c.args.output.now) (g.O.Sink.taken c.loop.output) _ _ so_far (λ before now some. front_of some));
  });
}
