-- A desk's lines are answered as a script's.
use Rattle.script_run.proofs.Endings.{script_run}
use Rattle.script_run.proofs.script.answer_all.Goals as goal

pub returns : goal.returns
returns g c = record {
  run = λ anchor begins. script_run (λ s. s.desk) (record { desk = c.args.desk }) c.answer_lines-ending.new.answering anchor begins c.end.ensures
      g.I.Source g.O.Sink c.args.input.now c.answer_lines-ending.new.input c.args.output.now c.answer_lines-ending.new.output c.answer_lines-ending.result c.answer_lines-ending.ensures;
}
