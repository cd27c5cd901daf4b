-- A run's record, from what is known at its ending.
use Rattle.std.proofs.Common.{◌≡◌, ℕ, ◌-◌, length, refl, arith, lit<}
use Rattle.std.specs.Prelude.{Contains}
use Rattle.wire_line.specs.declared.source.Source as source
use Rattle.wire_line.specs.declared.sink.Sink as sink
use Rattle.wire_line.specs.Calls.{WhereLeft, WhereTaken, SameInput, SourceRose, SinkRose}
use Rattle.wire_line.proofs.Told.{told_weaker}
use Rattle.graph_shell.specs.declared.run.Ending.{Ending}
use Rattle.graph_shell.specs.declared.run.Ending.TheVariants.{Done, SourceFault, SinkFault, NoMemory, Limit}
use Rattle.graph_shell.specs.Runs.{AnswersAll, AnswersRead, AnswersWithin, IsEndingAfter, IsStatusAfter, Run, WritesFront, run_statuses, status_of}

status_after : (ending : Ending) (taken : ℕ) → IsEndingAfter ending taken → IsStatusAfter (status_of ending) taken
status_after Done taken after = record { only = λ seven. omega (arith, seven); always = λ more. omega (arith, after, more) }
status_after SourceFault taken after = record { only = λ seven. omega (arith, seven); always = λ more. omega (arith, after, more) }
status_after SinkFault taken after = record { only = λ seven. omega (arith, seven); always = λ more. omega (arith, after, more) }
status_after NoMemory taken after = record { only = λ seven. omega (arith, seven); always = λ more. omega (arith, after, more) }
status_after Limit taken after = record { only = λ seven. after; always = λ more. refl }

is_status : (ending : Ending) → Contains run_statuses (status_of ending)
is_status Done = (0, lit< tt, refl)
is_status SourceFault = (1, lit< tt, refl)
is_status SinkFault = (2, lit< tt, refl)
is_status NoMemory = (3, lit< tt, refl)
is_status Limit = (4, lit< tt, refl)

is_done : (ending : Ending) → status_of ending ≡ 0 → ending ≡ Done
is_done Done status = refl
is_done SourceFault status = absurd (omega (arith, status))
is_done SinkFault status = absurd (omega (arith, status))
is_done NoMemory status = absurd (omega (arith, status))
is_done Limit status = absurd (omega (arith, status))

is_source : (ending : Ending) → status_of ending ≡ 3 → ending ≡ SourceFault
is_source SourceFault status = refl
is_source Done status = absurd (omega (arith, status))
is_source SinkFault status = absurd (omega (arith, status))
is_source NoMemory status = absurd (omega (arith, status))
is_source Limit status = absurd (omega (arith, status))

is_sink : (ending : Ending) → status_of ending ≡ 4 → ending ≡ SinkFault
is_sink SinkFault status = refl
is_sink Done status = absurd (omega (arith, status))
is_sink SourceFault status = absurd (omega (arith, status))
is_sink NoMemory status = absurd (omega (arith, status))
is_sink Limit status = absurd (omega (arith, status))

is_limit : (ending : Ending) → status_of ending ≡ 7 → ending ≡ Limit
is_limit Limit status = refl
is_limit Done status = absurd (omega (arith, status))
is_limit SourceFault status = absurd (omega (arith, status))
is_limit SinkFault status = absurd (omega (arith, status))
is_limit NoMemory status = absurd (omega (arith, status))

-- what is known of a run at its ending
pub record Ends {I O : Type 0} (anchor : ℕ) (g : source.Ghosts I) (h : sink.Ghosts O) (input input' : I) (output output' : O) (ending : Ending) : Type 0 where
  pub same_input : SameInput g input input'
  pub done : ending ≡ Done → WhereLeft g input input' (λ left left'. WhereTaken h output output' (AnswersAll anchor left left'))
  pub source : ending ≡ SourceFault → SourceRose g input input'
  pub ended : ending ≡ SourceFault → WhereLeft g input input' (λ left left'. WhereTaken h output output' (AnswersRead anchor left left'))
  pub sink : ending ≡ SinkFault → SinkRose h output output'
  pub limit : WhereLeft g input input' (λ left left'. IsEndingAfter ending (length left - length left'))
  pub within : ending ≡ Limit → WhereLeft g input input' (λ left left'. WhereTaken h output output' (AnswersWithin anchor left))
  pub front : WhereLeft g input input' (λ left left'. WhereTaken h output output' (WritesFront anchor left))

pub run_ends : {I O : Type 0} (anchor : ℕ) (g : source.Ghosts I) (h : sink.Ghosts O) (input input' : I) (output output' : O) (ending : Ending)
    → Ends anchor g h input input' output output' ending → Run anchor g h input input' output output' (status_of ending)
run_ends anchor g h input input' output output' ending ends = record {
  statuses = is_status ending;
  same_input = ends.same_input;
  done = λ status. ends.done (is_done ending status);
  source = λ status. ends.source (is_source ending status);
  ended = λ status. ends.ended (is_source ending status);
  sink = λ status. ends.sink (is_sink ending status);
  limit = told_weaker (g.left input) (g.left input') _ _ ends.limit (λ left left' after. status_after ending (length left - length left') after);
  within = λ status. ends.within (is_limit ending status);
  front = ends.front;
}
