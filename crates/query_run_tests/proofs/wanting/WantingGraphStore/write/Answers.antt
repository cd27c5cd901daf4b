use Rattle.std.proofs.Common.{rules, ◌≡◌, Ok, sym, subst}
use Rattle.world_model.specs.declared.answer.Wrote.TheVariants.{Unchanged}
use Rattle.world_model.specs.declared.event.Event.TheVariants as event
use Rattle.world_model.specs.History.{no_memory}
use Rattle.world_model.specs.Sending.{written}
use Rattle.query_run_tests.proofs.Passed.{SoloSends, passed, told_otherwise}
use Rattle.query_run_tests.proofs.wanting.WantingGraphStore.write.Goals as goal
use Rattle.query_run_tests.proofs.wanting.WantingGraphStore.write.Goals.{in-Ok-Unchanged, in_default, in_default-2}

-- the store that is owned told that nothing changed
pub returns-then-wants-clause-sends : goal.returns-then-wants-clause-sends
returns-then-wants-clause-sends c = elim c.match-matches.branch [
  | in-Ok-Unchanged w ↦
      let ask = c.args.ask in
      let old = c.args.self.now.solo in
      let new = c.write-told.new.self in
      let told : c.write-told.result ≡ Ok Unchanged = search rules in
      let quiet = told_otherwise ask old new (subst (λ r. SoloSends (event.Write ask) (written r) old new) told c.write-told.ensures.sends) in
      passed (event.Write ask) no_memory c.args.self.now c.wants.new.self (subst (SoloSends (event.Write ask) no_memory old) (sym c.wants.ensures) quiet)
  | in_default w ↦ search rules
  | in_default-2 w ↦ search rules
]
