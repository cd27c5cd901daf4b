use Rattle.std.proofs.Common.{◌≡◌, ◌≤◌, ◌+◌, List, Some, refl, sym, ap, subst, ◌∙◌, arith}
use Rattle.std.specs.Prelude.{IsTrue}
use Rattle.graph_value.specs.declared.id.Oid.{Oid}
use Rattle.undo_delta.specs.Change.{is_possible}
use Rattle.undo_delta.specs.Touch.{touches}
use Rattle.world_model.specs.Counts.{deltas_left}
use Rattle.front_core.specs.Books.{Counted, Noted}
use Rattle.front_core.specs.Histories.{Unchanged}
use Rattle.front_core.specs.Objects.{Grown}
use Rattle.front_core.specs.Rows.{ObjectRow}
use Rattle.front_core.specs.declared.histories.Histories.{Histories}
use Rattle.front_core.specs.declared.objects.Objects.{Objects}
use Rattle.front_core.specs.declared.tally.Tally.{Tally}
use Rattle.front_core.proofs.Booked.{noted_nothing}
use Rattle.front_core.proofs.Outcomes.{on_err_of}
use Rattle.front_core.proofs.There.{there}
use Rattle.front_core.proofs.Written.{grown_back, grown_none, keeps_same, keeps_written, possible_here, room_left, unwritten_same}
use Rattle.front_core.proofs.state.State.perform.Goals as goal

pub write_noted-requires-clause-there : goal.write_noted-requires-clause-there
write_noted-requires-clause-there c =
    let m = c.requires.allowed in
    there c.args.self.now m.world c.args.caller c.args.start m.txn m.opened m.ask c.args.op.now m.asked m.allowed c.make-2.new.self c.in_ok-make-2.ensures.ok

pub write_noted-requires-clause-possible : goal.write_noted-requires-clause-possible
write_noted-requires-clause-possible c = λ x touched.
    let m = c.requires.allowed in
    subst (λ (r : ObjectRow). IsTrue (is_possible c.args.op.now x r.newest)) (sym (c.in_ok-make-2.ensures.ok.rows x))
    (possible_here c.args.self.now m.world c.args.caller c.args.start m.txn m.opened m.ask c.args.op.now m.asked m.allowed x touched)

pub count-requires-clause-placed : goal.count-requires-clause-placed
count-requires-clause-placed c = c.in-Ok.ensures.noted.places c.args.caller ∙ c.requires.placed

pub count-requires-clause-room : goal.count-requires-clause-room
count-requires-clause-room c =
    let m = c.requires.allowed in
    let told = c.in-Some.ensures in
    room_left c.args.self.now m.world c.args.caller c.args.start m.txn m.opened c.write_noted.new.self.transactions _ c.in-Ok.ensures.noted c.deltas_left-deltas.result 18446744073709551615 (omega (arith, told.0))

pub returns-in-Ok-clause-ok : goal.returns-in-Ok-clause-ok
returns-in-Ok-clause-ok c = λ w p ask o asked allowed.
    let s = c.args.self.now in
    let touched = touches c.args.op.now in
    let told = c.in-Some.ensures in
    keeps_written s w c.args.caller c.args.start p o ask c.args.op.now asked allowed c.make-2.new.self _
    (subst (λ (h : Histories). Unchanged s.histories h) (sym c.write_noted.ensures.histories_stay) c.make.ensures)
    c.in_ok-make-2.ensures.ok c.in-Ok.ensures.rows c.write_noted.new.self.transactions
    (subst (λ (xs : List Oid). Noted s.transactions c.write_noted.new.self.transactions c.args.caller xs) (unwritten_same s.objects c.make-2.new.self c.in_ok-make-2.ensures.ok.rows touched) c.in-Ok.ensures.noted)
    (subst (λ n. Counted c.write_noted.new.self.transactions c.count.new.self c.args.caller n) c.deltas_left-deltas.ensures c.count.ensures)
    (ap (λ (t : Tally). t.committed) c.write_noted.ensures.tally_stays)
    (told.1 ∙ ap (λ n. s.tally.all + n) c.deltas_left-deltas.ensures)
    (omega (arith, told.0, told.1))

pub returns-in-Err-clause-err : goal.returns-in-Err-clause-err
returns-in-Err-clause-err c = λ w keeps.
    let s = c.args.self.now in
    keeps_same s _ w c.args.caller keeps
    (grown_back s.objects c.make-2.new.self c.write_noted.new.self.objects c.unmake.new.self _ _ c.in_ok-make-2.ensures.ok c.in-Err.ensures.rows_stay c.unmake.ensures)
    c.in-Err.ensures.book_stays
    (subst (λ (h : Histories). Unchanged s.histories h) (sym c.write_noted.ensures.histories_stay) c.make.ensures)
    c.write_noted.ensures.tally_stays

pub returns-in_err-make-clause-err : goal.returns-in_err-make-clause-err
returns-in_err-make-clause-err c = on_err_of c.from_residual.result (λ w keeps.
    keeps_same c.args.self.now _ w c.args.caller keeps (grown_none c.args.self.now.objects) (noted_nothing c.args.self.now.transactions c.args.caller) c.make.ensures refl)

pub returns-in_err-make-2-clause-err : goal.returns-in_err-make-2-clause-err
returns-in_err-make-2-clause-err c = on_err_of c.from_residual-in_err-make-2.result (λ w keeps.
    keeps_same c.args.self.now _ w c.args.caller keeps
    (subst (λ (o : Objects). Grown c.args.self.now.objects o 0 0) (sym c.in_err-make-2.ensures.err) (grown_none c.args.self.now.objects))
    (noted_nothing c.args.self.now.transactions c.args.caller) c.make.ensures refl)
