use Rattle.std.proofs.Common.{ap, length, subst, sym, ◌∙◌}
use Rattle.store_pass.specs.Solo.{core_of}
use Rattle.script_desk.specs.Stands.{Stands, roll_of}
use Rattle.script_desk.proofs.Closing.{all_closed, at_end, none_closed, one_closed}
use Rattle.script_desk.proofs.desk.Desk.end.Goals as goal

pub loop-number-init : goal.loop-number-init
loop-number-init c past st =
    none_closed (record { core = core_of c.self.inside.store; sessions = roll_of c.self.inside.roll }) past (subst (λ d. Stands d past) (sym c.self.view_is) st)

pub loop-number-preserved : goal.loop-number-preserved
loop-number-preserved c past st =
    one_closed c.loop-number.number past (core_of c.loop-number.store) (core_of c.close.new.store) c.running.result
    (c.loop-number.invariant past st) c.close.ensures.aborts c.close.ensures.closed

pub returns : goal.returns
returns c past st =
    let here : Stands (record { core = core_of c.self.inside.store; sessions = roll_of c.self.inside.roll }) past = subst (λ d. Stands d past) (sym c.self.view_is) st in
    all_closed c.loop-number.number past (core_of c.loop-number.store)
    (at_end c.loop-number.number c.len-number-end.result (length past.sessions) c.loop-number-test.false (c.len-number-end.ensures ∙ ap length here.same))
    (c.loop-number.invariant past st)
