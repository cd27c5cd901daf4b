use Rattle.std.proofs.Common.{◌≡◌, ◌∙◌, ◌==◌, sym, Some, None}
use Rattle.std.specs.List.{position}
use Rattle.txn_manager.proofs.RunningListLemmas.{start_of-no_place, start_of-place}
use Rattle.txn_manager.proofs.active.Active.start_of.Goals as goal

pub returns-in_err-place : goal.returns-in_err-place
returns-in_err-place c =
    let nowhere : position (λ t. t.caller == c.args.caller) c.self.inside.running.items ≡ None =
    rw (← c.deref.ensures.value) (sym c.place_of.ensures ∙ c.in_err-place.was) in
    rw (← c.self.view_is) (c.from_residual.ensures ∙ sym (start_of-no_place c.args.caller c.self.inside.running.items nowhere))

pub returns : goal.returns
returns c =
    let place : position (λ t. t.caller == c.args.caller) c.self.inside.running.items ≡ Some c.in_ok-place.place =
    rw (← c.deref.ensures.value) (sym c.place_of.ensures ∙ c.in_ok-place.was) in
    let start = start_of-place c.args.caller c.self.inside.running.items c.in_ok-place.place c.index.result.now place in
    rw (← c.self.view_is) (sym (rw (← c.index.ensures) at start))
