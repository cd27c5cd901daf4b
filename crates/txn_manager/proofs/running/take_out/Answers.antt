use Rattle.std.proofs.Common.{◌≡◌, ◌∙◌, ◌==◌, sym, Some}
use Rattle.std.specs.List.{position}
use Rattle.txn_manager.proofs.RunningListLemmas.{place_from_start, start_of-place, remove-place, length-remove_place}
use Rattle.txn_manager.proofs.running.take_out.Goals as goal

pub unwrap-place-requires : goal.unwrap-place-requires
unwrap-place-requires c =
    rw (c.place_of.ensures, c.deref.ensures.value) (place_from_start c.args.caller c.args.running.now.items c.requires.present)

pub returns-clause-start : goal.returns-clause-start
returns-clause-start c =
    let place : position (λ t. t.caller == c.args.caller) c.args.running.now.items ≡ Some c.unwrap-place.result =
    rw (← c.deref.ensures.value) (sym c.place_of.ensures ∙ c.unwrap-place.ensures) in
    let start = start_of-place c.args.caller c.args.running.now.items c.unwrap-place.result c.remove.result place in
    rw (← c.remove.ensures.value) at start

pub returns-clause-others : goal.returns-clause-others
returns-clause-others c =
    let place : position (λ t. t.caller == c.args.caller) c.args.running.now.items ≡ Some c.unwrap-place.result =
    rw (← c.deref.ensures.value) (sym c.place_of.ensures ∙ c.unwrap-place.ensures) in
    c.remove.ensures.items ∙ remove-place c.args.caller c.args.running.now.items c.unwrap-place.result place c.requires.apart

pub returns-clause-fewer : goal.returns-clause-fewer
returns-clause-fewer c =
    let place : position (λ t. t.caller == c.args.caller) c.args.running.now.items ≡ Some c.unwrap-place.result =
    rw (← c.deref.ensures.value) (sym c.place_of.ensures ∙ c.unwrap-place.ensures) in
    rw c.remove.ensures.items (length-remove_place c.args.caller c.args.running.now.items c.unwrap-place.result place)
