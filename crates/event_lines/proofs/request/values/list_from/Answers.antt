-- A list stands for its elements, where each can be set.
use Rattle.std.proofs.Common.{◌≡◌, None, Some, option_map, refl, sym, ap, ◌∙◌, subst}
use Rattle.std.proofs.lemmas.Iterator.Adapters.{YieldsList-from_vec}
use Rattle.std.proofs.lemmas.Iterator.Consumers.{YieldsList-turn, YieldsList-end}
use Rattle.std.proofs.lemmas.List.{map-id}
use Rattle.serde_json.specs.View.{view, items_view}
use Rattle.graph_value.specs.declared.value.Value as stored
use Rattle.event_lines.specs.Values.{list_from, simple_from}
use Rattle.event_lines.proofs.Lists.{one_more, one_is_none}
use Rattle.event_lines.proofs.request.values.list_from.Goals as goal

pub loop-item-init : goal.loop-item-init
loop-item-init c = record { so_far = ap Some (sym c.new-values.ensures) }

pub returns-in_default : goal.returns-in_default
returns-in_default c =
    let all = c.args.items.items in
    let turn = YieldsList-turn (YieldsList-from_vec {s = c.into_iter-item-iterator.result} all c.into_iter-item-iterator.ensures.into_iter_gives.0 (c.into_iter-item-iterator.ensures.into_iter_gives.1 ∙ c.args.items.ok.0)) c.loop-item.yielded c.loop-item.item-iterator c.loop-item.yielded_by c.next.result c.next.new.self c.in-Some.item c.in-Some.is c.next.ensures.steps in
    let none : simple_from (view c.in-Some.item) ≡ None = sym c.simple_from.ensures ∙ c.in_default.is in
    rw (one_is_none all _ c.in-Some.item turn.0 (subst (λ x. simple_from (view x) ≡ None) turn.1 none)) refl

pub loop-item-preserved : goal.loop-item-preserved
loop-item-preserved c =
    let value = sym c.simple_from.ensures ∙ c.in-Some-simple_from.is in
    record { so_far = rw c.in_ok-push.ensures.ok (one_more c.loop-item.yielded c.loop-item.values c.in-Some.item c.in-Some-simple_from.value c.loop-item.invariant.so_far value) }

pub returns : goal.returns
returns c =
    let all = c.args.items.items in
    let last = YieldsList-end (YieldsList-from_vec {s = c.into_iter-item-iterator.result} all c.into_iter-item-iterator.ensures.into_iter_gives.0 (c.into_iter-item-iterator.ensures.into_iter_gives.1 ∙ c.args.items.ok.0)) c.loop-item.yielded c.loop-item.item-iterator c.loop-item.yielded_by c.next.result c.next.new.self c.in-None.is c.next.ensures.steps in
    let whole : c.loop-item.yielded ≡ all = sym (map-id c.loop-item.yielded) ∙ last.0 in
    sym (ap (λ o. option_map stored.List o) (ap (λ xs. list_from (items_view xs)) (sym whole) ∙ c.loop-item.invariant.so_far))
