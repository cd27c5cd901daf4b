use Rattle.store_pass.proofs.Others.{leaves_onward, sent_leaves}
use Rattle.store_pass_tests.proofs.two_callers.tried.Goals as goal

pub returns-in_default : goal.returns-in_default
returns-in_default c = record { others = (sent_leaves _ _ _ _ c.begin.ensures.sends tt).others }

pub returns-in_err-map_err : goal.returns-in_err-map_err
returns-in_err-map_err c =
    let begun = sent_leaves _ _ _ _ c.begin.ensures.sends tt in
    let found = leaves_onward _ _ _ begun (sent_leaves _ _ _ _ c.next-found.ensures.sends tt) in
    let told = leaves_onward _ _ _ found (sent_leaves _ _ _ _ c.write-told.ensures.sends tt) in
    record { others = (leaves_onward _ _ _ told (sent_leaves _ _ _ _ c.abort.ensures.sends tt)).others }

pub returns : goal.returns
returns c =
    let begun = sent_leaves _ _ _ _ c.begin.ensures.sends tt in
    let found = leaves_onward _ _ _ begun (sent_leaves _ _ _ _ c.next-found.ensures.sends tt) in
    let told = leaves_onward _ _ _ found (sent_leaves _ _ _ _ c.write-told.ensures.sends tt) in
    record { others = (leaves_onward _ _ _ told (sent_leaves _ _ _ _ c.abort.ensures.sends tt)).others }
