use Rattle.std.proofs.Common.{refl}
use Rattle.session_core.proofs.Acting.{idles, one, other, says_so}
use Rattle.session_core.specs.Answering.{HasQuit}
use Rattle.session_core.specs.Replying.{Wants}
use Rattle.session_core.specs.Says.{Nothing}
use Rattle.session_core.specs.Texts.{no_memory_text}
use Rattle.session_core.proofs.commands.quit.Goals as goal

pub returns-in-Ok-clause-says : goal.returns-in-Ok-clause-says
returns-in-Ok-clause-says g c =
    let S = g.S.GraphStore in
    let store = c.args.store.now in
    one S.stands S.caller S.alone (HasQuit c.args.running _) (Wants c.args.running _) store store
    (says_so S.stands S.caller S.alone Nothing (HasQuit c.args.running _) store store
    (λ n s es later x. record { answer = record { told = c.in-Ok.ensures; left = refl }; ends = refl; not_committed = refl; nothing = x })
    (idles S.stands S.caller S.alone store))

pub returns-in-Err-clause-says : goal.returns-in-Err-clause-says
returns-in-Err-clause-says g c =
    let S = g.S.GraphStore in
    other S.stands S.caller S.alone (HasQuit c.args.running c.wanting.result) (Wants c.args.running c.wanting.result) c.args.store.now c.wanting.new.store
    (c.wanting.ensures.says no_memory_text)
