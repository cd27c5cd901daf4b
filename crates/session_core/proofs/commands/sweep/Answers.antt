use Rattle.session_core.proofs.Acting.{follows, one, other, says_so, sweeps, sweeps_some}
use Rattle.session_core.specs.Answering.{HasSwept, Sweeps, SweepsAll}
use Rattle.session_core.specs.Replying.{Tells, Wants}
use Rattle.session_core.specs.Says.{Then}
use Rattle.session_core.specs.Texts.{no_memory_text, swept_text}
use Rattle.session_core.proofs.commands.sweep.Goals as goal

pub returns-in-Ok-clause-says : goal.returns-in-Ok-clause-says
returns-in-Ok-clause-says g c =
    let S = g.S.GraphStore in
    let a = c.told.result in
    let sum = c.in-Ok.swept in
    let running = c.args.running in
    let old = c.args.store.now in
    let mid = c.sweep_all.new.store in
    let new = c.told.new.store in
    let tells = Tells (swept_text sum) running a in
    one S.stands S.caller S.alone (HasSwept running a) (Then Sweeps (Wants running a)) old new
    (says_so S.stands S.caller S.alone (Then (SweepsAll sum) tells) (HasSwept running a) old new
    (λ n s es later x. record { swept = sum; says = x })
    (follows S.stands S.caller S.alone (SweepsAll sum) tells old mid new
    (sweeps S.stands S.caller S.alone old mid sum c.in-Ok.ensures.sweeps)
    (c.told.ensures.says (swept_text sum) c.swept_text.ensures)))

pub returns-in-Err-clause-says : goal.returns-in-Err-clause-says
returns-in-Err-clause-says g c =
    let S = g.S.GraphStore in
    let a = c.wanting.result in
    let running = c.args.running in
    let old = c.args.store.now in
    let mid = c.sweep_all.new.store in
    let new = c.wanting.new.store in
    other S.stands S.caller S.alone (HasSwept running a) (Then Sweeps (Wants running a)) old new
    (follows S.stands S.caller S.alone Sweeps (Wants running a) old mid new
    (sweeps_some S.stands S.caller S.alone old mid _ c.in-Err.ensures.sweeps)
    (c.wanting.ensures.says no_memory_text))
