use Rattle.std.proofs.Common.{◌≡◌, subst, string_bytes}
use Rattle.std.specs.Prelude.{IfOk}
use Rattle.session_core.proofs.Acting.{other}
use Rattle.session_core.proofs.Telling.{tells}
use Rattle.session_core.specs.Replying.{IsTold, Refuses}
use Rattle.session_core.specs.Texts.{no_memory_text}
use Rattle.session_core.specs.declared.reply.ReplyText.TheVariants.{Made}
use Rattle.session_core.proofs.refusing.told.Goals as goal

pub returns-in-Ok-clause-says : goal.returns-in-Ok-clause-says
returns-in-Ok-clause-says g c wanted is =
    let S = g.S.GraphStore in
    tells S.stands S.caller S.alone wanted c.args.running (Made c.in-Ok.text) c.plain.result c.args.store.now (subst (λ r. IfOk r (λ t. string_bytes t ≡ wanted)) c.in-Ok.is is) c.plain.ensures

pub returns-in-Err-clause-says : goal.returns-in-Err-clause-says
returns-in-Err-clause-says g c wanted is =
    let S = g.S.GraphStore in
    other S.stands S.caller S.alone (IsTold wanted c.args.running c.wanting.result) (Refuses no_memory_text c.args.running c.wanting.result) c.args.store.now c.wanting.new.store
    (c.wanting.ensures.says no_memory_text)
