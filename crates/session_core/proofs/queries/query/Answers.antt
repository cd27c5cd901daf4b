use Rattle.cypher_parse.specs.declared.error.ParseRefused.TheVariants.{NoMemory}
use Rattle.query_reply.specs.declared.fault.Fault.TheVariants.{Parse}
use Rattle.session_core.proofs.Acting.{one, says_so}
use Rattle.session_core.specs.Asking.{HasFault, IsQuery}
use Rattle.session_core.specs.Replying.{Wants}
use Rattle.session_core.specs.Texts.{no_memory_text}
use Rattle.session_core.proofs.queries.query.Goals as goal

-- no memory for the statement is none for its tree
pub returns-in-Err-clause-says : goal.returns-in-Err-clause-says
returns-in-Err-clause-says g c =
    let S = g.S.GraphStore in
    let a = c.wanting.result in
    let statement = c.args.statement.now in
    let running = c.args.running in
    let old = c.args.store.now in
    let new = c.wanting.new.store in
    one S.stands S.caller S.alone (HasFault statement running a) (IsQuery statement running a) old new
    (says_so S.stands S.caller S.alone (Wants running a) (HasFault statement running a) old new
    (λ n s es later x. record { fault = Parse NoMemory; is = tt; says = x })
    (c.wanting.ensures.says no_memory_text))
