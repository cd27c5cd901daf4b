use Rattle.std.proofs.Common.{Ok, Err, Some, subst}
use Rattle.cypher_check.specs.Answer.{query_of}
use Rattle.session_core.proofs.Acting.{follows, says_so}
use Rattle.session_core.specs.Asking.{AsksInside, Runs, ToldInside}
use Rattle.session_core.specs.Replying.{Tells}
use Rattle.session_core.specs.Says.{Acts, Then}
use Rattle.session_core.specs.Texts.{rows_text}
use Rattle.session_core.proofs.queries.ask_inside.Goals as goal

pub returns-in-Ok-clause-says : goal.returns-in-Ok-clause-says
returns-in-Ok-clause-says g c =
    let S = g.S.GraphStore in
    let q = query_of c.args.checked.now in
    let start = c.args.start in
    let result = Ok c.in-Ok.rows in
    let a = c.told.result in
    let old = c.args.store.now in
    let mid = c.evaluate-ran.new.store in
    let new = c.told.new.store in
    says_so S.stands S.caller S.alone (Then (Runs q start result) (ToldInside start a result)) (AsksInside q start a) old new
    (λ n s es later x. record { result = result; says = x })
    (follows S.stands S.caller S.alone (Runs q start result) (ToldInside start a result) old mid new
    (subst (λ n. Acts S.stands S.caller S.alone (Runs q n result) old mid) c.begun-txn.ensures c.in-Ok.ensures.says)
    (subst (λ rs. Acts S.stands S.caller S.alone (Tells (rows_text rs start) (Some start) a) mid new) c.as_slice.ensures
    (c.told.ensures.says (rows_text c.as_slice.result.now start) c.rows_text-text.ensures)))

pub returns-in-Err-clause-says : goal.returns-in-Err-clause-says
returns-in-Err-clause-says g c =
    let S = g.S.GraphStore in
    let q = query_of c.args.checked.now in
    let start = c.args.start in
    let result = Err c.in-Err.why in
    let a = c.stopped.result in
    let old = c.args.store.now in
    let mid = c.evaluate-ran.new.store in
    let new = c.stopped.new.store in
    says_so S.stands S.caller S.alone (Then (Runs q start result) (ToldInside start a result)) (AsksInside q start a) old new
    (λ n s es later x. record { result = result; says = x })
    (follows S.stands S.caller S.alone (Runs q start result) (ToldInside start a result) old mid new
    (subst (λ n. Acts S.stands S.caller S.alone (Runs q n result) old mid) c.begun-txn.ensures c.in-Err.ensures.says)
    c.stopped.ensures.says)
