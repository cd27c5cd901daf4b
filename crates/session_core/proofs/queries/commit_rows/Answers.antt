use Rattle.std.proofs.Common.{ℕ, List, ◌++◌, ap, codes, length, ◌∙◌}
use Rattle.std.specs.Fmt.{decimal}
use Rattle.query_reply.specs.Rows.{row_lines}
use Rattle.session_core.proofs.Acting.{one, other, says_so, sends}
use Rattle.session_core.proofs.Telling.{recommitted}
use Rattle.session_core.specs.Asking.{Commits, Rows}
use Rattle.session_core.specs.Replying.{GivesUp}
use Rattle.session_core.specs.Says.{Sent}
use Rattle.session_core.specs.Texts.{no_memory_text, rows_text}
use Rattle.session_core.proofs.queries.commit_rows.Goals as goal
use Rattle.world_model.specs.declared.event.Event.TheVariants as event
use Rattle.world_model.specs.Reply as reply

-- the text in front of the number
abbrev front : Rows → List ℕ
front rows = row_lines rows ++ (codes "OK " ++ decimal (length rows) ++ codes " at ")

pub returns-in-Ok-clause-says : goal.returns-in-Ok-clause-says
returns-in-Ok-clause-says g c =
    let S = g.S.GraphStore in
    let a = c.committed.result in
    let rows = c.args.rows.now in
    let ts = c.commit-ts.result in
    let old = c.args.store.now in
    let new = c.commit-ts.new.self in
    one S.stands S.caller S.alone (Commits rows a) (GivesUp no_memory_text a) old new
    (says_so S.stands S.caller S.alone (Sent event.Commit (reply.Committed ts)) (Commits rows a) old new
    (λ n s es later x. record {
      ts = ts;
      commit = recommitted a _ (rows_text rows ts)
          (c.with_number.ensures ∙ ap (λ t. t ++ decimal ts) (c.in-Ok.ensures.text ∙ ap front c.as_slice.ensures)) c.committed.ensures;
      sent = x;
    })
    (sends S.stands S.caller S.alone event.Commit (reply.Committed ts) old new (λ es. tt) c.commit-ts.ensures.sends))

pub returns-in-Err-clause-says : goal.returns-in-Err-clause-says
returns-in-Err-clause-says g c =
    let S = g.S.GraphStore in
    let a = c.wanting_in_own.result in
    other S.stands S.caller S.alone (Commits c.args.rows.now a) (GivesUp no_memory_text a) c.args.store.now c.wanting_in_own.new.store
    (c.wanting_in_own.ensures.says no_memory_text)
