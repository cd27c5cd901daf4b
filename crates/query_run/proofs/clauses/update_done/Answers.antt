use Rattle.std.proofs.Common.{◌≡◌, refl, subst, sym}
use Rattle.cypher_syntax.specs.declared.tree.clause.Update.{Update}
use Rattle.cypher_syntax.specs.declared.tree.clause.Update.TheVariants.{Create, Set, Remove, Delete}
use Rattle.query_run.specs.Denoted.{Table, create_part, update_part, write_part}
use Rattle.query_run.specs.Running.{Runs}
use Rattle.query_run.proofs.clauses.update_done.Goals as goal

-- a clause that is no CREATE only writes
other : (u : Update) (table : Table) → ((patterns : _) → u ≡ Create patterns → ⊥) → update_part table u ≡ write_part table u
other (Create patterns) table n = absurd (n patterns refl)
other (Set items) table n = refl
other (Remove items) table n = refl
other (Delete detach names) table n = refl

pub returns-in-Create-clause-runs : goal.returns-in-Create-clause-runs
returns-in-Create-clause-runs g c =
    let S = g.S.GraphStore in
    let a = c.args in
    let start = a.access.now.txn.now.start in
    subst (λ u. Runs S.stands S.caller S.alone start (update_part a.table u) a.store.now c.create_clause.new.store c.create_clause.result) (sym c.in-Create.is)
    (subst (λ ps. Runs S.stands S.caller S.alone start (create_part a.table ps) a.store.now c.create_clause.new.store c.create_clause.result)
    c.as_slice.ensures c.create_clause.ensures.runs)

pub returns-in_default : goal.returns-in_default
returns-in_default g c =
    let S = g.S.GraphStore in
    let a = c.args in
    let start = a.access.now.txn.now.start in
    record {
      runs = subst (λ part. Runs S.stands S.caller S.alone start part a.store.now c.write_clause.new.store c.write_clause.result)
          (sym (other a.clause.now a.table c.in_default.not-Create)) c.write_clause.ensures.runs;
      stays = c.write_clause.ensures.stays;
    }
