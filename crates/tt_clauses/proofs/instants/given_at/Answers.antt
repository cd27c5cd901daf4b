use Rattle.std.proofs.Common.{sym, ◌∙◌}
use Rattle.tt_clauses.proofs.Recalled.{nothing_read}
use Rattle.tt_clauses.proofs.Steps.{given_no, given_yes}
use Rattle.tt_clauses.proofs.instants.given_at.Goals as goal

pub returns-then-contains-clause-tells : goal.returns-then-contains-clause-tells
returns-then-contains-clause-tells g c =
    let j = c.args.join.now in
    record {
      answers = λ graphs recalls is.
          given_yes graphs j.plan.now j.filter.now j.items.now c.args.tuple.now c.args.at.now is c.values_at.result (sym c.contains.ensures ∙ c.if-contains.true)
          (c.values_at.ensures.tells.answers graphs recalls);
      reads = c.values_at.ensures.tells.reads;
    }

pub returns-else-contains-clause-tells : goal.returns-else-contains-clause-tells
returns-else-contains-clause-tells g c =
    let S = g.S.GraphStore in
    let j = c.args.join.now in
    record {
      answers = λ graphs recalls is.
          given_no graphs j.plan.now j.filter.now j.items.now c.args.tuple.now c.args.at.now is (sym c.contains.ensures ∙ c.if-contains.false);
      reads = nothing_read S.stands S.caller S.alone g.met.S.GraphStore.legal c.args.store.now;
    }
