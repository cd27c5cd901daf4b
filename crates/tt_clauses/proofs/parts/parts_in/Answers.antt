use Rattle.std.proofs.Common.{[], ◌∷◌, length, sym, ap, ◌∙◌, arith}
use Rattle.cypher_check.specs.Answer.{query_of}
use Rattle.tt_clauses.proofs.Shapes.{asked_is, first_is, parts_there}
use Rattle.tt_clauses.proofs.parts.parts_in.Goals as goal

pub unreachable-requires-in_default-returns : goal.unreachable-requires-in_default-returns
unreachable-requires-in_default-returns c =
    let p = parts_there (query_of c.args.checked.now) c.query-query.ensures.rules c.requires in
    cc p.returns_are

pub bounds-as_slice-0 : goal.bounds-as_slice-0
bounds-as_slice-0 c =
    let p = parts_there (query_of c.args.checked.now) c.query-query.ensures.rules c.requires in
    omega (arith, ap length (c.as_slice.ensures ∙ ap (λ q. q.clauses) c.query-query.ensures.query ∙ p.clauses_are))

pub unreachable-requires-in_default-as_slice : goal.unreachable-requires-in_default-as_slice
unreachable-requires-in_default-as_slice c =
    let p = parts_there (query_of c.args.checked.now) c.query-query.ensures.rules c.requires in
    let are = c.as_slice.ensures ∙ ap (λ q. q.clauses) c.query-query.ensures.query ∙ p.clauses_are in
    c.in_default-as_slice.not-Match p.only (first_is c.as_slice.result.now p.only c.index-as_slice-0.result are c.index-as_slice-0.is)

pub returns-clause-parts : goal.returns-clause-parts
returns-clause-parts c =
    let q = query_of c.args.checked.now in
    let p = parts_there q c.query-query.ensures.rules c.requires in
    let are = c.as_slice.ensures ∙ ap (λ q. q.clauses) c.query-query.ensures.query ∙ p.clauses_are in
    let first = first_is c.as_slice.result.now p.only c.index-as_slice-0.result are c.index-as_slice-0.is in
    asked_is q c.in-Match.clause c.in-Some.returns c.in-Between.first c.in-Between.last
    (p.clauses_are ∙ ap (λ x. x ∷ []) (sym first ∙ c.in-Match.is))
    (ap (λ q. q.returns) (sym c.query-query.ensures.query) ∙ c.in-Some.is)
    (ap (λ q. q.time) (sym c.query-query.ensures.query) ∙ c.in-Between.is)
