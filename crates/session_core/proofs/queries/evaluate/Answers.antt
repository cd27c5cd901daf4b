use Rattle.std.proofs.Common.{◌≡◌, ◌≤◌, ℕ, Bool, true, false, Option, Some, None, cond, refl, subst, sym, ◌∙◌, arith}
use Rattle.std.specs.Prelude.{nat_lt}
use Rattle.std.proofs.lemmas.Bool.Decides.{nat_tests}
use Rattle.cypher_check.specs.Answer.{query_of}
use Rattle.cypher_syntax.specs.declared.tree.query.Time.{Time}
use Rattle.cypher_syntax.specs.declared.tree.query.Time.TheVariants as time
use Rattle.query_run.specs.Denoted.{denoted}
use Rattle.session_core.proofs.Running.{ran, ran_timed, shown_timed, spans, spans_timed}
use Rattle.session_core.proofs.queries.evaluate.Goals as goal
use Rattle.tt_clauses.specs.Between.{HasSpan, asked_in, fault_of}

-- a span without a fault is one
fits : (clause : Time) (first last : ℕ) → clause ≡ time.Between first last → fault_of clause ≡ None → HasSpan clause
fits clause first last is h = subst HasSpan (sym is) (ordered (nat_lt last first) refl (subst (λ c. fault_of c ≡ None) is h))
  where
    ordered : (b : Bool) → nat_lt last first ≡ b → cond {A = Option (ℕ × ℕ)} b (Some (first, last)) None ≡ None → first ≤ last
    ordered true is h = absurd cc
    ordered false is h = grind (arith, nat_tests)

pub returns-in-None-clause-says : goal.returns-in-None-clause-says
returns-in-None-clause-says g c =
    let S = g.S.GraphStore in
    let q = query_of c.args.checked.now in
    let start = c.args.txn.now.start in
    let old = c.args.store.now in
    let new = c.run.new.store in
    ran_timed S.stands S.caller S.alone S.running g.met.S.GraphStore.runs q.time q start c.run.result old new (sym c.time.ensures ∙ c.in-None.is)
    (ran S.stands S.caller S.alone S.running g.met.S.GraphStore.runs (denoted q) start c.run.result old new c.requires.begun c.run.ensures.runs)

pub returns-in-Snapshot-clause-says : goal.returns-in-Snapshot-clause-says
returns-in-Snapshot-clause-says g c =
    let S = g.S.GraphStore in
    let q = query_of c.args.checked.now in
    let start = c.args.txn.now.start in
    let t = c.in-Snapshot.field-0 in
    let at = sym c.time.ensures ∙ c.in-Snapshot.is in
    shown_timed S.stands S.caller S.alone S.running g.met.S.GraphStore.runs q.time t q start c.snapshot.result c.args.store.now c.snapshot.new.store at c.requires.begun
    (c.snapshot.ensures.shows t at)

pub between-requires : goal.between-requires
between-requires g c =
    let q = query_of c.args.checked.now in
    record { span = fits q.time c.in-Between.field-0 c.in-Between.field-1 (sym c.time.ensures ∙ c.in-Between.is) c.requires.span }

pub returns-in-Between-clause-says : goal.returns-in-Between-clause-says
returns-in-Between-clause-says g c =
    let S = g.S.GraphStore in
    let q = query_of c.args.checked.now in
    let start = c.args.txn.now.start in
    let old = c.args.store.now in
    let new = c.between.new.store in
    let at = sym c.time.ensures ∙ c.in-Between.is in
    spans_timed S.stands S.caller S.alone S.running g.met.S.GraphStore.runs q.time c.in-Between.field-0 c.in-Between.field-1 q start c.between.result old new at
    (spans S.stands S.caller S.alone S.running g.met.S.GraphStore.runs q start c.between.result old new (asked_in q) refl c.requires.begun c.between.ensures.ahead c.between.ensures.tells)
