use Rattle.std.proofs.Common.{ℕ, Bool, List, ◌++◌, ap, sym, ◌∙◌, subst}
use Rattle.std.proofs.lemmas.Result.{err_from_is_err_and}
use Rattle.std.specs.Prelude.{Err}
use Rattle.wire_line.specs.Intake.{IsDropped}
use Rattle.wire_line.proofs.Told.{told_weaker}
use Rattle.wire_line.proofs.Taken.{reads_then, reads_idle, still_turn, turn_stops}
use Rattle.wire_line.proofs.Turns.{front_grown}
use Rattle.wire_line.proofs.lines.Lines.find.Goals as goal

pub returns-in_err-refill-clause-ahead : goal.returns-in_err-refill-clause-ahead
returns-in_err-refill-clause-ahead g c =
    still_turn g.I.Source c.args.input.now c.fill.input c.refill.new.input c.args.self.now c.fill.self c.pass_over.new.self c.refill.new.self
    c.fill.invariant.ahead c.pass_over.ensures.ahead c.in_err-refill.ensures.grows c.in_err-refill.ensures.ahead

pub returns-in_err-refill-clause-told : goal.returns-in_err-refill-clause-told
returns-in_err-refill-clause-told g c = let p = err_from_is_err_and c.from_residual.result c.from_residual.ensures.1 in rw (p.1, p.2)
    (turn_stops g.I.Source c.args.input.now c.fill.input c.refill.new.input c.args.self.now c.fill.self c.pass_over.new.self c.refill.new.self c.in_err-refill.field-0.0
    c.fill.invariant.ahead c.fill.invariant.reads c.pass_over.ensures.ahead c.pass_over.ensures.none c.pass_over.ensures.taken c.requires.limit
    c.in_err-refill.ensures.grows c.in_err-refill.ensures.ahead c.in_err-refill.ensures.dry
    (λ ended. told_weaker (g.I.Source.left c.fill.input) (g.I.Source.left c.refill.new.input) _ _ c.in_err-refill.ensures.ended (λ l m is. is (ap Err ended))))

pub returns-in-Some-clause-ahead : goal.returns-in-Some-clause-ahead
returns-in-Some-clause-ahead g c =
    rw c.search.ensures.same
    (still_turn g.I.Source c.args.input.now c.fill.input c.refill.new.input c.args.self.now c.fill.self c.pass_over.new.self c.refill.new.self
    c.fill.invariant.ahead c.pass_over.ensures.ahead c.in_ok-refill.ensures.grows c.in_ok-refill.ensures.ahead)

pub fill-preserved : goal.fill-preserved
fill-preserved g c = record {
  limit = rw c.search.ensures.same c.in_ok-refill.ensures.more.within;
  none = rw c.search.ensures.same c.in_default.ensures.none;
  reads = rw c.search.ensures.same
      (reads_then (reads_then c.fill.invariant.reads (reads_idle g.I.Source c.fill.input c.fill.self c.pass_over.new.self c.pass_over.ensures.taken)) c.in_ok-refill.ensures.reads);
  ahead = rw c.search.ensures.same
      (still_turn g.I.Source c.args.input.now c.fill.input c.refill.new.input c.args.self.now c.fill.self c.pass_over.new.self c.refill.new.self
      c.fill.invariant.ahead c.pass_over.ensures.ahead c.in_ok-refill.ensures.grows c.in_ok-refill.ensures.ahead);
  waits = rw c.search.ensures.same
      (λ passing. let free = sym c.in_ok-refill.ensures.grows.passing ∙ passing in
      let P : Bool → Type 0 = λ p. IsDropped c.fill.self.passing p c.pass_over.ensures.ahead.dropped in
      front_grown c.args.self.now.waiting c.fill.self.waiting c.refill.new.self.waiting c.in_ok-refill.ensures.grows.more
      (c.fill.invariant.waits (subst P free c.pass_over.ensures.ahead.known).0)
      (c.in_ok-refill.ensures.grows.waiting ∙ ap (λ (w : List ℕ). w ++ c.in_ok-refill.ensures.grows.more) (c.pass_over.ensures.waits free)));
}
