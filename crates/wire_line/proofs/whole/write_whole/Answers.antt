use Rattle.std.proofs.Common.{◌≡◌, ◌≢◌, ℕ, List, [], ◌+◌, ◌-◌, length, take, drop, ◌++◌, refl, ap, ◌∙◌, sym, subst, arith}
use Rattle.std.proofs.Math.Seq.{take-add}
use Rattle.std.proofs.lemmas.List.{append_assoc, append-nil, take_rest, drop-drop}
use Rattle.std.proofs.lemmas.Bool.Decides.{nat_tests}
use Rattle.wire_line.specs.Offers.{Offers}
use Rattle.wire_line.specs.Offers.Offers.{whole, then_rest}
use Rattle.wire_line.proofs.Told.{told_same, told_then, told_appends}
use Rattle.wire_line.proofs.whole.write_whole.Goals as goal

pub loop-rest-init : goal.loop-rest-init
loop-rest-init g c = record {
  offers = whole;
  bytes = (0, refl, told_same (g.O.Sink.taken c.args.output.now) _ (λ t. sym (append-nil t)));
  faults = omega arith;
}

pub loop-rest-preserved : goal.loop-rest-preserved
loop-rest-preserved g c =
    let rest : List ℕ = c.loop-rest.rest.now in
    let n : ℕ = c.in_ok-count.count in
    let is : take (length rest - n) (drop n rest) ≡ drop n rest = take_rest rest n in
    let P : List ℕ → Type 0 = λ r. Offers g.O.Sink.writes c.args.output.now c.args.text.now c.write.new.self r in
    let b = c.loop-rest.invariant.bytes in
    let some : rest ≢ [] = λ empty. let test = c.loop-rest-test.true in let is = c.is_empty.ensures in let none = ap length empty in grind (arith, nat_tests) in
    record {
      offers = subst P (sym is) (then_rest c.loop-rest.output c.write.new.self rest n c.loop-rest.invariant.offers some c.in_ok-count.ensures.call);
      bytes = (
        b.0 + n,
        is ∙ ap (drop n) b.1 ∙ drop-drop n b.0 c.args.text.now,
        told_then (g.O.Sink.taken c.args.output.now) (g.O.Sink.taken c.loop-rest.output) (g.O.Sink.taken c.write.new.self) _ _ _ b.2
            (told_appends (g.O.Sink.taken c.loop-rest.output) (g.O.Sink.taken c.write.new.self) (take n rest) _ c.in_ok-count.ensures.bytes (λ t u added. added))
            (λ t u v before now. now ∙ ap (λ (x : List ℕ). x ++ take n rest) before ∙ append_assoc t (take b.0 c.args.text.now) (take n rest) ∙ ap (λ (x : List ℕ). t ++ (take b.0 c.args.text.now ++ take n x)) b.1 ∙ ap (λ (x : List ℕ). t ++ x) (sym (take-add b.0 n c.args.text.now))),
      );
      faults = omega (arith, c.loop-rest.invariant.faults, c.in_ok-count.ensures.cause.never_falls);
    }
