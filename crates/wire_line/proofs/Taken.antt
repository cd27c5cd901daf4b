-- Facts on what a reader takes from a source.
use Rattle.std.proofs.Common.{◌≡◌, ℕ, ◌+◌, ◌≤◌, List, [], length, refl, ap, arith}
use Rattle.std.specs.Io.KnownBytes.{Keeps, Appends, Consumes}
use Rattle.std.proofs.lemmas.List.{length-append}
use Rattle.wire_line.specs.declared.source.Source as source
use Rattle.wire_line.specs.Intake.{Intake, StillAhead}
use Rattle.wire_line.specs.Buffer.{Grows, SameAhead, IsDry, StopsBy}
use Rattle.wire_line.specs.Lines.{HasNoEnd}
use Rattle.wire_line.specs.declared.stop.Stop.{Stop}
use Rattle.wire_line.specs.declared.stop.Stop.TheVariants as stop
use Rattle.wire_line.specs.declared.line.TheConstants.{INPUT_LIMIT}
use Rattle.wire_line.specs.Calls.{Reads, WhereLeft}
use Rattle.wire_line.proofs.Told.{told_same, told_both, told_then, told_consumes, told_keeps, together_given, together_kept, together_same, together_then}
use Rattle.wire_line.proofs.Turns.{still_then, still_behind, still_grown, past_limit}

-- nothing is taken, whatever becomes of what waits
pub reads_idle : {I : Type 0} (g : source.Ghosts I) (input : I) (a b : Intake) → b.taken ≡ a.taken → Reads g input input a b
reads_idle g input a b same = record {
  same_input = together_same (g.came input) (g.left input);
  counted = told_same (g.left input) _ (λ l. omega (arith, same));
  later = omega (arith, same);
  faults = omega arith;
}

pub reads_then : {I : Type 0} {g : source.Ghosts I} {i j k : I} {a b c : Intake} → Reads g i j a b → Reads g j k b c → Reads g i k a c
reads_then {I} {g} {i} {j} {k} {a} {b} {c} first second = record {
  same_input = together_then (g.came i) (g.left i) (g.came j) (g.left j) (g.came k) (g.left k) first.same_input second.same_input;
  counted = told_then (g.left i) (g.left j) (g.left k) _ _ _ first.counted second.counted (λ x y z e f. omega (arith, e, f));
  later = omega (arith, first.later, second.later);
  faults = omega (arith, first.faults, second.faults);
}

pub reads_kept : {I : Type 0} {g : source.Ghosts I} {i j : I} {a b : Intake} (c : Intake) → Reads g i j a b → c.taken ≡ b.taken → Reads g i j a c
reads_kept {I} {g} {i} {j} {a} {b} c reads same = reads_then reads (reads_idle g j b c same)

-- a source gave these bytes
pub reads_given : {I : Type 0} (g : source.Ghosts I) (i j : I) (a b : Intake) (given : List ℕ) → Appends (g.came i) (g.came j) given
    → Consumes (g.left i) (g.left j) given → b.taken ≡ a.taken + length given → g.faults i ≤ g.faults j → Reads g i j a b
reads_given g i j a b given appends consumes now faults = record {
  same_input = together_given (g.came i) (g.left i) (g.came j) (g.left j) given appends consumes;
  counted = told_consumes (g.left i) (g.left j) given _ consumes (λ l l' is. omega (arith, now, ap length is, length-append given l'));
  later = omega (arith, now);
  faults = faults;
}

-- or it failed
pub reads_failed : {I : Type 0} (g : source.Ghosts I) (i j : I) (a b : Intake) → Keeps (g.came i) (g.came j) → Keeps (g.left i) (g.left j)
    → b.taken ≡ a.taken → g.faults i ≤ g.faults j → Reads g i j a b
reads_failed g i j a b keeps stays same faults = record {
  same_input = together_kept (g.came i) (g.left i) (g.came j) (g.left j) keeps stays;
  counted = told_keeps (g.left i) (g.left j) _ stays (λ l. omega (arith, same));
  later = omega (arith, same);
  faults = faults;
}

-- one turn of a search: the front of a long line is dropped, and more is taken
pub still_turn : {I : Type 0} (g : source.Ghosts I) (i j k : I) (a b c d : Intake) → WhereLeft g i j (StillAhead a b) → StillAhead b c [] []
    → Grows c d → WhereLeft g j k (SameAhead c d) → WhereLeft g i k (StillAhead a d)
still_turn g i j k a b c d before dropped grows ahead =
    told_then (g.left i) (g.left j) (g.left k) (StillAhead a b) (SameAhead c d) (StillAhead a d) before ahead
    (λ x y z still same. still_then still (still_then (still_behind y dropped) (still_grown y z grows same)))

-- why the search stopped, at the end of such a turn
pub turn_stops : {I : Type 0} (g : source.Ghosts I) (i j k : I) (a b c d : Intake) (why : Stop) → WhereLeft g i j (StillAhead a b) → Reads g i j a b
    → StillAhead b c [] [] → HasNoEnd c.waiting → c.taken ≡ b.taken → a.taken ≤ INPUT_LIMIT
    → Grows c d → WhereLeft g j k (SameAhead c d) → IsDry why c d → (why ≡ stop.Ended → WhereLeft g j k (λ _ left'. left' ≡ []))
    → WhereLeft g i k (StopsBy why a)
turn_stops g i j k a b c d stop.Ended before reads dropped none kept limit grows ahead dry ends =
    told_then (g.left i) (g.left j) (g.left k) (StillAhead a b) _ (StopsBy stop.Ended a) before (ends refl) (λ x y z still empty. empty)
turn_stops g i j k a b c d stop.Limit before reads dropped none kept limit grows ahead dry ends =
    told_then (g.left i) (g.left j) (g.left k) (λ x y. StillAhead a c x y × (length y + c.taken ≡ length x + a.taken)) (SameAhead c d) (StopsBy stop.Limit a)
    (told_both (g.left i) (g.left j) (StillAhead a b) _ _ before reads.counted
    (λ x y still counted. (still_then still (still_behind y dropped), omega (arith, counted, kept))))
    ahead
    (λ x y z still same. past_limit x y z still.0 none grows same dry.0 dry.1 still.1 limit)
turn_stops g i j k a b c d stop.Fault before reads dropped none kept limit grows ahead dry ends =
    told_then (g.left i) (g.left j) (g.left k) (StillAhead a b) (SameAhead c d) (StopsBy stop.Fault a) before ahead (λ x y z still same. tt)
