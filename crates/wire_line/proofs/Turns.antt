-- Facts on what is ahead of a reader, and on what its answers say.
use Rattle.std.proofs.Common.{◌≡◌, ℕ, ◌+◌, ◌<◌, ◌≤◌, Bool, true, false, List, [], ◌++◌, length, take, drop, refl, sym, ap, ◌∙◌, subst, arith, append_assoc}
use Rattle.std.specs.Prelude.{slice_range}
use Rattle.std.proofs.lemmas.List.{append-nil, length-append, length-take, take_at, take-append-le}
use Rattle.wire_line.specs.declared.line.TheConstants.{LINE_LIMIT, INPUT_LIMIT}
use Rattle.wire_line.specs.declared.line.Line.{Line}
use Rattle.wire_line.specs.declared.line.Line.TheVariants.{Whole, TooLong, End, Limit, Fault}
use Rattle.wire_line.specs.declared.line.LineSpan.{LineSpan}
use Rattle.wire_line.specs.Lines.{first_line, after_line, without_return, HasNoEnd}
use Rattle.wire_line.specs.Intake.{Intake, Says, StillAhead, IsDropped, within_limit, GoesPast, IsLimitAnswer, IsLine}
use Rattle.wire_line.specs.Buffer.{Grows, SameAhead, IsLastAnswer}
use Rattle.wire_line.proofs.FirstLine.{first_line-append, after_line-append, first_line-ended, after_line-ended}

-- WHAT IS STILL AHEAD

dropped_none : (passing : Bool) → IsDropped passing passing []
dropped_none true = tt
dropped_none false = (refl, refl)

dropped_then : (p q r : Bool) (first second : List ℕ) → IsDropped p q first → IsDropped q r second → IsDropped p r (first ++ second)
dropped_then false false false first second one two = (refl, rw (one.1, two.1) refl)
dropped_then false false true first second one two = omega (arith, length-append first second, two)
dropped_then false true true first second one two = omega (arith, length-append first second, one)
dropped_then true false r first second one two = absurd (let wrong : true ≡ false = one.0 in cc)
dropped_then true true true first second one two = tt
dropped_then false true false first second one two = absurd (let wrong : true ≡ false = two.0 in cc)
dropped_then true true false first second one two = absurd (let wrong : true ≡ false = two.0 in cc)

pub still_same : (a : Intake) (l : List ℕ) → StillAhead a a l l
still_same a l = record { dropped = []; no_end = refl; ahead = refl; known = dropped_none a.passing }

pub still_then : {a b c : Intake} {l m n : List ℕ} → StillAhead a b l m → StillAhead b c m n → StillAhead a c l n
still_then {a} {b} {c} {l} {m} {n} first second = record {
  dropped = first.dropped ++ second.dropped;
  no_end = first_line-append first.dropped second.dropped first.no_end ∙ ap (λ (rest : List ℕ). first.dropped ++ rest) second.no_end;
  ahead = first.ahead ∙ ap (λ (rest : List ℕ). first.dropped ++ rest) second.ahead ∙ sym (append_assoc first.dropped second.dropped (c.waiting ++ n));
  known = dropped_then a.passing b.passing c.passing first.dropped second.dropped first.known second.known;
}

-- whatever stands behind what waits
pub still_behind : {a b : Intake} (l : List ℕ) → StillAhead a b [] [] → StillAhead a b l l
still_behind {a} {b} l still = record {
  dropped = still.dropped;
  no_end = still.no_end;
  ahead = ap (λ (front : List ℕ). front ++ l) (sym (append-nil a.waiting) ∙ still.ahead ∙ ap (λ (rest : List ℕ). still.dropped ++ rest) (append-nil b.waiting))
      ∙ append_assoc still.dropped b.waiting l;
  known = still.known;
}

pub still_grown : {a b : Intake} (l m : List ℕ) → Grows a b → SameAhead a b l m → StillAhead a b l m
still_grown {a} {b} l m grows same = record {
  dropped = [];
  no_end = refl;
  ahead = sym same;
  known = let P : Bool → Type 0 = λ p. IsDropped a.passing p [] in subst P (sym grows.passing) (dropped_none a.passing);
}

-- what waited is in front of what waits
pub front_grown : (front w w' more : List ℕ) → take (length front) w ≡ front → w' ≡ w ++ more → take (length front) w' ≡ front
front_grown front w w' more is grown =
    let short : length front ≤ length w = omega (arith, ap length is, length-take (length front) w) in
    rw (grown, take-append-le (length front) w more short) is

-- what a line says where nothing but the front of a long line went before it
pub says_later : (line : Line) {a b : Intake} (c : Intake) {l m : List ℕ} (n : List ℕ) → StillAhead a b l m → IsLimitAnswer line c.taken → c.taken ≤ INPUT_LIMIT
    → Says line b c m n → Says line a c l n
says_later (Whole span) {a} {b} c {l} {m} n still limit within says =
    let P : Bool → Type 0 = λ p. IsDropped a.passing p still.dropped in
    let none : (a.passing ≡ false) × (still.dropped ≡ []) = subst P says.at_start still.known in
    let same : a.waiting ++ l ≡ b.waiting ++ m = still.ahead ∙ ap (λ (d : List ℕ). d ++ (b.waiting ++ m)) none.1 in
    record {
      at_start = none.0;
      there = rw same says.there;
      short = rw same says.short;
      text = rw same says.text;
      behind = rw same says.behind;
      at_next = says.at_next;
    }
says_later TooLong {a} {b} c {l} {m} n still limit within says =
    let line : first_line (a.waiting ++ l) ≡ still.dropped ++ first_line (b.waiting ++ m) =
    ap first_line still.ahead ∙ first_line-append still.dropped (b.waiting ++ m) still.no_end in
    record {
      long = long_later a.passing b.passing still.dropped (first_line (b.waiting ++ m)) (first_line (a.waiting ++ l)) line still.known says.long;
      behind = says.behind ∙ sym (ap after_line still.ahead ∙ after_line-append still.dropped (b.waiting ++ m) still.no_end);
      at_next = says.at_next;
    }
  where
    long_later : (p q : Bool) (dropped rest whole : List ℕ) → whole ≡ dropped ++ rest → IsDropped p q dropped
        → (q ≡ false → LINE_LIMIT < length rest) → p ≡ false → LINE_LIMIT < length whole
    long_later false false dropped rest whole is known long _ = omega (arith, ap length is, length-append dropped rest, long refl)
    long_later false true dropped rest whole is known long _ = omega (arith, ap length is, length-append dropped rest, known)
    long_later true q dropped rest whole is known long start = cc
says_later End {a} {b} c {l} {m} n still limit within says =
    let P : Bool → Type 0 = λ p. IsDropped a.passing p still.dropped in
    let none : (a.passing ≡ false) × (still.dropped ≡ []) = subst P says.at_start still.known in
    let same : a.waiting ++ l ≡ b.waiting ++ m = still.ahead ∙ ap (λ (d : List ℕ). d ++ (b.waiting ++ m)) none.1 in
    record { at_start = none.0; nothing = same ∙ says.nothing; still = says.still }
says_later Limit c n still limit within says = absurd (omega (arith, limit, within))
says_later Fault c n still limit within says = still_then still says

-- THE LIMIT OF THE INPUT

-- A front without a line end reaches up to the limit, and there is one byte behind it.
pub past_limit : {a b c : Intake} (l m n : List ℕ) → StillAhead a b l m → HasNoEnd b.waiting → Grows b c → SameAhead b c m n
    → b.taken ≡ INPUT_LIMIT → c.taken ≡ INPUT_LIMIT + 1 → length m + b.taken ≡ length l + a.taken → a.taken ≤ INPUT_LIMIT
    → GoesPast (within_limit a) (a.waiting ++ l)
past_limit {a} {b} {c} l m n still none grows same was now counted limit =
    let front : List ℕ = still.dropped ++ b.waiting in
    let whole : a.waiting ++ l ≡ front ++ m = still.ahead ∙ sym (append_assoc still.dropped b.waiting m) in
    let free : HasNoEnd front = first_line-append still.dropped b.waiting still.no_end ∙ ap (λ (rest : List ℕ). still.dropped ++ rest) none in
    let some : 0 < length m = omega (
      arith,
      grows.count,
      ap length same,
      ap length grows.waiting,
      length-append b.waiting grows.more,
      length-append c.waiting n,
      length-append b.waiting m,
    ) in
    let width : within_limit a ≡ length front = omega (arith, ap length whole, length-append a.waiting l, length-append front m, counted) in
    record {
      more = omega (arith, ap length whole, length-append front m, some, width);
      no_end = rw (width, whole, take_at front m (length front) refl) free;
    }

-- WHAT A LINE SAYS

-- the bytes ahead, where a line end waits
module _ (a c : Intake) (left : List ℕ) (ended : length (first_line a.waiting) < length a.waiting)
    (rest : c.waiting ≡ drop (length (first_line a.waiting) + 1) a.waiting) where
  line_ahead : first_line (a.waiting ++ left) ≡ first_line a.waiting
  line_ahead = first_line-ended a.waiting left ended

  rest_behind : c.waiting ++ left ≡ after_line (a.waiting ++ left)
  rest_behind = ap (λ (front : List ℕ). front ++ left) rest ∙ sym (after_line-ended a.waiting left ended)

  pub says_whole : (span : LineSpan) → a.passing ≡ false → length (first_line a.waiting) ≤ LINE_LIMIT
      → slice_range c.buffer span.from span.to ≡ without_return (first_line a.waiting) → c.passing ≡ false → Says (Whole span) a c left left
  says_whole span start short text next = record {
    at_start = start;
    there = λ none. omega (arith, ap length none, length-append a.waiting left, ended);
    short = rw line_ahead short;
    text = rw line_ahead text;
    behind = rest_behind;
    at_next = next;
  }

  pub says_too_long : (a.passing ≡ false → LINE_LIMIT < length (first_line a.waiting)) → c.passing ≡ false → Says TooLong a c left left
  says_too_long long next = record { long = rw line_ahead long; behind = rest_behind; at_next = next }

-- what waits at the end of the input, without a line end
module _ (a c : Intake) (none : HasNoEnd a.waiting) (rest : c.waiting ≡ []) where
  line_is : first_line (a.waiting ++ []) ≡ a.waiting
  line_is = first_line-append a.waiting [] none ∙ append-nil a.waiting

  rest_is : c.waiting ++ [] ≡ after_line (a.waiting ++ [])
  rest_is = append-nil c.waiting ∙ rest ∙ sym (after_line-append a.waiting [] none)

  pub says_last : (span : LineSpan) → a.passing ≡ false → 0 < length a.waiting → length a.waiting ≤ LINE_LIMIT
      → slice_range c.buffer span.from span.to ≡ without_return a.waiting → c.passing ≡ false → Says (Whole span) a c [] []
  says_last span start some short text next = record {
    at_start = start;
    there = λ empty. omega (arith, ap length empty, ap length (append-nil a.waiting), some);
    short = rw line_is short;
    text = rw line_is text;
    behind = rest_is;
    at_next = next;
  }

  pub says_last_too_long : a.passing ≡ true → c.passing ≡ false → Says TooLong a c [] []
  says_last_too_long passing next = record { long = λ start. let wrong : true ≡ false = sym passing ∙ start in cc; behind = rest_is; at_next = next }

  pub says_end : a.passing ≡ false → a.waiting ≡ [] → Says End a c [] []
  says_end start empty = record { at_start = start; nothing = append-nil a.waiting ∙ empty; still = append-nil c.waiting ∙ rest }

-- an answer at the end of the input is no limit and no fault
pub last_within : (line : Line) (taken : ℕ) → IsLastAnswer line → taken ≤ INPUT_LIMIT → IsLimitAnswer line taken
last_within (Whole span) taken last within = within
last_within TooLong taken last within = within
last_within End taken last within = within
last_within Limit taken last within = absurd last
last_within Fault taken last within = absurd last

-- the answer is a line, so it isn't the limit
pub line_within : (line : Line) (taken : ℕ) → IsLine line → taken ≤ INPUT_LIMIT → IsLimitAnswer line taken
line_within (Whole span) taken is within = within
line_within TooLong taken is within = within
line_within End taken is within = absurd is
line_within Limit taken is within = absurd is
line_within Fault taken is within = absurd is
