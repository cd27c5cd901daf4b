-- Facts on the part of a buffer that waits: a search in it, and bytes that come behind it.
use Rattle.std.proofs.Common.{◌≡◌, ℕ, ◌+◌, ◌-◌, ◌≤◌, Bool, List, [], ◌++◌, length, take, drop, refl, sym, ap, ◌∙◌, arith, append_assoc}
use Rattle.std.specs.Prelude.{slice_range}
use Rattle.std.proofs.lemmas.List.{length-append, length-take-le, length-drop, take-take}
use Rattle.std.proofs.lemmas.Slice.{between_is}
use Rattle.wire_line.specs.declared.lines.TheConstants.{CAPACITY}
use Rattle.wire_line.specs.declared.line.TheConstants.{INPUT_LIMIT}
use Rattle.wire_line.specs.Lines.{first_line, HasNoEnd}
use Rattle.wire_line.specs.Buffer.{IsPart, Grows}
use Rattle.wire_line.proofs.FirstLine.{first_line-append, length-first_line, first_line-take, first_line-first_line, no_end_from_length}
use Rattle.wire_line.proofs.Spans.{range_join, length-range, take-range, drop-range}

-- the place of the first line end, from the place where a search went on
pub search_place : (buffer : List ℕ) (start searched end taken n : ℕ) → IsPart buffer start searched end taken
    → n ≡ length (first_line (slice_range buffer searched end))
    → searched + n ≡ start + length (first_line (slice_range buffer start end))
search_place buffer start searched end taken n part found =
    let joined : first_line (slice_range buffer start end) ≡ slice_range buffer start searched ++ first_line (slice_range buffer searched end) =
    ap first_line (range_join buffer start searched end part.from_start part.to_end)
    ∙ first_line-append (slice_range buffer start searched) (slice_range buffer searched end) part.no_end in
    omega (
      arith,
      ap length joined,
      length-append (slice_range buffer start searched) (first_line (slice_range buffer searched end)),
      length-range buffer start searched part.from_start (omega arith),
    )

pub search_within : (buffer : List ℕ) (start searched end taken n : ℕ) → IsPart buffer start searched end taken
    → n ≡ length (first_line (slice_range buffer searched end)) → searched + n ≤ end
search_within buffer start searched end taken n part found =
    omega (arith, length-first_line (slice_range buffer searched end), length-range buffer searched end part.to_end (omega arith))

pub search_part : (buffer : List ℕ) (start searched end taken n : ℕ) → IsPart buffer start searched end taken
    → n ≡ length (first_line (slice_range buffer searched end)) → IsPart buffer start (searched + n) end taken
search_part buffer start searched end taken n part found =
    let place = search_place buffer start searched end taken n part found in
    let within = search_within buffer start searched end taken n part found in
    let line : slice_range buffer start (start + length (first_line (slice_range buffer start end))) ≡ first_line (slice_range buffer start end) =
    sym (take-range buffer (length (first_line (slice_range buffer start end))) start end (omega arith))
    ∙ first_line-take (slice_range buffer start end) in
    record {
      size = part.size;
      from_start = omega arith;
      to_end = within;
      inside = part.inside;
      counted = part.counted;
      bounded = part.bounded;
      no_end = rw (place, line) (first_line-first_line (slice_range buffer start end));
    }

pub search_none : (buffer : List ℕ) (start searched end taken n : ℕ) → IsPart buffer start searched end taken
    → n ≡ length (first_line (slice_range buffer searched end)) → end ≤ searched + n → HasNoEnd (slice_range buffer start end)
search_none buffer start searched end taken n part found all =
    no_end_from_length (slice_range buffer start end)
    (omega (arith, search_place buffer start searched end taken n part found, length-range buffer start end (omega arith) (omega arith)))

-- the size of what waits
pub part_length : (buffer : List ℕ) (start searched end taken : ℕ) → IsPart buffer start searched end taken → length (slice_range buffer start end) + start ≡ end
part_length buffer start searched end taken part = length-range buffer start end (omega arith) (omega arith)

-- A buffer that holds the same before a place has the same parts there.
range-same : (old new : List ℕ) (at i j : ℕ) → j ≤ at → take at new ≡ take at old → slice_range new i j ≡ slice_range old i j
range-same old new at i j below same =
    between_is new i j
    ∙ ap (drop i) (sym (take-take j at new below) ∙ ap (take j) same ∙ take-take j at old below)
    ∙ sym (between_is old i j)

pub length-more : (new : List ℕ) (end n : ℕ) → end + n ≤ length new → length (take n (drop end new)) ≡ n
length-more new end n there = length-take-le n (drop end new) (omega (arith, length-drop end new))

-- n bytes come behind the part
pub part_more : (old new : List ℕ) (start searched end taken n end' taken' : ℕ) → IsPart old start searched end taken
    → length new ≡ length old → take end new ≡ take end old → end' ≡ end + n → taken' ≡ taken + n → end' ≤ CAPACITY → taken' ≤ INPUT_LIMIT + 1
    → IsPart new start searched end' taken'
part_more old new start searched end taken n end' taken' part size same to now room limit = record {
  size = size ∙ part.size;
  from_start = part.from_start;
  to_end = omega arith;
  inside = room;
  counted = omega arith;
  bounded = limit;
  no_end = rw (range-same old new end start searched part.to_end same) part.no_end;
}

pub waiting_more : (old new : List ℕ) (start searched end taken n end' : ℕ) → IsPart old start searched end taken
    → take end new ≡ take end old → end' ≡ end + n
    → slice_range new start end' ≡ slice_range old start end ++ take n (drop end new)
waiting_more old new start searched end taken n end' part same to =
    let width : end' - end ≡ n = omega arith in
    range_join new start end end' (omega arith) (omega arith)
    ∙ ap (λ (front : List ℕ). front ++ slice_range new end end') (range-same old new end start end (omega arith) same)
    ∙ ap (λ (k : ℕ). slice_range old start end ++ take k (drop end new)) width

pub grows_more : (old new : List ℕ) (start searched end taken n end' taken' room room' : ℕ) (passing : Bool) → IsPart old start searched end taken
    → length new ≡ length old → take end new ≡ take end old → end' ≡ end + n → taken' ≡ taken + n → end' ≤ CAPACITY
    → Grows (record { waiting = slice_range old start end; taken = taken; buffer = old; passing = passing; room = room })
    (record { waiting = slice_range new start end'; taken = taken'; buffer = new; passing = passing; room = room' })
grows_more old new start searched end taken n end' taken' room room' passing part size same to now inside = record {
  more = take n (drop end new);
  waiting = waiting_more old new start searched end taken n end' part same to;
  count = omega (arith, now, length-more new end n (omega (arith, to, inside, size, part.size)));
  passing = refl;
}

pub ahead_more : (waiting waiting' given left left' : List ℕ) → waiting' ≡ waiting ++ given → left ≡ given ++ left' → waiting' ++ left' ≡ waiting ++ left
ahead_more waiting waiting' given left left' more is =
    ap (λ (front : List ℕ). front ++ left') more ∙ append_assoc waiting given left' ∙ ap (λ (rest : List ℕ). waiting ++ rest) (sym is)

-- the line that waits, and what stands behind its line end
pub line_text : (buffer : List ℕ) (start end len : ℕ) → len ≡ length (first_line (slice_range buffer start end)) → start + len ≤ end
    → slice_range buffer start (start + len) ≡ first_line (slice_range buffer start end)
line_text buffer start end len is inside =
    sym (take-range buffer len start end inside) ∙ ap (λ (n : ℕ). take n (slice_range buffer start end)) is ∙ first_line-take (slice_range buffer start end)

pub line_rest : (buffer : List ℕ) (start end len : ℕ) → len ≡ length (first_line (slice_range buffer start end)) → start + len + 1 ≤ end
    → slice_range buffer (start + len + 1) end ≡ drop (length (first_line (slice_range buffer start end)) + 1) (slice_range buffer start end)
line_rest buffer start end len is inside =
    let place : start + len + 1 ≡ start + (length (first_line (slice_range buffer start end)) + 1) = omega (arith, is) in
    ap (λ (at : ℕ). slice_range buffer at end) place
    ∙ sym (drop-range buffer (length (first_line (slice_range buffer start end)) + 1) start end (omega (arith, is, inside)))

pub range_empty : (buffer : List ℕ) (i : ℕ) → slice_range buffer i i ≡ []
range_empty buffer i = let none : i - i ≡ 0 = omega arith in rw none refl
