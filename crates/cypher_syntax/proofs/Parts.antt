-- A text is its tokens, with white space and comments between them.
use Rattle.std.proofs.Common.{◌≡◌, ℕ, zero, suc, ◌+◌, ◌-◌, ◌≤◌, ◌<◌, List, [], ◌∷◌, ◌++◌, length, take, drop, get_or, true, false, nat_lt, ltb-false, refl, sym, ap, subst, ◌∙◌, arith, append_assoc}
use Rattle.std.specs.List.{slice_range}
use Rattle.std.proofs.lemmas.List.{drop-drop, drop_all, drop_more, length-drop}
use borrow.Author.Tests.{ltb-true}
use Rattle.cypher_syntax.specs.declared.token.Token.{Token}
use Rattle.cypher_syntax.specs.declared.lexer.front.Front.{Front}
use Rattle.cypher_syntax.specs.declared.lexer.front.Front.TheVariants.{Gap, Made, Fault}
use Rattle.cypher_syntax.specs.Lexing.{Lexed, with_token, after_front, front_of, lexed_from, lexed}
use Rattle.cypher_syntax.specs.Spans.{IsGap, Nothing, Blank, Line, Closed, IsSpelling, IsParted, end_of}
use Rattle.cypher_syntax.proofs.Fronts.{IsWithin, within_at}
use Rattle.cypher_syntax.proofs.Lexes.{lexed_first, lexed_behind}
use Rattle.cypher_syntax.proofs.Spelled.{Said}
use Rattle.cypher_syntax.proofs.Quoted.{front_said}

gap-append : (g h : List ℕ) → IsGap g → IsGap h → IsGap (g ++ h)
gap-append g h Nothing k = k
gap-append g h (Blank b rest is r) k = Blank b (rest ++ h) is (gap-append rest h r k)
gap-append g h (Line text rest is r) k =
    let P : List ℕ → Type 0 = λ ys. IsGap (47 ∷ 47 ∷ ys) in
    subst P (sym (append_assoc text rest h)) (Line text (rest ++ h) is (gap-append rest h r k))
gap-append g h (Closed text rest r) k =
    let P : List ℕ → Type 0 = λ ys. IsGap (47 ∷ 42 ∷ ys) in
    subst P (sym (append_assoc text (42 ∷ 47 ∷ rest) h)) (Closed text (rest ++ h) (gap-append rest h r k))

take_nil : (k : ℕ) → take {A = ℕ} k [] ≡ []
take_nil zero = refl
take_nil (suc k) = refl

take_more_of : (a b : ℕ) (xs : List ℕ) → take (a + b) xs ≡ take a xs ++ take b (drop a xs)
take_more_of zero b xs = ap (λ k. take k xs) (omega arith)
take_more_of (suc a) b [] = take_nil (suc a + b) ∙ sym (take_nil b)
take_more_of (suc a) b (x ∷ xs) =
    let e : suc a + b ≡ suc (a + b) = omega arith in
    ap (λ k. take k (x ∷ xs)) e ∙ ap (λ (ys : List ℕ). x ∷ ys) (take_more_of a b xs)

-- a gap that goes on
gap_more : (text : List ℕ) (start at n : ℕ) → start ≤ at → IsGap (slice_range text start at) → IsGap (take n (drop at text)) → IsGap (slice_range text start (at + n))
gap_more text start at n le gap more =
    let count : at + n - start ≡ at - start + n = omega arith in
    let place : start + (at - start) ≡ at = omega arith in
    let P : List ℕ → Type 0 = IsGap in
    let split : slice_range text start (at + n) ≡ slice_range text start at ++ take n (drop at text) =
    ap (λ k. take k (drop start text)) count
    ∙ take_more_of (at - start) n (drop start text)
    ∙ ap (λ ys. slice_range text start at ++ take n ys) (drop-drop (at - start) start text ∙ ap (λ k. drop k text) place) in
    subst P (sym split) (gap-append (slice_range text start at) (take n (drop at text)) gap more)

no_gap : (text : List ℕ) (at : ℕ) → IsGap (slice_range text at at)
no_gap text at = let e : 0 ≡ at - at = omega arith in let P : ℕ → Type 0 = λ k. IsGap (take k (drop at text)) in subst P e Nothing

said_at : (text : List ℕ) (at : ℕ) → at < length text → Said (front_of (drop at text)) (drop at text)
said_at text at there =
    let more = drop_more text at 0 there in
    let P : List ℕ → Type 0 = λ ys. Said (front_of ys) ys in
    subst P (sym more) (front_said (get_or text at 0) (drop (at + 1) text))

abbrev Rest : List ℕ → ℕ → Lexed → Type 0
Rest text start lexed = IsParted text start lexed.tokens (end_of text lexed.fault)

-- one place, by what stands there
parted_at : (text : List ℕ) (start at : ℕ) (f : Front) → start ≤ at → IsGap (slice_range text start at) → f ≡ front_of (drop at text) → IsWithin f (length text - at) → Said f (drop at text) → at < length text
    → ((start' at' : ℕ) → at < at' → at' ≤ length text → start' ≤ at' → IsGap (slice_range text start' at') → Rest text start' (lexed_from at' 0 (drop at' text)))
    → Rest text start (after_front at f (λ skip. lexed_from (at + 1) skip (drop 1 (drop at text))))
parted_at text start at (Gap n) le gap is within said there ih =
    let P : Lexed → Type 0 = λ l. Rest text start l in
    let some : 0 < n = within.0 in
    let room : n ≤ length text - at = within.1 in
    let behind = lexed_behind at n (drop at text) some ∙ ap (λ ys. lexed_from (at + n) 0 ys) (drop-drop n at text) in
    subst P (sym behind) (ih start (at + n) (omega arith) (omega arith) (omega arith) (gap_more text start at n le gap said))
parted_at text start at (Made w n) le gap is within said there ih =
    let t : Token = record { what = w; from = at; to = at + n } in
    let P : Lexed → Type 0 = λ l. Rest text start (with_token t l) in
    let some : 0 < n = within.0 in
    let room : n ≤ length text - at = within.1 in
    let behind = lexed_behind at n (drop at text) some ∙ ap (λ ys. lexed_from (at + n) 0 ys) (drop-drop n at text) in
    let count : n ≡ at + n - at = omega arith in
    let Q : ℕ → Type 0 = λ k. IsSpelling w (take k (drop at text)) in
    subst P (sym behind) (le, omega arith, gap, subst Q count said, ih (at + n) (at + n) (omega arith) (omega arith) (omega arith) (no_gap text (at + n)))
parted_at text start at Fault le gap is within said there ih = (le, gap)

at_end : (text : List ℕ) (start at : ℕ) → length text ≤ at → at ≤ length text → start ≤ at → IsGap (slice_range text start at) → Rest text start (lexed_from at 0 (drop at text))
unfolding lexed_from
at_end text start at past room le gap =
    let P : List ℕ → Type 0 = λ ys. Rest text start (lexed_from at 0 ys) in
    let e : at ≡ length text = omega arith in
    let Q : ℕ → Type 0 = λ k. (start ≤ k) × IsGap (slice_range text start k) in
    subst P (sym (drop_all at text past)) (subst Q e (le, gap))

parted_from : (fuel : ℕ) (text : List ℕ) (start at : ℕ) → length text - at < fuel → at ≤ length text → start ≤ at → IsGap (slice_range text start at) → Rest text start (lexed_from at 0 (drop at text))
parted_from zero text start at low room le gap = absurd (omega arith)
parted_from (suc fuel) text start at low room le gap =
    elim (nat_lt at (length text)) as (λ b. nat_lt at (length text) ≡ b → Rest text start (lexed_from at 0 (drop at text))) [
      | true ↦ λ h. (let there : at < length text = ltb-true at (length text) h in
          let left : 0 < length (drop at text) = omega (arith, length-drop at text) in
          let P : Lexed → Type 0 = λ l. Rest text start l in
          subst P (sym (lexed_first at (drop at text) left))
          (parted_at text start at (front_of (drop at text)) le gap refl (within_at text at (front_of (drop at text)) there refl) (said_at text at there) there
          (λ start' at' later room' le' gap'. parted_from fuel text start' at' (omega arith) room' le' gap')))
      | false ↦ λ h. (let past : length text ≤ at = ltb-false at (length text) h in at_end text start at past room le gap)
    ] refl

pub parted : (text : List ℕ) → IsParted text 0 (lexed text).tokens (end_of text (lexed text).fault)
parted text = parted_from (suc (length text)) text 0 0 (omega arith) (omega arith) (omega arith) (no_gap text 0)
