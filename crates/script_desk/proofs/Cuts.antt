-- The lines of a text, cut at its line ends one after the other.
use Rattle.std.proofs.Common.{◌≡◌, ◌≢◌, ◌++◌, ℕ, suc, ◌+◌, ◌<◌, List, [], ◌∷◌, Bool, true, false, not, cond, drop, length, take, refl, sym, ap, ◌∙◌, append-nil, arith}
use Rattle.std.specs.Prelude.{◌==◌}
use Rattle.std.proofs.lemmas.Bool.{false≢true}
use Rattle.std.specs.List.{after_first, before_first, flat_map, position_or_len}
use Rattle.wire_line.specs.Lines.{in_first, lines_of}
use Rattle.script_desk.specs.Naming.{prefixed, reply_lines}

abbrev pub is_end : ℕ → Bool
is_end b = b == 10

abbrev place : List ℕ → ℕ
place s = position_or_len is_end s

more_one : (n : ℕ) → suc n ≡ 1 + n
more_one n = omega arith

more_two : (n : ℕ) → suc (n + 1) ≡ 1 + n + 1
more_two n = omega arith

pub lines_step : (s : List ℕ) → place s < length s → lines_of s ≡ before_first is_end s ∷ lines_of (after_first is_end s)
lines_step [] h = absurd (omega (arith, h))
lines_step (b ∷ s) h = by (b == 10) (lines_step s) h
  where
    by : (e : Bool) → (place s < length s → lines_of s ≡ before_first is_end s ∷ lines_of (after_first is_end s))
        → cond (not e) (1 + place s) 0 < length (b ∷ s)
        → cond e ([] ∷ lines_of s) (in_first b (lines_of s)) ≡ take (cond (not e) (1 + place s) 0) (b ∷ s) ∷ lines_of (drop (cond (not e) (1 + place s) 0 + 1) (b ∷ s))
    by true rest k = refl
    by false rest k =
        ap (in_first b) (rest (omega (arith, k)))
        ∙ ap (λ n. take n (b ∷ s) ∷ lines_of (drop (place s + 1) s)) (more_one (place s))
        ∙ ap (λ n. take (1 + place s) (b ∷ s) ∷ lines_of (drop n (b ∷ s))) (more_two (place s))

pub one_line : (b : ℕ) (s : List ℕ) → place (b ∷ s) ≡ length (b ∷ s) → lines_of (b ∷ s) ≡ (b ∷ s) ∷ []
one_line b [] h = by (b == 10) h
  where
    by : (e : Bool) → ◌≡◌ {A = ℕ} (cond (not e) 1 0) 1 → cond e ([] ∷ []) ((b ∷ []) ∷ []) ≡ (b ∷ []) ∷ []
    by true k = absurd (omega (arith, k))
    by false k = refl
one_line b (c ∷ s) h = by (b == 10) (one_line c s) h
  where
    by : (e : Bool) → (place (c ∷ s) ≡ length (c ∷ s) → lines_of (c ∷ s) ≡ (c ∷ s) ∷ [])
        → cond (not e) (1 + place (c ∷ s)) 0 ≡ length (b ∷ c ∷ s) → cond e ([] ∷ lines_of (c ∷ s)) (in_first b (lines_of (c ∷ s))) ≡ (b ∷ c ∷ s) ∷ []
    by true rest k = absurd (omega (arith, k))
    by false rest k = ap (in_first b) (rest (omega (arith, k)))

-- ---- with a name in front of each line

pub replies_step : (name s line behind : List ℕ) → place s < length s → line ≡ before_first is_end s → behind ≡ after_first is_end s →
    prefixed name line ++ reply_lines name behind ≡ reply_lines name s
replies_step name s line behind h is_line is_behind =
    ap (λ l. prefixed name l ++ reply_lines name behind) is_line
    ∙ ap (λ l. prefixed name (before_first is_end s) ++ reply_lines name l) is_behind
    ∙ sym (ap (flat_map (prefixed name)) (lines_step s h))

pub replies_line : (name s : List ℕ) → place s ≡ length s → s ≢ [] → prefixed name s ≡ reply_lines name s
replies_line name [] h there = absurd (there refl)
replies_line name (b ∷ s) h there = sym (ap (flat_map (prefixed name)) (one_line b s h) ∙ append-nil (prefixed name (b ∷ s)))

pub not_empty : (s : List ℕ) → (length s == 0) ≡ false → s ≢ []
not_empty [] h = absurd (false≢true (sym h))
not_empty (b ∷ s) h = λ e. absurd cc
