-- Writing a text between quotes, a run of bytes that stand for themselves and the byte behind it at a time.
use Rattle.std.proofs.Common.{◌≡◌, ℕ, suc, ◌<◌, Bool, true, false, cond, not, ◌||◌, eqb, List, [], ◌∷◌, ◌++◌, length, take, drop, get_or, Some, slice_get, refl, sym, ap, subst, ◌∙◌, append_assoc, arith}
use Rattle.std.specs.List.{flat_map, prefix_len}
use Rattle.std.specs.Str.{IsUtf8, IsCharBoundary}
use Rattle.std.proofs.lemmas.Str.{IsCharBoundary-after_ascii}
use Rattle.std.proofs.lemmas.Bool.{false≢true}
use Rattle.std.proofs.lemmas.Bool.Decides.{nat_tests}
use Rattle.std.proofs.lemmas.List.{take-append-drop}
use Rattle.std.proofs.lemmas.List.Concat.{flat_map-append}
use Rattle.cypher_print.specs.Pieces.{spelled, escaped, is_ordinary}

plain_escape : (a b c d e f g : Bool) (x : ℕ) → not (a || b || c || d || e || f || g) ≡ true
    → cond a (92 ∷ 92 ∷ []) (cond b (92 ∷ 39 ∷ []) (cond c (92 ∷ 98 ∷ []) (cond d (92 ∷ 102 ∷ []) (cond e (92 ∷ 110 ∷ []) (cond f (92 ∷ 114 ∷ []) (cond g (92 ∷ 116 ∷ []) (x ∷ []))))))) ≡ x ∷ []
plain_escape true b c d e f g x h = absurd (false≢true h)
plain_escape false true c d e f g x h = absurd (false≢true h)
plain_escape false false true d e f g x h = absurd (false≢true h)
plain_escape false false false true e f g x h = absurd (false≢true h)
plain_escape false false false false true f g x h = absurd (false≢true h)
plain_escape false false false false false true g x h = absurd (false≢true h)
plain_escape false false false false false false true x h = absurd (false≢true h)
plain_escape false false false false false false false x h = refl

plain_double : (b : Bool) (x : ℕ) → not b ≡ true → cond b (96 ∷ 96 ∷ []) (x ∷ []) ≡ x ∷ []
plain_double true x h = absurd (false≢true h)
plain_double false x h = refl

plain_case : (q : Bool) (b : ℕ) → cond q (not (eqb b 96)) (not (eqb b 92 || eqb b 39 || eqb b 8 || eqb b 12 || eqb b 10 || eqb b 13 || eqb b 9)) ≡ true
    → cond q (cond (eqb b 96) (96 ∷ 96 ∷ []) (b ∷ [])) (escaped b) ≡ b ∷ []
plain_case true b h = plain_double (eqb b 96) b h
plain_case false b h = plain_escape (eqb b 92) (eqb b 39) (eqb b 8) (eqb b 12) (eqb b 10) (eqb b 13) (eqb b 9) b h

is_itself : (q b : ℕ) → is_ordinary q b ≡ true → spelled q b ≡ b ∷ []
is_itself q b h = plain_case (eqb q 96) b h

run_case : (q x : ℕ) (xs : List ℕ) (b : Bool) → is_ordinary q x ≡ b
    → flat_map (spelled q) (take (prefix_len (is_ordinary q) xs) xs) ≡ take (prefix_len (is_ordinary q) xs) xs
    → flat_map (spelled q) (take (prefix_len (is_ordinary q) (x ∷ xs)) (x ∷ xs)) ≡ take (prefix_len (is_ordinary q) (x ∷ xs)) (x ∷ xs)
run_case q x xs true h ih =
    let e : suc (prefix_len (is_ordinary q) xs) ≡ prefix_len (is_ordinary q) (x ∷ xs) = rw h (omega arith) in
    let P : ℕ → Type 0 = λ k. flat_map (spelled q) (take k (x ∷ xs)) ≡ take k (x ∷ xs) in
    subst P e (ap (λ ys. ys ++ flat_map (spelled q) (take (prefix_len (is_ordinary q) xs) xs)) (is_itself q x h) ∙ ap (λ (ys : List ℕ). x ∷ ys) ih)
run_case q x xs false h ih =
    let e : 0 ≡ prefix_len (is_ordinary q) (x ∷ xs) = rw h refl in
    let P : ℕ → Type 0 = λ k. flat_map (spelled q) (take k (x ∷ xs)) ≡ take k (x ∷ xs) in subst P e refl

run_is_itself : (q : ℕ) (xs : List ℕ) → flat_map (spelled q) (take (prefix_len (is_ordinary q) xs) xs) ≡ take (prefix_len (is_ordinary q) xs) xs
run_is_itself q [] = refl
run_is_itself q (x ∷ xs) = run_case q x xs (is_ordinary q x) refl (run_is_itself q xs)

-- what is left to write, by the run at its front
pub by_run : (q : ℕ) (self rest : List ℕ) → self ++ flat_map (spelled q) rest ≡ (self ++ take (prefix_len (is_ordinary q) rest) rest) ++ flat_map (spelled q) (drop (prefix_len (is_ordinary q) rest) rest)
by_run q self rest =
    let r = prefix_len (is_ordinary q) rest in
    ap (λ ys. self ++ flat_map (spelled q) ys) (sym (take-append-drop r rest))
    ∙ ap (λ ys. self ++ ys) (flat_map-append (spelled q) (take r rest) (drop r rest))
    ∙ ap (λ ys. self ++ (ys ++ flat_map (spelled q) (drop r rest))) (run_is_itself q rest)
    ∙ sym (append_assoc self (take r rest) (flat_map (spelled q) (drop r rest)))

-- none stands for itself at the front
abbrev IsStopped : ℕ → List ℕ → Type 0
IsStopped q [] = Unit {0}
IsStopped q (y ∷ ys) = is_ordinary q y ≡ false

stop_step : (q x : ℕ) (xs : List ℕ) → IsStopped q (drop (prefix_len (is_ordinary q) xs) xs) → (b : Bool) → is_ordinary q x ≡ b → IsStopped q (drop (prefix_len (is_ordinary q) (x ∷ xs)) (x ∷ xs))
stop_step q x xs ih true h =
    let e : suc (prefix_len (is_ordinary q) xs) ≡ prefix_len (is_ordinary q) (x ∷ xs) = rw h (omega arith) in
    let P : ℕ → Type 0 = λ k. IsStopped q (drop k (x ∷ xs)) in subst P e ih
stop_step q x xs ih false h =
    let e : 0 ≡ prefix_len (is_ordinary q) (x ∷ xs) = rw h refl in
    let P : ℕ → Type 0 = λ k. IsStopped q (drop k (x ∷ xs)) in subst P e h

run_stops : (q : ℕ) (xs : List ℕ) → IsStopped q (drop (prefix_len (is_ordinary q) xs) xs)
run_stops q [] = tt
run_stops q (x ∷ xs) = stop_step q x xs (run_stops q xs) (is_ordinary q x) refl

first_is : (bytes : List ℕ) (b : ℕ) → Some b ≡ slice_get bytes 0 → bytes ≡ b ∷ drop 1 bytes
first_is [] b h = absurd (cc)
first_is (x ∷ xs) b h = let e : b ≡ x = cc in ap (λ (y : ℕ). y ∷ xs) (sym e)

-- what is behind the run begins with the byte that was seen
pub record Seen (q b mid : ℕ) (rest behind bytes : List ℕ) : Type 0 where
  pub run : mid ≡ prefix_len (is_ordinary q) rest
  pub behind_is : behind ≡ drop mid rest
  pub bytes_are : bytes ≡ behind
  pub first : Some b ≡ slice_get bytes 0

behind_run : {q b mid : ℕ} {rest behind bytes : List ℕ} → Seen q b mid rest behind bytes → drop (prefix_len (is_ordinary q) rest) rest ≡ behind
behind_run {rest = rest} s = ap (λ k. drop k rest) (sym s.run) ∙ sym s.behind_is

front_of_behind : {q b mid : ℕ} {rest behind bytes : List ℕ} → Seen q b mid rest behind bytes → behind ≡ b ∷ drop 1 behind
front_of_behind {b = b} {behind = behind} {bytes = bytes} s = sym s.bytes_are ∙ first_is bytes b s.first ∙ ap (λ ys. b ∷ drop 1 ys) s.bytes_are

pub not_itself : {q b mid : ℕ} {rest behind bytes : List ℕ} → Seen q b mid rest behind bytes → is_ordinary q b ≡ false
not_itself {q = q} {rest = rest} s = let P : List ℕ → Type 0 = IsStopped q in subst P (behind_run s ∙ front_of_behind s) (run_stops q rest)

low_case : (t : Bool) (b : ℕ) → cond t (not (eqb b 96)) (not (eqb b 92 || eqb b 39 || eqb b 8 || eqb b 12 || eqb b 10 || eqb b 13 || eqb b 9)) ≡ false → b < 128
low_case true b h = grind (arith, nat_tests)
low_case false b h = grind (arith, nat_tests)

pub behind_boundary : {q b mid : ℕ} {rest behind bytes : List ℕ} → Seen q b mid rest behind bytes → IsUtf8 behind → IsCharBoundary behind 1
behind_boundary {q = q} {b = b} {behind = behind} s utf8 =
    let is = front_of_behind s in
    let low : b < 128 = low_case (eqb q 96) b (not_itself s) in
    let there : 0 < length behind = omega (arith, ap length is) in
    let first : get_or behind 0 0 ≡ b = ap (λ ys. get_or ys 0 0) is in
    let ascii : get_or behind 0 0 < 128 = omega (arith, first, low) in
    IsCharBoundary-after_ascii behind 0 utf8 there ascii

-- a turn that wrote a run and the byte behind it
pub some_step : {q b mid : ℕ} {rest behind bytes : List ℕ} (self plain self' piece self'' rest' : List ℕ) → Seen q b mid rest behind bytes
    → plain ≡ take mid rest → self' ≡ self ++ plain → piece ≡ spelled q b → self'' ≡ self' ++ piece → rest' ≡ drop 1 behind
    → self'' ++ flat_map (spelled q) rest' ≡ self ++ flat_map (spelled q) rest
some_step {q = q} {b = b} {rest = rest} {behind = behind} self plain self' piece self'' rest' s p1 p2 p3 p4 p5 =
    let r = prefix_len (is_ordinary q) rest in
    let first : self' ≡ self ++ take r rest = p2 ∙ ap (λ ys. self ++ ys) (p1 ∙ ap (λ k. take k rest) s.run) in
    ap (λ ys. ys ++ flat_map (spelled q) rest') (p4 ∙ ap (λ ys. self' ++ ys) p3)
    ∙ ap (λ ys. (self' ++ spelled q b) ++ flat_map (spelled q) ys) p5
    ∙ append_assoc self' (spelled q b) (flat_map (spelled q) (drop 1 behind))
    ∙ ap (λ ys. self' ++ flat_map (spelled q) ys) (sym (behind_run s ∙ front_of_behind s))
    ∙ ap (λ ys. ys ++ flat_map (spelled q) (drop r rest)) first
    ∙ sym (by_run q self rest)

-- a turn that wrote the last run
pub none_step : (q mid : ℕ) (self rest plain behind self' : List ℕ) → mid ≡ prefix_len (is_ordinary q) rest → behind ≡ drop mid rest → plain ≡ take mid rest → self' ≡ self ++ plain
    → self' ++ flat_map (spelled q) behind ≡ self ++ flat_map (spelled q) rest
none_step q mid self rest plain behind self' run bi pi si =
    ap (λ ys. ys ++ flat_map (spelled q) behind) (si ∙ ap (λ ys. self ++ ys) (pi ∙ ap (λ k. take k rest) run))
    ∙ ap (λ ys. (self ++ take (prefix_len (is_ordinary q) rest) rest) ++ flat_map (spelled q) ys) (bi ∙ ap (λ k. drop k rest) run)
    ∙ sym (by_run q self rest)
