-- Blanks are passed, and words and signs are read as themselves.
use Rattle.std.proofs.Common.{◌≡◌, ℕ, suc, ◌+◌, ◌<◌, Bool, true, false, cond, not, ◌&&◌, ◌||◌, eqb, List, [], ◌∷◌, length, drop, refl, sym, ap, ◌∙◌, arith}
use Rattle.std.specs.List.{prefix_len, list_any}
use Rattle.std.specs.Char.{is_ascii_digit}
use Rattle.std.proofs.lemmas.Bool.{false≢true}
use Rattle.std.proofs.lemmas.Bool.Decides.{nat_tests}
use Rattle.cypher_syntax.specs.declared.token.What.TheVariants as what
use Rattle.cypher_syntax.specs.declared.lexer.front.Front.TheVariants.{Gap, Made}
use Rattle.cypher_syntax.specs.Bytes.{is_blank, begins_word, is_quote, short_signs, is_sign, is_long_sign}
use Rattle.cypher_syntax.specs.Lexing.{unquoted_front, front_of, sign_front, slash_front, after_front, lexed_from}
use Rattle.cypher_syntax.proofs.Lexes.{lexed_first, lexed_behind}
use Rattle.cypher_print.specs.Pieces.{is_word}
use Rattle.cypher_print.specs.ReadBack.{parts_word, parts_sign, IsReadAs, IsWordOf, IsSignOf}
use Rattle.cypher_print.specs.Sentences.{All}
use Rattle.cypher_print.proofs.ReadBack.{split, at_byte, in_front, word}
use Rattle.cypher_print.proofs.ReadNumbers.{no_more}

-- ---- blanks

unquoted : (x : ℕ) → is_blank x ≡ true → is_quote x ≡ false
unquoted x h = grind (arith, nat_tests)

blank_front : (x : ℕ) (xs : List ℕ) → is_blank x ≡ true → front_of (x ∷ xs) ≡ Gap (prefix_len is_blank (x ∷ xs))
unfolding front_of unquoted_front
blank_front x xs h = rw (unquoted x h) (rw h refl)

run_first : (p : ℕ → Bool) (x : ℕ) (xs : List ℕ) → p x ≡ true → suc (prefix_len p xs) ≡ prefix_len p (x ∷ xs)
run_first p x xs h = rw h (omega arith)

gap : (x : ℕ) (xs : List ℕ) → is_blank x ≡ true → (from : ℕ) → lexed_from from 0 (x ∷ xs) ≡ lexed_from (from + prefix_len is_blank (x ∷ xs)) 0 (drop (prefix_len is_blank (x ∷ xs)) (x ∷ xs))
gap x xs h from =
    let first = run_first is_blank x xs h in
    let some : 0 < prefix_len is_blank (x ∷ xs) = omega (arith, first) in
    let there : 0 < length (x ∷ xs) = omega arith in
    lexed_first from (x ∷ xs) there
    ∙ ap (λ f. after_front from f (λ skip. lexed_from (from + 1) skip (drop 1 (x ∷ xs)))) (blank_front x xs h)
    ∙ lexed_behind from (prefix_len is_blank (x ∷ xs)) (x ∷ xs) some

blanks : (from : ℕ) (xs : List ℕ) → lexed_from from 0 xs ≡ lexed_from (from + prefix_len is_blank xs) 0 (drop (prefix_len is_blank xs) xs)
blanks from [] = let same : from ≡ from + 0 = omega arith in ap (λ j. lexed_from j 0 []) same
blanks from (x ∷ xs) =
    let same : from ≡ from + 0 = omega arith in
    split (lexed_from from 0 (x ∷ xs) ≡ lexed_from (from + prefix_len is_blank (x ∷ xs)) 0 (drop (prefix_len is_blank (x ∷ xs)) (x ∷ xs))) (is_blank x)
    (λ h. gap x xs h from)
    (λ h. (let none : 0 ≡ prefix_len is_blank (x ∷ xs) = rw h refl in ap (λ j. lexed_from j 0 (x ∷ xs)) same ∙ ap (λ k. lexed_from (from + k) 0 (drop k (x ∷ xs))) none))

pub passed : (from : ℕ) (behind : List ℕ) → lexed_from from 0 (32 ∷ behind) ≡ lexed_from (from + 1) 0 behind
passed from behind =
    let n = run_first is_blank 32 behind refl in
    let same : from + suc (prefix_len is_blank behind) ≡ from + 1 + prefix_len is_blank behind = omega arith in
    gap 32 behind refl from
    ∙ ap (λ k. lexed_from (from + k) 0 (drop k (32 ∷ behind))) (sym n)
    ∙ ap (λ j. lexed_from j 0 (drop (prefix_len is_blank behind) behind)) same
    ∙ sym (blanks (from + 1) behind)

-- ---- words

pub words : (w behind : List ℕ) → is_word w ≡ true → parts_word behind ≡ true → IsReadAs (IsWordOf w) w behind
words w behind is parts = word (IsWordOf w) w behind is (no_more behind parts) (λ place. (refl, refl))

-- ---- signs

among : (P : ℕ → Type 0) (xs : List ℕ) → All P xs → (a : ℕ) → list_any (λ s. eqb a s) xs ≡ true → P a
among P [] all a h = absurd (false≢true h)
among P (x ∷ xs) all a h =
    split (P a) (eqb a x) (at_byte P x all.0 a)
    (λ e. (let less : list_any (λ s. eqb a s) (x ∷ xs) ≡ list_any (λ s. eqb a s) xs = rw e refl in among P xs all.1 a (sym less ∙ h)))

-- it begins no other token
abbrev BeginsSign : ℕ → Type 0
BeginsSign a = (is_quote a ≡ false) × (is_blank a ≡ false) × (begins_word a ≡ false) × (is_ascii_digit a ≡ false)

short : All BeginsSign short_signs
short = ((refl, refl, refl, refl), ((refl, refl, refl, refl), ((refl, refl, refl, refl), ((refl, refl, refl, refl), ((refl, refl, refl, refl), ((refl, refl, refl, refl), ((refl, refl, refl, refl), ((refl, refl, refl, refl), ((refl, refl, refl, refl), ((refl, refl, refl, refl), ((refl, refl, refl, refl), ((refl, refl, refl, refl), ((refl, refl, refl, refl), ((refl, refl, refl, refl), ((refl, refl, refl, refl), ((refl, refl, refl, refl), ((refl, refl, refl, refl), ((refl, refl, refl, refl), ((refl, refl, refl, refl), tt)))))))))))))))))))

pick : {X : Type 0} (b : Bool) (x y : X) → b ≡ true → cond b x y ≡ x
pick true x y h = refl
pick false x y h = absurd (false≢true h)

fall : {X : Type 0} (b : Bool) (x y : X) → b ≡ false → cond b x y ≡ y
fall true x y h = absurd (false≢true (sym h))
fall false x y h = refl

and_false : (x : Bool) → x && false ≡ false
and_false true = refl
and_false false = refl

and_left : (x y : Bool) → x ≡ false → x && y ≡ false
and_left true y h = absurd (false≢true (sym h))
and_left false y h = refl

neither : (x y : Bool) → not (x || y) ≡ true → (x ≡ false) × (y ≡ false)
neither true y h = absurd (false≢true h)
neither false true h = absurd (false≢true h)
neither false false h = (refl, refl)

each : (x y z : Bool) → x && (y || z) ≡ false → (x && y ≡ false) × (x && z ≡ false)
each true true z h = absurd (false≢true (sym h))
each true false z h = (refl, h)
each false y z h = (refl, refl)

sign_behind : (a : ℕ) (bytes : List ℕ) → BeginsSign a → front_of (a ∷ bytes) ≡ slash_front (a ∷ bytes)
unfolding front_of unquoted_front
sign_behind a bytes p = fall (is_quote a) _ _ p.0 ∙ fall (is_blank a) _ _ p.1 ∙ fall (begins_word a) _ _ p.2 ∙ fall (is_ascii_digit a) _ _ p.3

alone : (a : ℕ) (behind : List ℕ) → is_sign a ≡ true → parts_sign a behind ≡ true → slash_front (a ∷ behind) ≡ Made what.Sign 1
alone a [] h parts = fall (eqb a 47 && false) _ _ (and_false (eqb a 47)) ∙ fall (eqb a 47 && false) _ _ (and_false (eqb a 47)) ∙ ap sign_front (pick (is_sign a) 1 0 h)
alone a (b ∷ bytes) h parts =
    let no = neither (is_long_sign a b) (eqb a 47 && (eqb b 47 || eqb b 42)) parts in
    let comment = each (eqb a 47) (eqb b 47) (eqb b 42) no.1 in
    fall (eqb a 47 && eqb b 47) _ _ comment.0
    ∙ fall (eqb a 47 && eqb b 42) _ _ comment.1
    ∙ ap sign_front (fall (is_long_sign a b) 2 _ no.0 ∙ pick (is_sign a) 1 0 h)

pub signs : (a : ℕ) (behind : List ℕ) → is_sign a ≡ true → parts_sign a behind ≡ true → IsReadAs (IsSignOf (a ∷ [])) (a ∷ []) behind
signs a behind h parts =
    let some : 0 < length (a ∷ []) = omega arith in
    in_front (IsSignOf (a ∷ [])) what.Sign (a ∷ []) behind some (sign_behind a behind (among BeginsSign short_signs short a h) ∙ alone a behind h parts) (λ place. refl)

abbrev BeginsLong : ℕ → Type 0
BeginsLong a = BeginsSign a × (eqb a 47 ≡ false)

begins_long : (a b : ℕ) → is_long_sign a b ≡ true → BeginsLong a
begins_long a b h =
    split (BeginsLong a) (eqb a 60) (at_byte BeginsLong 60 ((refl, refl, refl, refl), refl) a) (λ x.
    split (BeginsLong a) (eqb a 62) (at_byte BeginsLong 62 ((refl, refl, refl, refl), refl) a) (λ y.
    split (BeginsLong a) (eqb a 46) (at_byte BeginsLong 46 ((refl, refl, refl, refl), refl) a) (λ z.
    (let none : is_long_sign a b ≡ false = rw x (rw y (rw z refl)) in absurd (false≢true (sym none ∙ h))))))

pub long_signs : (a b : ℕ) (behind : List ℕ) → is_long_sign a b ≡ true → IsReadAs (IsSignOf (a ∷ b ∷ [])) (a ∷ b ∷ []) behind
long_signs a b behind h =
    let p = begins_long a b h in
    let some : 0 < length (a ∷ b ∷ []) = omega arith in
    in_front (IsSignOf (a ∷ b ∷ [])) what.Sign (a ∷ b ∷ []) behind some
    (sign_behind a (b ∷ behind) p.0
    ∙ fall (eqb a 47 && eqb b 47) _ _ (and_left (eqb a 47) (eqb b 47) p.1)
    ∙ fall (eqb a 47 && eqb b 42) _ _ (and_left (eqb a 47) (eqb b 42) p.1)
    ∙ ap sign_front (pick (is_long_sign a b) 2 _ h))
    (λ place. refl)
