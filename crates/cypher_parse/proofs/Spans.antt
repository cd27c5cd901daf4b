-- The tokens of a text stand in it, and a word may be cut out of it.
use Rattle.std.proofs.Common.{◌≡◌, ℕ, zero, suc, ◌+◌, ◌-◌, ◌≤◌, ◌<◌, Bool, true, false, ◌&&◌, List, [], ◌∷◌, ◌++◌, length, take, drop, get_or, map, slice_range, Option, Some, None, refl, sym, ap, ◌∙◌, subst, arith}
use Rattle.std.specs.Str.{IsUtf8, IsCharBoundary}
use Rattle.std.proofs.lemmas.Str.{IsCharBoundary-before_ascii, IsCharBoundary-after_ascii}
use Rattle.std.proofs.lemmas.Bool.{false≢true}
use Rattle.std.proofs.lemmas.Bool.Decides.{nat_tests}
use Rattle.std.proofs.lemmas.List.{append_assoc, append-nil, get_or-take, get_or-drop, length-drop, length-take-le}
use Rattle.std.specs.List.{list_all}
use Rattle.cypher_syntax.specs.declared.token.Token.{Token}
use Rattle.cypher_syntax.specs.declared.lexer.front.Front.{Front}
use Rattle.cypher_syntax.specs.declared.lexer.front.Front.TheVariants.{Gap, Made, Fault}
use Rattle.cypher_syntax.specs.Bytes.{begins_word, continues_word}
use Rattle.cypher_syntax.specs.Lexing.{Lexed, front_of, after_front, lexed_from, lexed}
use Rattle.cypher_syntax.specs.Spans.{IsWord, IsParted, end_of}
use Rattle.cypher_syntax.proofs.Parts.{parted}
use Rattle.cypher_parse.specs.Texts.{IsSpan, AreSpans}

-- ---- the spans

-- a fault stands at a place up to the end
abbrev Within : Option ℕ → ℕ → Type 0
Within None end = Unit {0}
Within (Some place) end = place ≤ end

front_within : (at end : ℕ) (f : Front) (rest : ℕ → Lexed) → at ≤ end → ((n : ℕ) → Within (rest n).fault end) → Within (after_front at f rest).fault end
front_within at end (Gap n) rest le h = h (n - 1)
front_within at end (Made w n) rest le h = h (n - 1)
front_within at end Fault rest le h = le

fault_within : (at skip : ℕ) (bytes : List ℕ) (end : ℕ) → at + length bytes ≤ end → Within (lexed_from at skip bytes).fault end
unfolding lexed_from
fault_within at skip [] end le = tt
fault_within at (suc skip) (b ∷ bytes) end le = fault_within (at + 1) skip bytes end (omega (arith, le))
fault_within at zero (b ∷ bytes) end le = front_within at end (front_of (b ∷ bytes)) (λ skip. lexed_from (at + 1) skip bytes) (omega (arith, le)) (λ n. fault_within (at + 1) n bytes end (omega (arith, le)))

end_within : (text : List ℕ) (fault : Option ℕ) → Within fault (length text) → end_of text fault ≤ length text
end_within text None h = omega arith
end_within text (Some place) h = h

reaches : (text : List ℕ) (at : ℕ) (ts : List Token) (end : ℕ) → IsParted text at ts end → at ≤ end
reaches text at [] end h = h.0
reaches text at (t ∷ ts) end h = let le = reaches text t.to ts end h.4 in omega (arith, h.0, h.1, le)

spans : (text : List ℕ) (at : ℕ) (ts : List Token) (end : ℕ) → end ≤ length text → IsParted text at ts end → AreSpans text ts
spans text at [] end le h = tt
spans text at (t ∷ ts) end le h =
    let reach = reaches text t.to ts end h.4 in
    ((h.1, omega (arith, reach, le), h.3), spans text t.to ts end le h.4)

pub are_spans : (text : List ℕ) → AreSpans text (lexed text).tokens
are_spans text = spans text 0 (lexed text).tokens (end_of text (lexed text).fault) (end_within text (lexed text).fault (fault_within 0 0 text (length text) (omega arith))) (parted text)

-- what follows the first of them
pub spans_left : (text : List ℕ) (left rest : List Token) (t : Token) → AreSpans text left → left ≡ t ∷ rest → IsSpan text t × AreSpans text rest
spans_left text left rest t h e = subst (λ ts. AreSpans text ts) e h

pub one_more : {A B : Type 0} (f : A → B) (whole all pushed : List B) (left rest : List A) (a : A) (b : B) → whole ≡ all ++ map f left → left ≡ a ∷ rest → b ≡ f a → pushed ≡ all ++ b ∷ [] → whole ≡ pushed ++ map f rest
one_more f whole all pushed left rest a b h e is p =
    h ∙ ap (λ xs. all ++ map f xs) e ∙ sym (append_assoc all (f a ∷ []) (map f rest)) ∙ ap (λ b. (all ++ b ∷ []) ++ map f rest) (sym is) ∙ ap (λ xs. xs ++ map f rest) (sym p)

pub no_more : {A B : Type 0} (f : A → B) (whole all : List B) (left : List A) → whole ≡ all ++ map f left → left ≡ [] → all ≡ whole
no_more f whole all left h e = sym (h ∙ ap (λ xs. all ++ map f xs) e ∙ append-nil all)

-- ---- words

both : (a b : Bool) → a && b ≡ true → (a ≡ true) × (b ≡ true)
both true b h = (refl, h)
both false b h = absurd (false≢true h)

begins_ascii : (b : ℕ) → begins_word b ≡ true → b < 128
begins_ascii b h = grind (arith, nat_tests)

continues_ascii : (b : ℕ) → continues_word b ≡ true → b < 128
continues_ascii b h = grind (arith, nat_tests)

all_ascii : (bytes : List ℕ) → list_all continues_word bytes ≡ true → (i : ℕ) → i < length bytes → get_or bytes i 0 < 128
all_ascii [] h i lt = absurd (omega arith)
all_ascii (b ∷ bytes) h zero lt = continues_ascii b (both (continues_word b) (list_all continues_word bytes) h).0
all_ascii (b ∷ bytes) h (suc i) lt = all_ascii bytes (both (continues_word b) (list_all continues_word bytes) h).1 i (omega arith)

word_ascii : (bytes : List ℕ) → IsWord bytes → (i : ℕ) → i < length bytes → get_or bytes i 0 < 128
word_ascii [] h i lt = absurd h
word_ascii (b ∷ bytes) h zero lt = begins_ascii b h.0
word_ascii (b ∷ bytes) h (suc i) lt = all_ascii bytes h.1 i (omega arith)

module _ (text : List ℕ) (from to : ℕ) (some : from < to) (within : to ≤ length text) (word : IsWord (slice_range text from to)) where
  within_ascii : (i : ℕ) → i < to - from → get_or text (from + i) 0 < 128
  within_ascii i lt =
      let room : to - from ≤ length (drop from text) = simp length-drop (omega arith) in
      let long : length (take (to - from) (drop from text)) ≡ to - from = length-take-le (to - from) (drop from text) room in
      let here : get_or (take (to - from) (drop from text)) i 0 < 128 = word_ascii (slice_range text from to) word i (omega (arith, long)) in
      subst (λ b. b < 128) (get_or-take (to - from) (drop from text) i 0 lt ∙ get_or-drop from text i 0) here

  pub word_starts : IsCharBoundary text from
  word_starts =
      let here : get_or text (from + 0) 0 < 128 = within_ascii 0 (omega arith) in
      let same : from + 0 ≡ from = omega arith in
      IsCharBoundary-before_ascii text from (omega arith) (subst (λ i. get_or text i 0 < 128) same here)

  pub word_ends : IsUtf8 text → IsCharBoundary text to
  word_ends utf8 =
      let last : get_or text (from + (to - from - 1)) 0 < 128 = within_ascii (to - from - 1) (omega arith) in
      let same : from + (to - from - 1) ≡ to - 1 = omega arith in
      let behind : to - 1 + 1 ≡ to = omega arith in
      subst (λ i. IsCharBoundary text i) behind (IsCharBoundary-after_ascii text (to - 1) utf8 (omega arith) (subst (λ i. get_or text i 0 < 128) same last))
