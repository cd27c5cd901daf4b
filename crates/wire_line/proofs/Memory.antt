-- Facts on the sources in memory.
use Rattle.std.proofs.Common.{◌≡◌, ℕ, ◌+◌, List, ◌++◌, length, take, drop, replicate, refl, sym, ◌∙◌}
use Rattle.std.proofs.Math.Seq.{take-add}
use Rattle.std.proofs.lemmas.List.{drop-drop, take_at, take-append-drop, replicate-append-replicate}

-- the front of a buffer into which the next n bytes were copied
pub copied_front : (front buf next : List ℕ) (n : ℕ) → length front ≡ n → front ≡ take n next → take n (front ++ drop n buf) ≡ take n next
copied_front front buf next n size same = take_at front (drop n buf) n size ∙ same

-- what is left begins with what is given
pub memory_left : (bytes left given : List ℕ) (at n : ℕ) → left ≡ drop at bytes → given ≡ take n (drop at bytes) → left ≡ given ++ drop (at + n) bytes
memory_left bytes left given at n rest same =
    rest ∙ sym (take-append-drop n (drop at bytes)) ∙ rw (same, drop-drop n at bytes) refl

pub memory_came : (bytes came given : List ℕ) (at n : ℕ) → came ≡ take at bytes → given ≡ take n (drop at bytes) → take (at + n) bytes ≡ came ++ given
memory_came bytes came given at n was same = rw (was, same) (take-add at n bytes)

pub same_came : (given : List ℕ) (byte before n : ℕ) → given ≡ replicate n byte → replicate (before + n) byte ≡ replicate before byte ++ given
same_came given byte before n same = rw same (sym (replicate-append-replicate before n byte))
