-- What each change of a chain leaves, and that it leaves a chain.
use Rattle.std.proofs.Common.{◌≡◌, ℕ, ◌+◌, ◌-◌, ◌<◌, ◌≤◌, Bool, true, false, not, Option, Some, None, is_none, List, [], ◌∷◌, ◌++◌, length, get_or, take, drop, set, map, filter, All, refl, sym, ap, subst, ◌∙◌, arith}
use Rattle.std.specs.List.{prefix_len}
use Rattle.std.proofs.lemmas.Bool.{false≢true}
use Rattle.std.proofs.lemmas.List.{append_assoc, drop_more, get_or_at, length-drop, length-map, length-take-le, map_more, set_at}
use Rattle.std.proofs.lemmas.List.Sums.{prefix_len-le-length}
use Rattle.version_chain.specs.declared.entry.Entry.{Entry}
use Rattle.version_chain.specs.Entry.{open_entry, is_open, is_committed, is_after, is_before, is_not_before, is_stamp_after, is_stamp_before, stamped}
use Rattle.version_chain.specs.Order.{IsInOrder}
use Rattle.version_chain.specs.Parts.{IsChain, timestamps_of}
use Rattle.version_chain.proofs.Prefixes.{all_follow_open, filter-drop, filter-take, in_order-drop, in_order-take, not_before, passes_newer-after, passes_newer-not_before, passes_newer-open, prefix_len-drop_prefix, prefix_len-take_prefix}
use Rattle.version_chain.proofs.Stamps.{in_order-stamped, map-stamped_front, prefix_len-stamped}

pub open_count-le : {D : Type 0} (n : ℕ) (es : List (Entry D)) → IsChain n es → n ≤ length es
open_count-le n es h = omega (arith, h.counted, prefix_len-le-length is_open es)

pub pushed : {D : Type 0} (d : D) (n : ℕ) (es : List (Entry D)) → IsChain n es → IsChain (n + 1) (open_entry d ∷ es)
pushed d n es h = record { in_order = (all_follow_open es, h.in_order); counted = omega (arith, h.counted) }

-- stamping the front is stamping all, and leaves no open entry
pub stamped_front : {D : Type 0} (ts n : ℕ) (es ys : List (Entry D)) → IsChain n es → ys ≡ map (stamped ts) (take n es) ++ drop n es → ys ≡ map (stamped ts) es
stamped_front ts n es ys h e =
    e ∙ ap (λ m. map (stamped ts) (take m es) ++ drop m es) h.counted ∙ map-stamped_front ts es h.in_order

pub stamped_chain : {D : Type 0} (ts n : ℕ) (es ys : List (Entry D)) → IsChain n es → All (λ older. older < ts) (timestamps_of es) → ys ≡ map (stamped ts) es → IsChain 0 ys
stamped_chain {D} ts n es ys h b e =
    let P : List (Entry D) → Type 0 = λ zs. IsChain 0 zs in
    subst P (sym e) (record { in_order = in_order-stamped ts es h.in_order b; counted = sym (prefix_len-stamped ts es) })

-- dropping the front leaves what is committed
pub dropped_front : {D : Type 0} (n : ℕ) (es ys : List (Entry D)) → IsChain n es → ys ≡ drop n es → ys ≡ filter is_committed es
dropped_front n es ys h e =
    e ∙ ap (λ m. drop m es) h.counted ∙ sym (filter-drop (λ s. is_none s) (λ s. not (is_none s)) (λ s. refl) passes_newer-open es h.in_order)

pub dropped_chain : {D : Type 0} (n : ℕ) (es ys : List (Entry D)) → IsChain n es → ys ≡ drop n es → IsChain 0 ys
dropped_chain {D} n es ys h e =
    let P : List (Entry D) → Type 0 = λ zs. IsChain 0 zs in
    let none_left : prefix_len is_open (drop n es) ≡ 0 = ap (λ m. prefix_len is_open (drop m es)) h.counted ∙ prefix_len-drop_prefix is_open es in
    subst P (sym e) (record { in_order = in_order-drop n es h.in_order; counted = sym none_left })

open_not_before : (mark : ℕ) (s : Option ℕ) → is_none s ≡ true → not_before mark s ≡ true
open_not_before mark None h = refl
open_not_before mark (Some x) h = absurd (false≢true h)

not_not : (b : Bool) → b ≡ not (not b)
not_not true = refl
not_not false = refl

-- the front of those that weren't committed before the mark, and what is behind it
pub kept_front : {D : Type 0} (mark k : ℕ) (es : List (Entry D)) → IsInOrder es → k ≡ prefix_len (is_not_before mark) es → take k es ≡ filter (is_not_before mark) es
kept_front mark k es h e =
    ap (λ m. take m es) e ∙ sym (filter-take (not_before mark) (passes_newer-not_before mark) es h)

pub cut_rest : {D : Type 0} (mark k : ℕ) (es : List (Entry D)) → IsInOrder es → k ≡ prefix_len (is_not_before mark) es → drop k es ≡ filter (is_before mark) es
cut_rest mark k es h e =
    ap (λ m. drop m es) e ∙ sym (filter-drop (not_before mark) (is_stamp_before mark) (λ s. not_not (is_stamp_before mark s)) (passes_newer-not_before mark) es h)

pub cut_number : {D : Type 0} (mark k : ℕ) (es : List (Entry D)) → IsInOrder es → k ≡ prefix_len (is_not_before mark) es → length es - k ≡ length (filter (is_before mark) es)
cut_number mark k es h e = sym (length-drop k es) ∙ ap length (cut_rest mark k es h e)

pub cut_chain : {D : Type 0} (mark k n : ℕ) (es ys : List (Entry D)) → IsChain n es → k ≡ prefix_len (is_not_before mark) es → ys ≡ take k es → IsChain n ys
cut_chain {D} mark k n es ys h e c =
    let P : List (Entry D) → Type 0 = λ zs. IsChain n zs in
    let same : prefix_len is_open (take k es) ≡ prefix_len is_open es = ap (λ m. prefix_len is_open (take m es)) e ∙ prefix_len-take_prefix is_open (is_not_before mark) (λ x h. open_not_before mark x.stamp h) es in
    subst P (sym c) (record { in_order = in_order-take k es h.in_order; counted = h.counted ∙ sym same })

-- the front of those that are open or were committed after t
pub after_front : {D : Type 0} (t k : ℕ) (es : List (Entry D)) → IsInOrder es → k ≡ prefix_len (is_after t) es → take k es ≡ filter (is_after t) es
after_front t k es h e = ap (λ m. take m es) e ∙ sym (filter-take (is_stamp_after t) (passes_newer-after t) es h)

-- one more element of the front was written
pub set_front : {X : Type 0} (f : X → X) (xs ys : List X) (i : ℕ) (e y : X) → i < length xs → ys ≡ map f (take i xs) ++ drop i xs → e ≡ get_or ys i e → y ≡ f e → set ys i y ≡ map f (take (i + 1) xs) ++ drop (i + 1) xs
set_front f xs ys i e y below h r w =
    let front = map f (take i xs) in
    let here = get_or xs i e in
    let rest = drop (i + 1) xs in
    let split : ys ≡ front ++ here ∷ rest = h ∙ ap (λ l. front ++ l) (drop_more xs i e below) in
    let long : length front ≡ i = length-map (take i xs) f ∙ length-take-le i xs (omega arith) in
    let same : e ≡ here = r ∙ ap (λ l. get_or l i e) split ∙ get_or_at front here rest e i long in
    ap (λ l. set l i y) split ∙ set_at front here rest y i long ∙ ap (λ v. front ++ v ∷ rest) (w ∙ ap f same) ∙ sym (append_assoc front (f here ∷ []) rest) ∙ ap (λ l. l ++ rest) (sym (map_more f xs i e below))
