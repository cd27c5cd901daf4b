-- The timestamps of a chain: which is the newest, and what giving one to the open entries leaves.
use Rattle.std.proofs.Common.{◌≡◌, ℕ, ◌+◌, ◌<◌, ◌≤◌, zero, suc, Bool, true, false, Option, Some, None, is_none, unwrap_or, List, [], ◌∷◌, ◌++◌, length, get_or, take, drop, map, All, IfSome, refl, sym, ap, subst, ◌∙◌, arith}
use Rattle.std.specs.List.{prefix_len, cons_option}
use Rattle.std.proofs.lemmas.Bool.{false≢true}
use Rattle.version_chain.specs.declared.entry.Entry.{Entry}
use Rattle.version_chain.specs.Entry.{is_open, stamped}
use Rattle.version_chain.specs.Order.{MayFollow, AllMayFollow, IsInOrder}
use Rattle.version_chain.specs.Parts.{timestamps_of, first_of}

unwrap_same : (ts newer : ℕ) (s : Option ℕ) → MayFollow (Some newer) s → Some (unwrap_or s ts) ≡ s
unwrap_same ts newer None h = absurd h
unwrap_same ts newer (Some x) h = refl

-- behind a committed entry, no entry gets a new timestamp
map-stamped_committed : {D : Type 0} (ts newer : ℕ) (es : List (Entry D)) → AllMayFollow (Some newer) es → map (stamped ts) es ≡ es
map-stamped_committed ts newer [] h = refl
map-stamped_committed {D} ts newer (e ∷ es) h =
    let same : stamped ts e ≡ e = ap (λ s. let r : Entry D = record { stamp = s; delta = e.delta } in r) (unwrap_same ts newer e.stamp h.0) in
    let rest = map-stamped_committed ts newer es h.1 in
    ap (λ x. x ∷ map (stamped ts) es) same ∙ ap (λ xs. e ∷ xs) rest

committed_same : {D : Type 0} (ts : ℕ) (e : Entry D) (es : List (Entry D)) → AllMayFollow e.stamp es → (s : Option ℕ) → e.stamp ≡ s → is_none s ≡ false → map (stamped ts) (e ∷ es) ≡ e ∷ es
committed_same ts e es h None f g = absurd (false≢true (sym g))
committed_same {D} ts e es h (Some x) f g =
    let P : Option ℕ → Type 0 = λ s. AllMayFollow s es in
    let same : stamped ts e ≡ e = ap (λ s. let r : Entry D = record { stamp = s; delta = e.delta } in r) (ap (λ s. Some (unwrap_or s ts)) f ∙ sym f) in
    ap (λ y. y ∷ map (stamped ts) es) same ∙ ap (λ ys. e ∷ ys) (map-stamped_committed ts x es (subst P f h))

map_front_by : {X : Type 0} (p : X → Bool) (f : X → X) (x : X) (xs : List X) → map f (take (prefix_len p xs) xs) ++ drop (prefix_len p xs) xs ≡ map f xs → (p x ≡ false → map f (x ∷ xs) ≡ x ∷ xs) → (b : Bool) → p x ≡ b → map f (take (prefix_len p (x ∷ xs)) (x ∷ xs)) ++ drop (prefix_len p (x ∷ xs)) (x ∷ xs) ≡ map f (x ∷ xs)
map_front_by p f x xs rest same true g =
    let e : 1 + prefix_len p xs ≡ suc (prefix_len p xs) = omega arith in
    rw g (ap (λ n. map f (take n (x ∷ xs)) ++ drop n (x ∷ xs)) e ∙ ap (λ ys. f x ∷ ys) rest)
map_front_by p f x xs rest same false g = rw g (sym (same g))

-- stamping the first open entries is stamping all
pub map-stamped_front : {D : Type 0} (ts : ℕ) (es : List (Entry D)) → IsInOrder es → map (stamped ts) (take (prefix_len is_open es) es) ++ drop (prefix_len is_open es) es ≡ map (stamped ts) es
map-stamped_front ts [] h = refl
map-stamped_front ts (e ∷ es) h = map_front_by is_open (stamped ts) e es (map-stamped_front ts es h.1) (λ g. committed_same ts e es h.0 e.stamp refl g) (is_open e) refl

all_tail : (P : ℕ → Type 0) (s : Option ℕ) (xs : List ℕ) → All P (cons_option s xs) → All P xs
all_tail P None xs h = h
all_tail P (Some x) xs h = λ k d below. h (suc k) d (omega arith)

all_cons : (P : ℕ → Type 0) (x : ℕ) (xs : List ℕ) → P x → All P xs → (k d : ℕ) → k < length (x ∷ xs) → P (get_or (x ∷ xs) k d)
all_cons P x xs here rest zero d below = here
all_cons P x xs here rest (suc k) d below = rest k d (omega arith)

stamped_follows : (ts : ℕ) (s : Option ℕ) (xs : List ℕ) → All (λ x. x < ts) (cons_option s xs) → MayFollow (Some ts) (Some (unwrap_or s ts))
stamped_follows ts None xs h = omega arith
stamped_follows ts (Some x) xs h = let below : x < ts = h 0 x (omega arith) in omega arith

all_stamped_follow : {D : Type 0} (ts : ℕ) (es : List (Entry D)) → All (λ x. x < ts) (timestamps_of es) → AllMayFollow (Some ts) (map (stamped ts) es)
all_stamped_follow ts [] h = tt
all_stamped_follow ts (e ∷ es) h =
    (stamped_follows ts e.stamp (timestamps_of es) h, all_stamped_follow ts es (all_tail (λ x. x < ts) e.stamp (timestamps_of es) h))

head_follows : {D : Type 0} (ts : ℕ) (es : List (Entry D)) (s : Option ℕ) → AllMayFollow s es → All (λ x. x < ts) (timestamps_of es) → AllMayFollow (Some (unwrap_or s ts)) (map (stamped ts) es)
head_follows ts es None h b = all_stamped_follow ts es b
head_follows {D} ts es (Some x) h b =
    let P : List (Entry D) → Type 0 = λ ys. AllMayFollow (Some x) ys in
    subst P (sym (map-stamped_committed ts x es h)) h

-- a timestamp above all others leaves the order
pub in_order-stamped : {D : Type 0} (ts : ℕ) (es : List (Entry D)) → IsInOrder es → All (λ x. x < ts) (timestamps_of es) → IsInOrder (map (stamped ts) es)
in_order-stamped ts [] h b = tt
in_order-stamped ts (e ∷ es) h b =
    let rest : All (λ x. x < ts) (timestamps_of es) = all_tail (λ x. x < ts) e.stamp (timestamps_of es) b in
    (head_follows ts es e.stamp h.0 rest, in_order-stamped ts es h.1 rest)

-- no open entry is left
pub prefix_len-stamped : {D : Type 0} (ts : ℕ) (es : List (Entry D)) → prefix_len is_open (map (stamped ts) es) ≡ 0
prefix_len-stamped ts [] = refl
prefix_len-stamped ts (e ∷ es) = refl

first_at_by : {D : Type 0} (e : Entry D) (es : List (Entry D)) (d : Entry D) → (prefix_len is_open es < length es → (get_or es (prefix_len is_open es) d).stamp ≡ first_of (timestamps_of es)) → (s : Option ℕ) → e.stamp ≡ s → prefix_len is_open (e ∷ es) < length (e ∷ es) → (get_or (e ∷ es) (prefix_len is_open (e ∷ es)) d).stamp ≡ first_of (timestamps_of (e ∷ es))
first_at_by e es d rest None f =
    let more : 1 + prefix_len is_open es ≡ suc (prefix_len is_open es) = omega arith in
    rw (f, more) (λ below. rest (omega arith))
first_at_by e es d rest (Some x) f = rw f (λ below. refl)

-- the entry behind the open ones has the first timestamp
pub first_at : {D : Type 0} (es : List (Entry D)) (d : Entry D) → prefix_len is_open es < length es → (get_or es (prefix_len is_open es) d).stamp ≡ first_of (timestamps_of es)
first_at [] d below = absurd (omega arith)
first_at (e ∷ es) d below = first_at_by e es d (first_at es d) e.stamp refl below

first_past_by : {D : Type 0} (e : Entry D) (es : List (Entry D)) → (length es ≤ prefix_len is_open es → first_of (timestamps_of es) ≡ None) → (s : Option ℕ) → e.stamp ≡ s → length (e ∷ es) ≤ prefix_len is_open (e ∷ es) → first_of (timestamps_of (e ∷ es)) ≡ None
first_past_by e es rest None f = rw f (λ past. rest (omega arith))
first_past_by e es rest (Some x) f = rw f (λ past. absurd (omega arith))

-- where all entries are open, there is no timestamp
pub first_past : {D : Type 0} (es : List (Entry D)) → length es ≤ prefix_len is_open es → first_of (timestamps_of es) ≡ None
first_past [] past = refl
first_past (e ∷ es) past = first_past_by e es (first_past es) e.stamp refl past

at_most_by : (newer : ℕ) (s : Option ℕ) (xs : List ℕ) → MayFollow (Some newer) s → All (λ x. x ≤ newer) xs → All (λ x. x ≤ newer) (cons_option s xs)
at_most_by newer None xs h rest = absurd h
at_most_by newer (Some x) xs h rest = all_cons (λ y. y ≤ newer) x xs h rest

all_at_most : {D : Type 0} (newer : ℕ) (es : List (Entry D)) → AllMayFollow (Some newer) es → All (λ x. x ≤ newer) (timestamps_of es)
all_at_most newer [] h = λ k d below. absurd (omega arith)
all_at_most newer (e ∷ es) h = at_most_by newer e.stamp (timestamps_of es) h.0 (all_at_most newer es h.1)

abbrev FirstIsGreatest : List ℕ → Type 0
FirstIsGreatest xs = IfSome (first_of xs) (λ ts. All (λ other. other ≤ ts) xs)

greatest_by : {D : Type 0} (es : List (Entry D)) (s : Option ℕ) → AllMayFollow s es → FirstIsGreatest (timestamps_of es) → FirstIsGreatest (cons_option s (timestamps_of es))
greatest_by es None h rest = rest
greatest_by es (Some x) h rest = all_cons (λ y. y ≤ x) x (timestamps_of es) (omega arith) (all_at_most x es h)

-- no timestamp is above the first
pub first_is_greatest : {D : Type 0} (es : List (Entry D)) → IsInOrder es → IfSome (first_of (timestamps_of es)) (λ ts. All (λ other. other ≤ ts) (timestamps_of es))
first_is_greatest [] h = tt
first_is_greatest (e ∷ es) h = greatest_by es e.stamp h.0 (first_is_greatest es h.1)
