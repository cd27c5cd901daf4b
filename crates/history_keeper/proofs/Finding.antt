-- Where the oldest block with a delta later than an instant stands.
use Rattle.std.proofs.Common.{◌≡◌, ℕ, ◌+◌, ◌<◌, ◌≤◌, true, false, nat_lt, Some, List, [], ◌∷◌, ◌++◌, length, get_or, take, drop, map, slice_get, refl, sym, ap, subst, ◌∙◌, arith, below_more}
use Rattle.std.specs.List.{list_any}
use Rattle.std.proofs.lemmas.Bool.{le-ltb, lt-ltb}
use Rattle.std.proofs.lemmas.List.{append-nil, append_assoc, drop_more, get_or-map, get_or-take, get_or_default, length-take-le, take-append-drop}
use Rattle.std.proofs.lemmas.List.Folds.{find_at}
use Rattle.std.proofs.lemmas.List.Sums.{position_or_len_is}
use Rattle.undo_law.specs.declared.dated.Dated.{Dated}
use Rattle.anchor_store.specs.Blocks.{BlockParts, history_of}
use Rattle.anchor_store.specs.Groups.{AreAtMost, AreDescending}
use Rattle.anchor_store.proofs.Grown.{history-append}
use Rattle.history_keeper.specs.Rows.{AreInOrder, has_later, located}

-- no block before a place has a later delta
abbrev pub NoneBefore : {O D : Type 0} → ℕ → ℕ → List (BlockParts O D) → Type 0
NoneBefore {O} {D} t n blocks = (k : ℕ) (d : BlockParts O D) → k < n → has_later t (get_or blocks k d) ≡ false

-- the block at a place has one, if there is one
abbrev pub SomeAt : {O D : Type 0} → ℕ → ℕ → List (BlockParts O D) → Type 0
SomeAt {O} {D} t n blocks = (d : BlockParts O D) → n < length blocks → has_later t (get_or blocks n d) ≡ true

at_most_front : {D : Type 0} (ts : ℕ) (front rest : List (Dated D)) → AreAtMost ts (front ++ rest) → AreAtMost ts front
at_most_front ts [] rest h = tt
at_most_front ts (d ∷ front) rest h = (h.0, at_most_front ts front rest h.1)

at_most_back : {D : Type 0} (ts : ℕ) (front rest : List (Dated D)) → AreAtMost ts (front ++ rest) → AreAtMost ts rest
at_most_back ts [] rest h = h
at_most_back ts (d ∷ front) rest h = at_most_back ts front rest h.1

descending_back : {D : Type 0} (front rest : List (Dated D)) → AreDescending (front ++ rest) → AreDescending rest
descending_back [] rest h = h
descending_back (d ∷ front) rest h = descending_back front rest h.1

-- none is later than t where none is later than an instant up to t
none_later : {D : Type 0} (t ts : ℕ) (ds : List (Dated D)) → ts ≤ t → AreAtMost ts ds → list_any (λ d. nat_lt t d.ts) ds ≡ false
none_later t ts [] early h = refl
none_later t ts (d ∷ ds) early h =
    let first : d.ts ≤ ts = h.0 in
    let not_later : nat_lt t d.ts ≡ false = le-ltb t d.ts (omega arith) in
    rw not_later (none_later t ts ds early h.1)

some_is : (a b : ℕ) → Some a ≡ Some b → a ≡ b
some_is a b h = cc

-- the newest is later than t
some_later : {D : Type 0} (t ts : ℕ) (ds : List (Dated D)) → slice_get (map (λ d. d.ts) ds) 0 ≡ Some ts → t < ts → list_any (λ d. nat_lt t d.ts) ds ≡ true
some_later t ts [] newest late = absurd (cc)
some_later t ts (d ∷ ds) newest late =
    let later : nat_lt t d.ts ≡ true = ap (λ s. nat_lt t s) (some_is d.ts ts newest) ∙ lt-ltb t ts late in
    rw later refl

-- the oldest blocks of a row in order are in order
pub in_order-take : {O D : Type 0} (n : ℕ) (blocks : List (BlockParts O D)) → AreInOrder blocks → AreInOrder (take n blocks)
in_order-take {O} {D} n blocks order =
    let P : List (BlockParts O D) → Type 0 = λ bs. AreInOrder bs in
    let Q : List (Dated D) → Type 0 = λ ds. AreDescending ds in
    let whole = subst P (sym (take-append-drop n blocks)) order in
    descending_back (history_of (drop n blocks)) (history_of (take n blocks)) (subst Q (history-append (take n blocks) (drop n blocks)) whole)

split_at : {X : Type 0} (xs : List X) (i : ℕ) (d : X) → i < length xs → xs ≡ take i xs ++ get_or xs i d ∷ drop (i + 1) xs
split_at xs i d within = sym (take-append-drop i xs) ∙ ap (λ l. take i xs ++ l) (drop_more xs i d within)

-- a history from a block on, which stands between newer and older ones
history_at : {O D : Type 0} (blocks : List (BlockParts O D)) (i : ℕ) (d : BlockParts O D) → i < length blocks → history_of blocks ≡ history_of (drop (i + 1) blocks) ++ ((get_or blocks i d).deltas ++ history_of (take i blocks))
history_at blocks i d within =
    let older = take i blocks in
    let b = get_or blocks i d in
    let newer = drop (i + 1) blocks in
    ap (λ bs. history_of bs) (split_at blocks i d within) ∙ history-append older (b ∷ newer) ∙ ap (λ ds. ds ++ history_of older) (history-append (b ∷ []) newer ∙ ap (λ ds. history_of newer ++ ds) (append-nil b.deltas)) ∙ append_assoc (history_of newer) b.deltas (history_of older)

at_most_block : {O D : Type 0} (ts : ℕ) (blocks : List (BlockParts O D)) (k : ℕ) (d : BlockParts O D) → AreAtMost ts (history_of blocks) → k < length blocks → AreAtMost ts (get_or blocks k d).deltas
at_most_block {O} {D} ts blocks k d h within =
    let P : List (Dated D) → Type 0 = λ ds. AreAtMost ts ds in
    let parted = subst P (history_at blocks k d within) h in
    at_most_front ts (get_or blocks k d).deltas (history_of (take k blocks)) (at_most_back ts (history_of (drop (k + 1) blocks)) ((get_or blocks k d).deltas ++ history_of (take k blocks)) parted)

at_most_newest : {D : Type 0} (ts : ℕ) (ds rest : List (Dated D)) → slice_get (map (λ d. d.ts) ds) 0 ≡ Some ts → AreDescending (ds ++ rest) → AreAtMost ts rest
at_most_newest ts [] rest newest order = absurd (cc)
at_most_newest {D} ts (d ∷ ds) rest newest order =
    let P : ℕ → Type 0 = λ s. AreAtMost s rest in
    subst P (some_is d.ts ts newest) (at_most_back d.ts ds rest order.0)

-- a block with nothing later than t has no older one that has
none_before : {O D : Type 0} (t ts : ℕ) (blocks : List (BlockParts O D)) (i : ℕ) (b : BlockParts O D) → AreInOrder blocks → i < length blocks → b ≡ get_or blocks i b → slice_get (map (λ d. d.ts) b.deltas) 0 ≡ Some ts → ts ≤ t → NoneBefore t i blocks
none_before {O} {D} t ts blocks i b order within here newest early k d below =
    let P : List (Dated D) → Type 0 = λ ds. AreDescending ds in
    let Q : BlockParts O D → Type 0 = λ x. AreDescending (x.deltas ++ history_of (take i blocks)) in
    let from_here : AreDescending ((get_or blocks i b).deltas ++ history_of (take i blocks)) = descending_back (history_of (drop (i + 1) blocks)) _ (subst P (history_at blocks i b within) order) in
    let older : AreAtMost ts (history_of (take i blocks)) = at_most_newest ts b.deltas (history_of (take i blocks)) newest (subst Q (sym here) from_here) in
    let long : length (take i blocks) ≡ i = length-take-le i blocks (omega arith) in
    let same : get_or (take i blocks) k d ≡ get_or blocks k d = get_or-take i blocks k d below in
    ap (λ x. has_later t x) (sym same) ∙ none_later t ts (get_or (take i blocks) k d).deltas early (at_most_block ts (take i blocks) k d older (omega arith))

-- the block at a place of those that a row keeps
pub read_block : {A O D : Type 0} (f : A → BlockParts O D) (items : List A) (blocks : List (BlockParts O D)) (i : ℕ) (x : A) (b : BlockParts O D) → map f items ≡ blocks → i < length items → x ≡ get_or items i x → b ≡ f x → b ≡ get_or blocks i b
read_block {A} {O} {D} f items blocks i x b seen within read is =
    let P : BlockParts O D → Type 0 = λ y. y ≡ get_or blocks i y in
    subst P (sym is) (ap f read ∙ sym (get_or-map f items i x (f x) within) ∙ ap (λ bs. get_or bs i (f x)) seen)

-- a block with nothing later than t: no block up to it has
pub none_up_to : {O D : Type 0} (t ts : ℕ) (blocks : List (BlockParts O D)) (i : ℕ) (b : BlockParts O D) → AreInOrder blocks → i < length blocks → b ≡ get_or blocks i b → slice_get (map (λ d. d.ts) b.deltas) 0 ≡ Some ts → AreAtMost ts b.deltas → ts ≤ t → NoneBefore t (i + 1) blocks
none_up_to {O} {D} t ts blocks i b order within here newest greatest early k d below =
    let P : ℕ → Type 0 = λ m. has_later t (get_or blocks m d) ≡ false in
    let at : P i = ap (λ x. has_later t x) (get_or_default blocks i d b within ∙ sym here) ∙ none_later t ts b.deltas early greatest in
    below_more P i (λ m lt. none_before t ts blocks i b order within here newest early m d lt) at k below

-- a block with a later one
pub some_at : {O D : Type 0} (t ts : ℕ) (blocks : List (BlockParts O D)) (i : ℕ) (b : BlockParts O D) → b ≡ get_or blocks i b → slice_get (map (λ d. d.ts) b.deltas) 0 ≡ Some ts → t < ts → SomeAt t i blocks
some_at t ts blocks i b here newest late d within =
    ap (λ x. has_later t x) (get_or_default blocks i d b within ∙ sym here) ∙ some_later t ts b.deltas newest late

-- the place behind those that have nothing later
pub located_at : {O D : Type 0} (t n : ℕ) (blocks : List (BlockParts O D)) → n ≤ length blocks → NoneBefore t n blocks → SomeAt t n blocks → located t blocks ≡ slice_get blocks n
located_at t n [] within before at = refl
located_at t n (b ∷ blocks) within before at =
    find_at (λ block. has_later t block) (b ∷ blocks) ∙ ap (λ m. slice_get (b ∷ blocks) m) (position_or_len_is (λ block. has_later t block) (b ∷ blocks) n b within (λ k below. before k b below) (at b))
