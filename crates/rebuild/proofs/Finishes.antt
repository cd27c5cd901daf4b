-- That what is found finishes to the version.
use Rattle.std.proofs.Common.{◌≡◌, ℕ, ◌<◌, ◌≤◌, Bool, true, false, nat_lt, ◌||◌, Option, Some, None, List, [], ◌∷◌, ◌++◌, cond, filter, refl, sym, ap, subst, ◌∙◌, arith}
use Rattle.std.specs.List.{list_any}
use Rattle.std.proofs.lemmas.Bool.{false≢true, lt-ltb, ltb-true}
use Rattle.std.proofs.lemmas.List.{append-nil, append_assoc}
use Rattle.std.proofs.lemmas.List.Elements.{filter-append}
use Rattle.undo_law.specs.Undone.{undone, deltas_of}
use Rattle.undo_law.specs.declared.dated.Dated.{Dated}
use Rattle.version_chain.specs.Entry.{is_after, is_stamp_after}
use Rattle.version_chain.specs.Parts.{version as chain_version, deltas_of as chain_deltas}
use Rattle.version_chain.specs.declared.entry.Entry.{Entry}
use Rattle.anchor_store.specs.Blocks.{BlockParts, history_of, version}
use Rattle.anchor_store.specs.Groups.{AreAtMost, AreDescending, later}
use Rattle.anchor_store.proofs.Grown.{history-append, undone-append}
use Rattle.history_keeper.specs.Rows.{AreInOrder, has_later, located}
use Rattle.rebuild.specs.Line.{AreNewer, AreUpTo, LeadsOn, version_of}

or_true : (a b : Bool) → (a || b) ≡ true → a ≡ false → b ≡ true
or_true true b h off = absurd (false≢true (sym off))
or_true false b h off = h

or_false_left : (a b : Bool) → (a || b) ≡ false → a ≡ false
or_false_left true b h = h
or_false_left false b h = refl

or_false_right : (a b : Bool) → (a || b) ≡ false → b ≡ false
or_false_right true b h = absurd (false≢true (sym h))
or_false_right false b h = h

-- where none is later, no delta is
later-none : {D : Type 0} (t : ℕ) (ds : List (Dated D)) → list_any (λ d. nat_lt t d.ts) ds ≡ false → later t ds ≡ []
later-none t [] h = refl
later-none t (d ∷ ds) h =
    let here : nat_lt t d.ts ≡ false = or_false_left (nat_lt t d.ts) (list_any (λ d. nat_lt t d.ts) ds) h in
    rw here (later-none t ds (or_false_right (nat_lt t d.ts) (list_any (λ d. nat_lt t d.ts) ds) h))

-- an instant below a later delta is below what none is above
below_by : {D : Type 0} (t m : ℕ) (d : Dated D) (ds : List (Dated D)) → AreAtMost m (d ∷ ds) → (AreAtMost m ds → list_any (λ d. nat_lt t d.ts) ds ≡ true → t < m) → list_any (λ d. nat_lt t d.ts) (d ∷ ds) ≡ true → (b : Bool) → nat_lt t d.ts ≡ b → t < m
below_by t m d ds h rest some true here =
    let late : t < d.ts = ltb-true t d.ts here in
    let up_to : d.ts ≤ m = h.0 in
    omega arith
below_by t m d ds h rest some false here =
    rest h.1 (or_true (nat_lt t d.ts) (list_any (λ d. nat_lt t d.ts) ds) some here)

below_later : {D : Type 0} (t m : ℕ) (ds : List (Dated D)) → AreAtMost m ds → list_any (λ d. nat_lt t d.ts) ds ≡ true → t < m
below_later t m [] h some = absurd (false≢true some)
below_later t m (d ∷ ds) h some = below_by t m d ds h (below_later t m ds) some (nat_lt t d.ts) refl

at_most_back : {D : Type 0} (ts : ℕ) (front rest : List (Dated D)) → AreAtMost ts (front ++ rest) → AreAtMost ts rest
at_most_back ts [] rest h = h
at_most_back ts (d ∷ front) rest h = at_most_back ts front rest h.1

-- in front of a later delta all are later
later-all : {D : Type 0} (t : ℕ) (front rest : List (Dated D)) → AreDescending (front ++ rest) → list_any (λ d. nat_lt t d.ts) rest ≡ true → later t front ≡ front
later-all t [] rest order some = refl
later-all t (d ∷ front) rest order some =
    let late : nat_lt t d.ts ≡ true = lt-ltb t d.ts (below_later t d.ts rest (at_most_back d.ts front rest order.0) some) in
    rw late (ap (λ ds. d ∷ ds) (later-all t front rest order.1 some))

any_front : {D : Type 0} (t : ℕ) (front rest : List (Dated D)) → list_any (λ d. nat_lt t d.ts) front ≡ true → list_any (λ d. nat_lt t d.ts) (front ++ rest) ≡ true
any_front t [] rest some = absurd (false≢true some)
any_front t (d ∷ front) rest some = any_front_by (nat_lt t d.ts) (list_any (λ d. nat_lt t d.ts) front) (list_any (λ d. nat_lt t d.ts) (front ++ rest)) some (any_front t front rest) where
  any_front_by : (a b c : Bool) → (a || b) ≡ true → (b ≡ true → c ≡ true) → (a || c) ≡ true
  any_front_by true b c some rest = refl
  any_front_by false b c some rest = rest some

any_back : {D : Type 0} (t : ℕ) (front rest : List (Dated D)) → list_any (λ d. nat_lt t d.ts) rest ≡ true → list_any (λ d. nat_lt t d.ts) (front ++ rest) ≡ true
any_back t [] rest some = some
any_back t (d ∷ front) rest some = any_back_by (nat_lt t d.ts) (list_any (λ d. nat_lt t d.ts) (front ++ rest)) (any_back t front rest some) where
  any_back_by : (a b : Bool) → b ≡ true → (a || b) ≡ true
  any_back_by true b h = refl
  any_back_by false b h = h

-- the deltas of older blocks stand behind those of newer ones
history-cons : {O D : Type 0} (b : BlockParts O D) (newer : List (BlockParts O D)) → history_of (b ∷ newer) ≡ history_of newer ++ b.deltas
history-cons b newer = history-append (b ∷ []) newer ∙ ap (λ ds. history_of newer ++ ds) (append-nil b.deltas)

-- where no block is located, no delta of the history is later
none_located_by : {O D : Type 0} (t : ℕ) (b : BlockParts O D) (newer : List (BlockParts O D)) → (located t newer ≡ None → later t (history_of newer) ≡ []) → (a : Bool) → has_later t b ≡ a → cond a (Some b) (located t newer) ≡ None → later t (history_of (b ∷ newer)) ≡ []
none_located_by t b newer rest true here none = absurd (cc)
none_located_by t b newer rest false here none =
    ap (later t) (history-cons b newer) ∙ filter-append (λ d. nat_lt t d.ts) (history_of newer) b.deltas ∙ ap (λ ds. ds ++ later t b.deltas) (rest none) ∙ later-none t b.deltas here

pub none_located : {O D : Type 0} (t : ℕ) (blocks : List (BlockParts O D)) → located t blocks ≡ None → later t (history_of blocks) ≡ []
none_located t [] none = refl
none_located t (b ∷ newer) none = none_located_by t b newer (none_located t newer) (has_later t b) refl none

-- the blocks round the one that is located: those that are older have nothing later
pub record IsAmong {O D : Type 0} (t : ℕ) (blocks : List (BlockParts O D)) (b : BlockParts O D) : Type 0 where
  pub older : List (BlockParts O D)
  pub newer : List (BlockParts O D)
  pub parts : blocks ≡ older ++ b ∷ newer
  pub before : later t (history_of older) ≡ []
  pub some : has_later t b ≡ true

some_is : {X : Type 0} (x y : X) → Some x ≡ Some y → x ≡ y
some_is x y h = cc

located_among_by : {O D : Type 0} (t : ℕ) (x : BlockParts O D) (newer : List (BlockParts O D)) (b : BlockParts O D) → (located t newer ≡ Some b → IsAmong t newer b) → (a : Bool) → has_later t x ≡ a → cond a (Some x) (located t newer) ≡ Some b → IsAmong t (x ∷ newer) b
located_among_by {O} {D} t x newer b rest true here found =
    let P : BlockParts O D → Type 0 = λ y. IsAmong t (x ∷ newer) y in
    subst P (some_is x b found) (record { older = []; newer = newer; parts = refl; before = refl; some = here })
located_among_by t x newer b rest false here found =
    let r = rest found in
    record {
      older = x ∷ r.older;
      newer = r.newer;
      parts = ap (λ bs. x ∷ bs) r.parts;
      before = ap (later t) (history-cons x r.older) ∙ filter-append (λ d. nat_lt t d.ts) (history_of r.older) x.deltas ∙ ap (λ ds. ds ++ later t x.deltas) r.before ∙ later-none t x.deltas here;
      some = r.some;
    }

pub located_among : {O D : Type 0} (t : ℕ) (blocks : List (BlockParts O D)) (b : BlockParts O D) → located t blocks ≡ Some b → IsAmong t blocks b
located_among t [] b found = absurd (cc)
located_among t (x ∷ newer) b found = located_among_by t x newer b (located_among t newer b) (has_later t x) refl found

-- a history round one of its blocks
history_round : {O D : Type 0} (older newer : List (BlockParts O D)) (b : BlockParts O D) → history_of (older ++ b ∷ newer) ≡ history_of newer ++ (b.deltas ++ history_of older)
history_round older newer b =
    history-append older (b ∷ newer) ∙ ap (λ ds. ds ++ history_of older) (history-cons b newer) ∙ append_assoc (history_of newer) b.deltas (history_of older)

stamp_after : {D : Type 0} (t : ℕ) (s : Option ℕ) (history : List (Dated D)) → AreUpTo s history → list_any (λ d. nat_lt t d.ts) history ≡ true → is_stamp_after t s ≡ true
stamp_after t None history h some = refl
stamp_after t (Some ts) history h some = lt-ltb t ts (below_later t ts history h some)

-- where the history has a later delta, all of the chain are later
chain_after : {D : Type 0} (t : ℕ) (entries : List (Entry D)) (history : List (Dated D)) → AreNewer entries history → list_any (λ d. nat_lt t d.ts) history ≡ true → filter (λ e. is_after t e) entries ≡ entries
chain_after t [] history h some = refl
chain_after t (e ∷ entries) history h some =
    let here : is_after t e ≡ true = stamp_after t e.stamp history h.0 some in
    rw here (ap (λ es. e ∷ es) (chain_after t entries history h.1 some))

-- the located block has the version
pub in_block : {O D : Type 0} (after : O → D → O) (newest : O) (entries : List (Entry D)) (blocks : List (BlockParts O D)) (t : ℕ) (b : BlockParts O D) → AreInOrder blocks → LeadsOn after newest entries blocks → IsAmong t blocks b → version after b t ≡ version_of after newest entries blocks t
in_block {O} {D} after newest entries blocks t b order line among =
    let older = among.older in
    let newer = among.newer in
    let base = undone after newest (chain_deltas entries) in
    let rest = b.deltas ++ history_of older in
    let whole : history_of blocks ≡ history_of newer ++ rest = ap (λ bs. history_of bs) among.parts ∙ history_round older newer b in
    let P : List (Dated D) → Type 0 = λ ds. AreDescending ds in
    let some : list_any (λ d. nat_lt t d.ts) rest ≡ true = any_front t b.deltas (history_of older) among.some in
    let some_in_all : list_any (λ d. nat_lt t d.ts) (history_of blocks) ≡ true = ap (λ ds. list_any (λ d. nat_lt t d.ts) ds) whole ∙ any_back t (history_of newer) rest some in
    let behind : later t rest ≡ later t b.deltas = filter-append (λ d. nat_lt t d.ts) b.deltas (history_of older) ∙ ap (λ ds. later t b.deltas ++ ds) among.before ∙ append-nil (later t b.deltas) in
    let late : later t (history_of blocks) ≡ history_of newer ++ later t b.deltas = ap (later t) whole ∙ filter-append (λ d. nat_lt t d.ts) (history_of newer) rest ∙ ap (λ ds. ds ++ later t rest) (later-all t (history_of newer) rest (subst P whole order) some) ∙ ap (λ ds. history_of newer ++ ds) behind in
    let chain : filter (λ e. is_after t e) entries ≡ entries = chain_after t entries (history_of blocks) line.newer some_in_all in
    let anchor : b.anchor ≡ undone after base (deltas_of (history_of newer)) = line.anchored older newer b among.parts in
    let there : version_of after newest entries blocks t ≡ undone after (undone after base (deltas_of (history_of newer))) (deltas_of (later t b.deltas)) = ap (λ es. undone after (undone after newest (chain_deltas es)) (deltas_of (later t (history_of blocks)))) chain ∙ ap (λ ds. undone after base (deltas_of ds)) late ∙ undone-append after base (history_of newer) (later t b.deltas) in
    ap (λ x. undone after x (deltas_of (later t b.deltas))) anchor ∙ sym there

-- where no block is located, the version of the chain is the version
pub on_chain : {O D : Type 0} (after : O → D → O) (newest : O) (entries : List (Entry D)) (blocks : List (BlockParts O D)) (t : ℕ) → located t blocks ≡ None → chain_version after newest entries t ≡ version_of after newest entries blocks t
on_chain after newest entries blocks t none =
    sym (ap (λ ds. undone after (chain_version after newest entries t) (deltas_of ds)) (none_located t blocks none))
