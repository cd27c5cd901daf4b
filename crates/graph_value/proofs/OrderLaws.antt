-- `order_of` is a total order, and it answers `Equal` for equal values alone.
use Rattle.std.proofs.Common.{◌≡◌, ◌↔◌, ℕ, ℤ, pos, true, false, List, [], ◌∷◌, map, refl, sym, ap, ◌∙◌, subst}
use Rattle.std.specs.Cmp.{IsTotalOrder, alike_right, int_cmp_total, nat_cmp_total, on_total, then_flip, then_total, tied_itself}
use Rattle.std.specs.Cmp.Lexicographic.{nat_list_cmp_total, slice_cmp}
use Rattle.std.specs.FinMap.{int_cmp-IsAntisymmetric, nat_cmp-IsAntisymmetric, slice_cmp-IsAntisymmetric}
use Rattle.std.specs.Ordering.{int_cmp, nat_cmp, on, ordering_reverse, ordering_then, then_cmp}
use Rattle.std.specs.declared.cmp.Ordering.{Ordering}
use Rattle.std.specs.declared.cmp.Ordering.TheVariants.{Less, Equal, Greater}
use Rattle.graph_value.specs.Name.{name_cmp}
use Rattle.graph_value.specs.Order.{rank_at, order_level, order_of}
use Rattle.graph_value.specs.declared.value.Value.{Value, out-Value, roll-Value, out-roll-Value, roll-out-Value, map-Value, ind-Value}
use Rattle.graph_value.specs.declared.value.Value.TheOpen.{Value-F}
use Rattle.graph_value.proofs.OrderLemmas.{comparisons, order_of-roll, through_slice_cmp}

-- ---- one level: what the values hold beside elements, and then the elements

abbrev id_at : Value-F Value → ℕ
id_at (Value-F.Vertex v) = v.0
id_at (Value-F.Edge e) = e.0
id_at x = 0

abbrev number_at : Value-F Value → ℤ
number_at (Value-F.Int n) = n
number_at (Value-F.Bool true) = pos 1
number_at x = pos 0

abbrev bytes_at : Value-F Value → List ℕ
bytes_at (Value-F.Text text) = text
bytes_at x = []

abbrev items_at : Value-F Value → List Value
items_at (Value-F.List items) = items
items_at x = []

abbrev plain_cmp : Value-F Value → Value-F Value → Ordering
plain_cmp = then_cmp (on rank_at nat_cmp) (then_cmp (on id_at nat_cmp) (then_cmp (on number_at int_cmp) (on bytes_at name_cmp)))

plain_total : IsTotalOrder plain_cmp
plain_total =
    then_total (on_total rank_at nat_cmp_total)
    (then_total (on_total id_at nat_cmp_total) (then_total (on_total number_at int_cmp_total) (on_total bytes_at nat_list_cmp_total)))

abbrev order_parts : Value-F Value → Value-F Value → Ordering
order_parts x y = order_level (comparisons x) y

once : (r : Ordering) → r ≡ ordering_then r Equal
once Less = refl
once Equal = refl
once Greater = refl

twice : (r : Ordering) → r ≡ ordering_then (ordering_then r Equal) Equal
twice Less = refl
twice Equal = refl
twice Greater = refl

split : (x y : Value-F Value) → order_parts x y ≡ ordering_then (plain_cmp x y) (slice_cmp order_of (items_at x) (items_at y))
split (Value-F.Vertex a) (Value-F.Vertex b) = twice (nat_cmp a.0 b.0)
split (Value-F.Edge a) (Value-F.Edge b) = twice (nat_cmp a.0 b.0)
split (Value-F.List xs) (Value-F.List ys) = through_slice_cmp order_of xs ys
split (Value-F.Text a) (Value-F.Text b) = once (name_cmp a b)
split (Value-F.Bool true) (Value-F.Bool true) = refl
split (Value-F.Bool true) (Value-F.Bool false) = refl
split (Value-F.Bool false) (Value-F.Bool true) = refl
split (Value-F.Bool false) (Value-F.Bool false) = refl
split (Value-F.Int a) (Value-F.Int b) = twice (int_cmp a b)
split Value-F.Null Value-F.Null = refl
split x y = refl

order_of-out : (a b : Value) → order_of a b ≡ order_parts (out-Value a) (out-Value b)
order_of-out a b = ap (λ z. order_of z b) (sym (roll-out-Value a)) ∙ order_of-roll (out-Value a) b

order_of-rolled : (a : Value) (x : Value-F Value) → order_of a (roll-Value x) ≡ order_parts (out-Value a) x
order_of-rolled a x = order_of-out a (roll-Value x) ∙ ap (order_parts (out-Value a)) (out-roll-Value x)

-- ---- an induction over the first value, whose elements have the property

module _ (P : Value → Type 0) where
  abbrev With : Type 0
  With = (a : Value) × P a

  abbrev values : List With → List Value
  values ys = map (λ e. e.0) ys

  abbrev level : Value-F With → Value-F Value
  level y = map-Value With Value (λ e. e.0) y

  abbrev elements : Value-F With → List With
  elements (Value-F.List ys) = ys
  elements y = []

  items-level : (y : Value-F With) → items_at (level y) ≡ values (elements y)
  items-level Value-F.Null = refl
  items-level (Value-F.Bool b) = refl
  items-level (Value-F.Int n) = refl
  items-level (Value-F.Text text) = refl
  items-level (Value-F.List ys) = refl
  items-level (Value-F.Vertex v) = refl
  items-level (Value-F.Edge e) = refl

  by_levels : ((y : Value-F With) → P (roll-Value (level y))) → (a : Value) → P a
  by_levels step = ind-Value P (λ x y is. subst (λ z. P (roll-Value z)) is (step y))

-- ---- turned round

abbrev IsTurned : Value → Type 0
IsTurned a = (b : Value) → order_of a b ≡ ordering_reverse (order_of b a)

turned_lists : (ys : List (With IsTurned)) (bs : List Value) → slice_cmp order_of (values IsTurned ys) bs ≡ ordering_reverse (slice_cmp order_of bs (values IsTurned ys))
turned_lists [] [] = refl
turned_lists [] (b ∷ bs) = refl
turned_lists (y ∷ ys) [] = refl
turned_lists (y ∷ ys) (b ∷ bs) =
    (λ i. ordering_then (y.1 b i) (turned_lists ys bs i)) ∙ then_flip (order_of b y.0) (slice_cmp order_of bs (values IsTurned ys))

turned_level : (y : Value-F (With IsTurned)) → IsTurned (roll-Value (level IsTurned y))
turned_level y b =
    let x = level IsTurned y in
    let o = out-Value b in
    let lists : slice_cmp order_of (items_at x) (items_at o) ≡ ordering_reverse (slice_cmp order_of (items_at o) (items_at x)) =
    subst (λ xs. slice_cmp order_of xs (items_at o) ≡ ordering_reverse (slice_cmp order_of (items_at o) xs)) (sym (items-level IsTurned y))
    (turned_lists (elements IsTurned y) (items_at o)) in
    order_of-roll x b
    ∙ split x o
    ∙ (λ i. ordering_then (plain_total.antisymm x o i) (lists i))
    ∙ then_flip (plain_cmp o x) (slice_cmp order_of (items_at o) (items_at x))
    ∙ ap ordering_reverse (sym (order_of-rolled b x ∙ split o x))

turned : (a b : Value) → order_of a b ≡ ordering_reverse (order_of b a)
turned = by_levels IsTurned turned_level

-- ---- equal values alone are tied

then_first : (r s : Ordering) → ordering_then r s ≡ Equal → r ≡ Equal
then_first Less s e = absurd (cc)
then_first Equal s e = refl
then_first Greater s e = absurd (cc)

then_second : (r s : Ordering) → ordering_then r s ≡ Equal → s ≡ Equal
then_second Less s e = absurd (cc)
then_second Equal s e = e
then_second Greater s e = absurd (cc)

abbrev IsTied : Value → Type 0
IsTied a = (b : Value) → order_of a b ≡ Equal → a ≡ b

tied_lists : (ys : List (With IsTied)) (bs : List Value) → slice_cmp order_of (values IsTied ys) bs ≡ Equal → values IsTied ys ≡ bs
tied_lists [] [] e = refl
tied_lists [] (b ∷ bs) e = absurd (cc)
tied_lists (y ∷ ys) [] e = absurd (cc)
tied_lists (y ∷ ys) (b ∷ bs) e =
    let rest = slice_cmp order_of (values IsTied ys) bs in
    let head = y.1 b (then_first (order_of y.0 b) rest e) in
    let tail = tied_lists ys bs (then_second (order_of y.0 b) rest e) in
    λ i. head i ∷ tail i

tied_parts : (y : Value-F (With IsTied)) (o : Value-F Value) → order_parts (level IsTied y) o ≡ Equal → level IsTied y ≡ o
tied_parts (Value-F.Vertex a) (Value-F.Vertex b) e = ap (λ n. Value-F.Vertex (record { 0 = n })) (nat_cmp-IsAntisymmetric a.0 b.0 e)
tied_parts (Value-F.Edge a) (Value-F.Edge b) e = ap (λ n. Value-F.Edge (record { 0 = n })) (nat_cmp-IsAntisymmetric a.0 b.0 e)
tied_parts (Value-F.List ys) (Value-F.List bs) e =
    ap Value-F.List (tied_lists ys bs (sym (through_slice_cmp order_of (values IsTied ys) bs) ∙ e))
tied_parts (Value-F.Text a) (Value-F.Text b) e = ap Value-F.Text (slice_cmp-IsAntisymmetric nat_cmp-IsAntisymmetric a b e)
tied_parts (Value-F.Bool true) (Value-F.Bool true) e = refl
tied_parts (Value-F.Bool true) (Value-F.Bool false) e = absurd (cc)
tied_parts (Value-F.Bool false) (Value-F.Bool true) e = absurd (cc)
tied_parts (Value-F.Bool false) (Value-F.Bool false) e = refl
tied_parts (Value-F.Int a) (Value-F.Int b) e = ap Value-F.Int (int_cmp-IsAntisymmetric a b e)
tied_parts Value-F.Null Value-F.Null e = refl
tied_parts y o e = absurd (cc)

tied_level : (y : Value-F (With IsTied)) → IsTied (roll-Value (level IsTied y))
tied_level y b e =
    ap roll-Value (tied_parts y (out-Value b) (sym (order_of-roll (level IsTied y) b) ∙ e)) ∙ roll-out-Value b

pub tied : (a b : Value) → order_of a b ≡ Equal → a ≡ b
tied = by_levels IsTied tied_level

-- ---- chains

-- One step of "first, then the rest", for three values: p, q and s are what the rests answer.
module _ {K : Type 0} (R : K → K → Ordering) (x y z : K) (p q s : Ordering) (chain : R x y ≡ Less → R y z ≡ Less → R x z ≡ Less) (left : R x y ≡ Less → R y z ≡ Equal → R x z ≡ Less) (right : R x y ≡ Equal → R x z ≡ R y z) (rest : p ≡ Less → q ≡ Less → s ≡ Less) where
  chain_by : (k m : Ordering) → R x y ≡ k → R y z ≡ m → ordering_then k p ≡ Less → ordering_then m q ≡ Less → ordering_then (R x z) s ≡ Less
  chain_by Less Less a b h g = ap (λ k. ordering_then k s) (chain a b)
  chain_by Less Equal a b h g = ap (λ k. ordering_then k s) (left a b)
  chain_by Less Greater a b h g = absurd (cc)
  chain_by Equal Less a b h g = ap (λ k. ordering_then k s) (right a ∙ b)
  chain_by Equal Equal a b h g = ap (λ k. ordering_then k s) (right a ∙ b) ∙ rest h g
  chain_by Equal Greater a b h g = absurd (cc)
  chain_by Greater m a b h g = absurd (cc)

  then_chain : ordering_then (R x y) p ≡ Less → ordering_then (R y z) q ≡ Less → ordering_then (R x z) s ≡ Less
  then_chain = chain_by (R x y) (R y z) refl refl

abbrev IsChained : Value → Type 0
IsChained a = (b c : Value) → order_of a b ≡ Less → order_of b c ≡ Less → order_of a c ≡ Less

chained_lists : (ys : List (With IsChained)) (bs cs : List Value) → slice_cmp order_of (values IsChained ys) bs ≡ Less → slice_cmp order_of bs cs ≡ Less → slice_cmp order_of (values IsChained ys) cs ≡ Less
chained_lists [] [] cs h g = g
chained_lists [] (b ∷ bs) [] h g = absurd (cc)
chained_lists [] (b ∷ bs) (c ∷ cs) h g = refl
chained_lists (y ∷ ys) [] cs h g = absurd (cc)
chained_lists (y ∷ ys) (b ∷ bs) [] h g = absurd (cc)
chained_lists (y ∷ ys) (b ∷ bs) (c ∷ cs) h g =
    then_chain order_of y.0 b c
    (slice_cmp order_of (values IsChained ys) bs) (slice_cmp order_of bs cs) (slice_cmp order_of (values IsChained ys) cs)
    (y.1 b c)
    (λ e k. ap (order_of y.0) (sym (tied b c k)) ∙ e)
    (λ e. ap (λ v. order_of v c) (tied y.0 b e))
    (chained_lists ys bs cs) h g

chained_level : (y : Value-F (With IsChained)) → IsChained (roll-Value (level IsChained y))
chained_level y b c h g =
    let x = level IsChained y in
    let o = out-Value b in
    let p = out-Value c in
    let lists : slice_cmp order_of (items_at x) (items_at o) ≡ Less → slice_cmp order_of (items_at o) (items_at p) ≡ Less → slice_cmp order_of (items_at x) (items_at p) ≡ Less =
    subst (λ xs. slice_cmp order_of xs (items_at o) ≡ Less → slice_cmp order_of (items_at o) (items_at p) ≡ Less → slice_cmp order_of xs (items_at p) ≡ Less)
    (sym (items-level IsChained y)) (chained_lists (elements IsChained y) (items_at o) (items_at p)) in
    order_of-roll x c
    ∙ split x p
    ∙ then_chain plain_cmp x o p
    (slice_cmp order_of (items_at x) (items_at o)) (slice_cmp order_of (items_at o) (items_at p)) (slice_cmp order_of (items_at x) (items_at p))
    (plain_total.trans x o p)
    (λ e k. sym (alike_right plain_total o p x k) ∙ e)
    (plain_total.congr x o p)
    lists
    (sym (split x o) ∙ sym (order_of-roll x b) ∙ h)
    (sym (split o p) ∙ sym (order_of-out b c) ∙ g)

chained : (a b c : Value) → order_of a b ≡ Less → order_of b c ≡ Less → order_of a c ≡ Less
chained = by_levels IsChained chained_level

-- ---- the laws

pub order_total : IsTotalOrder order_of
order_total = record { antisymm = turned; trans = chained; congr = λ a b c e. ap (λ v. order_of v c) (tied a b e) }

pub order_apart : (a b : Value) → (order_of a b ≡ Equal) ↔ (a ≡ b)
order_apart a b = (tied a b, λ e. subst (λ v. order_of a v ≡ Equal) e (tied_itself order_total a))
