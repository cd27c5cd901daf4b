-- Rows in the order of their keys.
use Rattle.std.proofs.Common.{◌≡◌, ℕ, zero, suc, ◌+◌, ◌<◌, Bool, true, false, List, [], ◌∷◌, length, get_or, drop, refl, sym, ap, ◌∙◌, add-one, drop-cons, true≢false}
use Rattle.std.specs.Prelude.{not}
use Rattle.std.specs.Bool.{◌==◌}
use Rattle.std.specs.Cmp.{IsTotalOrder, IsStrictWeakOrder}
use Rattle.std.specs.declared.cmp.Ordering.{Ordering}
use Rattle.std.specs.declared.cmp.Ordering.TheVariants.{Less, Equal, Greater}
use Rattle.std.specs.Ordering.{ordering_then, ordering_index}
use Rattle.std.proofs.lemmas.Cmp.{then_total, on_total, back_total}
use Rattle.std.proofs.lemmas.List.Sorted.{ranks_by}
use Rattle.cypher_syntax.specs.declared.tree.projection.Sort.{Sort}
use Rattle.graph_value.proofs.OrderLaws.{order_total}
use Rattle.graph_value.specs.declared.value.Value.{Value}
use Rattle.row_ops.specs.Sorting.{turned, key_at, keys_cmp, is_before}

level : IsTotalOrder (λ (a b : List Value). Equal)
level = record { antisymm = λ x y. refl; trans = λ x y z h k. h; congr = λ x y z h. refl }

turned_total : (down : Bool) → IsTotalOrder (turned down)
turned_total true = back_total order_total
turned_total false = order_total

keys_total : (sorts : List Sort) → IsTotalOrder (keys_cmp sorts)
keys_total [] = level
keys_total (s ∷ sorts) = then_total (on_total (λ vs. key_at vs 0) (turned_total s.down)) (on_total (drop 1) (keys_total sorts))

pub before : (sorts : List Sort) → IsStrictWeakOrder (is_before sorts)
before sorts = ranks_by (keys_total sorts) (λ k. k.keys)

-- THE KEYS AT A PLACE

first_drop : (vs : List Value) (i : ℕ) → key_at (drop i vs) 0 ≡ key_at vs i
first_drop [] zero = refl
first_drop [] (suc i) = refl
first_drop (v ∷ vs) zero = refl
first_drop (v ∷ vs) (suc i) = first_drop vs i

drop_once : (vs : List Value) (i : ℕ) → drop 1 (drop i vs) ≡ drop (suc i) vs
drop_once [] zero = refl
drop_once [] (suc i) = refl
drop_once (v ∷ vs) zero = refl
drop_once (v ∷ vs) (suc i) = drop_once vs i

keys_on : (sorts : List Sort) (a b : List Value) (i : ℕ) (s : Sort) → i < length sorts → s ≡ get_or sorts i s
    → keys_cmp (drop i sorts) (drop i a) (drop i b)
    ≡ ordering_then (turned s.down (key_at a i) (key_at b i)) (keys_cmp (drop (suc i) sorts) (drop (suc i) a) (drop (suc i) b))
keys_on sorts a b i s h is =
    ap (λ l. keys_cmp l (drop i a) (drop i b)) (drop-cons sorts i s h)
    ∙ ap (λ (t : Sort). ordering_then (turned t.down (key_at (drop i a) 0) (key_at (drop i b) 0)) (keys_cmp (drop (suc i) sorts) (drop 1 (drop i a)) (drop 1 (drop i b)))) (sym is)
    ∙ ap (λ v. ordering_then (turned s.down v (key_at (drop i b) 0)) (keys_cmp (drop (suc i) sorts) (drop 1 (drop i a)) (drop 1 (drop i b)))) (first_drop a i)
    ∙ ap (λ v. ordering_then (turned s.down (key_at a i) v) (keys_cmp (drop (suc i) sorts) (drop 1 (drop i a)) (drop 1 (drop i b)))) (first_drop b i)
    ∙ ap (λ l. ordering_then (turned s.down (key_at a i) (key_at b i)) (keys_cmp (drop (suc i) sorts) l (drop 1 (drop i b)))) (drop_once a i)
    ∙ ap (λ l. ordering_then (turned s.down (key_at a i) (key_at b i)) (keys_cmp (drop (suc i) sorts) (drop (suc i) a) l)) (drop_once b i)

pub keys_step : (sorts : List Sort) (a b : List Value) (i : ℕ) (s : Sort) (r : Ordering) → i < length sorts → s ≡ get_or sorts i s → r ≡ turned s.down (key_at a i) (key_at b i)
    → keys_cmp (drop i sorts) (drop i a) (drop i b) ≡ ordering_then r (keys_cmp (drop (i + 1) sorts) (drop (i + 1) a) (drop (i + 1) b))
keys_step sorts a b i s r h is told =
    keys_on sorts a b i s h is
    ∙ ap (λ t. ordering_then t (keys_cmp (drop (suc i) sorts) (drop (suc i) a) (drop (suc i) b))) (sym told)
    ∙ ap (λ n. ordering_then r (keys_cmp (drop n sorts) (drop n a) (drop n b))) (sym (add-one i))

pub level_on : (r o : Ordering) → r ≡ Equal → ordering_then r o ≡ o
level_on r o e = ap (λ t. ordering_then t o) e

pub told_by : (r o : Ordering) → (r ≡ Equal → ⊥) → ordering_then r o ≡ r
told_by Less o n = refl
told_by Equal o n = absurd (n refl)
told_by Greater o n = refl

pub differs : (r : Ordering) → not (ordering_index r == 1) ≡ true → r ≡ Equal → ⊥
differs Less h e = cc
differs Equal h e = true≢false (sym h)
differs Greater h e = cc

pub is_level : (r : Ordering) → not (ordering_index r == 1) ≡ false → r ≡ Equal
is_level Less h = absurd (true≢false h)
is_level Equal h = refl
is_level Greater h = absurd (true≢false h)
