-- What an edge's write does to the lists of a vertex.
use Rattle.std.proofs.Common.{◌≡◌, ℕ, List, [], ◌∷◌, Bool, true, false, not, ◌&&◌, ◌||◌, cond, refl, sym, ap, ◌∙◌, arith}
use Rattle.std.specs.Prelude.{nat_eq}
use Rattle.std.specs.FinMap.Entries.{by_order}
use Rattle.std.specs.List.{list_any}
use Rattle.std.specs.Ordering.{is_eq, eq_by_cmp}
use Rattle.std.specs.declared.cmp.Ordering.TheVariants.{Less, Equal, Greater}
use Rattle.std.proofs.lemmas.Bool.Decides.{nat_tests}
use Rattle.graph_value.specs.declared.id.EdgeId.{EdgeId}
use Rattle.graph_record.specs.Edits.{added, removed}
use Rattle.graph_record.specs.Graph.{edge_cmp}
use Rattle.world_model.proofs.Objects.{tied}

-- whether the edge is in the list
abbrev pub lists : EdgeId → List EdgeId → Bool
lists e es = list_any (λ f. nat_eq f.0 e.0) es

or_swap : (a b c : Bool) → (a || (b || c)) ≡ (b || (a || c))
or_swap true true c = refl
or_swap true false c = refl
or_swap false b c = refl

or_again : (a b c : Bool) → a ≡ b → (b || c) ≡ (a || (b || c))
or_again true b c e = ap (λ d. d || c) (sym e)
or_again false b c e = refl

pub lists_added : (e f : EdgeId) (es : List EdgeId) → lists e (added edge_cmp f es) ≡ (nat_eq f.0 e.0 || lists e es)
lists_added e f [] = refl
lists_added e f (y ∷ ys) =
    elim (edge_cmp f y) as (λ r. edge_cmp f y ≡ r → lists e (by_order r (f ∷ y ∷ ys) (y ∷ ys) (y ∷ added edge_cmp f ys)) ≡ (nat_eq f.0 e.0 || (nat_eq y.0 e.0 || lists e ys))) [
      | Less ↦ λ is. refl
      | Equal ↦ λ is. or_again (nat_eq f.0 e.0) (nat_eq y.0 e.0) (lists e ys) (ap (λ n. nat_eq n e.0) (same f.0 y.0 (sym (tied f.0 y.0) ∙ ap is_eq is)))
      | Greater ↦ λ is. ap (λ b. nat_eq y.0 e.0 || b) (lists_added e f ys) ∙ or_swap (nat_eq y.0 e.0) (nat_eq f.0 e.0) (lists e ys)
    ] refl
  where
    same : (a b : ℕ) → nat_eq a b ≡ true → a ≡ b
    same a b h = grind (arith, nat_tests)

pub lists_removed : (e f : EdgeId) (es : List EdgeId) → lists e (removed edge_cmp f es) ≡ (not (nat_eq f.0 e.0) && lists e es)
lists_removed e f [] = none (nat_eq f.0 e.0)
  where
    none : (b : Bool) → false ≡ (not b && false)
    none true = refl
    none false = refl
lists_removed e f (y ∷ ys) =
    elim (eq_by_cmp edge_cmp f y) as (λ b. eq_by_cmp edge_cmp f y ≡ b → lists e (cond (not b) (y ∷ removed edge_cmp f ys) (removed edge_cmp f ys)) ≡ (not (nat_eq f.0 e.0) && (nat_eq y.0 e.0 || lists e ys))) [
      | true ↦ λ is. lists_removed e f ys ∙ gone (nat_eq f.0 e.0) (nat_eq y.0 e.0) (lists e ys) (same f.0 y.0 e.0 (sym (tied f.0 y.0) ∙ is))
      | false ↦ λ is. ap (λ b. nat_eq y.0 e.0 || b) (lists_removed e f ys) ∙ stays (nat_eq f.0 e.0) (nat_eq y.0 e.0) (lists e ys) (apart f.0 y.0 e.0 (sym (tied f.0 y.0) ∙ is))
    ] refl
  where
    same : (a b n : ℕ) → nat_eq a b ≡ true → nat_eq a n ≡ nat_eq b n
    same a b n h = grind (arith, nat_tests)

    apart : (a b n : ℕ) → nat_eq a b ≡ false → (nat_eq a n && nat_eq b n) ≡ false
    apart a b n h = grind (arith, nat_tests)

    gone : (a b c : Bool) → a ≡ b → (not a && c) ≡ (not a && (b || c))
    gone true b c e = refl
    gone false b c e = ap (λ d. d || c) e

    stays : (a b c : Bool) → (a && b) ≡ false → (b || (not a && c)) ≡ (not a && (b || c))
    stays true true c h = absurd (cc)
    stays true false c h = refl
    stays false b c h = refl
