-- The order of vertices is total, and the first vertex above another one stands behind its place.
use Rattle.std.proofs.Common.{◌≡◌, ℕ, zero, suc, ◌<◌, List, [], ◌∷◌, nat_lt, true, false, cond, Option, Some, None, option_map, slice_get, IsTrue, refl, sym, ap, ◌∙◌, arith}
use Rattle.std.specs.Cmp.{IsTotalOrder, ranked}
use Rattle.std.specs.FinMap.{is_sorted}
use Rattle.std.specs.Ordering.{nat_cmp, is_lt}
use Rattle.std.specs.declared.cmp.Ordering.{Ordering}
use Rattle.std.specs.declared.cmp.Ordering.TheVariants.{Less, Equal, Greater}
use Rattle.std.proofs.lemmas.Bool.{false≢true, and_parts}
use Rattle.std.proofs.lemmas.Bool.Decides.{nat_tests}
use Rattle.std.proofs.lemmas.Cmp.{nat_cmp_total}
use Rattle.graph_value.specs.declared.id.VertexId.{VertexId}
use Rattle.graph_record.specs.declared.object.VertexRecord.{VertexRecord}
use Rattle.graph_reader.specs.Alive.{first_above}
use Rattle.graph_record.specs.Graph.{vertex_cmp}
use Rattle.graph_record.specs.Place.{IsAt, IsGapFor, key_of}
use Rattle.graph_record.proofs.Place.{is_at_tail, gap_tail}

pub vertex_cmp_total : IsTotalOrder vertex_cmp
vertex_cmp_total = record {
  antisymm = λ x y. nat_cmp_total.antisymm x.0 y.0;
  trans = λ x y z p q. nat_cmp_total.trans x.0 y.0 z.0 p q;
  congr = λ x y z e. nat_cmp_total.congr x.0 y.0 z.0 e;
}

less_is_not_above : (v a : ℕ) → nat_cmp a v ≡ Less → nat_lt v a ≡ false
less_is_not_above v a e = let h : a < v = ranked a v Less (sym e) in grind (arith, nat_tests)

equal_is_not_above : (v a : ℕ) → nat_cmp a v ≡ Equal → nat_lt v a ≡ false
equal_is_not_above v a e = let h : a ≡ v = ranked a v Equal (sym e) in grind (arith, nat_tests)

greater_is_above : (v a : ℕ) → nat_cmp a v ≡ Greater → nat_lt v a ≡ true
greater_is_above v a e = let h : v < a = ranked a v Greater (sym e) in grind (arith, nat_tests)

is_less : (r : Ordering) → IsTrue (is_lt r) → r ≡ Less
is_less Less p = refl
is_less Equal p = absurd (false≢true p)
is_less Greater p = absurd (false≢true p)

behind_is_above : (v a b : ℕ) → nat_cmp a v ≡ Equal → nat_cmp a b ≡ Less → nat_lt v b ≡ true
behind_is_above v a b e l =
    let same : a ≡ v = ranked a v Equal (sym e) in
    let below : a < b = ranked a b Less (sym l) in
    grind (arith, nat_tests)

-- the first of all is above none
pub above_none : (es : List (VertexId × VertexRecord)) → option_map key_of (slice_get es 0) ≡ first_above None es
above_none [] = refl
above_none (e ∷ es) = refl

module _ (v : VertexId) where
  abbrev pub found : List (VertexId × VertexRecord) → ℕ → Option VertexId
  found es i = option_map key_of (slice_get es i)

  abbrev passed : (e : VertexId × VertexRecord) (es : List (VertexId × VertexRecord)) → nat_lt v.0 e.0.0 ≡ false → first_above (Some v) (e ∷ es) ≡ first_above (Some v) es
  passed e es h = ap (λ b. cond b (Some e.0) (first_above (Some v) es)) h

  abbrev taken : (e : VertexId × VertexRecord) (es : List (VertexId × VertexRecord)) → nat_lt v.0 e.0.0 ≡ true → first_above (Some v) (e ∷ es) ≡ Some e.0
  taken e es h = ap (λ b. cond b (Some e.0) (first_above (Some v) es)) h

  -- where the vertex would go, the next one stands
  pub above_gap : (es : List (VertexId × VertexRecord)) (i : ℕ) → IsGapFor vertex_cmp key_of v es i → found es i ≡ first_above (Some v) es
  above_gap [] i gap = refl
  above_gap (e ∷ es) zero gap = sym (taken e es (greater_is_above v.0 e.0.0 (gap.greater_after 0 e (omega arith) (omega arith))))
  above_gap (e ∷ es) (suc i) gap =
      above_gap es i (gap_tail vertex_cmp_total key_of v e es i gap)
      ∙ sym (passed e es (less_is_not_above v.0 e.0.0 (gap.smaller_before 0 e (omega arith) (omega arith))))

  above_first : (e : VertexId × VertexRecord) (es : List (VertexId × VertexRecord)) → vertex_cmp e.0 v ≡ Equal → IsTrue (is_sorted vertex_cmp (e ∷ es)) → found es 0 ≡ first_above (Some v) es
  above_first e [] same sorted = refl
  above_first e (f ∷ fs) same sorted = sym (taken f fs (behind_is_above v.0 e.0.0 f.0.0 same (is_less _ (and_parts _ _ (and_parts _ _ sorted).0).0)))

  -- behind the vertex itself the next one stands
  pub above_at : (es : List (VertexId × VertexRecord)) (i : ℕ) → IsTrue (is_sorted vertex_cmp es) → IsAt vertex_cmp key_of v es i → found es (suc i) ≡ first_above (Some v) es
  above_at [] i sorted at = absurd (omega (arith, at.in_range))
  above_at (e ∷ es) zero sorted at = above_first e es (at.has_key e) sorted ∙ sym (passed e es (equal_is_not_above v.0 e.0.0 (at.has_key e)))
  above_at (e ∷ es) (suc i) sorted at =
      above_at es i (and_parts _ _ sorted).1 (is_at_tail vertex_cmp_total key_of v e es i at)
      ∙ sym (passed e es (less_is_not_above v.0 e.0.0 (at.smaller_before 0 e (omega arith) (omega arith))))
