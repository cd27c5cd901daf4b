-- Editing the properties of an object keeps their form.
use Rattle.std.proofs.Common.{◌≡◌, ℕ, List, [], ◌∷◌, true, false, not, cond, IsTrue, refl, sym, ap, ◌∙◌}
use Rattle.std.specs.declared.cmp.Ordering.TheVariants.{Less, Equal, Greater}
use Rattle.std.specs.FinMap.{put}
use Rattle.std.specs.FinMap.Entries.{by_order}
use Rattle.std.specs.Ordering.{eq_by_cmp, is_eq}
use Rattle.std.proofs.lemmas.Map.Text.{is_eq-slice_cmp}
use Rattle.std.proofs.lemmas.Slice.Eq.{bytes_eq-Decides}
use Rattle.std.proofs.lemmas.Bool.{and_parts}
use Rattle.std.proofs.lemmas.Cmp.{nat_list_cmp_total}
use Rattle.graph_value.specs.Name.{name_cmp}
use Rattle.graph_value.specs.Storable.{is_storable}
use Rattle.graph_value.specs.declared.value.Value.{Value}
use Rattle.graph_record.specs.Edits.{removed_key}
use Rattle.graph_record.specs.Stored.{are_storable, IsPropertyList, set_property}
use Rattle.graph_record.proofs.Place.{both, put_sorted, removed_key_sorted}

abbrev Props : Type 0
Props = List (List ℕ × Value)

put_storable : (k : List ℕ) (v : Value) (es : Props) → IsTrue (is_storable v) → IsTrue (are_storable es) → IsTrue (are_storable (put name_cmp k v es))
put_storable k v [] here rest = both _ _ here refl
put_storable k v (e ∷ es) here rest =
    elim (name_cmp k e.0) as (λ r. IsTrue (are_storable (by_order r ((k, v) ∷ e ∷ es) ((e.0, v) ∷ es) (e ∷ put name_cmp k v es)))) [
      | Less ↦ both _ _ here rest
      | Equal ↦ both _ _ here (and_parts _ _ rest).1
      | Greater ↦ both _ _ (and_parts _ _ rest).0 (put_storable k v es here (and_parts _ _ rest).1)
    ]

removed_storable : (k : List ℕ) (es : Props) → IsTrue (are_storable es) → IsTrue (are_storable (removed_key name_cmp k es))
removed_storable k [] stored = refl
removed_storable k (e ∷ es) stored =
    elim (eq_by_cmp name_cmp k e.0) as (λ b. IsTrue (are_storable (cond (not b) (e ∷ removed_key name_cmp k es) (removed_key name_cmp k es)))) [
      | true ↦ removed_storable k es (and_parts _ _ stored).1
      | false ↦ both _ _ (and_parts _ _ stored).0 (removed_storable k es (and_parts _ _ stored).1)
    ]

pub put_kept : (k : List ℕ) (v : Value) (es : Props) → IsTrue (is_storable v) → IsPropertyList es → IsPropertyList (put name_cmp k v es)
put_kept k v es here form = record {
  ascending = put_sorted nat_list_cmp_total k v es form.ascending;
  storable = put_storable k v es here form.storable;
}

pub removed_kept : (k : List ℕ) (es : Props) → IsPropertyList es → IsPropertyList (removed_key name_cmp k es)
removed_kept k es form = record {
  ascending = removed_key_sorted nat_list_cmp_total k es form.ascending;
  storable = removed_storable k es form.storable;
}

-- whatever the value is
pub set_kept : (k : List ℕ) (v : Value) (es : Props) → IsPropertyList es → IsPropertyList (set_property k v es)
set_kept k v es form =
    elim (is_storable v) as (λ b. is_storable v ≡ b → IsPropertyList (cond b (put name_cmp k v es) (removed_key name_cmp k es))) [
      | true ↦ λ here. put_kept k v es here form
      | false ↦ λ gone. removed_kept k es form
    ] refl

-- names that tie are one name
pub tied_names : (a b : List ℕ) → name_cmp a b ≡ Equal → a ≡ b
tied_names a b e = (bytes_eq-Decides a b).0 (sym (is_eq-slice_cmp a b) ∙ ap is_eq e)
