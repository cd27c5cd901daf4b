-- A value that a property gets, and the one that it had before.
use Rattle.std.proofs.Common.{◌≡◌, ℕ, List, [], ◌∷◌, Bool, true, false, cond, IsTrue, T, Option, Some, None, refl, sym, ap, subst, ◌∙◌}
use Rattle.std.specs.FinMap.{find, put, is_sorted, IsAntisymmetric, nat_cmp-IsAntisymmetric, slice_cmp-IsAntisymmetric}
use Rattle.std.specs.Ordering.{eq_by_cmp}
use Rattle.std.proofs.lemmas.Bool.{and_parts}
use Rattle.std.proofs.lemmas.Cmp.{nat_list_cmp_total}
use Rattle.graph_value.specs.Name.{name_cmp}
use Rattle.graph_value.specs.Storable.{is_storable, storable_level}
use Rattle.graph_value.specs.Value.{same_value}
use Rattle.graph_value.specs.SameLaws.{same_value_Decides}
use Rattle.graph_value.specs.declared.value.Value.{Value}
use Rattle.graph_value.specs.declared.value.Value.TheVariants.{Null, outs-Null}
use Rattle.graph_record.specs.Ascending.{IsAscendingProperties}
use Rattle.graph_record.specs.Edits.{removed_key}
use Rattle.graph_record.specs.Stored.{are_storable, IsPropertyList, set_property}
use Rattle.undo_delta.specs.Change.{value_or_null, kept}
use Rattle.undo_delta.proofs.Restored.{find_put_here, find_removed_here, put_put, removed_put, put_removed, removed_removed, put_same}

abbrev pub Props : Type 0
Props = List (List ℕ × Value)

pub names_apart : IsAntisymmetric name_cmp
names_apart = slice_cmp-IsAntisymmetric nat_cmp-IsAntisymmetric

null_goes : is_storable Null ≡ false
null_goes = ap storable_level outs-Null

-- a value that is found is one that an object keeps
found_storable : (name : List ℕ) (v : Value) (ps : Props) → IsTrue (are_storable ps) → find name_cmp name ps ≡ Some v → is_storable v ≡ true
found_storable name v [] stored was = absurd (cc)
found_storable name v (p ∷ ps) stored was =
    elim (eq_by_cmp name_cmp name p.0) as (λ b. cond b (Some p.1) (find name_cmp name ps) ≡ Some v → is_storable v ≡ true) [
      | true ↦ λ is. let e : p.1 ≡ v = cc in subst (λ (x : Value). is_storable x ≡ true) e (and_parts _ _ stored).0
      | false ↦ λ is. found_storable name v ps (and_parts _ _ stored).1 is
    ] was

sorted_T : (ps : Props) → IsAscendingProperties ps → T (is_sorted name_cmp ps)
sorted_T ps h = subst T (sym h) tt

-- the old value, or its absence, is set again
pub value_back : (name : List ℕ) (value : Value) (ps : Props) → IsPropertyList ps
    → set_property name (value_or_null (find name_cmp name ps)) (set_property name value ps) ≡ ps
value_back name value ps form =
    let h = sorted_T ps form.ascending in
    elim (find name_cmp name ps) as (λ f. find name_cmp name ps ≡ f → set_property name (value_or_null f) (set_property name value ps) ≡ ps) [
      | None ↦ λ was.
          let none = removed_removed nat_list_cmp_total names_apart name ps h was in
          ap (λ b. cond b (put name_cmp name Null (set_property name value ps)) (removed_key name_cmp name (set_property name value ps))) null_goes
          ∙ elim (is_storable value) as (λ b. removed_key name_cmp name (cond b (put name_cmp name value ps) (removed_key name_cmp name ps)) ≡ ps) [
            | true ↦ removed_put nat_list_cmp_total names_apart name value ps h was
            | false ↦ ap (removed_key name_cmp name) none ∙ none
          ]
      | Some v ↦ λ was.
          ap (λ b. cond b (put name_cmp name v (set_property name value ps)) (removed_key name_cmp name (set_property name value ps))) (found_storable name v ps form.storable was)
          ∙ elim (is_storable value) as (λ b. put name_cmp name v (cond b (put name_cmp name value ps) (removed_key name_cmp name ps)) ≡ ps) [
            | true ↦ put_put nat_list_cmp_total names_apart name v value ps h was
            | false ↦ put_removed nat_list_cmp_total names_apart name v ps h was
          ]
    ] refl

kept_here : (name : List ℕ) (value : Value) (ps : Props) → IsPropertyList ps → (f : Option Value) → find name_cmp name ps ≡ f → (b : Bool) → is_storable value ≡ b
    → value_or_null f ≡ cond b value Null → cond b (put name_cmp name value ps) (removed_key name_cmp name ps) ≡ ps
kept_here name value ps form None was true stores is = absurd (let e : false ≡ true = sym null_goes ∙ ap is_storable is ∙ stores in cc)
kept_here name value ps form None was false stores is = removed_removed nat_list_cmp_total names_apart name ps (sorted_T ps form.ascending) was
kept_here name value ps form (Some v) was true stores is = put_same nat_list_cmp_total names_apart name value ps (sorted_T ps form.ascending) (was ∙ ap Some is)
kept_here name value ps form (Some v) was false stores is = absurd (let e : true ≡ false = sym (found_storable name v ps form.storable was) ∙ ap is_storable is ∙ null_goes in cc)

-- a value that is there already is set with no change
pub value_kept : (name : List ℕ) (value : Value) (ps : Props) → IsPropertyList ps
    → same_value (value_or_null (find name_cmp name ps)) (kept value) ≡ true → set_property name value ps ≡ ps
value_kept name value ps form same =
    kept_here name value ps form (find name_cmp name ps) refl (is_storable value) refl ((same_value_Decides (value_or_null (find name_cmp name ps)) (kept value)).0 same)

-- the value that stands there after a set
value_after : (name : List ℕ) (value : Value) (ps : Props) → value_or_null (find name_cmp name (set_property name value ps)) ≡ kept value
value_after name value ps =
    elim (is_storable value) as (λ b. value_or_null (find name_cmp name (cond b (put name_cmp name value ps) (removed_key name_cmp name ps))) ≡ cond b value Null) [
      | true ↦ ap value_or_null (find_put_here nat_list_cmp_total name value ps)
      | false ↦ ap value_or_null (find_removed_here nat_list_cmp_total name ps)
    ]

-- a value whose set changes nothing was there
pub value_there : (name : List ℕ) (value : Value) (ps : Props) → set_property name value ps ≡ ps → same_value (value_or_null (find name_cmp name ps)) (kept value) ≡ true
value_there name value ps same =
    (same_value_Decides _ _).1 (ap (λ (qs : Props). value_or_null (find name_cmp name qs)) (sym same) ∙ value_after name value ps)
