-- An integer as a value of one level, and back.
use Rattle.std.proofs.Common.{◌≡◌, ℤ, Bool, true, false, refl, sym, ap, ◌∙◌}
use Rattle.graph_value.specs.SameLaws.{same_value_Decides}
use Rattle.graph_value.specs.Value.{same_level, same_value}
use Rattle.graph_value.specs.declared.value.Value as values
use Rattle.graph_value.specs.declared.value.Value.{Value, out-Value, roll-Value, out-roll-Value, roll-out-Value, fold-roll-Value}
use Rattle.graph_value.specs.declared.value.Value.TheVariants.{Null, Int}
use Rattle.graph_value.specs.declared.value.Value.TheOpen.{Value-F}

pub int_level : (n : ℤ) → out-Value (Int n) ≡ Value-F.Int n
unfolding values.roll-Value out-Value denote.Hole.Carrier.roll
int_level n = out-roll-Value (Value-F.Int n)

pub int_rolled : (n : ℤ) → roll-Value (Value-F.Int n) ≡ Int n
int_rolled n = ap roll-Value (sym (int_level n)) ∙ roll-out-Value (Int n)

null_rolled : roll-Value Value-F.Null ≡ Null
unfolding values.roll-Value out-Value denote.Hole.Carrier.roll
null_rolled = refl

-- null is no integer
pub null_apart : (n : ℤ) → same_value Null (Int n) ≡ false
null_apart n =
    ap (λ v. same_value v (Int n)) (sym null_rolled)
    ∙ ap (λ is_same. is_same (Int n)) (fold-roll-Value (Value → Bool) (λ a b. same_level a (out-Value b)) Value-F.Null)
    ∙ ap (same_level Value-F.Null) (int_level n)

-- values of different levels are different
pub apart : (a b : Value) → (out-Value a ≡ out-Value b → ⊥) → same_value a b ≡ false
apart a b differ =
    elim (same_value a b) as (λ t. same_value a b ≡ t → t ≡ false) [
      | true ↦ λ same. absurd (differ (ap out-Value ((same_value_Decides a b).0 same)))
      | false ↦ λ other. refl
    ] refl
