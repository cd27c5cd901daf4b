-- A value of one level as a value.
use Rattle.std.proofs.Common.{◌≡◌, ℕ, Bool, List, refl}
use Rattle.graph_value.specs.declared.value.Value as values
use Rattle.graph_value.specs.declared.value.Value.{Value, out-Value, roll-Value}
use Rattle.graph_value.specs.declared.value.Value.TheVariants as value
use Rattle.graph_value.specs.declared.value.Value.TheOpen.{Value-F}

pub null_rolled : value.Null ≡ roll-Value Value-F.Null
unfolding values.roll-Value out-Value denote.Hole.Carrier.roll
null_rolled = refl

pub bool_rolled : (b : Bool) → value.Bool b ≡ roll-Value (Value-F.Bool b)
unfolding values.roll-Value out-Value denote.Hole.Carrier.roll
bool_rolled b = refl

pub text_rolled : (t : List ℕ) → value.Text t ≡ roll-Value (Value-F.Text t)
unfolding values.roll-Value out-Value denote.Hole.Carrier.roll
text_rolled t = refl

pub list_rolled : (vs : List Value) → value.List vs ≡ roll-Value (Value-F.List vs)
unfolding values.roll-Value out-Value denote.Hole.Carrier.roll
list_rolled vs = refl
