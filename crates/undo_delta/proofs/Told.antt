-- A test of two elements that says whether they are equal.
use Rattle.std.proofs.Common.{◌≡◌, ℕ, List, ◌&&◌, nat_eq, Decides, ap}
use Rattle.std.specs.Str.{bytes_eq}
use Rattle.std.proofs.lemmas.Bool.Decides.{Decides-eqb, Decides-and}
use Rattle.std.proofs.lemmas.Slice.Eq.{bytes_eq-Decides}
use Rattle.graph_value.specs.Value.{same_value}
use Rattle.graph_value.specs.SameLaws.{same_value_Decides}
use Rattle.graph_value.specs.declared.value.Value.{Value}
use Rattle.graph_value.specs.declared.id.EdgeId.{EdgeId}

pub ids_told : (a b : EdgeId) → Decides (nat_eq a.0 b.0) (a ≡ b)
ids_told a b = (
  λ e. ap (λ (n : ℕ). let id : EdgeId = record { 0 = n } in id) ((Decides-eqb a.0 b.0).0 e),
  λ e. (Decides-eqb a.0 b.0).1 (ap (λ (id : EdgeId). id.0) e),
)

pub properties_told : (a b : List ℕ × Value) → Decides (bytes_eq a.0 b.0 && same_value a.1 b.1) (a ≡ b)
properties_told a b =
    let parts = Decides-and _ _ (bytes_eq-Decides a.0 b.0) (same_value_Decides a.1 b.1) in (
      λ e. let names = (parts.0 e).0 in let values = (parts.0 e).1 in (λ i. (names i, values i)),
      λ e. parts.1 (ap (λ (p : List ℕ × Value). p.0) e, ap (λ (p : List ℕ × Value). p.1) e),
    )
