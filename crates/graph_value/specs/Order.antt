-- The order in which values are sorted: it tells any two different values apart.
use Rattle.std.specs.Prelude.{ℕ}
use Rattle.std.specs.Cmp.Lexicographic.{slice_cmp}
use Rattle.std.specs.Ordering.{nat_cmp, int_cmp, bool_cmp}
use Rattle.std.specs.declared.cmp.Ordering.{Ordering}
use Rattle.graph_value.specs.Name.{name_cmp}
use Rattle.graph_value.specs.declared.value.Value.{Value, out-Value, fold-Value}
use Rattle.graph_value.specs.declared.value.Value.TheOpen.{Value-F}

-- the place of a kind among the kinds
abbrev pub rank_at : {A : Type 0} → Value-F A → ℕ
rank_at (Value-F.Vertex _) = 0
rank_at (Value-F.Edge _) = 1
rank_at (Value-F.List _) = 2
rank_at (Value-F.Text _) = 3
rank_at (Value-F.Bool _) = 4
rank_at (Value-F.Int _) = 5
rank_at Value-F.Null = 6

abbrev pub rank_of : Value → ℕ
rank_of v = rank_at (out-Value v)

-- One level: within a kind by what the value holds, and else by kind. On the left each element stands as the
-- comparison of a value with it.
abbrev pub order_level : Value-F (Value → Ordering) → Value-F Value → Ordering
order_level (Value-F.Vertex a) (Value-F.Vertex b) = nat_cmp a.0 b.0
order_level (Value-F.Edge a) (Value-F.Edge b) = nat_cmp a.0 b.0
order_level (Value-F.List comparisons) (Value-F.List bs) = slice_cmp (λ order b. order b) comparisons bs
order_level (Value-F.Text a) (Value-F.Text b) = name_cmp a b
order_level (Value-F.Bool a) (Value-F.Bool b) = bool_cmp a b
order_level (Value-F.Int a) (Value-F.Int b) = int_cmp a b
order_level a b = nat_cmp (rank_at a) (rank_at b)

abbrev pub order_of : Value → Value → Ordering
order_of = fold-Value (Value → Ordering) (λ a b. order_level a (out-Value b))
