-- The pieces in a map. An object of which a caller has lifted a piece has a place there, which is empty once that is sent.
use Rattle.std.specs.Prelude.{ℕ, List, Option, option_and_then, IsSome}
use Rattle.std.specs.BTreeMap.{is_at}
use Rattle.std.specs.Map.{lookup}
use Rattle.std.specs.Ordering.{nat_cmp, ordering_then}
use Rattle.std.specs.declared.cmp.Ordering.{Ordering}
use Rattle.graph_value.specs.declared.id.Oid.{Oid}
use Rattle.graph_value.specs.contracts.id.OidOrd.TheImpl as oid_order
use Rattle.world_model.specs.Pieces.{PieceParts}
use Rattle.graph_shell.specs.Pieces.{Pieces}
use Rattle.graph_shell.specs.declared.kept.Kept.{Kept}

-- callers in order, and each one's objects
abbrev pub place_cmp : ℕ × Oid → ℕ × Oid → Ordering
place_cmp a b = ordering_then (nat_cmp a.0 b.0) (oid_order.ghosts.cmp a.1 b.1)

-- the entries of the map
abbrev pub Places : Type 0
Places = List ((ℕ × Oid) × Option PieceParts)

-- the place that a caller has for an object
abbrev pub place_in : Places → ℕ → Oid → Option (Option PieceParts)
place_in places caller x = lookup (is_at (place_cmp (caller, x))) places

-- what the places have
abbrev pub pieces_in : Places → Pieces
pieces_in places caller x = option_and_then (λ place. place) (place_in places caller x)

abbrev pub HasPlace : Kept → ℕ → Oid → Type 0
HasPlace kept caller x = IsSome (place_in kept.places.entries caller x)

abbrev pub pieces_of : Kept → Pieces
pieces_of kept = pieces_in kept.places.entries
