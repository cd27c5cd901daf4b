-- The elements of a list that may be shared.
use Rattle.std.specs.Prelude.{List, [], Option, Some, None, Vec}
use Rattle.std.specs.declared.sync.Arc.{Arc}
use Rattle.std.specs.Arc.{arc_value}

-- none where nothing was ever put there
abbrev pub shared_items : {A Y Z : Type 0} → Option (Arc (Vec A Y) Z) → List A
shared_items None = []
shared_items (Some shared) = (arc_value shared).items
