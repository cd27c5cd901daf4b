-- What was found, and what it takes to finish it.
use Rattle.std.specs.Prelude.{ℕ, length}
use Rattle.std.specs.Arc.{arc_value}
use Rattle.anchor_store.specs.Blocks.{version}
use Rattle.anchor_store.specs.Groups.{later}
use Rattle.anchor_store.specs.declared.found.Found.{Found}
use Rattle.anchor_store.specs.declared.found.Found.TheVariants.{Ready, InBlock}

-- the object that was found
abbrev pub found_object : {U O D : Type 0} → (O → D → O) → Found U O D → O
found_object after (Ready object) = object
found_object after (InBlock block t) = version after (arc_value block) t

-- how many deltas have to be undone for it
abbrev pub found_steps : {U O D : Type 0} → Found U O D → ℕ
found_steps (Ready object) = 0
found_steps (InBlock block t) = length (later t (arc_value block).deltas)

-- how many that can be at most
abbrev pub most_steps : {U O D : Type 0} → Found U O D → ℕ
most_steps (Ready object) = 0
most_steps (InBlock block t) = length (arc_value block).deltas
