-- What a search for a version finds.
use Rattle.std.specs.Prelude.{◌≡◌, ℕ, Option, Some, None}
use Rattle.std.specs.Arc.{arc_value}
use Rattle.anchor_store.specs.Blocks.{BlockParts}
use Rattle.anchor_store.specs.declared.found.Found.{Found}
use Rattle.anchor_store.specs.declared.found.Found.TheVariants.{Ready, InBlock}

-- where there is a block, that block with the instant t, and else this object
abbrev pub IsFound : {U O D : Type 0} → Option (BlockParts O D) → O → ℕ → Found U O D → Type 0
IsFound None object t (Ready found) = found ≡ object
IsFound None object t (InBlock found at) = ⊥
IsFound (Some block) object t (Ready found) = ⊥
IsFound (Some block) object t (InBlock found at) = (arc_value found ≡ block) × (at ≡ t)
