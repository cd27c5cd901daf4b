-- The first mark that fails.
use Rattle.std.specs.Prelude.{ℕ, List, [], ◌∷◌, Option, Some, None, if◌then◌else◌}
use Rattle.cypher_check.specs.declared.refused.CheckRefused.{CheckRefused}
use Rattle.cypher_check.specs.declared.refused.CheckRefused.TheVariants.{Unbound, AggregatePlace}
use Rattle.cypher_check.specs.declared.names.fault.Fault.{Fault}
use Rattle.cypher_check.specs.declared.names.fault.Fault.TheVariants as found
use Rattle.cypher_check.specs.Names.{has}
use Rattle.cypher_check.specs.Marks.{Mark, Uses, Misplaced}

-- the fault of the first mark that fails, with these names in scope
abbrev pub first_fault : List (List ℕ) → List Mark → Option CheckRefused
first_fault scope [] = None
first_fault scope (Uses name ∷ marks) = if has scope name then first_fault scope marks else Some (Unbound name)
first_fault scope (Misplaced ∷ marks) = Some AggregatePlace

-- a fault as it is answered
abbrev pub refusal_of : Fault → CheckRefused
refusal_of (found.Unbound name) = Unbound name.now
refusal_of found.AggregatePlace = AggregatePlace

abbrev pub refused : Option Fault → Option CheckRefused
refused None = None
refused (Some fault) = Some (refusal_of fault)
