-- Answers of three values.
use Rattle.std.specs.Prelude.{Bool, true, false}
use Rattle.graph_value.specs.declared.tri.Tri.{Tri}
use Rattle.graph_value.specs.declared.tri.Tri.TheVariants.{True, False, Unknown}

-- an answer that is known
abbrev pub known : Bool → Tri
known true = True
known false = False

-- false where one is, else unknown where one is
abbrev pub tri_and : Tri → Tri → Tri
tri_and True b = b
tri_and False b = False
tri_and Unknown True = Unknown
tri_and Unknown False = False
tri_and Unknown Unknown = Unknown
