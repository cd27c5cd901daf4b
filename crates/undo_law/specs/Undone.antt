-- What undoing a list of deltas leaves, for a kind of object where `after x d` is the object x after the delta d.
use Rattle.std.specs.Prelude.{List, map, fold}
use Rattle.undo_law.specs.declared.dated.Dated.{Dated}

-- the object after its deltas were undone one by one, beginning with the newest, which stands first
abbrev pub undone : {O D : Type 0} → (O → D → O) → O → List D → O
undone after object deltas = fold after object deltas

-- the deltas of a list without their timestamps
abbrev pub deltas_of : {D : Type 0} → List (Dated D) → List D
deltas_of dated = map (λ d. d.delta) dated
