-- A string of JSON that stands alone.
use Rattle.std.proofs.Common.{◌≡◌, ℕ, List, [], ◌∷◌, append-nil}
use Rattle.json.specs.Print.{print, print_from, quoted}
use Rattle.json.specs.Token.{string}

pub printed : (s : List ℕ) → print (string s ∷ []) ≡ quoted s
unfolding print_from
printed s = append-nil (quoted s)
