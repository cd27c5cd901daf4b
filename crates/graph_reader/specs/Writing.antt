-- What is written of a JSON value: its tokens, behind those that were written before.
use Rattle.std.specs.Prelude.{◌≡◌, ℕ, List, ◌∷◌, ◌++◌, Result, OnOk}
use Rattle.json.specs.Token.{Token, key}
use Rattle.json.specs.Tree.{json_tokens}
use Rattle.json.specs.Written.{Written}
use Rattle.serde_json.specs.Data.{Data}
use Rattle.serde_json.specs.Written.{outline}

abbrev pub tokens_of : Data → List Token
tokens_of d = json_tokens (outline d)

-- the value was written, or an error says that some of it may be; what stood before stays
pub record Appends {E : Type 0} (result : Result (Unit {0}) E) (old new : Written) (d : Data) : Type 0 where
  pub ok : OnOk result (new.tokens ≡ old.tokens ++ tokens_of d)
  pub before : new.before ≡ old.before

-- the same of a member of an object, with its key in front
pub record AppendsMember {E : Type 0} (result : Result (Unit {0}) E) (old new : Written) (name : List ℕ) (d : Data) : Type 0 where
  pub ok : OnOk result (new.tokens ≡ old.tokens ++ key name ∷ tokens_of d)
  pub before : new.before ≡ old.before
