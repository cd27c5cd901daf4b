-- The tokens of a vertex in a row.
use Rattle.std.proofs.Common.{◌≡◌, List, ◌++◌, append_assoc}
use Rattle.json.specs.Token.{Token}

-- five parts, each written behind those before it
pub five_written : (start a b c d e t1 t2 t3 t4 t5 : List Token) →
    t1 ≡ start ++ a → t2 ≡ t1 ++ b → t3 ≡ t2 ++ c → t4 ≡ t3 ++ d → t5 ≡ t4 ++ e →
    t5 ≡ start ++ (a ++ (b ++ (c ++ (d ++ e))))
five_written start a b c d e t1 t2 t3 t4 t5 e1 e2 e3 e4 e5 = rw (e5, e4, e3, e2, e1) (simp append_assoc)
