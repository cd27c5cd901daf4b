-- A name is ASCII.
use Rattle.std.proofs.Common.{◌≡◌, ℕ, ◌<◌, true, List, [], ◌∷◌, arith}
use Rattle.std.specs.List.{list_all}
use Rattle.std.specs.Str.{IsAscii, IsUtf8}
use Rattle.std.proofs.lemmas.Str.{IsUtf8-from_ascii}
use Rattle.std.proofs.lemmas.Str.Ascii.{IsAscii-nil, IsAscii-cons}
use Rattle.std.proofs.lemmas.Bool.Decides.{nat_tests}
use Rattle.event_lines.specs.Words.{begins_name, continues_name, is_name}

begins_ascii : (c : ℕ) → begins_name c ≡ true → c < 128
begins_ascii c h = grind (arith, nat_tests)

continues_ascii : (c : ℕ) → continues_name c ≡ true → c < 128
continues_ascii c h = grind (arith, nat_tests)

rest_ascii : (cs : List ℕ) → list_all continues_name cs ≡ true → IsAscii cs
rest_ascii [] h = IsAscii-nil
rest_ascii (c ∷ cs) h =
    let both : (continues_name c ≡ true) × (list_all continues_name cs ≡ true) = grind arith in
    IsAscii-cons c cs (continues_ascii c both.0) (rest_ascii cs both.1)

pub name_utf8 : (word : List ℕ) → is_name word ≡ true → IsUtf8 word
name_utf8 [] h = absurd (grind arith)
name_utf8 (c ∷ cs) h =
    let both : (begins_name c ≡ true) × (list_all continues_name cs ≡ true) = grind arith in
    IsUtf8-from_ascii (c ∷ cs) (IsAscii-cons c cs (begins_ascii c both.0) (rest_ascii cs both.1))
