-- Printed labels are read as these labels.
use Rattle.std.proofs.Common.{◌≡◌, ℕ, ◌<◌, true, List, [], ◌∷◌, ◌++◌, length, codes, refl, sym, ap, subst, ◌∙◌}
use Rattle.cypher_parse.specs.declared.kind.Kind.TheVariants as k
use Rattle.cypher_parse.specs.Texts.{lexeme_of}
use Rattle.cypher_parse.specs.Languages.{Lang, After}
use Rattle.cypher_parse.specs.Expressions.{Schema}
use Rattle.cypher_parse.specs.Patterns.{LabelsOrNone}
use Rattle.cypher_print.specs.Pieces.{written, schema}
use Rattle.cypher_print.specs.Printed.{labels}
use Rattle.cypher_print.specs.ReadBack.{parts_name}
use Rattle.cypher_print.specs.Sentences.{IsSentence, All, IsName}
use Rattle.cypher_print.proofs.ReadBack.{schema_names}
use Rattle.cypher_print.proofs.Parts.{written-behind, written-both, colon, behind_token}
use Rattle.cypher_print.proofs.Sentences.{one_token, no_token, in_turn}

label : (n : List ℕ) → written [] (codes ":" ∷ schema n) ≡ (58 ∷ []) ++ written [] (schema n)
label n = written-behind (58 ∷ []) (schema n)

labels_first : (n : List ℕ) (names : List (List ℕ)) → written [] (labels (n ∷ names)) ≡ ((58 ∷ []) ++ written [] (schema n)) ++ written [] (labels names)
labels_first n names = written-both (codes ":" ∷ schema n) (labels names) ∙ ap (λ ys. ys ++ written [] (labels names)) (label n)

-- the first of them begins with a colon
pub parted : (names : List (List ℕ)) (behind : List ℕ) → parts_name behind ≡ true → parts_name (written [] (labels names) ++ behind) ≡ true
parted [] behind h = h
parted (n ∷ names) behind h = ap (λ ys. parts_name (ys ++ behind)) (labels_first n names)

pub schema_name : (n behind : List ℕ) → 0 < length n → parts_name behind ≡ true → IsSentence Schema n (written [] (schema n)) behind
schema_name n behind some parts =
    let r = schema_names n behind some parts in
    one_token Schema n (written [] (schema n)) behind (r.0, r.1, λ place. (lexeme_of r.0 (written [] (schema n)) place, refl, (r.2 place).0, (r.2 place).1))

abbrev pub Label : Lang (List ℕ)
Label = After (k.Colon ∷ []) Schema

pub one_label : (n behind : List ℕ) → 0 < length n → parts_name behind ≡ true → IsSentence Label n ((58 ∷ []) ++ written [] (schema n)) behind
one_label n behind some parts =
    behind_token (k.Colon ∷ []) Schema n (58 ∷ []) (written [] (schema n)) behind (colon (written [] (schema n) ++ behind)) (schema_name n behind some parts)

pub labels_read : (names : List (List ℕ)) (behind : List ℕ) → All IsName names → parts_name behind ≡ true → IsSentence LabelsOrNone names (written [] (labels names)) behind
labels_read [] behind are parts = no_token LabelsOrNone [] behind refl
labels_read (n ∷ names) behind are parts =
    let P : List ℕ → Type 0 = λ bytes. IsSentence LabelsOrNone (n ∷ names) bytes behind in
    subst P (sym (labels_first n names))
    (in_turn Label LabelsOrNone LabelsOrNone n names (n ∷ names) (λ ts us x y. (ts, us, refl, x, y))
    ((58 ∷ []) ++ written [] (schema n)) (written [] (labels names)) behind
    (one_label n (written [] (labels names) ++ behind) are.0 (parted names behind parts))
    (labels_read names behind are.1 parts))
