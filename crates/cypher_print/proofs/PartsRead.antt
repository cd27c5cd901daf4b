-- Names, labels, lists and expressions as parts of what is printed.
use Rattle.std.proofs.Common.{◌≡◌, ℕ, Bool, true, false, cond, List, [], ◌∷◌, ◌++◌, codes, Option, Some, None, refl, sym, ap, ◌∙◌, append_assoc, arith}
use Rattle.std.proofs.lemmas.Bool.{false≢true}
use Rattle.std.proofs.lemmas.Bool.Decides.{nat_tests}
use Rattle.std.specs.List.{flat_map}
use Rattle.std.specs.Fmt.{decimal}
use Rattle.cypher_syntax.specs.Bytes.{begins_word, is_long_sign}
use Rattle.cypher_syntax.specs.declared.tree.expr.Expr.{Expr}
use Rattle.cypher_parse.specs.declared.kind.Kind.TheVariants as k
use Rattle.cypher_parse.specs.Spelling.{kind_of}
use Rattle.cypher_parse.specs.Texts.{or_unknown}
use Rattle.cypher_parse.specs.Languages.{Lang, After, Listed}
use Rattle.cypher_parse.specs.Expressions.{Name, Schema, Labels}
use Rattle.cypher_print.specs.Pieces.{Pieces, written, is_word, spelled, quoted, schema, name}
use Rattle.cypher_print.specs.Printed.{joined, labels, expr, option}
use Rattle.cypher_print.specs.QueryText.{count_text}
use Rattle.cypher_print.specs.ReadBack.{parts_sign}
use Rattle.cypher_print.specs.Sentences.{IsSentence, All, IsName, IsReadIn}
use Rattle.cypher_print.specs.QuerySentences.{AllSome}
use Rattle.cypher_print.proofs.ReadBack.{split}
use Rattle.cypher_print.proofs.Sentences.{Passes}
use Rattle.cypher_print.proofs.Parts.{written-behind, written-both, sign, colon, comma}
use Rattle.cypher_print.proofs.PiecesRead.{Read, Token, Apart, apart_none, begins, turn, seq, after_sure, mapped, many, many_apart, listed}
use Rattle.cypher_print.proofs.WordsRead.{trailing}
use Rattle.cypher_print.proofs.VerticesRead.{name_read}
use Rattle.cypher_print.proofs.LabelsRead.{Label, schema_name}

-- ---- names and labels

pub a_name : (n : List ℕ) → IsName n → Read Name n (name n)
a_name n is = record { reads = λ behind h. name_read n behind is h }

pub a_schema : (n : List ℕ) → IsName n → Read Schema n (schema n)
a_schema n is = record { reads = λ behind h. schema_name n behind is h }

colon_token : Token (k.Colon ∷ []) (codes ":" ∷ [])
colon_token = record { token = record { reads = λ behind. colon behind } }

label : (n : List ℕ) → IsName n → Read Label n (codes ":" ∷ schema n)
label n is = after_sure colon_token (a_schema n is)

pub labels_apart : (names : List (List ℕ)) → All IsName names → Apart (labels names)
labels_apart names are = many_apart (λ n. codes ":" ∷ schema n) IsName (λ n is. begins 58 [] (schema n) refl) names are

pub some_labels : (names : List (List ℕ)) → AllSome IsName names → Read Labels names (labels names)
some_labels [] are = absurd (omega (arith, are.0))
some_labels (n ∷ names) are =
    mapped (λ p. p.0 ∷ p.1)
    (seq (label n are.1.0) (many {L = Label} (λ n. codes ":" ∷ schema n) IsName label (λ n is. begins 58 [] (schema n) refl) names are.1.1) (labels_apart names are.1.1))

-- ---- points

-- a point in front of them is one sign
pub record Dotless (ps : Pieces) : Type 0 where
  pub parts : (behind : List ℕ) → parts_sign 46 (written [] ps ++ behind) ≡ true

no_point : (b : ℕ) → begins_word b ≡ true → is_long_sign 46 b ≡ false
no_point b h = grind (arith, nat_tests)

dotless_by : (c : Bool) (n : List ℕ) (behind : List ℕ) → is_word n ≡ c → parts_sign 46 (written [] (cond c (n ∷ []) (quoted 96 n)) ++ behind) ≡ true
dotless_by false n behind is = ap (λ ys. parts_sign 46 (ys ++ behind)) (written-behind (96 ∷ []) (flat_map (spelled 96) n ∷ (96 ∷ []) ∷ []))
dotless_by true [] behind is = absurd (false≢true is)
dotless_by true (b ∷ bytes) behind is = rw (no_point b (begins b bytes is)) refl
  where
    begins : (b : ℕ) (bytes : List ℕ) → is_word (b ∷ bytes) ≡ true → begins_word b ≡ true
    begins b bytes h = split (begins_word b ≡ true) (begins_word b) (λ e. e) (λ e. absurd (false≢true (sym (rw e refl) ∙ h)))

pub dotless_schema : (n : List ℕ) → Dotless (schema n)
dotless_schema n = record { parts = λ behind. dotless_by (is_word n) n behind refl }

pub dotless_both : {p : Pieces} (q : Pieces) → Dotless p → Dotless (p ++ q)
dotless_both {p = p} q x = record { parts = λ behind. ap (λ ys. parts_sign 46 (ys ++ behind)) (written-both p q) ∙ ap (parts_sign 46) (append_assoc (written [] p) (written [] q) behind) ∙ x.parts (written [] q ++ behind) }

point_kind : or_unknown (kind_of (46 ∷ [])) ≡ k.Point
unfolding kind_of
point_kind = refl

pub after_point : {A : Type 0} {L : Lang A} {a : A} {p : Pieces} → Dotless p → Read L a p → Read (After (k.Point ∷ []) L) a (codes "." ∷ p)
after_point {L = L} {a = a} {p = p} o x =
    record { reads = λ behind h. turn (Passes (k.Point ∷ [])) L (After (k.Point ∷ []) L) tt a a (λ ts us u v. ((u.0, a), (ts, us, refl, (u.1, u.2), v), refl)) (codes "." ∷ []) p behind (sign 46 k.Point refl point_kind refl (written [] p ++ behind) (o.parts behind)) (x.reads behind h) }

pub comma_token : Token (k.Comma ∷ []) (codes ", " ∷ [])
comma_token = record { token = record { reads = λ behind. comma_sentence behind } }
  where
    comma_sentence : (behind : List ℕ) → IsSentence (Passes (k.Comma ∷ [])) tt (codes ", ") behind
    comma_sentence behind = trailing (Passes (k.Comma ∷ [])) tt (44 ∷ []) behind (comma (32 ∷ behind))

-- one or more, with commas between
pub commas : {A : Type 0} {L : Lang A} (f : A → Pieces) (Good : A → Type 0) → ((x : A) → Good x → Read L x (f x)) → (xs : List A) → AllSome Good xs → Read (Listed (k.Comma ∷ []) L) xs (joined (codes ", ") f xs)
commas f Good each [] are = absurd (omega (arith, are.0))
commas f Good each (x ∷ xs) are = listed (codes ", ") f Good comma_token (λ ps. begins 44 (32 ∷ []) ps refl) each x xs are.1

-- ---- expressions

pub an_expr : (E : Lang Expr) (x : Expr) → IsReadIn E x → Read E x (expr x 0)
an_expr E x is = record { reads = is }

-- a word with a space in front
pub apart_count : (w : List ℕ) (o : Option ℕ) → Apart (count_text (32 ∷ w) o)
apart_count w None = apart_none
apart_count w (Some n) = begins 32 w (decimal n ∷ []) refl

pub apart_option : (w : List ℕ) (o : Option Expr) → Apart (option (32 ∷ w) o)
apart_option w None = apart_none
apart_option w (Some x) = begins 32 w (expr x 0) refl
