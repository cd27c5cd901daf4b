-- Printed operators are read as these operators.
use Rattle.std.proofs.Common.{◌≡◌, ℕ, true, List, [], ◌∷◌, ◌++◌, refl, ap, ◌∙◌}
use Rattle.cypher_syntax.specs.Bytes.{is_sign, is_long_sign}
use Rattle.cypher_syntax.specs.declared.tree.operators.CmpOp.{CmpOp}
use Rattle.cypher_syntax.specs.declared.tree.operators.CmpOp.TheVariants as cmp
use Rattle.cypher_syntax.specs.declared.tree.operators.SumOp.{SumOp}
use Rattle.cypher_syntax.specs.declared.tree.operators.SumOp.TheVariants as sum
use Rattle.cypher_syntax.specs.declared.tree.operators.ProdOp.{ProdOp}
use Rattle.cypher_syntax.specs.declared.tree.operators.ProdOp.TheVariants as prod
use Rattle.cypher_parse.specs.declared.kind.Kind.{Kind}
use Rattle.cypher_parse.specs.declared.kind.Kind.TheVariants as k
use Rattle.cypher_parse.specs.declared.kinds.TheConstants.{COMPARISONS, PRODUCT_SIGNS, SUM_SIGNS}
use Rattle.cypher_parse.specs.Kinds.{number, member}
use Rattle.cypher_parse.specs.Spelling.{kind_of}
use Rattle.cypher_parse.specs.Texts.{or_unknown, lexeme_of}
use Rattle.cypher_parse.specs.Words.{comparison_of, sum_sign_of, product_sign_of}
use Rattle.cypher_parse.specs.Languages.{Lang, One, Map}
use Rattle.cypher_print.specs.Pieces.{cmp_text, sum_text, prod_text}
use Rattle.cypher_print.specs.ReadBack.{parts_sign, IsReadAs, IsSignOf}
use Rattle.cypher_print.proofs.ReadSigns.{signs, long_signs}
use Rattle.cypher_print.proofs.Sentences.{one_token}
use Rattle.cypher_print.proofs.PiecesRead.{Sure}
use Rattle.cypher_print.proofs.WordsRead.{spaced_out}

module _ {A : Type 0} (kinds : List Kind) (of : Kind → A) (kind : Kind) (known : member (number kind) kinds ≡ true) where
  abbrev Operator : Lang A
  Operator = Map (λ t. of t.kind) (One kinds)

  spelled_as : (s : List ℕ) → or_unknown (kind_of s) ≡ kind → ((behind : List ℕ) → IsReadAs (IsSignOf s) s (32 ∷ behind)) → Sure Operator (of kind) ((32 ∷ (s ++ 32 ∷ [])) ∷ [])
  spelled_as s is r = spaced_out Operator (of kind) s
      (λ behind. (let x = r behind in
      one_token Operator (of kind) s (32 ∷ behind) (x.0, x.1, λ place. (lexeme_of x.0 s place, (refl, ap (λ j. member (number j) kinds) (x.2 place ∙ is) ∙ known), ap of (x.2 place ∙ is)))))

  sign_as : (a : ℕ) → is_sign a ≡ true → or_unknown (kind_of (a ∷ [])) ≡ kind → ((behind : List ℕ) → parts_sign a (32 ∷ behind) ≡ true) → Sure Operator (of kind) ((32 ∷ a ∷ 32 ∷ []) ∷ [])
  sign_as a h is parts = spelled_as (a ∷ []) is (λ behind. signs a (32 ∷ behind) h (parts behind))

  long_sign_as : (a b : ℕ) → is_long_sign a b ≡ true → or_unknown (kind_of (a ∷ b ∷ [])) ≡ kind → Sure Operator (of kind) ((32 ∷ a ∷ b ∷ 32 ∷ []) ∷ [])
  long_sign_as a b h is = spelled_as (a ∷ b ∷ []) is (λ behind. long_signs a b (32 ∷ behind) h)

pub comparison : (op : CmpOp) → Sure (Map (λ t. comparison_of t.kind) (One COMPARISONS)) op (cmp_text op ∷ [])
unfolding kind_of
comparison cmp.Eq = sign_as COMPARISONS comparison_of k.Equal refl 61 refl refl (λ behind. refl)
comparison cmp.Ne = long_sign_as COMPARISONS comparison_of k.NotEqual refl 60 62 refl refl
comparison cmp.Lt = sign_as COMPARISONS comparison_of k.Less refl 60 refl refl (λ behind. refl)
comparison cmp.Le = long_sign_as COMPARISONS comparison_of k.LessOrEqual refl 60 61 refl refl
comparison cmp.Gt = sign_as COMPARISONS comparison_of k.Greater refl 62 refl refl (λ behind. refl)
comparison cmp.Ge = long_sign_as COMPARISONS comparison_of k.GreaterOrEqual refl 62 61 refl refl

pub sum_sign : (op : SumOp) → Sure (Map (λ t. sum_sign_of t.kind) (One SUM_SIGNS)) op (sum_text op ∷ [])
unfolding kind_of
sum_sign sum.Plus = sign_as SUM_SIGNS sum_sign_of k.Plus refl 43 refl refl (λ behind. refl)
sum_sign sum.Minus = sign_as SUM_SIGNS sum_sign_of k.Minus refl 45 refl refl (λ behind. refl)

pub product_sign : (op : ProdOp) → Sure (Map (λ t. product_sign_of t.kind) (One PRODUCT_SIGNS)) op (prod_text op ∷ [])
unfolding kind_of
product_sign prod.Times = sign_as PRODUCT_SIGNS product_sign_of k.Star refl 42 refl refl (λ behind. refl)
product_sign prod.Over = sign_as PRODUCT_SIGNS product_sign_of k.Slash refl 47 refl refl (λ behind. refl)
product_sign prod.Rest = sign_as PRODUCT_SIGNS product_sign_of k.Percent refl 37 refl refl (λ behind. refl)
