-- A printed name that stands alone is read as an expression, also where it is a function's word.
use Rattle.std.proofs.Common.{◌≡◌, ◌⊎◌, inl, inr, ℕ, Bool, true, false, ◌||◌, eqb, List, [], ◌∷◌, ◌++◌, Some, None, refl, ap, arith}
use Rattle.cypher_syntax.specs.declared.tree.expr.Expr.{Expr}
use Rattle.cypher_syntax.specs.declared.tree.expr.Expr.TheVariants as tree
use Rattle.cypher_parse.specs.declared.kind.Kind.{Kind}
use Rattle.cypher_parse.specs.declared.kind.Kind.TheVariants as k
use Rattle.cypher_parse.specs.declared.kinds.TheConstants.{PLAIN_NAMES, SINGLE_FUNCTIONS, AGGREGATES, NAMES}
use Rattle.cypher_parse.specs.declared.lexeme.Lexeme.{Lexeme}
use Rattle.cypher_parse.specs.Kinds.{number, member}
use Rattle.cypher_parse.specs.Words.{name_of, with_name}
use Rattle.cypher_parse.specs.Texts.{lexeme_of}
use Rattle.cypher_parse.specs.Languages.{Lang, is_of}
use Rattle.cypher_parse.specs.Expressions.{Inside, Called, Call, Atom, At}
use Rattle.cypher_print.specs.Pieces.{written, name}
use Rattle.cypher_print.specs.Printed.{level_at}
use Rattle.cypher_print.specs.Sentences.{IsName}
use Rattle.cypher_print.proofs.PrintLemmas.{print-Var}
use Rattle.cypher_print.proofs.ReadBack.{names}
use Rattle.cypher_print.proofs.Sentences.{one_token}
use Rattle.cypher_print.proofs.PiecesRead.{Read}
use Rattle.cypher_print.proofs.PlacedRead.{Ready}
use Rattle.cypher_print.proofs.InsideRead.{ready_plain}

-- of one set or of the other
parted_by : (xs ys : List Kind) (n : ℕ) → member n (xs ++ ys) ≡ true → (member n xs ≡ true) ⊎ (member n ys ≡ true)
parted_by [] ys n h = inr h
parted_by (x ∷ xs) ys n h = by (eqb n (number x)) h (λ g. parted_by xs ys n g)
  where
    by : (b : Bool) → b || member n (xs ++ ys) ≡ true → (member n (xs ++ ys) ≡ true → (member n xs ≡ true) ⊎ (member n ys ≡ true)) → (b || member n xs ≡ true) ⊎ (member n ys ≡ true)
    by true h f = inl refl
    by false h f = f h

module _ (l : Inside) (t : Lexeme) (n : List ℕ) (has : name_of t ≡ Some n) where
  uncalled : {A : Type 0} (kinds : List Kind) (node : Kind → A → Expr) (X : Lang A) → is_of kinds t ≡ true → Called l kinds node X (t ∷ []) (tree.Var n)
  uncalled kinds node X is = (((t.kind, n), None), (t ∷ [], [], refl, (t, refl, is, ap (with_name t.kind) has), inr (refl, refl)), refl)

  call_alone : is_of (SINGLE_FUNCTIONS ++ (k.RangeWord ∷ []) ++ (k.CoalesceWord ∷ []) ++ (k.CountWord ∷ []) ++ AGGREGATES) t ≡ true → Call l (t ∷ []) (tree.Var n)
  unfolding Call
  call_alone h =
      elim (parted_by (SINGLE_FUNCTIONS ++ (k.RangeWord ∷ []) ++ (k.CoalesceWord ∷ []) ++ (k.CountWord ∷ [])) AGGREGATES (number t.kind) h) [
        | inr is ↦ inr (inr (inr (inr (uncalled AGGREGATES _ _ is))))
        | inl h ↦ elim (parted_by (SINGLE_FUNCTIONS ++ (k.RangeWord ∷ []) ++ (k.CoalesceWord ∷ [])) (k.CountWord ∷ []) (number t.kind) h) [
          | inr is ↦ inr (inr (inr (inl (uncalled (k.CountWord ∷ []) _ _ is))))
          | inl h ↦ elim (parted_by (SINGLE_FUNCTIONS ++ (k.RangeWord ∷ [])) (k.CoalesceWord ∷ []) (number t.kind) h) [
            | inr is ↦ inr (inr (inl (uncalled (k.CoalesceWord ∷ []) _ _ is)))
            | inl h ↦ elim (parted_by SINGLE_FUNCTIONS (k.RangeWord ∷ []) (number t.kind) h) [
              | inr is ↦ inr (inl (uncalled (k.RangeWord ∷ []) _ _ is))
              | inl is ↦ inl (uncalled SINGLE_FUNCTIONS _ _ is)
            ]
          ]
        ]
      ]

  atom_alone : is_of NAMES t ≡ true → Atom l (t ∷ []) (tree.Var n)
  unfolding Atom
  atom_alone h =
      elim (parted_by PLAIN_NAMES (SINGLE_FUNCTIONS ++ (k.RangeWord ∷ []) ++ (k.CoalesceWord ∷ []) ++ (k.CountWord ∷ []) ++ AGGREGATES) (number t.kind) h) [
        | inl is ↦ inr (inr (inr (inl (n, (t, refl, is, has), refl))))
        | inr is ↦ inr (inr (inr (inr (inr (call_alone is)))))
      ]

pub var_read : (m : ℕ) (n : List ℕ) → IsName n → Read (Atom (At m)) (tree.Var n) (name n)
var_read m n is = record {
  reads = λ behind h. (let r = names n behind is h in
      one_token (Atom (At m)) (tree.Var n) (written [] (name n)) behind (r.0, r.1, λ place. atom_alone (At m) (lexeme_of r.0 (written [] (name n)) place) n (r.2 place).1 (r.2 place).0));
}

pub var_ready : (n : ℕ) (name : List ℕ) → IsName name → Ready 10 n (tree.Var name)
var_ready n x is = ready_plain 10 10 n (tree.Var x) (name x) (ap level_at (tree.outs-Var x)) (omega arith) (print-Var x) (λ m more. var_read m x is)
