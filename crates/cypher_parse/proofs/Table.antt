-- A table of spellings, read from one place on.
use Rattle.std.proofs.Common.{◌≡◌, ◌↔◌, IsTrue, ℕ, ◌+◌, ◌<◌, Bool, true, false, cond, List, map, drop, length, get_or, Option, Some, Bor, refl, sym, ◌∙◌, inl, inr}
use Rattle.std.proofs.lemmas.List.{at_drop_more}
use Rattle.std.proofs.lemmas.Bool.{false≢true}
use Rattle.std.proofs.lemmas.Slice.Eq.{bytes_eq-Decides}
use Rattle.std.specs.Char.{to_ascii_lowercase}
use Rattle.std.specs.Str.{str_eq_ignore_ascii_case}
use Rattle.cypher_parse.specs.declared.kind.Kind.{Kind}
use Rattle.cypher_parse.specs.Spelling.{spelled}
use Rattle.cypher_parse.proofs.Sets.{which, chosen, other_chosen}

pub same_test : (r : Bool) (a b : List ℕ) → (IsTrue r ↔ (map to_ascii_lowercase a ≡ map to_ascii_lowercase b)) → str_eq_ignore_ascii_case a b ≡ r
same_test true a b h = (bytes_eq-Decides (map to_ascii_lowercase a) (map to_ascii_lowercase b)).1 (h.0 refl)
same_test false a b h = elim (which (str_eq_ignore_ascii_case a b)) [
  | inl e ↦ absurd (false≢true (h.1 ((bytes_eq-Decides (map to_ascii_lowercase a) (map to_ascii_lowercase b)).0 e)))
  | inr e ↦ e
]

module _ (table : List (Bor (List ℕ) × Kind)) (word : List ℕ) (i : ℕ) (d : Bor (List ℕ) × Kind) (lt : i < length table) where
  abbrev from_here : ℕ → Option Kind
  from_here i = spelled (map (λ s. (s.0.now, s.1)) (drop i table)) word

  abbrev here : Bor (List ℕ) × Kind
  here = get_or table i d

  opened : from_here i ≡ cond (str_eq_ignore_ascii_case word here.0.now) (Some here.1) (from_here (i + 1))
  opened = at_drop_more (λ (xs : List (Bor (List ℕ) × Kind)). spelled (map (λ s. (s.0.now, s.1)) xs) word) table i d lt

  pub found : (whole : Option Kind) → whole ≡ from_here i → str_eq_ignore_ascii_case word here.0.now ≡ true → Some here.1 ≡ whole
  found whole h e = sym (h ∙ opened ∙ chosen (str_eq_ignore_ascii_case word here.0.now) (Some here.1) (from_here (i + 1)) e)

  pub passed : (whole : Option Kind) → whole ≡ from_here i → str_eq_ignore_ascii_case word here.0.now ≡ false → whole ≡ from_here (i + 1)
  passed whole h e = h ∙ opened ∙ other_chosen (str_eq_ignore_ascii_case word here.0.now) (Some here.1) (from_here (i + 1)) e
