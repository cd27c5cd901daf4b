-- Lines that were answered one after the other, and one more behind them.
use Rattle.std.proofs.Common.{ℕ, List, [], ◌∷◌, ◌++◌, Bool, false, refl, sym, ap, subst, ◌∙◌, append_assoc}
use Rattle.std.proofs.lemmas.List.{append-nil}
use Rattle.line_run.specs.Turns.{AreAnswered, Turn}

module _ {A : Type 0} (answers : A → List ℕ → List ℕ → Bool → A → Type 0) (answers_long : A → List ℕ → A → Type 0) where
  -- behind lines that were answered one more was
  pub answered-push : (before mid after : A) (lines : List (List ℕ)) (line text reply : List ℕ)
      → AreAnswered answers answers_long before lines text mid → Turn answers answers_long mid line reply false after
      → AreAnswered answers answers_long before (lines ++ line ∷ []) (text ++ reply) after
  answered-push before mid after [] line text reply is turn =
      (after, reply, [], subst (λ (x : A). Turn answers answers_long x line reply false after) is.1 turn, (refl, refl), ap (λ (x : List ℕ). x ++ reply) is.0 ∙ sym (append-nil reply))
  answered-push before mid after (first ∷ lines) line text reply is turn =
      let (next, said, rest, one, more, all) = is in
      (next, said, rest ++ reply, one, answered-push next mid after lines line rest reply more turn, ap (λ (x : List ℕ). x ++ reply) all ∙ append_assoc said rest reply)
