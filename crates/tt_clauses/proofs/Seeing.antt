-- What is seen at the instants one by one.
use Rattle.std.proofs.Common.{◌≡◌, ℕ, ◌+◌, ◌-◌, ◌≤◌, List, [], ◌∷◌, ◌++◌, Bool, Ok, sym, ap, subst, ◌∙◌, map, arith, le_refl}
use Rattle.std.proofs.lemmas.List.{append-nil}
use Rattle.graph_record.specs.Graph.{Graph}
use Rattle.world_model.specs.History.{Entry}
use Rattle.world_model.specs.Sending.{OnlyReads}
use Rattle.world_model.specs.World.{Start}
use Rattle.expr_eval.specs.Outcome.{Answers}
use Rattle.tt_clauses.specs.Instants.{instants_from}
use Rattle.tt_clauses.specs.Recalling.{Recalls, Tells}
use Rattle.tt_clauses.specs.Seen.{Rises, Tuples}
use Rattle.tt_clauses.proofs.Steps.{seen_step}
use Rattle.tt_clauses.proofs.Times.{instants_end, rises_wider}

pub seen_next : (f : ℕ → ℕ × Tuples) (whole seen more : List (ℕ × Tuples)) (t last : ℕ) (x : ℕ × Tuples) → t ≤ last → x ≡ f t → more ≡ seen ++ x ∷ [] →
    whole ≡ seen ++ map f (instants_from t (last + 1 - t)) → whole ≡ more ++ map f (instants_from (t + 1) (last + 1 - (t + 1)))
seen_next f whole seen more t last x le is e h =
    seen_step f whole seen t (last + 1) x (omega arith) is h
    ∙ ap (λ ys. ys ++ map f (instants_from (t + 1) (last + 1 - (t + 1)))) (sym e)

pub seen_all : (f : ℕ → ℕ × Tuples) (whole seen : List (ℕ × Tuples)) (t last : ℕ) → last + 1 ≤ t →
    whole ≡ seen ++ map f (instants_from t (last + 1 - t)) → whole ≡ seen
seen_all f whole seen t last past h = h ∙ ap (λ ts. seen ++ map f ts) (instants_end t (last + 1) past) ∙ append-nil seen

module _ {S : Type 0} (stands : S → Start → List Entry → Type 0) (caller : S → ℕ) (alone : S → Bool) where
  pub all_told : (start : ℕ) (whole : (ℕ → Graph) → List (ℕ × Tuples)) (old new at : S) (seen all : List (ℕ × Tuples)) → at ≡ new → all ≡ seen → OnlyReads stands caller alone old new →
      ((graphs : ℕ → Graph) → Recalls stands caller alone start old graphs → whole graphs ≡ seen) →
      Tells stands caller alone start (λ graphs. Answers (Ok (whole graphs))) old at (Ok all)
  all_told start whole old new at seen all e f only h = record {
    answers = λ graphs recalls. ap (λ s. Ok s) (h graphs recalls ∙ sym f);
    reads = subst (λ x. OnlyReads stands caller alone old x) (sym e) only;
  }

pub rises_at : {X : Type 0} (free : ℕ) (xs ys : List (ℕ × X)) (next end : ℕ) → xs ≡ ys → next ≤ end → Rises free ys next → Rises free xs end
rises_at free xs ys next end e le h = subst (λ zs. Rises free zs end) (sym e) (rises_wider free free next end ys (le_refl free) le h)
