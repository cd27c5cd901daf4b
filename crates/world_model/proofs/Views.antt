-- The graphs of a world in order: those at each instant, and those that open transactions see.
use Rattle.std.proofs.Common.{◌≡◌, ℕ, List, [], ◌∷◌, ◌++◌, Some, Bool, true, false, cond, refl, sym, ap, ◌∙◌, arith, filter}
use Rattle.std.specs.Prelude.{nat_lt, nat_le}
use Rattle.std.specs.List.{list_all}
use Rattle.std.proofs.lemmas.Bool.{false≢true}
use Rattle.std.proofs.lemmas.Bool.Decides.{nat_tests}
use Rattle.graph_record.specs.Graph.{empty_graph, IsCoherent}
use Rattle.graph_record.proofs.Graphs.{empty_coherent}
use Rattle.undo_delta.specs.declared.op.Op.{Op}
use Rattle.world_model.specs.Op.{are_sound}
use Rattle.world_model.specs.World.{World, Commit, Txn, txn_of, InOrder, fold_of, before, ops_of, view_of, graph_at, stamps_ascend}
use Rattle.world_model.proofs.Coherence.{coherent-sound}
use Rattle.world_model.proofs.Folds.{are_sound-append, ops_of-append, and_left_true, and_right_true}

-- from a commit that fails a test of early stamps on, none passes
pub none_passes : (P : ℕ → Bool) → ((a b : ℕ) → nat_lt a b ≡ true → P b ≡ true → P a ≡ true) → (n : ℕ) (cs : List Commit) → P n ≡ false → list_all (λ d. nat_lt n d.ts) cs ≡ true → filter (λ c. P c.ts) cs ≡ []
none_passes P early n [] h above = refl
none_passes P early n (c ∷ cs) h above =
    let rest : filter (λ c. P c.ts) cs ≡ [] = none_passes P early n cs h (and_right_true _ _ above) in
    let fails : P c.ts ≡ false = by_test (P c.ts) refl in
    ap (λ b. cond b (c ∷ filter (λ c. P c.ts) cs) (filter (λ c. P c.ts) cs)) fails ∙ rest
  where
    by_test : (b : Bool) → P c.ts ≡ b → P c.ts ≡ false
    by_test true e = absurd (false≢true (sym h ∙ early n c.ts (and_left_true _ _ above) e))
    by_test false e = e

-- The commits that pass a test of early stamps come first.
front_passes : (P : ℕ → Bool) → ((a b : ℕ) → nat_lt a b ≡ true → P b ≡ true → P a ≡ true) → (cs : List Commit) → stamps_ascend cs ≡ true → (rest : List Commit) × (cs ≡ filter (λ c. P c.ts) cs ++ rest)
unfolding stamps_ascend
front_passes P early [] h = ([], refl)
front_passes P early (c ∷ cs) h = by_test (front_passes P early cs (and_right_true _ _ h)) (P c.ts) refl
  where
    by_test : (rest : List Commit) × (cs ≡ filter (λ c. P c.ts) cs ++ rest) → (b : Bool) → P c.ts ≡ b → (rest : List Commit) × (c ∷ cs ≡ cond (P c.ts) (c ∷ filter (λ c. P c.ts) cs) (filter (λ c. P c.ts) cs) ++ rest)
    by_test more true e =
        (more.0, ap (λ ds. c ∷ ds) more.1 ∙ ap (λ b. cond b (c ∷ filter (λ c. P c.ts) cs) (filter (λ c. P c.ts) cs) ++ more.0) (sym e))
    by_test more false e =
        let none : filter (λ c. P c.ts) cs ≡ [] = none_passes P early c.ts cs e (and_left_true _ _ h) in
        (c ∷ cs, ap (λ ds. ds ++ c ∷ cs) (sym none) ∙ ap (λ b. cond b (c ∷ filter (λ c. P c.ts) cs) (filter (λ c. P c.ts) cs) ++ c ∷ cs) (sym e))

pub front_sound : (w : World) → InOrder w → (P : ℕ → Bool) → ((a b : ℕ) → nat_lt a b ≡ true → P b ≡ true → P a ≡ true) → are_sound (ops_of (filter (λ c. P c.ts) w.commits)) empty_graph ≡ true
front_sound w o P early =
    let front = front_passes P early w.commits o.ascending in
    let some : List Commit = filter (λ c. P c.ts) w.commits in
    and_left_true (are_sound (ops_of some) empty_graph) (are_sound (ops_of front.0) (fold_of some))
    (sym (are_sound-append (ops_of some) (ops_of front.0) empty_graph)
    ∙ ap (λ (ops : List Op). are_sound ops empty_graph) (sym (ops_of-append some front.0) ∙ ap ops_of (sym front.1))
    ∙ o.committed_sound)

-- the graph at each instant is coherent
pub instant_coherent : (w : World) → InOrder w → (t : ℕ) → IsCoherent (graph_at w.commits t)
instant_coherent w o t = coherent-sound (ops_of (filter (λ c. nat_le c.ts t) w.commits)) empty_graph (front_sound w o (λ n. nat_le n t) early) empty_coherent
  where
    early : (a b : ℕ) → nat_lt a b ≡ true → nat_le b t ≡ true → nat_le a t ≡ true
    early a b lt le = grind (arith, nat_tests)

base_coherent : (w : World) → InOrder w → (t : ℕ) → IsCoherent (fold_of (before t w.commits))
unfolding before
base_coherent w o t = coherent-sound (ops_of (before t w.commits)) empty_graph (front_sound w o (λ n. nat_lt n t) early) empty_coherent
  where
    early : (a b : ℕ) → nat_lt a b ≡ true → nat_lt b t ≡ true → nat_lt a t ≡ true
    early a b lt le = grind (arith, nat_tests)

-- what a transaction sees is coherent
pub view_coherent : (w : World) (c : ℕ) (p : Txn) → InOrder w → txn_of w c ≡ Some p → IsCoherent (view_of w p)
view_coherent w c p o f = coherent-sound p.ops (fold_of (before p.start w.commits)) (o.running_sound c p f) (base_coherent w o p.start)
