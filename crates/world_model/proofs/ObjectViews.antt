-- What an open transaction sees of one object, against what the commits left of it.
use Rattle.std.proofs.Common.{◌≡◌, ℕ, ◌≤◌, List, [], ◌∷◌, ◌++◌, Some, None, true, false, cond, filter, refl, sym, ap, ◌∙◌, arith}
use Rattle.std.specs.Prelude.{nat_eq, nat_lt, nat_le}
use Rattle.std.specs.List.{list_any}
use Rattle.std.proofs.lemmas.Bool.Decides.{nat_tests}
use Rattle.graph_value.specs.declared.id.Oid.{Oid}
use Rattle.graph_record.specs.declared.object.Object.TheVariants.{Dead}
use Rattle.graph_record.specs.Graph.{Graph, empty_graph, object_at, is_dead}
use Rattle.world_model.specs.declared.event.Kind.{Kind}
use Rattle.world_model.specs.declared.event.Kind.TheVariants as kind
use Rattle.world_model.specs.declared.event.When.{When}
use Rattle.world_model.specs.declared.event.When.TheVariants.{Own, At}
use Rattle.world_model.specs.Op.{are_touching, are_below, is_given}
use Rattle.world_model.specs.World.{World, Commit, Txn, txn_of, touched_after, InOrder, fold_of, before, ops_of, view_of, graph_at, rival_at}
use Rattle.world_model.specs.Views.{graph_of, oid_of}
use Rattle.world_model.proofs.Objects.{object_at-apply_all, untouched, apply_all-append, or_left_false, or_right_false}
use Rattle.world_model.proofs.Folds.{seen_before, before_below, passed_below, are_below-append, both_true, beyond_dead}
use Rattle.world_model.proofs.Rivals.{free_of_commits}

-- no commit stands at the timestamp: those below it are those up to it
pub before_is_up_to : (t : ℕ) (cs : List Commit) → list_any (λ c. nat_eq c.ts t) cs ≡ false → before t cs ≡ filter (λ c. nat_le c.ts t) cs
unfolding before
before_is_up_to t [] apart = refl
before_is_up_to t (c ∷ cs) apart =
    ap (λ ds. cond (nat_lt c.ts t) (c ∷ ds) ds) (before_is_up_to t cs (or_right_false (nat_eq c.ts t) _ apart))
    ∙ ap (λ b. cond b (c ∷ filter (λ d. nat_le d.ts t) cs) (filter (λ d. nat_le d.ts t) cs)) (alike c.ts t (or_left_false (nat_eq c.ts t) _ apart))
  where
    alike : (a t : ℕ) → nat_eq a t ≡ false → nat_lt a t ≡ nat_le a t
    alike a t ne = grind (arith, nat_tests)

-- what an open transaction began on is the graph at the instant of its start
pub base_is_instant : (w : World) (c : ℕ) (p : Txn) → InOrder w → txn_of w c ≡ Some p → fold_of (before p.start w.commits) ≡ graph_at w.commits p.start
base_is_instant w c p o f = ap fold_of (before_is_up_to p.start w.commits (o.apart c p f))

-- where no commit above the start touches an object, it is after all commits as it was at the start
pub quiet_since : (t : ℕ) (commits : List Commit) (x : Oid) → list_any (λ c. nat_eq c.ts t) commits ≡ false → touched_after t commits x ≡ false →
    object_at (fold_of (before t commits)) x ≡ object_at (fold_of commits) x
quiet_since t commits x apart quiet =
    object_at-apply_all (ops_of (before t commits)) empty_graph x
    ∙ sym (seen_before t x commits (object_at empty_graph x) apart quiet)
    ∙ sym (object_at-apply_all (ops_of commits) empty_graph x)

-- an object that an open transaction has written was at its start as it is after all commits
pub written_base : (w : World) (c : ℕ) (p : Txn) (x : Oid) → InOrder w → txn_of w c ≡ Some p → are_touching p.ops x ≡ true →
    object_at (fold_of (before p.start w.commits)) x ≡ object_at (fold_of w.commits) x
written_base w c p x o f t = quiet_since p.start w.commits x (o.apart c p f) (o.unrivalled c p f x t)

-- an object that it hasn't written it sees as it began on it
pub unwritten_base : (w : World) (p : Txn) (x : Oid) → are_touching p.ops x ≡ false → object_at (view_of w p) x ≡ object_at (fold_of (before p.start w.commits)) x
unwritten_base w p x h = object_at-apply_all p.ops (fold_of (before p.start w.commits)) x ∙ untouched p.ops x _ h

-- so as the commits up to its start left it
pub unwritten_view : (w : World) (c : ℕ) (p : Txn) (x : Oid) → InOrder w → txn_of w c ≡ Some p → are_touching p.ops x ≡ false →
    object_at (view_of w p) x ≡ object_at (graph_at w.commits p.start) x
unwritten_view w c p x o f h = unwritten_base w p x h ∙ ap (λ (g : Graph). object_at g x) (base_is_instant w c p o f)

-- and where it has no rival there, as all commits left it
pub unrivalled_view : (w : World) (c : ℕ) (p : Txn) (x : Oid) → InOrder w → txn_of w c ≡ Some p → rival_at w p x ≡ None → are_touching p.ops x ≡ false →
    object_at (view_of w p) x ≡ object_at (fold_of w.commits) x
unrivalled_view w c p x o f free h = unwritten_base w p x h ∙ quiet_since p.start w.commits x (o.apart c p f) (free_of_commits w p x free)

-- ---- what the counters haven't come to

-- it is dead in what each open transaction sees
pub unborn : (w : World) (c : ℕ) (p : Txn) (x : Oid) → InOrder w → txn_of w c ≡ Some p → is_given w.vertices w.edges x ≡ false → object_at (view_of w p) x ≡ Dead
unborn w c p x o open_p out =
    let all = ops_of (before p.start w.commits) in
    let below : are_below w.vertices w.edges (all ++ p.ops) ≡ true = are_below-append w.vertices w.edges all p.ops ∙ both_true _ _ (before_below w.vertices w.edges p.start w.commits o.committed_below) (o.running_below c p open_p) in
    ap (λ (g : Graph). object_at g x) (sym (apply_all-append all p.ops empty_graph)) ∙ beyond_dead w.vertices w.edges x (all ++ p.ops) out below

-- and at each instant
pub unborn_at : (w : World) (t : ℕ) (x : Oid) → InOrder w → is_given w.vertices w.edges x ≡ false → object_at (graph_at w.commits t) x ≡ Dead
unborn_at w t x o out = beyond_dead w.vertices w.edges x (ops_of (filter (λ c. nat_le c.ts t) w.commits)) out (passed_below w.vertices w.edges (λ n. nat_le n t) w.commits o.committed_below)

-- the counter of a kind
abbrev pub counter_of : World → Kind → ℕ
counter_of w kind.Vertex = w.vertices
counter_of w kind.Edge = w.edges

not_given : (w : World) (k : Kind) (n : ℕ) → counter_of w k ≤ n → is_given w.vertices w.edges (oid_of k n) ≡ false
not_given w kind.Vertex n h = past w.vertices n h
  where
    past : (a n : ℕ) → a ≤ n → nat_lt n a ≡ false
    past a n h = grind (arith, nat_tests)
not_given w kind.Edge n h = past w.edges n h
  where
    past : (a n : ℕ) → a ≤ n → nat_lt n a ≡ false
    past a n h = grind (arith, nat_tests)

-- numbers at or past the counter are dead in every graph that an open transaction may ask of
pub beyond_counter : (w : World) (c : ℕ) (p : Txn) (when : When) (k : Kind) (n : ℕ) → InOrder w → txn_of w c ≡ Some p → counter_of w k ≤ n → is_dead (object_at (graph_of w p when) (oid_of k n)) ≡ true
beyond_counter w c p Own k n o f h = ap is_dead (unborn w c p (oid_of k n) o f (not_given w k n h))
beyond_counter w c p (At t) k n o f h = ap is_dead (unborn_at w t (oid_of k n) o (not_given w k n h))
