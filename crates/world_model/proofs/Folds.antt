-- Folds of commits: what depends on the touched objects alone, and which commits an object sees.
use Rattle.std.proofs.Common.{◌≡◌, ℕ, ◌≤◌, List, [], ◌∷◌, ◌++◌, Bool, true, false, not, ◌&&◌, ◌||◌, cond, refl, sym, ap, ◌∙◌, arith, append_assoc, filter}
use Rattle.std.specs.Prelude.{nat_eq, nat_lt}
use Rattle.std.specs.List.{list_any, list_all}
use Rattle.std.proofs.lemmas.Bool.{false≢true}
use Rattle.std.proofs.lemmas.Bool.Decides.{nat_tests}
use Rattle.graph_value.specs.Value.{same_value}
use Rattle.graph_value.specs.declared.id.Oid.{Oid}
use Rattle.graph_value.specs.declared.id.Oid.TheVariants.{Vertex, Edge}
use Rattle.graph_record.specs.declared.object.Object.{Object}
use Rattle.graph_record.specs.declared.object.Object.TheVariants as object
use Rattle.graph_record.specs.Graph.{Graph, empty_graph, object_at}
use Rattle.undo_delta.specs.Change as one
use Rattle.undo_delta.specs.Change.{has_label, value_at, kept}
use Rattle.undo_delta.specs.Touch.{touches, same_oid, is_touched}
use Rattle.undo_delta.specs.declared.op.Op.{Op}
use Rattle.undo_delta.specs.declared.op.Op.TheVariants.{CreateVertex, DeleteVertex, AddLabel, RemoveLabel, SetVertexProp, CreateEdge, DeleteEdge, SetEdgeProp}
use Rattle.world_model.specs.Op.{apply, apply_all, are_touching, is_possible, changes, are_sound, are_below, is_given}
use Rattle.world_model.specs.Change.{object_after, object_after_all}
use Rattle.world_model.specs.World.{Commit, ops_of, before, touched_after, fold_of}
use Rattle.world_model.proofs.Objects.{object_at-apply, object_at-apply_all, untouched, or_left_false, or_right_false, object_after_all-append, same_vertex, same_edge}

pub and_left_true : (a b : Bool) → (a && b) ≡ true → a ≡ true
and_left_true true b h = refl
and_left_true false b h = h

pub and_right_true : (a b : Bool) → (a && b) ≡ true → b ≡ true
and_right_true true b h = h
and_right_true false b h = absurd (false≢true h)

pub nat_eq_refl : (n : ℕ) → nat_eq n n ≡ true
nat_eq_refl n = grind (arith, nat_tests)

-- the graphs have the same objects where the writes touch
pub AgreeOn : List Op → Graph → Graph → Type 0
AgreeOn ops g h = (x : Oid) → are_touching ops x ≡ true → object_at g x ≡ object_at h x

true_or : (b : Bool) → (b || true) ≡ true
true_or true = refl
true_or false = refl

pub same_itself : (x : Oid) → same_oid x x ≡ true
same_itself (Vertex v) = nat_eq_refl v.0
same_itself (Edge e) = nat_eq_refl e.0

-- two tests that agree on the listed objects
all_same : (P Q : Oid → Bool) (xs : List Oid) → ((x : Oid) → list_any (same_oid x) xs ≡ true → P x ≡ Q x) → list_all P xs ≡ list_all Q xs
all_same P Q [] same = refl
all_same P Q (x ∷ xs) same =
    ap (λ b. b && list_all P xs) (same x (ap (λ b. b || list_any (same_oid x) xs) (same_itself x)))
    ∙ ap (λ b. Q x && b) (all_same P Q xs (λ y t. same y (ap (λ b. same_oid y x || b) t ∙ true_or (same_oid y x))))

pub same_possible : (op : Op) (g h : Graph) → ((x : Oid) → is_touched op x ≡ true → object_at g x ≡ object_at h x) → is_possible op g ≡ is_possible op h
same_possible op g h same =
    all_same (λ x. one.is_possible op x (object_at g x)) (λ x. one.is_possible op x (object_at h x)) (touches op) (λ x t. ap (one.is_possible op x) (same x t))

-- ids with one number of one kind are one id
pub same_id : (x y : Oid) → same_oid x y ≡ true → x ≡ y
same_id (Vertex a) (Vertex b) h = ap Vertex (same_vertex a b h)
same_id (Vertex a) (Edge b) h = absurd (false≢true h)
same_id (Edge a) (Vertex b) h = absurd (false≢true h)
same_id (Edge a) (Edge b) h = ap Edge (same_edge a b h)

all_at : (P : Oid → Bool) (xs : List Oid) (x : Oid) → list_all P xs ≡ true → list_any (same_oid x) xs ≡ true → P x ≡ true
all_at P [] x all there = absurd (false≢true there)
all_at P (y ∷ ys) x all there =
    elim (same_oid x y) as (λ b. same_oid x y ≡ b → P x ≡ true) [
      | true ↦ λ is. ap P (same_id x y is) ∙ and_left_true (P y) (list_all P ys) all
      | false ↦ λ is. all_at P ys x (and_right_true (P y) (list_all P ys) all) (sym (ap (λ b. b || list_any (same_oid x) ys) is) ∙ there)
    ] refl

-- a write that may stand is possible on each object that it touches
pub possible_at : (op : Op) (g : Graph) (x : Oid) → is_possible op g ≡ true → is_touched op x ≡ true → one.is_possible op x (object_at g x) ≡ true
possible_at op g x all there = all_at (λ y. one.is_possible op y (object_at g y)) (touches op) x all there

pub one_touched : (n : ℕ) → (nat_eq n n || false) ≡ true
one_touched n = ap (λ b. b || false) (nat_eq_refl n)

pub same_changes : (op : Op) (g h : Graph) → ((x : Oid) → is_touched op x ≡ true → object_at g x ≡ object_at h x) → changes op g ≡ changes op h
same_changes (CreateVertex v) g h same = refl
same_changes (DeleteVertex v) g h same = refl
same_changes (AddLabel v name) g h same = ap (λ o. not (has_label name o)) (same (Vertex v) (one_touched v.0))
same_changes (RemoveLabel v name) g h same = ap (has_label name) (same (Vertex v) (one_touched v.0))
same_changes (SetVertexProp v k x) g h same = ap (λ o. not (same_value (value_at k o) (kept x))) (same (Vertex v) (one_touched v.0))
same_changes (CreateEdge e from kind to) g h same = refl
same_changes (DeleteEdge e from to) g h same = refl
same_changes (SetEdgeProp e k x) g h same = ap (λ o. not (same_value (value_at k o) (kept x))) (same (Edge e) (one_touched e.0))

-- writes are sound at one graph where they are at another that agrees on what they touch
pub same_sound : (ops : List Op) (g h : Graph) → AgreeOn ops g h → are_sound ops g ≡ are_sound ops h
unfolding are_sound are_touching AgreeOn
same_sound [] g h same = refl
same_sound (op ∷ ops) g h same =
    let here : (x : Oid) → is_touched op x ≡ true → object_at g x ≡ object_at h x = λ x t. same x (ap (λ b. b || are_touching ops x) t) in
    let rest : (x : Oid) → are_touching ops x ≡ true → object_at (apply op g) x ≡ object_at (apply op h) x = λ x t.
    object_at-apply op g x ∙ ap (object_after op x) (same x (ap (λ b. is_touched op x || b) t ∙ true_or (is_touched op x))) ∙ sym (object_at-apply op h x) in
    ap (λ b. b && changes op g && are_sound ops (apply op g)) (same_possible op g h here)
    ∙ ap (λ b. is_possible op h && b && are_sound ops (apply op g)) (same_changes op g h here)
    ∙ ap (λ b. is_possible op h && changes op h && b) (same_sound ops (apply op g) (apply op h) rest)

and_assoc : (a b c : Bool) → ((a && b) && c) ≡ (a && (b && c))
and_assoc true b c = refl
and_assoc false b c = refl

pub are_sound-append : (xs ys : List Op) (g : Graph) → are_sound (xs ++ ys) g ≡ (are_sound xs g && are_sound ys (apply_all xs g))
unfolding are_sound apply_all
are_sound-append [] ys g = refl
are_sound-append (op ∷ xs) ys g =
    ap (λ b. is_possible op g && changes op g && b) (are_sound-append xs ys (apply op g))
    ∙ sym (and_assoc (is_possible op g && changes op g) (are_sound xs (apply op g)) (are_sound ys (apply_all xs (apply op g))))

pub ops_of-append : (xs ys : List Commit) → ops_of (xs ++ ys) ≡ ops_of xs ++ ops_of ys
unfolding ops_of
ops_of-append [] ys = refl
ops_of-append (c ∷ xs) ys = ap (λ os. c.ops ++ os) (ops_of-append xs ys) ∙ sym (append_assoc c.ops (ops_of xs) (ops_of ys))

pub ops_of-one : (xs : List Commit) (c : Commit) → ops_of (xs ++ c ∷ []) ≡ ops_of xs ++ c.ops
unfolding ops_of
ops_of-one [] c = no_more c.ops
  where
    no_more : (os : List Op) → os ++ [] ≡ os
    no_more [] = refl
    no_more (o ∷ os) = ap (λ r. o ∷ r) (no_more os)
ops_of-one (d ∷ xs) c = ap (λ os. d.ops ++ os) (ops_of-one xs c) ∙ sym (append_assoc d.ops (ops_of xs) c.ops)

-- a commit at or above t isn't seen before t
pub before-one : (t : ℕ) (xs : List Commit) (c : Commit) → nat_lt c.ts t ≡ false → before t (xs ++ c ∷ []) ≡ before t xs
unfolding before
before-one t [] c h = ap (λ b. cond b (c ∷ []) []) h
before-one t (d ∷ xs) c h = ap (λ r. cond (nat_lt d.ts t) (d ∷ r) r) (before-one t xs c h)

-- An object is the same after all commits as after those before t, where none from t on touches it.
pub seen_before : (t : ℕ) (x : Oid) (commits : List Commit) (o : Object) →
    list_any (λ c. nat_eq c.ts t) commits ≡ false → touched_after t commits x ≡ false →
    object_after_all (ops_of commits) x o ≡ object_after_all (ops_of (before t commits)) x o
unfolding ops_of before touched_after
seen_before t x [] o apart quiet = refl
seen_before t x (c ∷ cs) o apart quiet =
    elim (nat_lt c.ts t) as (λ b. nat_lt c.ts t ≡ b → object_after_all (c.ops ++ ops_of cs) x o ≡ object_after_all (ops_of (cond b (c ∷ before t cs) (before t cs))) x o) [
      | true ↦ λ lt. object_after_all-append c.ops (ops_of cs) x o
          ∙ seen_before t x cs (object_after_all c.ops x o) (or_right_false _ _ apart) (or_right_false _ _ quiet)
          ∙ sym (object_after_all-append c.ops (ops_of (before t cs)) x o)
      | false ↦ λ ge.
          let past : nat_lt t c.ts ≡ true = later c.ts t ge (or_left_false _ _ apart) in
          let still : are_touching c.ops x ≡ false = ap (λ b. b && are_touching c.ops x) (sym past) ∙ or_left_false _ _ quiet in
          object_after_all-append c.ops (ops_of cs) x o
          ∙ ap (object_after_all (ops_of cs) x) (untouched c.ops x o still)
          ∙ seen_before t x cs o (or_right_false _ _ apart) (or_right_false _ _ quiet)
    ] refl
  where
    later : (a t : ℕ) → nat_lt a t ≡ false → nat_eq a t ≡ false → nat_lt t a ≡ true
    later a t ge ne = grind (arith, nat_tests)

-- the same of two graphs, at what a transaction's writes touch
pub views_agree : (t : ℕ) (commits : List Commit) (ops : List Op) →
    list_any (λ c. nat_eq c.ts t) commits ≡ false →
    ((x : Oid) → are_touching ops x ≡ true → touched_after t commits x ≡ false) →
    AgreeOn ops (fold_of commits) (fold_of (before t commits))
unfolding AgreeOn
views_agree t commits ops apart quiet x touched =
    object_at-apply_all (ops_of commits) empty_graph x
    ∙ seen_before t x commits (object_at empty_graph x) apart (quiet x touched)
    ∙ sym (object_at-apply_all (ops_of (before t commits)) empty_graph x)

pub both_true : (a b : Bool) → a ≡ true → b ≡ true → (a && b) ≡ true
both_true a b p q = ap (λ c. c && b) p ∙ q

pub are_below-append : (n m : ℕ) (xs ys : List Op) → are_below n m (xs ++ ys) ≡ (are_below n m xs && are_below n m ys)
unfolding are_below
are_below-append n m [] ys = refl
are_below-append n m (op ∷ xs) ys =
    ap (λ b. list_all (is_given n m) (touches op) && b) (are_below-append n m xs ys)
    ∙ sym (and_assoc (list_all (is_given n m) (touches op)) (are_below n m xs) (are_below n m ys))

pub is_given-more : (n n' m m' : ℕ) (x : Oid) → n ≤ n' → m ≤ m' → is_given n m x ≡ true → is_given n' m' x ≡ true
is_given-more n n' m m' (Vertex v) le more h = grind (arith, nat_tests)
is_given-more n n' m m' (Edge e) le more h = grind (arith, nat_tests)

all_given-more : (n n' m m' : ℕ) (xs : List Oid) → n ≤ n' → m ≤ m' → list_all (is_given n m) xs ≡ true → list_all (is_given n' m') xs ≡ true
all_given-more n n' m m' [] le more h = refl
all_given-more n n' m m' (x ∷ xs) le more h =
    both_true _ _ (is_given-more n n' m m' x le more (and_left_true _ _ h)) (all_given-more n n' m m' xs le more (and_right_true _ _ h))

pub are_below-more : (n n' m m' : ℕ) (ops : List Op) → n ≤ n' → m ≤ m' → are_below n m ops ≡ true → are_below n' m' ops ≡ true
unfolding are_below
are_below-more n n' m m' [] le more h = refl
are_below-more n n' m m' (op ∷ ops) le more h =
    both_true _ _ (all_given-more n n' m m' (touches op) le more (and_left_true _ _ h)) (are_below-more n n' m m' ops le more (and_right_true _ _ h))

-- an id beyond its counter is none of those below
beyond_apart : (n m : ℕ) (x y : Oid) → is_given n m x ≡ false → is_given n m y ≡ true → same_oid x y ≡ false
beyond_apart n m (Vertex v) (Vertex w) out below = grind (arith, nat_tests)
beyond_apart n m (Vertex v) (Edge w) out below = refl
beyond_apart n m (Edge v) (Vertex w) out below = refl
beyond_apart n m (Edge v) (Edge w) out below = grind (arith, nat_tests)

pub both_false : (a b : Bool) → a ≡ false → b ≡ false → (a || b) ≡ false
both_false a b p q = ap (λ c. c || b) p ∙ q

beyond_all : (n m : ℕ) (x : Oid) (ys : List Oid) → is_given n m x ≡ false → list_all (is_given n m) ys ≡ true → list_any (same_oid x) ys ≡ false
beyond_all n m x [] out below = refl
beyond_all n m x (y ∷ ys) out below = both_false _ _ (beyond_apart n m x y out (and_left_true _ _ below)) (beyond_all n m x ys out (and_right_true _ _ below))

-- an id that the counters haven't come to is touched by no write
pub beyond_untouched : (n m : ℕ) (x : Oid) (ops : List Op) → is_given n m x ≡ false → are_below n m ops ≡ true → are_touching ops x ≡ false
unfolding are_below are_touching
beyond_untouched n m x [] out below = refl
beyond_untouched n m x (op ∷ ops) out below =
    both_false _ _ (beyond_all n m x (touches op) out (and_left_true _ _ below)) (beyond_untouched n m x ops out (and_right_true _ _ below))

-- nothing is alive at first
pub empty_dead : (x : Oid) → object_at empty_graph x ≡ object.Dead
empty_dead (Vertex v) = refl
empty_dead (Edge e) = refl

-- and it is dead
pub beyond_dead : (n m : ℕ) (x : Oid) (ops : List Op) → is_given n m x ≡ false → are_below n m ops ≡ true → object_at (apply_all ops empty_graph) x ≡ object.Dead
beyond_dead n m x ops out below =
    object_at-apply_all ops empty_graph x ∙ untouched ops x _ (beyond_untouched n m x ops out below) ∙ empty_dead x

-- the writes of the commits that pass a test are among all
pub passed_below : (n m : ℕ) (P : ℕ → Bool) (commits : List Commit) → are_below n m (ops_of commits) ≡ true → are_below n m (ops_of (filter (λ c. P c.ts) commits)) ≡ true
unfolding ops_of
passed_below n m P [] h = h
passed_below n m P (c ∷ cs) h =
    let split : (are_below n m c.ops && are_below n m (ops_of cs)) ≡ true = sym (are_below-append n m c.ops (ops_of cs)) ∙ h in
    let rest : are_below n m (ops_of (filter (λ c. P c.ts) cs)) ≡ true = passed_below n m P cs (and_right_true _ _ split) in
    elim (P c.ts) as (λ b. are_below n m (ops_of (cond b (c ∷ filter (λ c. P c.ts) cs) (filter (λ c. P c.ts) cs))) ≡ true) [
      | true ↦ are_below-append n m c.ops (ops_of (filter (λ c. P c.ts) cs)) ∙ both_true _ _ (and_left_true _ _ split) rest
      | false ↦ rest
    ]

pub before_below : (n m t : ℕ) (commits : List Commit) → are_below n m (ops_of commits) ≡ true → are_below n m (ops_of (before t commits)) ≡ true
unfolding before
before_below n m t commits h = passed_below n m (λ s. nat_lt s t) commits h
