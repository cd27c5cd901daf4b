-- An object at an instant is the object after all commits with its deltas above that instant undone.
use Rattle.std.proofs.Common.{◌≡◌, ℕ, List, [], ◌∷◌, ◌++◌, Option, Some, None, Bool, true, false, ◌&&◌, cond, refl, sym, ap, subst, ◌∙◌, arith, map}
use Rattle.std.specs.Prelude.{nat_lt, nat_le, filter, reverse, fold}
use Rattle.std.specs.List.{list_all}
use Rattle.std.proofs.lemmas.Bool.Decides.{nat_tests}
use Rattle.std.proofs.lemmas.List.{reverse-append, map-append}
use Rattle.std.proofs.lemmas.List.Elements.{filter-append}
use Rattle.std.proofs.lemmas.List.Sums.{fold-append}
use Rattle.graph_value.specs.declared.id.Oid.{Oid}
use Rattle.graph_record.specs.declared.object.Object.{Object}
use Rattle.graph_record.specs.Graph.{Graph, empty_graph, object_at}
use Rattle.undo_law.specs.Undone.{deltas_of}
use Rattle.undo_law.specs.declared.dated.Dated.{Dated}
use Rattle.undo_delta.specs.Apply.{after}
use Rattle.undo_delta.specs.Change as one
use Rattle.undo_delta.specs.Change.{changed, undone_by}
use Rattle.graph_record.specs.Form.{IsForm}
use Rattle.undo_delta.specs.Touch.{is_touched}
use Rattle.undo_delta.specs.declared.delta.Delta.{Delta}
use Rattle.undo_delta.specs.declared.op.Op.{Op}
use Rattle.undo_delta.proofs.Kept.{changed_form}
use Rattle.undo_delta.proofs.Undone.{change_undone}
use Rattle.world_model.specs.Op.{apply, apply_all, is_possible, changes, are_sound}
use Rattle.world_model.specs.World.{World, Commit, InOrder, ops_of, fold_of, graph_at, stamps_ascend}
use Rattle.world_model.specs.Undo.{both, left_by, left_by_all, dated, left_since, undo_list, undone_above}
use Rattle.world_model.proofs.Objects.{object_at-apply, apply_all-append}
use Rattle.world_model.proofs.Folds.{and_left_true, and_right_true, empty_dead, possible_at, are_sound-append}
use Rattle.world_model.proofs.Views.{none_passes}

-- ---- one write

pair_undone : (first second : Option Delta) (o : Object) → fold after o (reverse (both (record { first = first; second = second }))) ≡ undone_by (record { first = first; second = second }) o
pair_undone None None o = refl
pair_undone None (Some d) o = refl
pair_undone (Some c) None o = refl
pair_undone (Some c) (Some d) o = refl

write_undone : (op : Op) (g : Graph) (x : Oid) → is_possible op g ≡ true → IsForm (object_at g x) → fold after (object_at (apply op g) x) (reverse (left_by op x (object_at g x))) ≡ object_at g x
write_undone op g x possible form =
    ap (λ o. fold after o (reverse (left_by op x (object_at g x)))) (object_at-apply op g x) ∙ by_touch (is_touched op x) refl
  where
    by_touch : (b : Bool) → is_touched op x ≡ b → fold after (cond b (changed op x (object_at g x)) (object_at g x)) (reverse (cond b (both (one.deltas_of op x (object_at g x))) [])) ≡ object_at g x
    by_touch true t =
        let pair = one.deltas_of op x (object_at g x) in
        pair_undone pair.first pair.second (changed op x (object_at g x)) ∙ change_undone op x (object_at g x) form t (possible_at op g x possible t)
    by_touch false t = refl

write_form : (op : Op) (g : Graph) (x : Oid) → is_possible op g ≡ true → IsForm (object_at g x) → IsForm (object_at (apply op g) x)
write_form op g x possible form = subst IsForm (sym (object_at-apply op g x)) (by_touch (is_touched op x) refl)
  where
    by_touch : (b : Bool) → is_touched op x ≡ b → IsForm (cond b (changed op x (object_at g x)) (object_at g x))
    by_touch true t = changed_form op x (object_at g x) form (possible_at op g x possible t)
    by_touch false t = form

-- ---- several writes

first_possible : (op : Op) (ops : List Op) (g : Graph) → are_sound (op ∷ ops) g ≡ true → is_possible op g ≡ true
unfolding are_sound
first_possible op ops g h = and_left_true (is_possible op g) (changes op g) (and_left_true (is_possible op g && changes op g) (are_sound ops (apply op g)) h)

rest_sound : (op : Op) (ops : List Op) (g : Graph) → are_sound (op ∷ ops) g ≡ true → are_sound ops (apply op g) ≡ true
unfolding are_sound
rest_sound op ops g h = and_right_true (is_possible op g && changes op g) (are_sound ops (apply op g)) h

pub writes_form : (ops : List Op) (g : Graph) (x : Oid) → are_sound ops g ≡ true → IsForm (object_at g x) → IsForm (object_at (apply_all ops g) x)
unfolding apply_all
writes_form [] g x sound form = form
writes_form (op ∷ ops) g x sound form = writes_form ops (apply op g) x (rest_sound op ops g sound) (write_form op g x (first_possible op ops g sound) form)

pub writes_undone : (ops : List Op) (g : Graph) (x : Oid) → are_sound ops g ≡ true → IsForm (object_at g x) → fold after (object_at (apply_all ops g) x) (reverse (left_by_all ops x g)) ≡ object_at g x
unfolding apply_all left_by_all
writes_undone [] g x sound form = refl
writes_undone (op ∷ ops) g x sound form =
    let now = left_by op x (object_at g x) in
    let later = left_by_all ops x (apply op g) in
    let possible = first_possible op ops g sound in
    ap (fold after (object_at (apply_all ops (apply op g)) x)) (reverse-append now later)
    ∙ fold-append after (object_at (apply_all ops (apply op g)) x) (reverse later) (reverse now)
    ∙ ap (λ o. fold after o (reverse now)) (writes_undone ops (apply op g) x (rest_sound op ops g sound) (write_form op g x possible form))
    ∙ write_undone op g x possible form

-- ---- commits

pub map-reverse : {A B : Type 0} (f : A → B) (xs : List A) → map f (reverse xs) ≡ reverse (map f xs)
map-reverse f [] = refl
map-reverse f (y ∷ ys) = ap (map f) (reverse-append (y ∷ []) ys) ∙ map-append f (reverse ys) (y ∷ []) ∙ ap (λ zs. zs ++ f y ∷ []) (map-reverse f ys) ∙ sym (reverse-append (f y ∷ []) (map f ys))

undated : (ts : ℕ) (deltas : List Delta) → deltas_of (dated ts deltas) ≡ deltas
undated ts [] = refl
undated ts (d ∷ ds) = ap (λ es. d ∷ es) (undated ts ds)

undated_reverse : (ts : ℕ) (deltas : List Delta) → deltas_of (reverse (dated ts deltas)) ≡ reverse deltas
undated_reverse ts deltas = map-reverse (λ (d : Dated Delta). d.delta) (dated ts deltas) ∙ ap reverse (undated ts deltas)

sound_parts : (c : Commit) (cs : List Commit) (g : Graph) → are_sound (ops_of (c ∷ cs)) g ≡ true → (are_sound c.ops g ≡ true) × (are_sound (ops_of cs) (apply_all c.ops g) ≡ true)
unfolding ops_of
sound_parts c cs g h =
    let split = sym (are_sound-append c.ops (ops_of cs) g) ∙ h in
    (and_left_true (are_sound c.ops g) (are_sound (ops_of cs) (apply_all c.ops g)) split, and_right_true (are_sound c.ops g) (are_sound (ops_of cs) (apply_all c.ops g)) split)

pub commits_undone : (cs : List Commit) (g : Graph) (x : Oid) → are_sound (ops_of cs) g ≡ true → IsForm (object_at g x) →
    fold after (object_at (apply_all (ops_of cs) g) x) (deltas_of (reverse (left_since g cs x))) ≡ object_at g x
unfolding ops_of left_since apply_all
commits_undone [] g x sound form = refl
commits_undone (c ∷ cs) g x sound form =
    let parts = sound_parts c cs g sound in
    let now = dated c.ts (left_by_all c.ops x g) in
    let later = left_since (apply_all c.ops g) cs x in
    let last : Object = object_at (apply_all (c.ops ++ ops_of cs) g) x in
    ap (λ ds. fold after last (deltas_of ds)) (reverse-append now later)
    ∙ ap (fold after last) (map-append (λ (d : Dated Delta). d.delta) (reverse later) (reverse now))
    ∙ fold-append after last (deltas_of (reverse later)) (deltas_of (reverse now))
    ∙ ap (λ o. fold after (fold after o (deltas_of (reverse later))) (deltas_of (reverse now))) (ap (λ (h : Graph). object_at h x) (apply_all-append c.ops (ops_of cs) g))
    ∙ ap (λ o. fold after o (deltas_of (reverse now))) (commits_undone cs (apply_all c.ops g) x parts.1 (writes_form c.ops g x parts.0 form))
    ∙ ap (fold after (object_at (apply_all c.ops g) x)) (undated_reverse c.ts (left_by_all c.ops x g))
    ∙ writes_undone c.ops g x parts.0 form

-- ---- the deltas above an instant

abbrev is_above : ℕ → Dated Delta → Bool
is_above t d = nat_lt t d.ts

none_above : (t ts : ℕ) (deltas : List Delta) → nat_lt t ts ≡ false → filter (is_above t) (dated ts deltas) ≡ []
none_above t ts [] h = refl
none_above t ts (d ∷ ds) h = ap (λ b. cond b (record { ts = ts; delta = d } ∷ filter (is_above t) (dated ts ds)) (filter (is_above t) (dated ts ds))) h ∙ none_above t ts ds h

all_above : (t ts : ℕ) (deltas : List Delta) → nat_lt t ts ≡ true → filter (is_above t) (dated ts deltas) ≡ dated ts deltas
all_above t ts [] h = refl
all_above t ts (d ∷ ds) h =
    ap (λ b. cond b (record { ts = ts; delta = d } ∷ filter (is_above t) (dated ts ds)) (filter (is_above t) (dated ts ds))) h
    ∙ ap (λ es. record { ts = ts; delta = d } ∷ es) (all_above t ts ds h)

pub filter-reverse : {A : Type 0} (p : A → Bool) (xs : List A) → filter p (reverse xs) ≡ reverse (filter p xs)
filter-reverse p [] = refl
filter-reverse p (y ∷ ys) =
    ap (filter p) (reverse-append (y ∷ []) ys) ∙ filter-append p (reverse ys) (y ∷ [])
    ∙ ap (λ zs. zs ++ filter p (y ∷ [])) (filter-reverse p ys)
    ∙ by_test (p y) refl
  where
    by_test : (b : Bool) → p y ≡ b → reverse (filter p ys) ++ cond b (y ∷ []) [] ≡ reverse (cond b (y ∷ filter p ys) (filter p ys))
    by_test true e = sym (reverse-append (y ∷ []) (filter p ys))
    by_test false e = Rattle.std.proofs.lemmas.List.append-nil (reverse (filter p ys))

-- where the first commit is above the instant, all later ones are
later_above : (t n : ℕ) (g : Graph) (cs : List Commit) (x : Oid) → nat_lt t n ≡ true → list_all (λ d. nat_lt n d.ts) cs ≡ true → filter (is_above t) (left_since g cs x) ≡ left_since g cs x
unfolding left_since
later_above t n g [] x h above = refl
later_above t n g (c ∷ cs) x h above =
    filter-append (is_above t) (dated c.ts (left_by_all c.ops x g)) (left_since (apply_all c.ops g) cs x)
    ∙ ap (λ ds. ds ++ filter (is_above t) (left_since (apply_all c.ops g) cs x)) (all_above t c.ts (left_by_all c.ops x g) (through t n c.ts h (and_left_true (nat_lt n c.ts) _ above)))
    ∙ ap (λ ds. dated c.ts (left_by_all c.ops x g) ++ ds) (later_above t n (apply_all c.ops g) cs x h (and_right_true (nat_lt n c.ts) _ above))
  where
    through : (a b c : ℕ) → nat_lt a b ≡ true → nat_lt b c ≡ true → nat_lt a c ≡ true
    through a b c p q = grind (arith, nat_tests)

-- of newer deltas behind older ones the test keeps the older ones alone, or all
newer_kept : {A : Type 0} (p : A → Bool) (older newer : List A) → filter p older ≡ [] → filter p (reverse (older ++ newer)) ≡ filter p (reverse newer)
newer_kept p older newer none =
    filter-reverse p (older ++ newer)
    ∙ ap reverse (filter-append p older newer ∙ ap (λ ds. ds ++ filter p newer) none)
    ∙ sym (filter-reverse p newer)

all_kept : {A : Type 0} (p : A → Bool) (older newer : List A) → filter p older ≡ older → filter p newer ≡ newer → filter p (reverse (older ++ newer)) ≡ reverse (older ++ newer)
all_kept p older newer first second =
    filter-reverse p (older ++ newer)
    ∙ ap reverse (filter-append p older newer ∙ ap (λ ds. ds ++ filter p newer) first ∙ ap (λ ds. older ++ ds) second)

up_to : (t : ℕ) (cs : List Commit) (g : Graph) (x : Oid) → stamps_ascend cs ≡ true → are_sound (ops_of cs) g ≡ true → IsForm (object_at g x) →
    object_at (apply_all (ops_of (filter (λ c. nat_le c.ts t) cs)) g) x ≡ fold after (object_at (apply_all (ops_of cs) g) x) (deltas_of (filter (is_above t) (reverse (left_since g cs x))))
unfolding stamps_ascend ops_of left_since apply_all
up_to t [] g x ascend sound form = refl
up_to t (c ∷ cs) g x ascend sound form =
    by_test (up_to t cs (apply_all c.ops g) x (and_right_true (list_all (λ d. nat_lt c.ts d.ts) cs) (stamps_ascend cs) ascend) parts.1 (writes_form c.ops g x parts.0 form)) (nat_le c.ts t) refl
  where
    parts : (are_sound c.ops g ≡ true) × (are_sound (ops_of cs) (apply_all c.ops g) ≡ true)
    parts = sound_parts c cs g sound

    higher : list_all (λ d. nat_lt c.ts d.ts) cs ≡ true
    higher = and_left_true (list_all (λ d. nat_lt c.ts d.ts) cs) (stamps_ascend cs) ascend

    not_above : (a t : ℕ) → nat_le a t ≡ true → nat_lt t a ≡ false
    not_above a t h = grind (arith, nat_tests)

    is_later : (a t : ℕ) → nat_le a t ≡ false → nat_lt t a ≡ true
    is_later a t h = grind (arith, nat_tests)

    earlier : (t a b : ℕ) → nat_lt a b ≡ true → nat_le b t ≡ true → nat_le a t ≡ true
    earlier t a b p q = grind (arith, nat_tests)

    by_test : object_at (apply_all (ops_of (filter (λ c. nat_le c.ts t) cs)) (apply_all c.ops g)) x ≡ fold after (object_at (apply_all (ops_of cs) (apply_all c.ops g)) x) (deltas_of (filter (is_above t) (reverse (left_since (apply_all c.ops g) cs x)))) →
        (b : Bool) → nat_le c.ts t ≡ b → object_at (apply_all (ops_of (cond b (c ∷ filter (λ c. nat_le c.ts t) cs) (filter (λ c. nat_le c.ts t) cs))) g) x ≡ fold after (object_at (apply_all (c.ops ++ ops_of cs) g) x) (deltas_of (filter (is_above t) (reverse (dated c.ts (left_by_all c.ops x g) ++ left_since (apply_all c.ops g) cs x))))
    by_test rest true e =
        let later = left_since (apply_all c.ops g) cs x in
        let last : Object = object_at (apply_all (c.ops ++ ops_of cs) g) x in
        ap (λ (h : Graph). object_at h x) (apply_all-append c.ops (ops_of (filter (λ c. nat_le c.ts t) cs)) g)
        ∙ rest
        ∙ ap (λ o. fold after o (deltas_of (filter (is_above t) (reverse later)))) (sym (ap (λ (h : Graph). object_at h x) (apply_all-append c.ops (ops_of cs) g)))
        ∙ ap (λ ds. fold after last (deltas_of ds)) (sym (newer_kept (is_above t) (dated c.ts (left_by_all c.ops x g)) later (none_above t c.ts (left_by_all c.ops x g) (not_above c.ts t e))))
    by_test rest false e =
        let none : filter (λ c. nat_le c.ts t) cs ≡ [] = none_passes (λ n. nat_le n t) (earlier t) c.ts cs e higher in
        ap (λ (ds : List Commit). object_at (apply_all (ops_of ds) g) x) none
        ∙ sym (commits_undone (c ∷ cs) g x sound form)
        ∙ ap (λ ds. fold after (object_at (apply_all (c.ops ++ ops_of cs) g) x) (deltas_of ds)) (sym
        (all_kept (is_above t) (dated c.ts (left_by_all c.ops x g)) (left_since (apply_all c.ops g) cs x)
        (all_above t c.ts (left_by_all c.ops x g) (is_later c.ts t e))
        (later_above t c.ts (apply_all c.ops g) cs x (is_later c.ts t e) higher)))

pub instant_undone : (w : World) (t : ℕ) (x : Oid) → InOrder w → object_at (graph_at w.commits t) x ≡ undone_above t (object_at (fold_of w.commits) x) (undo_list w x)
instant_undone w t x o = up_to t w.commits empty_graph x o.ascending o.committed_sound (subst IsForm (sym (empty_dead x)) tt)
