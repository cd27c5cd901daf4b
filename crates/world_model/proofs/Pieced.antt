-- What was lifted is right wherever it is installed, as long as the object's cut is the same.
use Rattle.std.proofs.Common.{◌≡◌, ℕ, ◌≤◌, List, [], ◌∷◌, ◌++◌, true, cond, length, fold, refl, sym, ap, subst, ◌∙◌, arith}
use Rattle.std.specs.Prelude.{nat_le, reverse, is_some}
use Rattle.std.specs.List.{list_all}
use Rattle.std.proofs.lemmas.Bool.Decides.{nat_tests}
use Rattle.std.proofs.lemmas.List.{reverse-append, map-append}
use Rattle.std.proofs.lemmas.List.Elements.{filter-append}
use Rattle.std.proofs.lemmas.List.Sums.{fold-append}
use Rattle.graph_value.specs.declared.id.Oid.{Oid}
use Rattle.graph_value.specs.declared.id.Oid.TheVariants as oid
use Rattle.graph_record.specs.declared.object.Object.{Object}
use Rattle.graph_record.specs.Form.{IsForm}
use Rattle.graph_record.specs.Graph.{Graph, empty_graph, object_at}
use Rattle.undo_law.specs.Undone.{undone, deltas_of}
use Rattle.undo_law.specs.declared.dated.Dated.{Dated}
use Rattle.undo_delta.specs.Apply.{after}
use Rattle.undo_delta.specs.declared.delta.Delta.{Delta}
use Rattle.anchor_store.specs.Blocks.{blocks, history_of, newest_of, older_deltas, smaller_than, staying}
use Rattle.anchor_store.specs.Groups.{AreAtMost, AreDescending}
use Rattle.anchor_store.proofs.Grown.{blocks_grown, blocks_deltas, history-append}
use Rattle.world_model.specs.Op.{apply_all, are_sound, is_given}
use Rattle.world_model.specs.World.{World, Commit, InOrder, fold_of, ops_of, cut_of, mark}
use Rattle.world_model.specs.Undo.{dated, left_by_all, left_since, undo_list}
use Rattle.world_model.specs.Placement.{below, since, chain, history, object_below, blocks_of, expired, block_with_room, lifted_of, piece_of, IsRight}
use Rattle.world_model.proofs.Folds.{and_left_true, and_right_true, are_sound-append, ops_of-append, empty_dead}
use Rattle.world_model.proofs.Objects.{apply_all-append}
use Rattle.world_model.proofs.Parted.{front_of_below, behind_since, below_descends, between, undo_descends}
use Rattle.world_model.proofs.Growing.{Grown, below_grown, left_since-append}
use Rattle.world_model.proofs.Undo.{filter-reverse, commits_undone, writes_form}

-- ---- the object below a number stays

pub dated_kept : (n ts : ℕ) (ds : List Delta) → n ≤ ts → since n (dated ts ds) ≡ dated ts ds
dated_kept n ts [] h = refl
dated_kept n ts (d ∷ ds) h =
    let keeps : nat_le n ts ≡ true = grind (arith, nat_tests) in
    ap (λ b. cond b (record { ts = ts; delta = d } ∷ since n (dated ts ds)) (since n (dated ts ds))) keeps
    ∙ ap (λ es. record { ts = ts; delta = d } ∷ es) (dated_kept n ts ds h)

left_kept : (n m : ℕ) (cs : List Commit) (g : Graph) (x : Oid) → n ≤ m → list_all (λ c. nat_le m c.ts) cs ≡ true → since n (left_since g cs x) ≡ left_since g cs x
unfolding left_since
left_kept n m [] g x low h = refl
left_kept n m (c ∷ cs) g x low h =
    let first : nat_le m c.ts ≡ true = and_left_true _ _ h in
    filter-append (λ d. nat_le n d.ts) (dated c.ts (left_by_all c.ops x g)) (left_since (apply_all c.ops g) cs x)
    ∙ ap (λ ds. ds ++ since n (left_since (apply_all c.ops g) cs x)) (dated_kept n c.ts (left_by_all c.ops x g) (grind (arith, nat_tests)))
    ∙ ap (λ ds. dated c.ts (left_by_all c.ops x g) ++ ds) (left_kept n m cs (apply_all c.ops g) x low (and_right_true _ _ h))

undone-append : (o : Object) (xs ys : List (Dated Delta)) → undone after o (deltas_of (xs ++ ys)) ≡ undone after (undone after o (deltas_of xs)) (deltas_of ys)
undone-append o xs ys = ap (fold after o) (map-append (λ d. d.delta) xs ys) ∙ fold-append after o (deltas_of xs) (deltas_of ys)

fold_form : (w : World) (x : Oid) → InOrder w → IsForm (object_at (fold_of w.commits) x)
fold_form w x o = writes_form (ops_of w.commits) empty_graph x o.committed_sound (subst IsForm (sym (empty_dead x)) tt)

more_sound : (w v : World) → InOrder v → (g : Grown w v) → are_sound (ops_of g.more) (fold_of w.commits) ≡ true
more_sound w v o g =
    and_right_true (are_sound (ops_of w.commits) empty_graph) (are_sound (ops_of g.more) (fold_of w.commits))
    (sym (are_sound-append (ops_of w.commits) (ops_of g.more) empty_graph)
    ∙ ap (λ ops. are_sound ops empty_graph) (sym (ops_of-append w.commits g.more))
    ∙ ap (λ cs. are_sound (ops_of cs) empty_graph) (sym g.commits)
    ∙ o.committed_sound)

later_fold : (w v : World) → (g : Grown w v) → fold_of v.commits ≡ apply_all (ops_of g.more) (fold_of w.commits)
later_fold w v g =
    ap fold_of g.commits ∙ ap (λ ops. apply_all ops empty_graph) (ops_of-append w.commits g.more)
    ∙ apply_all-append (ops_of w.commits) (ops_of g.more) empty_graph

later_list : (w v : World) (x : Oid) (g : Grown w v) → undo_list v x ≡ reverse (left_since (fold_of w.commits) g.more x) ++ undo_list w x
later_list w v x g =
    ap (λ cs. reverse (left_since empty_graph cs x)) g.commits
    ∙ ap reverse (left_since-append w.commits g.more empty_graph x)
    ∙ reverse-append (left_since empty_graph w.commits x) (left_since (fold_of w.commits) g.more x)

newer_since : (w v : World) (x : Oid) (g : Grown w v) (n : ℕ) → n ≤ w.clock →
    since n (undo_list v x) ≡ reverse (left_since (fold_of w.commits) g.more x) ++ since n (undo_list w x)
newer_since w v x g n low =
    let newer = left_since (fold_of w.commits) g.more x in
    ap (since n) (later_list w v x g)
    ∙ filter-append (λ d. nat_le n d.ts) (reverse newer) (undo_list w x)
    ∙ ap (λ ds. ds ++ since n (undo_list w x)) (filter-reverse (λ d. nat_le n d.ts) newer ∙ ap reverse (left_kept n w.clock g.more (fold_of w.commits) x low g.above))

pub object_below_stays : (w v : World) (x : Oid) → InOrder w → InOrder v → Grown w v → (n : ℕ) → n ≤ w.clock → object_below v x n ≡ object_below w x n
object_below_stays w v x o later g n low =
    let newer = reverse (left_since (fold_of w.commits) g.more x) in
    ap (λ ds. undone after (object_at (fold_of v.commits) x) (deltas_of ds)) (newer_since w v x g n low)
    ∙ undone-append (object_at (fold_of v.commits) x) newer (since n (undo_list w x))
    ∙ ap (λ o. undone after o (deltas_of (since n (undo_list w x))))
    (ap (λ (h : Graph). undone after (object_at h x) (deltas_of newer)) (later_fold w v g)
    ∙ commits_undone g.more (fold_of w.commits) x (more_sound w v later g) (fold_form w x o))

-- ---- what a lift copies

-- the object that the older deltas lead back from, once those between are undone
pub lower_object : (w : World) (x : Oid) (c m : ℕ) → InOrder w → c ≤ m → undone after (object_below w x m) (deltas_of (below m (since c (undo_list w x)))) ≡ object_below w x c
lower_object w x c m o low =
    let all = undo_list w x in
    sym (undone-append (object_at (fold_of w.commits) x) (since m all) (below m (since c all)))
    ∙ ap (λ ds. undone after (object_at (fold_of w.commits) x) (deltas_of ds)) (behind_since c m all (undo_descends w x o) low)

-- what stays of the blocks and what is built of the lifted deltas are the blocks up to the mark
lifted_blocks : (w : World) (x : Oid) → InOrder w → cut_of w x ≤ mark w →
    staying (is_some (block_with_room w x)) (blocks_of w x) ++ (piece_of (lifted_of w x)).blocks
    ≡ blocks after w.interval (object_below w x (mark w)) (below (mark w) (undo_list w x))
lifted_blocks w x o low =
    let newest = object_below w x (mark w) in
    let before = blocks after w.interval (undone after newest (deltas_of (expired w x))) (history w x) in
    let same : before ≡ blocks_of w x = ap (λ o. blocks after w.interval o (history w x)) (lower_object w x (cut_of w x) (mark w) o low) in
    sym (subst (λ bs. blocks after w.interval newest (expired w x ++ history w x) ≡ staying (is_some (smaller_than w.interval (newest_of bs))) bs ++ blocks after w.interval newest (expired w x ++ older_deltas (smaller_than w.interval (newest_of bs)))) same
    (blocks_grown after w.interval newest (expired w x) (history w x)))
    ∙ ap (blocks after w.interval newest) (front_of_below (cut_of w x) (mark w) (undo_list w x) (undo_descends w x o) low)

-- the front of deltas that descend descends
descending_front : (xs ys : List (Dated Delta)) → AreDescending (xs ++ ys) → AreDescending xs
descending_front [] ys h = tt
descending_front (x ∷ xs) ys h = (at_most_front x.ts xs ys h.0, descending_front xs ys h.1)
  where
    at_most_front : (b : ℕ) (xs ys : List (Dated Delta)) → AreAtMost b (xs ++ ys) → AreAtMost b xs
    at_most_front b [] ys h = tt
    at_most_front b (x ∷ xs) ys h = (h.0, at_most_front b xs ys h.1)

-- what is lifted, in front of the block with room, descends: so blocks can be built of it
pub lifted_descends : (w : World) (x : Oid) → InOrder w → cut_of w x ≤ mark w → AreDescending (expired w x ++ older_deltas (block_with_room w x))
lifted_descends w x o low =
    let stay = staying (is_some (block_with_room w x)) (blocks_of w x) in
    let all = below (mark w) (undo_list w x) in
    let parts : (expired w x ++ older_deltas (block_with_room w x)) ++ history_of stay ≡ all =
    sym
    (sym (blocks_deltas after w.interval (object_below w x (mark w)) all)
    ∙ ap (λ bs. history_of bs) (sym (lifted_blocks w x o low))
    ∙ history-append stay (piece_of (lifted_of w x)).blocks
    ∙ ap (λ ds. ds ++ history_of stay) (blocks_deltas after w.interval (object_below w x (mark w)) (expired w x ++ older_deltas (block_with_room w x)))) in
    descending_front (expired w x ++ older_deltas (block_with_room w x)) (history_of stay)
    (subst AreDescending (sym parts) (below_descends (mark w) (undo_list w x) (undo_descends w x o)))

-- ---- and in every later world

given_stays : (w v : World) → Grown w v → (x : Oid) → is_given w.vertices w.edges x ≡ true → is_given v.vertices v.edges x ≡ true
given_stays w v g (oid.Vertex n) h = let low : w.vertices ≤ v.vertices = g.counters.0 in grind (arith, nat_tests)
given_stays w v g (oid.Edge n) h = let low : w.edges ≤ v.edges = g.counters.1 in grind (arith, nat_tests)

pub piece_right : (w v : World) (x : Oid) → InOrder w → InOrder v → Grown w v → mark w ≤ mark v → mark w ≤ w.clock → cut_of w x ≤ mark w → is_given w.vertices w.edges x ≡ true →
    IsRight v (piece_of (lifted_of w x))
piece_right w v x o later g rises low_mark low given = record {
  given = given_stays w v g x given;
  order = (low, rises);
  moved = λ same. ap length (sym (between_stays same));
  blocks = λ same. blocks_stay same;
}
  where
    low_cut : cut_of w x ≤ w.clock
    low_cut = omega (arith, low, low_mark)

    between_stays : cut_of w x ≡ cut_of v x → below (mark w) (chain v x) ≡ expired w x
    between_stays same =
        ap (λ c. below (mark w) (since c (undo_list v x))) (sym same)
        ∙ between (cut_of w x) (mark w) (undo_list v x)
        ∙ ap (since (cut_of w x)) (below_grown w v g (mark w) x low_mark)
        ∙ sym (between (cut_of w x) (mark w) (undo_list w x))

    all_blocks : cut_of w x ≡ cut_of v x → blocks_of v x ≡ blocks_of w x
    all_blocks same =
        ap (λ k. blocks after k (object_below v x (cut_of v x)) (history v x)) g.interval
        ∙ ap (λ c. blocks after w.interval (object_below v x c) (below c (undo_list v x))) (sym same)
        ∙ ap (λ o. blocks after w.interval o (below (cut_of w x) (undo_list v x))) (object_below_stays w v x o later g (cut_of w x) low_cut)
        ∙ ap (blocks after w.interval (object_below w x (cut_of w x))) (below_grown w v g (cut_of w x) x low_cut)

    blocks_stay : cut_of w x ≡ cut_of v x →
        staying (is_some (block_with_room v x)) (blocks_of v x) ++ (piece_of (lifted_of w x)).blocks
        ≡ blocks after v.interval (object_below v x (mark w)) (below (mark w) (undo_list v x))
    blocks_stay same =
        ap (λ k. staying (is_some (smaller_than k (newest_of (blocks_of v x)))) (blocks_of v x) ++ (piece_of (lifted_of w x)).blocks) g.interval
        ∙ ap (λ bs. staying (is_some (smaller_than w.interval (newest_of bs))) bs ++ (piece_of (lifted_of w x)).blocks) (all_blocks same)
        ∙ lifted_blocks w x o low
        ∙ ap (λ o. blocks after w.interval o (below (mark w) (undo_list w x))) (sym (object_below_stays w v x o later g (mark w) low_mark))
        ∙ ap (blocks after w.interval (object_below v x (mark w))) (sym (below_grown w v g (mark w) x low_mark))
        ∙ ap (λ k. blocks after k (object_below v x (mark w)) (below (mark w) (undo_list v x))) (sym g.interval)
