-- What the histories hold is what the world says, and no more than the commits left.
use Rattle.std.proofs.Common.{◌≡◌, ℕ, suc, ◌+◌, ◌-◌, ◌<◌, ◌≤◌, List, [], ◌∷◌, ◌++◌, Bool, true, false, ◌||◌, cond, length, reverse, get_or, refl, sym, ap, ◌∙◌, arith}
use Rattle.std.specs.Prelude.{nat_lt}
use Rattle.std.specs.List.{sum_by}
use Rattle.std.proofs.lemmas.Bool.Decides.{nat_tests}
use Rattle.std.proofs.lemmas.List.{append-nil, get_or_past, length-append, length-reverse}
use Rattle.std.proofs.lemmas.List.Sums.{sum_by-cons}
use Rattle.std.proofs.lemmas.Option.{unwrap_or-slice_get}
use Rattle.graph_value.specs.declared.id.Oid.{Oid}
use Rattle.graph_value.specs.declared.id.Oid.TheVariants.{Vertex, Edge}
use Rattle.graph_record.specs.declared.object.Object.{Object}
use Rattle.graph_record.specs.Graph.{Graph, empty_graph, object_at}
use Rattle.undo_law.specs.Undone.{undone, deltas_of}
use Rattle.undo_law.specs.declared.dated.Dated.{Dated}
use Rattle.undo_delta.specs.Apply.{after}
use Rattle.undo_delta.specs.declared.delta.Delta.{Delta}
use Rattle.anchor_store.specs.Blocks.{BlockParts, anchored, blocks, history_of as deltas_in}
use Rattle.anchor_store.specs.Groups.{groups, joined}
use Rattle.anchor_store.proofs.Grown.{blocks_deltas, history-append}
use Rattle.history_keeper.specs.Counted.{delta_count}
use Rattle.history_keeper.specs.Rows.{RowParts, empty_row, row_of}
use Rattle.history_keeper.specs.declared.counts.Counts.{Counts}
use Rattle.world_model.specs.Op.{apply_all, are_touching, is_given}
use Rattle.world_model.specs.Placement.{below, blocks_of, given_oids, history, object_below, since, stats_of, sum_over}
use Rattle.world_model.specs.Undo.{dated, left_since, undo_list}
use Rattle.world_model.specs.World.{World, Commit, cut_of, fold_of, ops_of}
use Rattle.world_model.proofs.Counted.{parts_counted}
use Rattle.world_model.proofs.Folds.{beyond_untouched}
use Rattle.world_model.proofs.Objects.{are_touching-append}
use Rattle.world_model.proofs.Sums.{InRows, sum_in_rows, sum_same}
use Rattle.front_core.specs.Books.{MOST_DELTAS}
use Rattle.front_core.specs.Histories.{all_counts, history_at}
use Rattle.front_core.specs.History.{history_of}
use Rattle.front_core.specs.Keeps.{Keeps}
use Rattle.front_core.specs.declared.state.State.{State}
use Rattle.front_core.proofs.Left.{left_none}

-- DELTAS AND BLOCKS

-- the deltas of blocks, counted block by block
counted : (bs : List (BlockParts Object Delta)) → delta_count bs ≡ length (deltas_in bs)
counted [] = refl
counted (b ∷ bs) =
    sum_by-cons (λ (c : BlockParts Object Delta). length c.deltas) b bs
    ∙ ap (λ n. length b.deltas + n) (counted bs)
    ∙ swap (length b.deltas) (length (deltas_in bs))
    ∙ ap (λ ds. length (deltas_in bs) + length ds) (sym (append-nil b.deltas))
    ∙ sym (length-append (deltas_in bs) (b.deltas ++ []))
    ∙ ap length (sym (history-append (b ∷ []) bs))
  where
    swap : (a n : ℕ) → a + n ≡ n + a
    swap a n = omega arith

joined_longer : (k : ℕ) (d : Dated Delta) (gs : List (List (Dated Delta))) → length (joined k d gs) ≤ length gs + 1
joined_longer k d [] = omega arith
joined_longer k d (g ∷ gs) = by_test (nat_lt (length g) k)
  where
    by_test : (b : Bool) → length (cond b ((d ∷ g) ∷ gs) ((d ∷ []) ∷ g ∷ gs)) ≤ length (g ∷ gs) + 1
    by_test true = omega arith
    by_test false = omega arith

groups_few : (k : ℕ) (ds : List (Dated Delta)) → length (groups k ds) ≤ length ds
groups_few k [] = omega arith
groups_few k (d ∷ ds) = let rest : length (groups k ds) ≤ length ds = groups_few k ds in let one = joined_longer k d (groups k ds) in omega (arith, rest, one)

anchored_length : (x : Object) (gs : List (List (Dated Delta))) → length (anchored after x gs) ≡ length gs
anchored_length x [] = refl
anchored_length x (g ∷ gs) = ap suc (anchored_length (undone after x (deltas_of g)) gs)

-- no block is without a delta
blocks_few : (k : ℕ) (x : Object) (ds : List (Dated Delta)) → length (blocks after k x ds) ≤ length ds
blocks_few k x ds = omega (arith, length-reverse (anchored after x (groups k ds)), anchored_length x (groups k ds), groups_few k ds)

sum_most : {X : Type 0} (f g : X → ℕ) (xs : List X) → ((x : X) → f x ≤ g x) → sum_by f xs ≤ sum_by g xs
sum_most f g [] most = omega arith
sum_most f g (x ∷ xs) most = omega (arith, sum_by-cons f x xs, sum_by-cons g x xs, most x, sum_most f g xs most)

-- WHAT WASN'T GIVEN OUT

untouched_since : (cs : List Commit) (g : Graph) (x : Oid) → are_touching (ops_of cs) x ≡ false → left_since g cs x ≡ []
unfolding left_since ops_of
untouched_since [] g x quiet = refl
untouched_since (c ∷ cs) g x quiet =
    let both : (are_touching c.ops x || are_touching (ops_of cs) x) ≡ false = sym (are_touching-append c.ops (ops_of cs) x) ∙ quiet in
    ap (λ ds. dated c.ts ds ++ left_since (apply_all c.ops g) cs x) (left_none c.ops g x (left_false (are_touching c.ops x) (are_touching (ops_of cs) x) both))
    ∙ untouched_since cs (apply_all c.ops g) x (right_false (are_touching c.ops x) (are_touching (ops_of cs) x) both)
  where
    left_false : (a b : Bool) → (a || b) ≡ false → a ≡ false
    left_false true b h = h
    left_false false b h = refl

    right_false : (a b : Bool) → (a || b) ≡ false → b ≡ false
    right_false true b h = absurd cc
    right_false false b h = h

module _ (s : State) (w : World) (keeps : Keeps s w) where
  nothing_left : (x : Oid) → is_given w.vertices w.edges x ≡ false → undo_list w x ≡ []
  nothing_left x out = ap reverse (untouched_since w.commits empty_graph x (beyond_untouched w.vertices w.edges x (ops_of w.commits) out keeps.ordered.committed_below))

  no_blocks : (x : Oid) → is_given w.vertices w.edges x ≡ false → (history_at s.histories x).blocks ≡ []
  no_blocks x out =
      ap (λ (h : RowParts Object Delta). h.blocks) (keeps.histories x)
      ∙ ap (λ ds. blocks after w.interval (undone after (object_at (fold_of w.commits) x) (deltas_of (since (cut_of w x) ds))) (below (cut_of w x) ds)) (nothing_left x out)

  -- A SUM OVER ROWS

  module _ (measure : List (BlockParts Object Delta) → ℕ) (empty : measure [] ≡ 0) where
    abbrev of_row : RowParts Object Delta → ℕ
    of_row r = measure r.blocks

    below_first : (first : ℕ) (rows : List (RowParts Object Delta)) (i : ℕ) → i < first → of_row (history_of (record { first = first; rows = rows }) i) ≡ 0
    below_first first rows i low = ap (λ b. of_row (cond b empty_row (row_of rows (i - first)))) (less i first low) ∙ empty
      where
        less : (a b : ℕ) → a < b → nat_lt a b ≡ true
        less a b h = grind (arith, nat_tests)

    at_row : (first : ℕ) (rows : List (RowParts Object Delta)) (i : ℕ) → history_of (record { first = first; rows = rows }) (first + i) ≡ get_or rows i empty_row
    at_row first rows i =
        ap (λ b. cond b empty_row (row_of rows ((first + i) - first))) (not_less first i)
        ∙ ap (row_of rows) (back first i)
        ∙ unwrap_or-slice_get rows i empty_row
      where
        not_less : (a b : ℕ) → nat_lt (a + b) a ≡ false
        not_less a b = grind (arith, nat_tests)

        back : (a b : ℕ) → (a + b) - a ≡ b
        back a b = omega arith

    past_rows : (first : ℕ) (rows : List (RowParts Object Delta)) (i : ℕ) → first + length rows ≤ i → of_row (history_of (record { first = first; rows = rows }) i) ≡ 0
    past_rows first rows i past =
        ap (λ n. of_row (history_of (record { first = first; rows = rows }) n)) (from first i (omega (arith, past)))
        ∙ ap of_row (at_row first rows (i - first) ∙ get_or_past rows (i - first) empty_row (omega (arith, past)))
        ∙ empty
      where
        from : (a b : ℕ) → a ≤ b → b ≡ a + (b - a)
        from a b h = omega arith

    in_rows_vertices : InRows of_row empty_row s.histories.vertices.first s.histories.vertices.rows w.vertices (λ i. of_row (history_at s.histories (Vertex (record { 0 = i }))))
    in_rows_vertices = record {
      below = below_first s.histories.vertices.first s.histories.vertices.rows;
      listed = λ i low. ap of_row (at_row s.histories.vertices.first s.histories.vertices.rows i);
      past = past_rows s.histories.vertices.first s.histories.vertices.rows;
      unknown = λ i from. ap measure (no_blocks (Vertex (record { 0 = i })) (beyond i w.vertices from)) ∙ empty;
    }
      where
        beyond : (a b : ℕ) → b ≤ a → nat_lt a b ≡ false
        beyond a b h = grind (arith, nat_tests)

    in_rows_edges : InRows of_row empty_row s.histories.edges.first s.histories.edges.rows w.edges (λ i. of_row (history_at s.histories (Edge (record { 0 = i }))))
    in_rows_edges = record {
      below = below_first s.histories.edges.first s.histories.edges.rows;
      listed = λ i low. ap of_row (at_row s.histories.edges.first s.histories.edges.rows i);
      past = past_rows s.histories.edges.first s.histories.edges.rows;
      unknown = λ i from. ap measure (no_blocks (Edge (record { 0 = i })) (beyond i w.edges from)) ∙ empty;
    }
      where
        beyond : (a b : ℕ) → b ≤ a → nat_lt a b ≡ false
        beyond a b h = grind (arith, nat_tests)

    -- of each object, or of each row
    total : sum_over w (λ x. measure (blocks_of w x)) ≡ sum_by of_row s.histories.vertices.rows + sum_by of_row s.histories.edges.rows
    total =
        sum_same w (λ x. of_row (history_at s.histories x)) (λ x. measure (blocks_of w x)) (λ x given. ap of_row (sym (keeps.histories x)))
        ∙ sum_in_rows w (λ x. of_row (history_at s.histories x)) of_row empty_row s.histories.vertices.first s.histories.vertices.rows of_row empty_row s.histories.edges.first s.histories.edges.rows in_rows_vertices in_rows_edges

  -- WHAT IS COUNTED

  pub deltas_are : (all_counts s.histories).deltas ≡ (stats_of w).history
  deltas_are =
      sym (total delta_count refl)
      ∙ sum_same w (λ x. length (history w x)) (λ x. delta_count (blocks_of w x)) (λ x given. counted (blocks_of w x) ∙ ap length (blocks_deltas after w.interval (object_below w x (cut_of w x)) (history w x)))

  pub blocks_are : (all_counts s.histories).blocks ≡ (stats_of w).blocks
  blocks_are = sym (total length refl)

  pub chain_is : s.tally.committed ≡ (stats_of w).chain + (stats_of w).history
  chain_is = keeps.counts.committed ∙ sym (parts_counted w keeps.ordered)

  pub few_blocks : (stats_of w).blocks ≤ (stats_of w).history
  few_blocks = sum_most (λ x. length (blocks_of w x)) (λ x. length (history w x)) (given_oids w) (λ x. blocks_few w.interval (object_below w x (cut_of w x)) (history w x))

  pub counted_most : s.tally.committed ≤ MOST_DELTAS
  counted_most = omega (arith, keeps.counts.committed, keeps.counts.all, keeps.counts.most)

  -- all that is told
  pub stats_told : (counts : Counts) → counts ≡ all_counts s.histories → record { chain = s.tally.committed - counts.deltas; history = counts.deltas; blocks = counts.blocks } ≡ stats_of w
  stats_told counts is =
      ap (λ (n : Counts). record { chain = s.tally.committed - n.deltas; history = n.deltas; blocks = n.blocks }) is
      ∙ ap (λ n. record { chain = s.tally.committed - n; history = n; blocks = (all_counts s.histories).blocks }) deltas_are
      ∙ ap (λ n. record { chain = s.tally.committed - (stats_of w).history; history = (stats_of w).history; blocks = n }) blocks_are
      ∙ ap (λ n. record { chain = n; history = (stats_of w).history; blocks = (stats_of w).blocks }) (omega (arith, chain_is))
