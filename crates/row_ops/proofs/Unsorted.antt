-- Without sort keys rows stay as they stood.
use Rattle.std.proofs.Common.{◌≡◌, ℕ, Option, Some, None, List, [], ◌∷◌, ◌++◌, map, Ok, refl, sym, ap, ◌∙◌, append_assoc}
use Rattle.std.proofs.lemmas.List.{append-nil, drop-map, take-map}
use Rattle.cypher_syntax.specs.declared.tree.projection.Projection.{Projection}
use Rattle.graph_record.specs.Graph.{Graph}
use Rattle.graph_value.specs.declared.value.Value.{Value}
use Rattle.expr_eval.specs.Outcome.{Outcome, and_then}
use Rattle.expr_eval.specs.Row.{Row}
use Rattle.row_ops.specs.declared.made.Made.{Made}
use Rattle.row_ops.specs.declared.sorting.Keyed.{Keyed}
use Rattle.row_ops.specs.Making.{after, seen}
use Rattle.row_ops.specs.Projecting.{cut, limited_to, ordered_of, skipped}
use Rattle.row_ops.specs.Sorting.{all_keys, keys_of, keyed_on, is_before, placed, in_order, rows_in_order, sorted_of}

abbrev keyless : Projection → Made → Keyed
keyless p made = record { keys = []; row = after p made }

no_keys : (g : Graph) (p : Projection) (made : Made) → p.sort ≡ [] → keys_of g p made ≡ Ok []
no_keys g p made e = ap (all_keys g p.items made.values (seen p made)) e

keyed_all : (g : Graph) (p : Projection) (done : List Keyed) (rows : List Made) → p.sort ≡ [] → keyed_on g p done rows ≡ Ok (done ++ map (keyless p) rows)
keyed_all g p done [] e = ap (λ ks. Ok ks) (sym (append-nil done))
keyed_all g p done (made ∷ rows) e =
    ap (λ (o : Outcome (List Value)). and_then o (λ keys. keyed_on g p (done ++ (record { keys = keys; row = after p made }) ∷ []) rows)) (no_keys g p made e)
    ∙ keyed_all g p (done ++ keyless p made ∷ []) rows e
    ∙ ap (λ ks. Ok ks) (append_assoc done (keyless p made ∷ []) (map (keyless p) rows))

first_placed : (k : Keyed) (ks : List Keyed) → placed (is_before []) k ks ≡ k ∷ ks
first_placed k [] = refl
first_placed k (l ∷ ks) = refl

stay : (ks : List Keyed) → in_order (is_before []) ks ≡ ks
stay [] = refl
stay (k ∷ ks) = ap (placed (is_before []) k) (stay ks) ∙ first_placed k ks

taken_back : (p : Projection) (rows : List Made) → map (λ (k : Keyed). k.row) (map (keyless p) rows) ≡ map (after p) rows
taken_back p [] = refl
taken_back p (made ∷ rows) = ap (λ ms. after p made ∷ ms) (taken_back p rows)

unsorted : (g : Graph) (p : Projection) (rows : List Made) → p.sort ≡ [] → sorted_of g p rows ≡ Ok (map (after p) rows)
unsorted g p rows e =
    let keyed : List Keyed = map (keyless p) rows in
    ap (λ (o : Outcome (List Keyed)). and_then o (λ ks. Ok (rows_in_order p.sort ks))) (keyed_all g p [] rows e)
    ∙ ap (λ sorts. Ok (rows_in_order sorts keyed)) e
    ∙ ap (λ (ks : List Keyed). Ok (map (λ k. k.row) ks)) (stay keyed)
    ∙ ap (λ ms. Ok ms) (taken_back p rows)

-- what is cut off is cut off of the rows before as well
limited_map : {X Y : Type 0} (f : X → Y) (l : Option ℕ) (xs : List X) → limited_to l (map f xs) ≡ map f (limited_to l xs)
limited_map f None xs = refl
limited_map f (Some n) xs = take-map f n xs

skipped_map : {X Y : Type 0} (f : X → Y) (s : Option ℕ) (xs : List X) → skipped s (map f xs) ≡ map f (skipped s xs)
skipped_map f None xs = refl
skipped_map f (Some n) xs = drop-map f n xs

cut_map : {X Y : Type 0} (f : X → Y) (p : Projection) (xs : List X) → cut p (map f xs) ≡ map f (cut p xs)
cut_map f p xs = ap (limited_to p.limit) (skipped_map f p.skip xs) ∙ limited_map f p.limit (skipped p.skip xs)

pub unsorted_cut : (g : Graph) (p : Projection) (rows : List Made) → p.sort ≡ [] → ordered_of g p rows ≡ Ok (map (after p) (cut p rows))
unsorted_cut g p rows e =
    ap (λ (o : Outcome (List Row)). and_then o (λ rows. Ok (cut p rows))) (unsorted g p rows e)
    ∙ ap (λ rows. Ok rows) (cut_map (after p) p rows)
