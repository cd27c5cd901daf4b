-- The outline of an object after deltas is what the deltas make of its outline.
use Rattle.std.proofs.Common.{◌≡◌, ℕ, List, [], ◌∷◌, ◌++◌, Some, Bool, true, false, cond, fold, map, take, filter, refl, sym, ap, ◌∙◌}
use Rattle.std.specs.Prelude.{◌+◌, nat_lt, slice_get}
use Rattle.std.proofs.lemmas.List.{append-nil, take-map, take_more}
use Rattle.std.proofs.lemmas.List.Elements.{filter-append}
use Rattle.std.proofs.lemmas.List.Sums.{fold-append}
use Rattle.std.proofs.lemmas.Option.{slice_get_within, get_or_from_slice_get}
use Rattle.graph_record.specs.declared.object.Object.{Object}
use Rattle.graph_record.specs.declared.object.Object.TheVariants as object
use Rattle.undo_law.specs.Undone.{undone, deltas_of as dated_deltas}
use Rattle.undo_law.specs.declared.dated.Dated.{Dated}
use Rattle.anchor_store.specs.Groups.{later}
use Rattle.anchor_store.proofs.Grown.{undone-append}
use Rattle.undo_delta.specs.Apply.{after}
use Rattle.undo_delta.specs.declared.delta.Delta.{Delta}
use Rattle.undo_delta.specs.declared.delta.Delta.TheVariants.{DeleteObject, RecreateObject, AddLabel, RemoveLabel, SetProperty, AddInEdge, AddOutEdge, RemoveInEdge, RemoveOutEdge}
use Rattle.version_chain.specs.Entry.{is_after}
use Rattle.version_chain.specs.Parts.{deltas_of}
use Rattle.version_chain.specs.declared.entry.Entry.{Entry}
use Rattle.front_core.specs.Outlines.{outline_of, outline_after}
use Rattle.front_core.specs.Rows.{ObjectRow, row_at_instant}

part_outline : (o : Object) (d : Delta) → outline_of (after o d) ≡ outline_after (outline_of o) d
part_outline o DeleteObject = refl
part_outline o (RecreateObject p) = refl
part_outline object.Dead (AddLabel name) = refl
part_outline (object.Vertex r) (AddLabel name) = refl
part_outline (object.Edge r) (AddLabel name) = refl
part_outline object.Dead (RemoveLabel name) = refl
part_outline (object.Vertex r) (RemoveLabel name) = refl
part_outline (object.Edge r) (RemoveLabel name) = refl
part_outline object.Dead (SetProperty s) = refl
part_outline (object.Vertex r) (SetProperty s) = refl
part_outline (object.Edge r) (SetProperty s) = refl
part_outline object.Dead (AddInEdge e) = refl
part_outline (object.Vertex r) (AddInEdge e) = refl
part_outline (object.Edge r) (AddInEdge e) = refl
part_outline object.Dead (AddOutEdge e) = refl
part_outline (object.Vertex r) (AddOutEdge e) = refl
part_outline (object.Edge r) (AddOutEdge e) = refl
part_outline object.Dead (RemoveInEdge e) = refl
part_outline (object.Vertex r) (RemoveInEdge e) = refl
part_outline (object.Edge r) (RemoveInEdge e) = refl
part_outline object.Dead (RemoveOutEdge e) = refl
part_outline (object.Vertex r) (RemoveOutEdge e) = refl
part_outline (object.Edge r) (RemoveOutEdge e) = refl

undone_outline : (o : Object) (ds : List Delta) → outline_of (undone after o ds) ≡ fold outline_after (outline_of o) ds
undone_outline o [] = refl
undone_outline o (d ∷ ds) = undone_outline (after o d) ds ∙ ap (λ outline. fold outline_after outline ds) (part_outline o d)

map_take : {A B : Type 0} (f : A → B) (n : ℕ) (xs : List A) → map f (take n xs) ≡ take n (map f xs)
map_take f n xs = sym (take-map f n xs)

-- what the deltas since an instant make of the newest object's outline
pub instant_outline : (t n : ℕ) (r : ObjectRow) → take n r.chain ≡ filter (is_after t) r.chain →
    fold outline_after (outline_of r.newest) (take n (deltas_of r.chain)) ≡ outline_of (row_at_instant t r)
instant_outline t n r first =
    ap (fold outline_after (outline_of r.newest)) (sym (map_take (λ e. e.delta) n r.chain) ∙ ap deltas_of first)
    ∙ sym (undone_outline r.newest (deltas_of (filter (is_after t) r.chain)))

pub one_more : (o : Object) (i : ℕ) (ds : List Delta) (d : Delta) → slice_get ds i ≡ Some d →
    outline_after (fold outline_after (outline_of o) (take i ds)) d ≡ fold outline_after (outline_of o) (take (i + 1) ds)
one_more o i ds d at =
    let below = slice_get_within ds i d at in
    let more : take (i + 1) ds ≡ take i ds ++ d ∷ [] = take_more ds i d below ∙ ap (λ e. take i ds ++ e ∷ []) (get_or_from_slice_get ds i d d at) in
    sym (ap (fold outline_after (outline_of o)) more ∙ fold-append outline_after (outline_of o) (take i ds) (d ∷ []))

-- IN A BLOCK

later_more : (t i : ℕ) (ds : List (Dated Delta)) (d : Dated Delta) → slice_get ds i ≡ Some d → later t (take (i + 1) ds) ≡ later t (take i ds) ++ later t (d ∷ [])
later_more t i ds d at =
    let below = slice_get_within ds i d at in
    ap (later t) (take_more ds i d below ∙ ap (λ e. take i ds ++ e ∷ []) (get_or_from_slice_get ds i d d at))
    ∙ filter-append (λ e. nat_lt t e.ts) (take i ds) (d ∷ [])

-- one delta more was looked at, which is undone where it is later
pub looked_further : (o : Object) (t i : ℕ) (ds : List (Dated Delta)) (d : Dated Delta) (b : Bool) → slice_get ds i ≡ Some d → nat_lt t d.ts ≡ b →
    outline_of (undone after o (dated_deltas (later t (take (i + 1) ds)))) ≡ cond b (outline_after (outline_of (undone after o (dated_deltas (later t (take i ds))))) d.delta) (outline_of (undone after o (dated_deltas (later t (take i ds)))))
looked_further o t i ds d b at test =
    ap (λ es. outline_of (undone after o (dated_deltas es))) (later_more t i ds d at ∙ ap (λ c. later t (take i ds) ++ cond c (d ∷ []) []) test)
    ∙ by_test b
  where
    by_test : (c : Bool) → outline_of (undone after o (dated_deltas (later t (take i ds) ++ cond c (d ∷ []) []))) ≡ cond c (outline_after (outline_of (undone after o (dated_deltas (later t (take i ds))))) d.delta) (outline_of (undone after o (dated_deltas (later t (take i ds)))))
    by_test true = ap outline_of (undone-append after o (later t (take i ds)) (d ∷ [])) ∙ part_outline (undone after o (dated_deltas (later t (take i ds)))) d.delta
    by_test false = ap (λ es. outline_of (undone after o (dated_deltas es))) (append-nil (later t (take i ds)))
