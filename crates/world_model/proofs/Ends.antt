-- One end of the edges: which edges a vertex lists, and which vertex an edge names. There are two such ends.
use Rattle.std.proofs.Common.{◌≡◌, ℕ, List, [], ◌∷◌, Bool, true, false, not, ◌&&◌, ◌||◌, refl, sym, ap, ◌∙◌, arith}
use Rattle.std.specs.Prelude.{nat_eq}
use Rattle.std.proofs.lemmas.Bool.{false≢true}
use Rattle.std.proofs.lemmas.Bool.Decides.{nat_tests}
use Rattle.graph_value.specs.declared.value.Value.{Value}
use Rattle.graph_value.specs.declared.id.VertexId.{VertexId}
use Rattle.graph_value.specs.declared.id.EdgeId.{EdgeId}
use Rattle.graph_record.specs.declared.object.Object.{Object}
use Rattle.graph_record.specs.declared.object.Object.TheVariants as object
use Rattle.graph_record.specs.Record.{empty_vertex}
use Rattle.graph_record.specs.Graph.{is_dead, is_listed, is_named}
use Rattle.undo_delta.specs.Apply.{on_vertex, with_property}
use Rattle.undo_delta.specs.Change as one
use Rattle.graph_record.specs.declared.object.VertexRecord.{VertexRecord}
use Rattle.graph_record.specs.declared.object.EdgeRecord.{EdgeRecord}
use Rattle.undo_delta.specs.Change.{changed, new_edge, linked, unlinked, is_vertex, is_without_edges, goes_between}
use Rattle.world_model.proofs.EdgeLists.{lists, lists_added, lists_removed}
use Rattle.world_model.proofs.Folds.{and_left_true, and_right_true}

pub record Side : Type 0 where
  -- what the vertex lists, and what the edge names
  pub listed : EdgeId → Object → Bool
  pub names : VertexId → Object → Bool
  -- which end of a new or a deleted edge this side is
  pub here : VertexId → VertexId → VertexId → Bool
  pub dead_lists : (e : EdgeId) (o : Object) → is_dead o ≡ true → listed e o ≡ false
  pub new_lists : (e : EdgeId) → listed e (object.Vertex empty_vertex) ≡ false
  pub bare_lists : (e : EdgeId) (o : Object) → is_without_edges o ≡ true → listed e o ≡ false
  pub labels_kept : (e : EdgeId) (f : List (List ℕ) → List (List ℕ)) (o : Object) → listed e (on_vertex (λ r. record r { labels = f r.labels }) o) ≡ listed e o
  pub property_lists : (e : EdgeId) (k : List ℕ) (x : Value) (o : Object) → listed e (with_property k x o) ≡ listed e o
  pub property_names : (v : VertexId) (k : List ℕ) (x : Value) (o : Object) → names v (with_property k x o) ≡ names v o
  pub dead_names : (v : VertexId) (o : Object) → is_dead o ≡ true → names v o ≡ false
  -- another edge stays where it was
  pub link_other : (e f : EdgeId) (v from to : VertexId) (o : Object) → nat_eq e.0 f.0 ≡ false → listed e (linked (nat_eq v.0 from.0) (nat_eq v.0 to.0) f o) ≡ listed e o
  pub unlink_other : (e f : EdgeId) (v from to : VertexId) (o : Object) → nat_eq e.0 f.0 ≡ false → listed e (unlinked (nat_eq v.0 from.0) (nat_eq v.0 to.0) f o) ≡ listed e o
  -- a new edge stands at its ends, and a deleted one nowhere
  pub link_here : (e : EdgeId) (v from to : VertexId) (o : Object) → is_vertex o ≡ true → listed e o ≡ false → listed e (linked (nat_eq v.0 from.0) (nat_eq v.0 to.0) e o) ≡ here v from to
  pub unlink_here : (e : EdgeId) (v from to : VertexId) (o : Object) → (here v from to ≡ false → listed e o ≡ false) → listed e (unlinked (nat_eq v.0 from.0) (nat_eq v.0 to.0) e o) ≡ false
  pub new_names : (v from to : VertexId) (kind : List ℕ) → names v (object.Edge (new_edge kind from to)) ≡ here v from to
  pub between_names : (v from to : VertexId) (o : Object) → goes_between from to o ≡ true → names v o ≡ here v from to
  pub here_touched : (v from to : VertexId) → (nat_eq v.0 from.0 || nat_eq v.0 to.0) ≡ false → here v from to ≡ false

pub through : (a b n : ℕ) → nat_eq a b ≡ true → nat_eq a n ≡ nat_eq n b
through a b n e = grind (arith, nat_tests)

pub number_of : (a b : ℕ) → nat_eq a b ≡ nat_eq b a
number_of a b = grind (arith, nat_tests)

-- which end: true for the vertex that an edge comes from, false for the one that it goes to
abbrev pub edges_at : Bool → VertexRecord → List EdgeId
edges_at true = λ r. r.outs
edges_at false = λ r. r.ins

abbrev pub vertex_at : Bool → EdgeRecord → VertexId
vertex_at true = λ r. r.from
vertex_at false = λ r. r.to

abbrev pub at_end : {A : Type 0} → Bool → A → A → A
at_end true from to = from
at_end false from to = to

pub listed_linked : (end leaves comes : Bool) (e f : EdgeId) (o : Object) → is_vertex o ≡ true →
    is_listed (edges_at end) e (linked leaves comes f o) ≡ ((at_end end leaves comes && nat_eq f.0 e.0) || is_listed (edges_at end) e o)
listed_linked end leaves comes e f object.Dead h = absurd (false≢true h)
listed_linked end leaves comes e f (object.Edge r) h = absurd (false≢true h)
listed_linked true true true e f (object.Vertex r) h = lists_added e f r.outs
listed_linked true true false e f (object.Vertex r) h = lists_added e f r.outs
listed_linked true false true e f (object.Vertex r) h = refl
listed_linked true false false e f (object.Vertex r) h = refl
listed_linked false true true e f (object.Vertex r) h = lists_added e f r.ins
listed_linked false true false e f (object.Vertex r) h = refl
listed_linked false false true e f (object.Vertex r) h = lists_added e f r.ins
listed_linked false false false e f (object.Vertex r) h = refl

never : (b : Bool) → false ≡ (not b && false)
never true = refl
never false = refl

pub listed_unlinked : (end leaves comes : Bool) (e f : EdgeId) (o : Object) →
    is_listed (edges_at end) e (unlinked leaves comes f o) ≡ (not (at_end end leaves comes && nat_eq f.0 e.0) && is_listed (edges_at end) e o)
listed_unlinked end true true e f object.Dead = never (at_end end true true && nat_eq f.0 e.0)
listed_unlinked end true false e f object.Dead = never (at_end end true false && nat_eq f.0 e.0)
listed_unlinked end false true e f object.Dead = never (at_end end false true && nat_eq f.0 e.0)
listed_unlinked end false false e f object.Dead = never (at_end end false false && nat_eq f.0 e.0)
listed_unlinked end true true e f (object.Edge r) = never (at_end end true true && nat_eq f.0 e.0)
listed_unlinked end true false e f (object.Edge r) = never (at_end end true false && nat_eq f.0 e.0)
listed_unlinked end false true e f (object.Edge r) = never (at_end end false true && nat_eq f.0 e.0)
listed_unlinked end false false e f (object.Edge r) = never (at_end end false false && nat_eq f.0 e.0)
listed_unlinked true true true e f (object.Vertex r) = lists_removed e f r.outs
listed_unlinked true true false e f (object.Vertex r) = lists_removed e f r.outs
listed_unlinked true false true e f (object.Vertex r) = refl
listed_unlinked true false false e f (object.Vertex r) = refl
listed_unlinked false true true e f (object.Vertex r) = lists_removed e f r.ins
listed_unlinked false true false e f (object.Vertex r) = refl
listed_unlinked false false true e f (object.Vertex r) = lists_removed e f r.ins
listed_unlinked false false false e f (object.Vertex r) = refl

pub apart_and : (b c : Bool) → c ≡ false → (b && c) ≡ false
apart_and true c h = h
apart_and false c h = refl

pub no_edges : (es : List EdgeId) (e : EdgeId) → one.is_empty es ≡ true → lists e es ≡ false
no_edges [] e h = refl
no_edges (f ∷ es) e h = absurd (false≢true h)

pub number_apart : (e f : EdgeId) → nat_eq e.0 f.0 ≡ false → nat_eq f.0 e.0 ≡ false
number_apart e f h = sym (number_of e.0 f.0) ∙ h

pub itself : (n : ℕ) → nat_eq n n ≡ true
itself n = grind (arith, nat_tests)

pub and_true : (b : Bool) → ((b && true) || false) ≡ b
and_true true = refl
and_true false = refl

pub left_false : (a b : Bool) → (a || b) ≡ false → a ≡ false
left_false true b h = h
left_false false b h = refl

pub right_false : (a b : Bool) → (a || b) ≡ false → b ≡ false
right_false true b h = absurd (false≢true (sym h))
right_false false b h = h

-- an edge that is taken out of a list where it stands, or stood in none
pub taken_out : (a b : Bool) → (a ≡ false → b ≡ false) → (not (a && true) && b) ≡ false
taken_out true b h = refl
taken_out false b h = h refl

-- the edges at one end of their vertices
unfoldable pub side : Bool → Side
side end = record {
  listed = is_listed (edges_at end);
  names = is_named (vertex_at end);
  here = λ v from to. at_end end (nat_eq v.0 from.0) (nat_eq v.0 to.0);
  dead_lists = dead_lists;
  new_lists = new_lists end;
  bare_lists = bare_lists end;
  labels_kept = labels_kept end;
  property_lists = property_lists end;
  property_names = property_names end;
  dead_names = dead_names;
  link_other = λ e f v from to o apart. link_apart e f (nat_eq v.0 from.0) (nat_eq v.0 to.0) o (number_apart e f apart);
  unlink_other = λ e f v from to o apart.
      listed_unlinked end (nat_eq v.0 from.0) (nat_eq v.0 to.0) e f o
      ∙ ap (λ b. not b && is_listed (edges_at end) e o) (apart_and (at_end end (nat_eq v.0 from.0) (nat_eq v.0 to.0)) (nat_eq f.0 e.0) (number_apart e f apart));
  link_here = λ e v from to o alive unlisted.
      listed_linked end (nat_eq v.0 from.0) (nat_eq v.0 to.0) e e o alive
      ∙ ap (λ b. (at_end end (nat_eq v.0 from.0) (nat_eq v.0 to.0) && b) || is_listed (edges_at end) e o) (itself e.0)
      ∙ ap (λ b. (at_end end (nat_eq v.0 from.0) (nat_eq v.0 to.0) && true) || b) unlisted ∙ and_true (at_end end (nat_eq v.0 from.0) (nat_eq v.0 to.0));
  unlink_here = λ e v from to o away.
      listed_unlinked end (nat_eq v.0 from.0) (nat_eq v.0 to.0) e e o
      ∙ ap (λ b. not (at_end end (nat_eq v.0 from.0) (nat_eq v.0 to.0) && b) && is_listed (edges_at end) e o) (itself e.0)
      ∙ taken_out (at_end end (nat_eq v.0 from.0) (nat_eq v.0 to.0)) (is_listed (edges_at end) e o) away;
  new_names = new_names end;
  between_names = between_names end;
  here_touched = here_touched end;
}
  where
    dead_lists : (e : EdgeId) (o : Object) → is_dead o ≡ true → is_listed (edges_at end) e o ≡ false
    dead_lists e object.Dead h = refl
    dead_lists e (object.Vertex r) h = absurd (false≢true h)
    dead_lists e (object.Edge r) h = refl

    dead_names : (v : VertexId) (o : Object) → is_dead o ≡ true → is_named (vertex_at end) v o ≡ false
    dead_names v object.Dead h = refl
    dead_names v (object.Vertex r) h = refl
    dead_names v (object.Edge r) h = absurd (false≢true h)

    new_lists : (end : Bool) (e : EdgeId) → is_listed (edges_at end) e (object.Vertex empty_vertex) ≡ false
    new_lists true e = refl
    new_lists false e = refl

    bare_lists : (end : Bool) (e : EdgeId) (o : Object) → is_without_edges o ≡ true → is_listed (edges_at end) e o ≡ false
    bare_lists end e object.Dead h = refl
    bare_lists true e (object.Vertex r) h = no_edges r.outs e (and_left_true _ _ h)
    bare_lists false e (object.Vertex r) h = no_edges r.ins e (and_right_true (one.is_empty r.outs) _ h)
    bare_lists end e (object.Edge r) h = refl

    labels_kept : (end : Bool) (e : EdgeId) (f : List (List ℕ) → List (List ℕ)) (o : Object) →
        is_listed (edges_at end) e (on_vertex (λ r. record r { labels = f r.labels }) o) ≡ is_listed (edges_at end) e o
    labels_kept end e f object.Dead = refl
    labels_kept true e f (object.Vertex r) = refl
    labels_kept false e f (object.Vertex r) = refl
    labels_kept end e f (object.Edge r) = refl

    property_lists : (end : Bool) (e : EdgeId) (k : List ℕ) (x : Value) (o : Object) → is_listed (edges_at end) e (with_property k x o) ≡ is_listed (edges_at end) e o
    property_lists end e k x object.Dead = refl
    property_lists true e k x (object.Vertex r) = refl
    property_lists false e k x (object.Vertex r) = refl
    property_lists end e k x (object.Edge r) = refl

    property_names : (end : Bool) (v : VertexId) (k : List ℕ) (x : Value) (o : Object) → is_named (vertex_at end) v (with_property k x o) ≡ is_named (vertex_at end) v o
    property_names end v k x object.Dead = refl
    property_names end v k x (object.Vertex r) = refl
    property_names true v k x (object.Edge r) = refl
    property_names false v k x (object.Edge r) = refl

    new_names : (end : Bool) (v from to : VertexId) (kind : List ℕ) →
        is_named (vertex_at end) v (object.Edge (new_edge kind from to)) ≡ at_end end (nat_eq v.0 from.0) (nat_eq v.0 to.0)
    new_names true v from to kind = number_of from.0 v.0
    new_names false v from to kind = number_of to.0 v.0

    between_names : (end : Bool) (v from to : VertexId) (o : Object) → goes_between from to o ≡ true →
        is_named (vertex_at end) v o ≡ at_end end (nat_eq v.0 from.0) (nat_eq v.0 to.0)
    between_names end v from to object.Dead h = absurd (false≢true h)
    between_names end v from to (object.Vertex r) h = absurd (false≢true h)
    between_names true v from to (object.Edge r) h = through r.from.0 from.0 v.0 (and_left_true _ _ h)
    between_names false v from to (object.Edge r) h = through r.to.0 to.0 v.0 (and_right_true (nat_eq r.from.0 from.0) _ h)

    here_touched : (end : Bool) (v from to : VertexId) → (nat_eq v.0 from.0 || nat_eq v.0 to.0) ≡ false → at_end end (nat_eq v.0 from.0) (nat_eq v.0 to.0) ≡ false
    here_touched true v from to h = left_false _ _ h
    here_touched false v from to h = right_false (nat_eq v.0 from.0) _ h

    link_apart : (e f : EdgeId) (a b : Bool) (o : Object) → nat_eq f.0 e.0 ≡ false → is_listed (edges_at end) e (linked a b f o) ≡ is_listed (edges_at end) e o
    link_apart e f a b (object.Vertex r) apart =
        listed_linked end a b e f (object.Vertex r) refl ∙ ap (λ c. c || is_listed (edges_at end) e (object.Vertex r)) (apart_and (at_end end a b) (nat_eq f.0 e.0) apart)
    link_apart e f true true object.Dead apart = refl
    link_apart e f true false object.Dead apart = refl
    link_apart e f false true object.Dead apart = refl
    link_apart e f false false object.Dead apart = refl
    link_apart e f true true (object.Edge r) apart = refl
    link_apart e f true false (object.Edge r) apart = refl
    link_apart e f false true (object.Edge r) apart = refl
    link_apart e f false false (object.Edge r) apart = refl
