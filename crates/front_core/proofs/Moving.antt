-- A history that is put in its place stands there and the others stay; an empty one more changes none.
use Rattle.std.proofs.Common.{◌≡◌, ◌≢◌, ℕ, zero, suc, ◌+◌, ◌-◌, ◌<◌, ◌≤◌, List, [], ◌∷◌, ◌++◌, Bool, true, false, cond, length, set, get_or, sym, ap, refl, ◌∙◌, arith}
use Rattle.std.specs.Prelude.{nat_eq, nat_lt}
use Rattle.std.proofs.lemmas.Bool.Decides.{nat_tests}
use Rattle.std.proofs.lemmas.List.{get_or-set_same, get_or-set_other, get_or-append_right, get_or_append_left, get_or_past}
use Rattle.std.proofs.lemmas.Option.{unwrap_or-slice_get}
use Rattle.graph_value.specs.declared.id.Oid.{Oid}
use Rattle.graph_value.specs.declared.id.Oid.TheVariants.{Vertex, Edge}
use Rattle.graph_record.specs.declared.object.Object.{Object}
use Rattle.undo_delta.specs.Touch.{same_oid}
use Rattle.undo_delta.specs.declared.delta.Delta.{Delta}
use Rattle.history_keeper.specs.Rows.{RowParts, empty_row, row_of}
use Rattle.front_core.specs.History.{NumberedHistories, IsMoved, history_of}
use Rattle.front_core.specs.Histories.{Moved, Unchanged, history_at}
use Rattle.front_core.specs.declared.histories.Histories.{Histories}

abbrev History : Type 0
History = RowParts Object Delta

row_is : (rows : List History) (i : ℕ) → row_of rows i ≡ get_or rows i empty_row
row_is rows i = unwrap_or-slice_get rows i empty_row

number : (a b : ℕ) → nat_eq a b ≡ true → a ≡ b
number a b h = grind (arith, nat_tests)

reached : (a f : ℕ) → nat_lt a f ≡ false → f ≤ a
reached a f h = grind (arith, nat_tests)

module _ (first : ℕ) (rows : List History) (row n : ℕ) (r : History) (placed : n ≡ first + row) (within : row < length rows) (m : ℕ) where
  same_place : nat_eq m n ≡ true → row_of (set rows row r) (m - first) ≡ r
  same_place same =
      let is : m ≡ n = number m n same in
      let here : m - first ≡ row = omega (arith, is, placed) in
      row_is (set rows row r) (m - first) ∙ ap (λ i. get_or (set rows row r) i empty_row) here ∙ get_or-set_same rows row r empty_row within

  other_place : first ≤ m → nat_eq m n ≡ false → row_of (set rows row r) (m - first) ≡ row_of rows (m - first)
  other_place from other =
      row_is (set rows row r) (m - first)
      ∙ get_or-set_other rows row (m - first) r empty_row (differ m n first row from placed other)
      ∙ sym (row_is rows (m - first))
    where
      differ : (a b f k : ℕ) → f ≤ a → b ≡ f + k → nat_eq a b ≡ false → (a - f) ≢ k
      differ a b f k fa is h = grind (arith, nat_tests)

  by_place : (c : Bool) → nat_eq m n ≡ c → first ≤ m → row_of (set rows row r) (m - first) ≡ cond c r (row_of rows (m - first))
  by_place true same from = same_place same
  by_place false other from = other_place from other

  by_range : (b : Bool) → nat_lt m first ≡ b → cond b empty_row (row_of (set rows row r) (m - first)) ≡ cond (nat_eq m n) r (cond b empty_row (row_of rows (m - first)))
  by_range true below = sym (ap (λ c. cond c r empty_row) (apart m n first row placed below))
    where
      apart : (a b f k : ℕ) → b ≡ f + k → nat_lt a f ≡ true → nat_eq a b ≡ false
      apart a b f k is h = grind (arith, nat_tests)
  by_range false above = by_place (nat_eq m n) refl (reached m first above)

-- the history of the number is the new one, and all others stay
pub moved : (first : ℕ) (rows : List History) (row n : ℕ) (r : History) → n ≡ first + row → row < length rows → IsMoved (record { first = first; rows = rows }) (record { first = first; rows = set rows row r }) n r
moved first rows row n r placed within m = by_range first rows row n r placed within m (nat_lt m first) refl

abbrev bare : History
bare = empty_row

only : (k : ℕ) → get_or (bare ∷ []) k bare ≡ bare
only zero = refl
only (suc k) = refl

-- a row more is an empty history, as where there is none
longer_row : (rows : List History) (i : ℕ) → row_of (rows ++ bare ∷ []) i ≡ row_of rows i
longer_row rows i = row_is (rows ++ bare ∷ []) i ∙ by_test (nat_lt i (length rows)) refl ∙ sym (row_is rows i)
  where
    within : (a b : ℕ) → nat_lt a b ≡ true → a < b
    within a b h = grind (arith, nat_tests)

    by_test : (b : Bool) → nat_lt i (length rows) ≡ b → get_or (rows ++ bare ∷ []) i bare ≡ get_or rows i bare
    by_test true e = get_or_append_left rows (bare ∷ []) bare i (within i (length rows) e)
    by_test false e =
        get_or-append_right rows (bare ∷ []) (length rows) i bare refl (reached i (length rows) e)
        ∙ only (i - length rows)
        ∙ sym (get_or_past rows i bare (reached i (length rows) e))

pub longer : (first : ℕ) (rows : List History) (m : ℕ) → history_of (record { first = first; rows = rows ++ empty_row ∷ [] }) m ≡ history_of (record { first = first; rows = rows }) m
longer first rows m = ap (cond (nat_lt m first) empty_row) (longer_row rows (m - first))

-- OF BOTH KINDS

module _ (h : Histories) (now : NumberedHistories) where
  abbrev with_vertices : Histories
  with_vertices = record { interval = h.interval; vertices = now; edges = h.edges }

  abbrev with_edges : Histories
  with_edges = record { interval = h.interval; vertices = h.vertices; edges = now }

  pub moved_vertex : (v : ℕ) (r : History) → IsMoved h.vertices now v r → now.first ≡ h.vertices.first → Moved h with_vertices (Vertex (record { 0 = v })) r
  moved_vertex v r is first = record { rows = by_kind; base = record { interval = refl; vertices = first; edges = refl } }
    where
      by_kind : (y : Oid) → history_at with_vertices y ≡ cond (same_oid y (Vertex (record { 0 = v }))) r (history_at h y)
      by_kind (Vertex u) = is u.0
      by_kind (Edge e) = refl

  pub moved_edge : (e : ℕ) (r : History) → IsMoved h.edges now e r → now.first ≡ h.edges.first → Moved h with_edges (Edge (record { 0 = e })) r
  moved_edge e r is first = record { rows = by_kind; base = record { interval = refl; vertices = refl; edges = first } }
    where
      by_kind : (y : Oid) → history_at with_edges y ≡ cond (same_oid y (Edge (record { 0 = e }))) r (history_at h y)
      by_kind (Vertex u) = refl
      by_kind (Edge f) = is f.0

  pub same_vertices : ((m : ℕ) → history_of now m ≡ history_of h.vertices m) → now.first ≡ h.vertices.first → Unchanged h with_vertices
  same_vertices same first = record { rows = by_kind; base = record { interval = refl; vertices = first; edges = refl } }
    where
      by_kind : (y : Oid) → history_at with_vertices y ≡ history_at h y
      by_kind (Vertex u) = same u.0
      by_kind (Edge e) = refl

  pub same_edges : ((m : ℕ) → history_of now m ≡ history_of h.edges m) → now.first ≡ h.edges.first → Unchanged h with_edges
  same_edges same first = record { rows = by_kind; base = record { interval = refl; vertices = refl; edges = first } }
    where
      by_kind : (y : Oid) → history_at with_edges y ≡ history_at h y
      by_kind (Vertex u) = refl
      by_kind (Edge f) = same f.0
