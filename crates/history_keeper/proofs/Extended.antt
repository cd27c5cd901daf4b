-- What the counts are once a row was extended.
use Rattle.std.proofs.Common.{◌≡◌, ℕ, ◌+◌, ◌<◌, ◌≤◌, Bool, Option, Some, None, IfSome, List, length, get_or, set, sym, ap, subst, ◌∙◌, arith}
use Rattle.std.specs.List.{sum_by}
use Rattle.std.proofs.lemmas.List.{get_or_default, length-append}
use Rattle.std.proofs.lemmas.List.Sums.{sum_by-append, sum_by-set}
use Rattle.std.proofs.lemmas.Option.{unwrap_or-slice_get}
use Rattle.anchor_store.specs.Blocks.{BlockParts, staying}
use Rattle.history_keeper.specs.Counted.{counts_of, delta_count}
use Rattle.history_keeper.specs.Rows.{RowParts, empty_row, extended, row_of}
use Rattle.history_keeper.specs.declared.counts.Counts.{Counts}

same_counts : (a b : Counts) → a.deltas ≡ b.deltas → a.blocks ≡ b.blocks → a ≡ b
same_counts a b deltas blocks =
    ap (λ n. let c : Counts = record { deltas = n; blocks = a.blocks } in c) deltas ∙ ap (λ n. let c : Counts = record { deltas = b.deltas; blocks = n } in c) blocks

-- a part of what is counted of a row is no more than what is counted of all
pub row-le : {O D : Type 0} (f : RowParts O D → ℕ) (rows : List (RowParts O D)) (row : ℕ) → f empty_row ≡ 0 → row < length rows → f (row_of rows row) ≤ sum_by f rows
row-le f rows row none within =
    let emptied = sum_by-set f rows row empty_row empty_row within in
    let there = ap f (unwrap_or-slice_get rows row empty_row) in
    omega (arith, emptied, there, none)

sums : {O D : Type 0} (f : RowParts O D → ℕ) (rows : List (RowParts O D)) (row : ℕ) (y : RowParts O D) → row < length rows → sum_by f (set rows row y) + f (row_of rows row) ≡ sum_by f rows + f y
sums f rows row y within =
    let there = ap f (unwrap_or-slice_get rows row empty_row) in
    omega (arith, there, sum_by-set f rows row y empty_row within)

pub counts_extended : {O D : Type 0} (rows : List (RowParts O D)) (row cut : ℕ) (replaces : Bool) (added : List (BlockParts O D)) (before leaving coming counts : Counts) → row < length rows → before ≡ counts_of rows → leaving.deltas + delta_count (staying replaces (row_of rows row).blocks) ≡ delta_count (row_of rows row).blocks → leaving.blocks + length (staying replaces (row_of rows row).blocks) ≡ length (row_of rows row).blocks → coming.deltas ≡ delta_count added → coming.blocks ≡ length added → counts.deltas + leaving.deltas ≡ before.deltas + coming.deltas → counts.blocks + leaving.blocks ≡ before.blocks + coming.blocks → counts ≡ counts_of (set rows row (extended replaces added cut (row_of rows row)))
counts_extended {O} {D} rows row cut replaces added before leaving coming counts within is lds lbs cds cbs ds bs =
    let stays = staying replaces (row_of rows row).blocks in
    let y : RowParts O D = extended replaces added cut (row_of rows row) in
    let new = counts_of (set rows row y) in
    let deltas : counts.deltas ≡ new.deltas = omega (arith, ap (λ (c : Counts). c.deltas) is, sums (λ row. delta_count row.blocks) rows row y within, sum_by-append (λ (b : BlockParts O D). length b.deltas) stays added, lds, cds, ds) in
    let blocks : counts.blocks ≡ new.blocks = omega (arith, ap (λ (c : Counts). c.blocks) is, sums (λ row. length row.blocks) rows row y within, length-append stays added, lbs, cbs, bs) in
    same_counts counts new deltas blocks

-- the row of a number that was read
pub read_row : {O D : Type 0} (rows : List (RowParts O D)) (row : ℕ) (x : RowParts O D) → row < length rows → x ≡ get_or rows row x → x ≡ row_of rows row
read_row rows row x within read = read ∙ get_or_default rows row x empty_row within ∙ sym (unwrap_or-slice_get rows row empty_row)

pub counts_extended_if : {O D : Type 0} (rows : List (RowParts O D)) (row : ℕ) (x : RowParts O D) (replaces : Bool) (added : List (BlockParts O D)) (before leaving coming : Counts) (o : Option Counts) → row < length rows → x ≡ row_of rows row → before ≡ counts_of rows → leaving.deltas + delta_count (staying replaces x.blocks) ≡ delta_count x.blocks → leaving.blocks + length (staying replaces x.blocks) ≡ length x.blocks → coming.deltas ≡ delta_count added → coming.blocks ≡ length added → IfSome o (λ counts. counts.deltas + leaving.deltas ≡ before.deltas + coming.deltas) → IfSome o (λ counts. counts.blocks + leaving.blocks ≡ before.blocks + coming.blocks) → IfSome o (λ counts. (cut : ℕ) → counts ≡ counts_of (set rows row (extended replaces added cut (row_of rows row))))
counts_extended_if rows row x replaces added before leaving coming None within here is lds lbs cds cbs ds bs = tt
counts_extended_if {O} {D} rows row x replaces added before leaving coming (Some counts) within here is lds lbs cds cbs ds bs =
    let P : RowParts O D → Type 0 = λ y. leaving.deltas + delta_count (staying replaces y.blocks) ≡ delta_count y.blocks in
    let Q : RowParts O D → Type 0 = λ y. leaving.blocks + length (staying replaces y.blocks) ≡ length y.blocks in
    λ cut. counts_extended rows row cut replaces added before leaving coming counts within is (subst P here lds) (subst Q here lbs) cds cbs ds bs
