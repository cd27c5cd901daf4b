-- A row that is put into a table stands there, and the others stay.
use Rattle.std.proofs.Common.{◌≡◌, ◌≢◌, ℕ, ◌+◌, ◌-◌, ◌<◌, ◌≤◌, Bool, true, false, cond, length, set, get_or, sym, ap, refl, ◌∙◌, arith}
use Rattle.std.specs.Prelude.{nat_eq, nat_lt}
use Rattle.std.proofs.lemmas.Bool.Decides.{nat_tests}
use Rattle.std.proofs.lemmas.List.{get_or-set_same, get_or-set_other, length-set}
use Rattle.front_core.specs.Rows.{ObjectRow, no_row}
use Rattle.front_core.specs.Objects.{SameNumbers}
use Rattle.front_core.specs.Tables.{Numbered, HasRow, row_of, with_row, next_of}

-- the row of a number, once it is known whether the numbers begin past it
seen_by : Bool → Numbered → ℕ → ObjectRow
seen_by b t m = cond b no_row (get_or t.rows (m - t.first) no_row)

put_in : Bool → Numbered → ℕ → ObjectRow → Numbered
put_in b t n r = cond b t (record t { rows = set t.rows (n - t.first) r })

no_less : (n first : ℕ) → first ≤ n → nat_lt n first ≡ false
no_less n first le = grind (arith, nat_tests)

module _ (t : Numbered) (n m : ℕ) (r : ObjectRow) (has : HasRow t n) where
  -- at the number itself, and at another one
  same_place : nat_eq m n ≡ true → get_or (set t.rows (n - t.first) r) (m - t.first) no_row ≡ r
  same_place same =
      let is : m - t.first ≡ n - t.first = ap (λ k. k - t.first) (number m n same) in
      ap (λ k. get_or (set t.rows (n - t.first) r) k no_row) is ∙ get_or-set_same t.rows (n - t.first) r no_row (omega (arith, has.0, has.1))
    where
      number : (a b : ℕ) → nat_eq a b ≡ true → a ≡ b
      number a b h = grind (arith, nat_tests)

  other_place : t.first ≤ m → nat_eq m n ≡ false → get_or (set t.rows (n - t.first) r) (m - t.first) no_row ≡ get_or t.rows (m - t.first) no_row
  other_place from other = get_or-set_other t.rows (n - t.first) (m - t.first) r no_row (differ m n t.first from has.0 other)
    where
      differ : (a b f : ℕ) → f ≤ a → f ≤ b → nat_eq a b ≡ false → (a - f) ≢ (b - f)
      differ a b f fa fb h = grind (arith, nat_tests)

  by_place : (c : Bool) → nat_eq m n ≡ c → t.first ≤ m → get_or (set t.rows (n - t.first) r) (m - t.first) no_row ≡ cond c r (get_or t.rows (m - t.first) no_row)
  by_place true same from = same_place same
  by_place false other from = other_place from other

  by_range : (b : Bool) → nat_lt m t.first ≡ b → cond b no_row (get_or (set t.rows (n - t.first) r) (m - t.first) no_row) ≡ cond (nat_eq m n) r (cond b no_row (get_or t.rows (m - t.first) no_row))
  by_range true below = sym (ap (λ c. cond c r no_row) (apart m n t.first has.0 below))
    where
      apart : (a b f : ℕ) → f ≤ b → nat_lt a f ≡ true → nat_eq a b ≡ false
      apart a b f fb h = grind (arith, nat_tests)
  by_range false above = by_place (nat_eq m n) refl (reached m t.first above)
    where
      reached : (a f : ℕ) → nat_lt a f ≡ false → f ≤ a
      reached a f h = grind (arith, nat_tests)

  pub row_with : row_of (with_row t n r) m ≡ cond (nat_eq m n) r (row_of t m)
  unfolding put_in
  row_with = ap (λ b. row_of (put_in b t n r) m) (no_less n t.first has.0) ∙ by_range (nat_lt m t.first) refl

pub other_row : (t : Numbered) (n m : ℕ) (r : ObjectRow) → HasRow t n → n ≢ m → row_of (with_row t n r) m ≡ row_of t m
other_row t n m r has ne = row_with t n m r has ∙ ap (λ b. cond b r (row_of t m)) (differ m n ne)
  where
    differ : (a b : ℕ) → b ≢ a → nat_eq a b ≡ false
    differ a b ne = grind (arith, nat_tests, ne)

pub same_with : (t : Numbered) (n : ℕ) (r : ObjectRow) → HasRow t n → SameNumbers t (with_row t n r)
unfolding put_in
same_with t n r has = record {
  first = ap (λ b. (put_in b t n r).first) (no_less n t.first has.0);
  count = ap (λ b. length (put_in b t n r).rows) (no_less n t.first has.0) ∙ length-set t.rows (n - t.first) r;
}

-- rows for the same numbers
pub has_same : (s t : Numbered) (m : ℕ) → SameNumbers s t → HasRow s m → HasRow t m
has_same s t m same has = (omega (arith, same.first, has.0), omega (arith, same.first, same.count, has.1))

pub same_then : (s t u : Numbered) → SameNumbers s t → SameNumbers t u → SameNumbers s u
same_then s t u a b = record { first = b.first ∙ a.first; count = b.count ∙ a.count }

-- A row that was taken out and put back changed.
pub put_back : (t : Numbered) (n m : ℕ) (r : ObjectRow) → HasRow t n → row_of (with_row (with_row t n no_row) n r) m ≡ cond (nat_eq m n) r (row_of t m)
put_back t n m r has =
    row_with (with_row t n no_row) n m r (has_same t (with_row t n no_row) n (same_with t n no_row has) has)
    ∙ ap (cond (nat_eq m n) r) (row_with t n m no_row has)
    ∙ once (nat_eq m n)
  where
    once : (b : Bool) → cond b r (cond b no_row (row_of t m)) ≡ cond b r (row_of t m)
    once true = refl
    once false = refl

pub same_back : (t : Numbered) (n : ℕ) (r : ObjectRow) → HasRow t n → SameNumbers t (with_row (with_row t n no_row) n r)
same_back t n r has =
    let first = same_with t n no_row has in
    same_then t (with_row t n no_row) _ first (same_with (with_row t n no_row) n r (has_same t _ n first has))

-- Two rows that were taken out and put back changed.
abbrev pub both_out : Numbered → ℕ → ℕ → Numbered
both_out t a b = with_row (with_row t a no_row) b no_row

abbrev pub both_back : Numbered → ℕ → ℕ → ObjectRow → ObjectRow → Numbered
both_back t a b ra rb = with_row (with_row (both_out t a b) a ra) b rb

module _ (t : Numbered) (a b : ℕ) (ra rb : ObjectRow) (has_a : HasRow t a) (has_b : HasRow t b) where
  out_a : SameNumbers t (with_row t a no_row)
  out_a = same_with t a no_row has_a

  pub out_both : SameNumbers t (both_out t a b)
  out_both = same_then t (with_row t a no_row) _ out_a (same_with (with_row t a no_row) b no_row (has_same t _ b out_a has_b))

  pub back_a : SameNumbers t (with_row (both_out t a b) a ra)
  back_a = same_then t (both_out t a b) _ out_both (same_with (both_out t a b) a ra (has_same t _ a out_both has_a))

  pub same_both : SameNumbers t (both_back t a b ra rb)
  same_both = same_then t (with_row (both_out t a b) a ra) _ back_a (same_with (with_row (both_out t a b) a ra) b rb (has_same t _ b back_a has_b))

  pub both_put : (m : ℕ) → row_of (both_back t a b ra rb) m ≡ cond (nat_eq m b) rb (cond (nat_eq m a) ra (row_of t m))
  both_put m =
      row_with (with_row (both_out t a b) a ra) b m rb (has_same t _ b back_a has_b)
      ∙ ap (cond (nat_eq m b) rb) (row_with (both_out t a b) a m ra (has_same t _ a out_both has_a)
      ∙ ap (cond (nat_eq m a) ra) (row_with (with_row t a no_row) b m no_row (has_same t _ b out_a has_b)
      ∙ ap (cond (nat_eq m b) no_row) (row_with t a m no_row has_a)))
      ∙ once (nat_eq m b) (nat_eq m a)
    where
      once : (y x : Bool) → cond y rb (cond x ra (cond y no_row (cond x no_row (row_of t m)))) ≡ cond y rb (cond x ra (row_of t m))
      once true x = refl
      once false true = refl
      once false false = refl
