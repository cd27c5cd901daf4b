-- A list of rows that end, one after the other.
use Rattle.std.proofs.Common.{◌≡◌, ℕ, ◌+◌, ◌<◌, List, [], ◌∷◌, ◌++◌, Option, Some, None, Bool, true, false, ◌||◌, cond, length, take, get_or, refl, sym, ap, subst, ◌∙◌}
use Rattle.std.specs.List.{list_any}
use Rattle.std.proofs.lemmas.List.{take_more}
use Rattle.graph_value.specs.declared.id.Oid.{Oid}
use Rattle.undo_delta.specs.Touch.{same_oid}
use Rattle.world_model.proofs.Folds.{same_id}
use Rattle.front_core.specs.Objects.{Ended, Replaced, SameIds, row_at}
use Rattle.front_core.specs.Rows.{ObjectRow, aborted_as, aborted_row, committed_as, committed_row, IsStampFor, MayCommit}
use Rattle.front_core.specs.declared.objects.Objects.{Objects}
use Rattle.front_core.specs.declared.row.Writing.{Writing}

any-append : (y x : Oid) (xs : List Oid) → list_any (same_oid y) (xs ++ x ∷ []) ≡ (list_any (same_oid y) xs || same_oid y x)
any-append y x [] = or_false (same_oid y x)
  where
    or_false : (b : Bool) → (b || false) ≡ b
    or_false true = refl
    or_false false = refl
any-append y x (z ∷ xs) = ap (λ b. same_oid y z || b) (any-append y x xs) ∙ assoc (same_oid y z) (list_any (same_oid y) xs) (same_oid y x)
  where
    assoc : (a b c : Bool) → (a || (b || c)) ≡ (a || b || c)
    assoc true b c = refl
    assoc false b c = refl

pub ended_none : (o : Objects) (f : ObjectRow → ObjectRow) → SameIds o o → Ended o o f []
ended_none o f same = record { rows = λ y. refl; ids = same }

-- one more row has ended; one that ends twice is as one that ends once
pub ended_more : (old mid new : Objects) (f : ObjectRow → ObjectRow) → ((r : ObjectRow) → f (f r) ≡ f r) → (written : List Oid) (i : ℕ) (x d : Oid) → i < length written → x ≡ get_or written i d → SameIds old new →
    Ended old mid f (take i written) → Replaced mid new x (f (row_at mid x)) → Ended old new f (take (i + 1) written)
ended_more old mid new f twice written i x d below is ids before one = record {
  rows = λ y. one.rows y ∙ by_test y (same_oid y x) refl ∙ ap (λ b. cond b (f (row_at old y)) (row_at old y)) (sym (ap (list_any (same_oid y)) (take_more written i d below ∙ ap (λ z. take i written ++ z ∷ []) (sym is)) ∙ any-append y x (take i written)));
  ids = ids;
}
  where
    either : (y : Oid) (b : Bool) → f (cond b (f (row_at old y)) (row_at old y)) ≡ f (row_at old y)
    either y true = twice (row_at old y)
    either y false = refl

    by_test : (y : Oid) (t : Bool) → same_oid y x ≡ t → cond t (f (row_at mid x)) (row_at mid y) ≡ cond (list_any (same_oid y) (take i written) || t) (f (row_at old y)) (row_at old y)
    by_test y true h =
        ap (λ z. f (row_at mid z)) (sym (same_id y x h)) ∙ ap f (before.rows y) ∙ either y (list_any (same_oid y) (take i written))
        ∙ sym (ap (λ b. cond b (f (row_at old y)) (row_at old y)) (or_true (list_any (same_oid y) (take i written))))
      where
        or_true : (b : Bool) → (b || true) ≡ true
        or_true true = refl
        or_true false = refl
    by_test y false h =
        before.rows y ∙ sym (ap (λ b. cond b (f (row_at old y)) (row_at old y)) (or_false (list_any (same_oid y) (take i written))))
      where
        or_false : (b : Bool) → (b || false) ≡ b
        or_false true = refl
        or_false false = refl

committed_twice_as : (ts : ℕ) (r : ObjectRow) (b : Option Writing) → r.writing ≡ b → committed_row ts (committed_as ts r b) ≡ committed_as ts r b
committed_twice_as ts r None is = ap (committed_as ts r) is
committed_twice_as ts r (Some w) is = refl

pub committed_twice : (ts : ℕ) (r : ObjectRow) → committed_row ts (committed_row ts r) ≡ committed_row ts r
committed_twice ts r = committed_twice_as ts r r.writing refl

aborted_twice_as : (r : ObjectRow) (b : Option Writing) → r.writing ≡ b → aborted_row (aborted_as r b) ≡ aborted_as r b
aborted_twice_as r None is = ap (aborted_as r) is
aborted_twice_as r (Some w) is = refl

pub aborted_twice : (r : ObjectRow) → aborted_row (aborted_row r) ≡ aborted_row r
aborted_twice r = aborted_twice_as r r.writing refl

-- what has been committed may be again
committed_may_as : (ts : ℕ) (r : ObjectRow) (b : Option Writing) → r.writing ≡ b → MayCommit ts (committed_as ts r b)
committed_may_as ts r None is = subst (IsStampFor ts r) (sym is) tt
committed_may_as ts r (Some w) is = tt

pub committed_may : (ts : ℕ) (r : ObjectRow) → MayCommit ts (committed_row ts r)
committed_may ts r = committed_may_as ts r r.writing refl

pub replaced_may : (ts : ℕ) (old new : Objects) (x : Oid) → Replaced old new x (committed_row ts (row_at old x)) → ((y : Oid) → MayCommit ts (row_at old y)) → (y : Oid) → MayCommit ts (row_at new y)
replaced_may ts old new x one may y = subst (MayCommit ts) (sym (one.rows y)) (by_test (same_oid y x))
  where
    by_test : (b : Bool) → MayCommit ts (cond b (committed_row ts (row_at old x)) (row_at old y))
    by_test true = committed_may ts (row_at old x)
    by_test false = may y
