-- One more object is looked at, of a list in which each is kept at its first place.
use Rattle.std.proofs.Common.{◌≡◌, Bool, true, false, cond, not, List, [], ◌∷◌, ◌++◌, refl, append_assoc}
use Rattle.std.specs.List.{list_any}
use Rattle.graph_value.specs.declared.id.Oid.{Oid}
use Rattle.indexmap.specs.IndexSet.{insert_key}
use Rattle.write_ops.specs.Deleting.{firsts_on, same}

new_at : (b : Bool) (known kept xs : List Oid) (x : Oid) → not b ≡ true
    → (kept ++ x ∷ []) ++ firsts_on (cond b known (known ++ x ∷ [])) xs ≡ kept ++ cond b (firsts_on known xs) (x ∷ firsts_on (known ++ x ∷ []) xs)
new_at true known kept xs x h = absurd (let bad : false ≡ true = h in cc)
new_at false known kept xs x h = append_assoc kept (x ∷ []) (firsts_on (known ++ x ∷ []) xs)

old_at : (b : Bool) (known kept xs : List Oid) (x : Oid) → not b ≡ false
    → kept ++ firsts_on (cond b known (known ++ x ∷ [])) xs ≡ kept ++ cond b (firsts_on known xs) (x ∷ firsts_on (known ++ x ∷ []) xs)
old_at true known kept xs x h = refl
old_at false known kept xs x h = absurd (let bad : true ≡ false = h in cc)

pub new_first : (known kept xs : List Oid) (x : Oid) → not (list_any (same x) known) ≡ true
    → (kept ++ x ∷ []) ++ firsts_on (insert_key same known x) xs ≡ kept ++ firsts_on known (x ∷ xs)
new_first known kept xs x h = new_at (list_any (same x) known) known kept xs x h

pub old_first : (known kept xs : List Oid) (x : Oid) → not (list_any (same x) known) ≡ false
    → kept ++ firsts_on (insert_key same known x) xs ≡ kept ++ firsts_on known (x ∷ xs)
old_first known kept xs x h = old_at (list_any (same x) known) known kept xs x h
