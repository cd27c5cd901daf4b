-- The list of the open transactions, after one of them has written more or has ended.
use Rattle.std.proofs.Common.{◌≡◌, ◌≢◌, ℕ, suc, zero, ◌-◌, ◌<◌, ◌==◌, List, [], ◌∷◌, ◌++◌, Option, Some, None, Bool, true, false, cond, length, map, set, get_or, take, drop, not, sym, ap, subst, refl, ◌∙◌, arith}
use Rattle.std.specs.Prelude.{nat_eq, nat_lt, option_map, IsSome, IfSome}
use Rattle.std.specs.List.{remove, prefix_len, AllPairs}
use Rattle.std.proofs.lemmas.Bool.{eqb-true}
use Rattle.std.proofs.lemmas.Bool.Decides.{nat_tests}
use Rattle.std.proofs.lemmas.List.{append-nil, append_assoc, length-append, take_at, length-set, length-map, get_or-map, map-append, take-map, drop-map}
use Rattle.std.proofs.lemmas.List.Folds.{prefix_len-set}
use Rattle.std.proofs.lemmas.List.Quantifiers.{position-Some}
use Rattle.std.proofs.Math.Seq.{map-set_same}
use Rattle.graph_value.specs.declared.id.Oid.{Oid}
use Rattle.txn_manager.proofs.RunningListLemmas.{differ-false, remove-at}
use Rattle.txn_manager.specs.RunningList.{start_of, without}
use Rattle.txn_manager.specs.declared.running.Running.{Running}
use Rattle.front_core.specs.Books.{Book, Closed, Counted, Noted, find_txn, place_in, running_of, with_deltas, with_written}
use Rattle.front_core.specs.declared.transactions.Transaction.{Transaction}

nothing : Transaction
nothing = record { caller = 0; start = 0; deltas = 0; written = [] }

number : (a b : ℕ) → (a == b) ≡ true → a ≡ b
number a b h = eqb-true a b h

both_same : (a b d : ℕ) → (a == b) ≡ false → nat_eq a d ≡ true → nat_eq b d ≡ true → ⊥
both_same a b d ne x y = grind (arith, nat_tests, ne, x, y)

other : (c d : ℕ) → nat_eq c d ≡ false → c ≢ d
other c d h = grind (arith, nat_tests)

same : (c d : ℕ) → nat_eq c d ≡ true → c ≡ d
same c d h = grind (arith, nat_tests)

-- two tests that don't both pass may be asked in either order
swap : {A : Type 0} (x y : Bool) (s t : A) (r : Option A) → (x ≡ true → y ≡ true → ⊥) → cond x (Some t) (cond y (Some s) r) ≡ cond y (Some s) (cond x (Some t) r)
swap true true s t r apart = absurd (apart refl refl)
swap true false s t r apart = refl
swap false true s t r apart = refl
swap false false s t r apart = refl

shadowed : {A : Type 0} (b : Bool) (s t r : Option A) → cond b s r ≡ cond b s (cond b t r)
shadowed true s t r = refl
shadowed false s t r = refl

-- the start in the list of times is that of the transaction
pub start_found : (c : ℕ) (ts : List Transaction) → start_of (map running_of ts) c ≡ option_map (λ t. t.start) (find_txn ts c)
start_found c [] = refl
start_found c (t ∷ ts) = ap (cond (t.caller == c) (Some t.start)) (start_found c ts) ∙ by_test (t.caller == c)
  where
    by_test : (b : Bool) → cond b (Some t.start) (option_map (λ t. t.start) (find_txn ts c)) ≡ option_map (λ t. t.start) (cond b (Some t) (find_txn ts c))
    by_test true = refl
    by_test false = refl

-- THE CALLER'S TRANSACTION IS ANOTHER

pub set_found : (c d : ℕ) (ts : List Transaction) (i : ℕ) (u e : Transaction) → i < length ts → ((get_or ts i e).caller == c) ≡ true → ((k : ℕ) → k < i → ((get_or ts k e).caller == c) ≡ false) → u.caller ≡ c →
    find_txn (set ts i u) d ≡ cond (nat_eq c d) (Some u) (find_txn ts d)
set_found c d [] i u e lt here before own = absurd (omega arith)
set_found c d (t ∷ ts) zero u e lt here before own =
    ap (λ n. cond (nat_eq n d) (Some u) (find_txn ts d)) own
    ∙ shadowed (nat_eq c d) (Some u) (Some t) (find_txn ts d)
    ∙ ap (λ n. cond (nat_eq c d) (Some u) (cond (nat_eq n d) (Some t) (find_txn ts d))) (sym (number t.caller c here))
set_found c d (t ∷ ts) (suc i) u e lt here before own =
    ap (cond (nat_eq t.caller d) (Some t)) (set_found c d ts i u e (omega arith) here (λ k below. before (suc k) (omega arith)) own)
    ∙ swap (nat_eq t.caller d) (nat_eq c d) u t (find_txn ts d) (both_same t.caller c d (before 0 (omega arith)))

-- where the caller's transaction stands it is found
pub found_at : (c : ℕ) (ts : List Transaction) (i : ℕ) (e : Transaction) → i < length ts → ((get_or ts i e).caller == c) ≡ true → ((k : ℕ) → k < i → ((get_or ts k e).caller == c) ≡ false) → find_txn ts c ≡ Some (get_or ts i e)
found_at c [] i e lt here before = absurd (omega arith)
found_at c (t ∷ ts) zero e lt here before = ap (λ b. cond b (Some t) (find_txn ts c)) here
found_at c (t ∷ ts) (suc i) e lt here before =
    ap (λ b. cond b (Some t) (find_txn ts c)) (before 0 (omega arith)) ∙ found_at c ts i e (omega arith) here (λ k below. before (suc k) (omega arith))

module _ (ts : List Transaction) (c i : ℕ) (place : place_in ts c ≡ Some i) where
  facts : (e : Transaction) → (i < length ts) × (((get_or ts i e).caller == c) ≡ true) × ((k : ℕ) → k < i → ((get_or ts k e).caller == c) ≡ false)
  facts e = position-Some (λ t. t.caller == c) ts i e place

  pub placed_below : i < length ts
  placed_below = (facts nothing).0

  pub placed_found : (e : Transaction) → find_txn ts c ≡ Some (get_or ts i e)
  placed_found e = let f = facts e in found_at c ts i e f.0 f.1 f.2

  pub placed_caller : (e : Transaction) → (get_or ts i e).caller ≡ c
  placed_caller e = number _ c (facts e).1

  -- the caller's transaction is replaced by another of the caller's
  module _ (u e : Transaction) (own : running_of u ≡ running_of (get_or ts i e)) where
    pub set_running : map running_of (set ts i u) ≡ map running_of ts
    set_running = map-set_same running_of ts i u e own

    pub set_places : (d : ℕ) → place_in (set ts i u) d ≡ place_in ts d
    set_places d =
        let f = facts e in
        let steps = prefix_len-set (λ (t : Transaction). not (t.caller == d)) ts i u e (ap (λ (r : Running). not (r.caller == d)) own) in
        ap (λ n. cond (nat_lt n (length (set ts i u))) (Some n) None) steps ∙ ap (λ m. cond (nat_lt (prefix_len (λ (t : Transaction). not (t.caller == d)) ts) m) (Some (prefix_len (λ (t : Transaction). not (t.caller == d)) ts)) None) (length-set ts i u)

    pub set_finds : (d : ℕ) → find_txn (set ts i u) d ≡ cond (nat_eq c d) (Some u) (find_txn ts d)
    set_finds d = let f = facts e in set_found c d ts i u e f.0 f.1 f.2 (ap (λ (r : Running). r.caller) own ∙ placed_caller e)

-- one more object written
pub noted : (b new : Book) (c i : ℕ) (e : Transaction) (more : List Oid) → place_in b.txns c ≡ Some i → new ≡ record { clock = b.clock; txns = set b.txns i (with_written more (get_or b.txns i e)) } → Noted b new c more
noted b new c i e more place is = subst (λ (n : Book). Noted b n c more) (sym is) (record {
  times = ap (λ rs. record { clock = b.clock; running = rs }) (set_running b.txns c i place _ e refl);
  places = set_places b.txns c i place _ e refl;
  found = λ d. set_finds b.txns c i place _ e refl d ∙ by_test d (nat_eq c d) refl;
})
  where
    by_test : (d : ℕ) (t : Bool) → nat_eq c d ≡ t → cond t (Some (with_written more (get_or b.txns i e))) (find_txn b.txns d) ≡ cond t (option_map (with_written more) (find_txn b.txns d)) (find_txn b.txns d)
    by_test d true h = ap (option_map (with_written more)) (sym (ap (find_txn b.txns) (sym (same c d h)) ∙ placed_found b.txns c i place e))
    by_test d false h = refl

-- more deltas counted
pub counted : (b new : Book) (c i : ℕ) (e : Transaction) (more : ℕ) → place_in b.txns c ≡ Some i → new ≡ record { clock = b.clock; txns = set b.txns i (with_deltas more (get_or b.txns i e)) } → Counted b new c more
counted b new c i e more place is = subst (λ (n : Book). Counted b n c more) (sym is) (record {
  times = ap (λ rs. record { clock = b.clock; running = rs }) (set_running b.txns c i place _ e refl);
  found = λ d. set_finds b.txns c i place _ e refl d ∙ by_test d (nat_eq c d) refl;
})
  where
    by_test : (d : ℕ) (t : Bool) → nat_eq c d ≡ t → cond t (Some (with_deltas more (get_or b.txns i e))) (find_txn b.txns d) ≡ cond t (option_map (with_deltas more) (find_txn b.txns d)) (find_txn b.txns d)
    by_test d true h = ap (option_map (with_deltas more)) (sym (ap (find_txn b.txns) (sym (same c d h)) ∙ placed_found b.txns c i place e))
    by_test d false h = refl

some_same : {A : Type 0} {a b : A} → Some a ≡ Some b → a ≡ b
some_same is = cc

last_off : {A : Type 0} (xs : List A) (x : A) → take (length (xs ++ x ∷ []) - 1) (xs ++ x ∷ []) ≡ xs
last_off xs x = ap (λ n. take n (xs ++ x ∷ [])) (omega (arith, length-append xs (x ∷ []))) ∙ take_at xs (x ∷ []) (length xs) refl

-- what is left of a list whose last element was taken off
pub shorter_is : {A : Type 0} (all left older : List A) (taken last : A) → all ≡ left ++ taken ∷ [] → all ≡ older ++ last ∷ [] → left ≡ older
shorter_is all left older taken last a b =
    sym (ap (λ l. take (length l - 1) l) a ∙ last_off left taken) ∙ (ap (λ l. take (length l - 1) l) b ∙ last_off older last)

-- the object that was noted last is taken off again
pub forgot : (before b new : Book) (c i : ℕ) (e : Transaction) (x : Oid) (left : List Oid) → place_in b.txns c ≡ Some i → Noted before b c (x ∷ []) →
    ((older : List Oid) (last : Oid) → (get_or b.txns i e).written ≡ older ++ last ∷ [] → left ≡ older) →
    new ≡ record { clock = b.clock; txns = set b.txns i (record { caller = (get_or b.txns i e).caller; start = (get_or b.txns i e).start; deltas = (get_or b.txns i e).deltas; written = left }) } → Noted before new c []
forgot before b new c i e x left place noted_x shorter is = subst (λ (n : Book). Noted before n c []) (sym is) (record {
  times = ap (λ rs. record { clock = b.clock; running = rs }) (set_running b.txns c i place u e refl) ∙ noted_x.times;
  places = λ d. set_places b.txns c i place u e refl d ∙ noted_x.places d;
  found = λ d. set_finds b.txns c i place u e refl d ∙ by_test d (nat_eq c d) refl (noted_x.found d);
})
  where
    u : Transaction
    u = record { caller = (get_or b.txns i e).caller; start = (get_or b.txns i e).start; deltas = (get_or b.txns i e).deltas; written = left }

    here : find_txn before.txns c ≡ Some (get_or before.txns i e)
    here = placed_found before.txns c i (sym (noted_x.places c) ∙ place) e

    entry : get_or b.txns i e ≡ with_written (x ∷ []) (get_or before.txns i e)
    entry = some_same (sym (placed_found b.txns c i place e) ∙ noted_x.found c ∙ ap (λ t. cond t (option_map (with_written (x ∷ [])) (find_txn before.txns c)) (find_txn before.txns c)) (itself c) ∙ ap (option_map (with_written (x ∷ []))) here)
      where
        itself : (n : ℕ) → nat_eq n n ≡ true
        itself n = grind (arith, nat_tests)

    left_is : left ≡ (get_or before.txns i e).written
    left_is = shorter (get_or before.txns i e).written x (ap (λ (t : Transaction). t.written) entry)

    u_is : u ≡ with_written [] (get_or before.txns i e)
    u_is =
        ap (λ w. record { caller = (get_or b.txns i e).caller; start = (get_or b.txns i e).start; deltas = (get_or b.txns i e).deltas; written = w }) (left_is ∙ sym (append-nil (get_or before.txns i e).written))
        ∙ ap (λ (t : Transaction). record { caller = t.caller; start = t.start; deltas = t.deltas; written = (get_or before.txns i e).written ++ [] }) entry

    by_test : (d : ℕ) (t : Bool) → nat_eq c d ≡ t → find_txn b.txns d ≡ cond t (option_map (with_written (x ∷ [])) (find_txn before.txns d)) (find_txn before.txns d) →
        cond t (Some u) (find_txn b.txns d) ≡ cond t (option_map (with_written []) (find_txn before.txns d)) (find_txn before.txns d)
    by_test d true h f = ap Some u_is ∙ ap (option_map (with_written [])) (sym (ap (find_txn before.txns) (sym (same c d h)) ∙ here))
    by_test d false h f = f

-- THE CALLER'S TRANSACTION IS GONE

absent : (d : ℕ) (ts : List Transaction) → ((k : ℕ) (e : Transaction) → k < length ts → (get_or ts k e).caller ≢ d) → find_txn ts d ≡ None
absent d [] apart = refl
absent d (t ∷ ts) apart = ap (λ b. cond b (Some t) (find_txn ts d)) (differ-false t.caller d (apart 0 t (omega arith))) ∙ absent d ts (λ k e lt. apart (suc k) e (omega arith))

removed_at : (c d : ℕ) (ts : List Transaction) (i : ℕ) (e : Transaction) → i < length ts → (get_or ts i e).caller ≡ c → AllPairs (λ t u. t.caller ≢ u.caller) ts →
    find_txn (remove ts i) d ≡ cond (nat_eq c d) None (find_txn ts d)
removed_at c d [] i e lt here apart = absurd (omega arith)
removed_at c d (t ∷ ts) zero e lt here apart = by_test (nat_eq c d) refl
  where
    by_test : (b : Bool) → nat_eq c d ≡ b → find_txn ts d ≡ cond b None (cond (nat_eq t.caller d) (Some t) (find_txn ts d))
    by_test true h = absent d ts (λ k u below is. apart 0 (suc k) u (omega arith) (omega arith) (here ∙ same c d h ∙ sym is))
    by_test false h = sym (ap (λ b. cond b (Some t) (find_txn ts d)) (differ-false t.caller d (λ is. other c d h (sym here ∙ is))))
removed_at c d (t ∷ ts) (suc i) e lt here apart =
    ap (cond (nat_eq t.caller d) (Some t)) (removed_at c d ts i e (omega arith) here (λ j k u jk kl. apart (suc j) (suc k) u (omega arith) (omega arith)))
    ∙ kept (nat_eq t.caller d) (nat_eq c d) refl refl
  where
    kept : (x y : Bool) → nat_eq t.caller d ≡ x → nat_eq c d ≡ y → cond x (Some t) (cond y None (find_txn ts d)) ≡ cond y None (cond x (Some t) (find_txn ts d))
    kept true true hx hy = absurd (apart 0 (suc i) e (omega arith) (omega arith) (same t.caller d hx ∙ sym (same c d hy) ∙ sym here))
    kept true false hx hy = refl
    kept false true hx hy = refl
    kept false false hx hy = refl

-- callers that differ in the list of times differ in the list of transactions
pub apart_here : (ts : List Transaction) → AllPairs (λ t u. t.caller ≢ u.caller) (map running_of ts) → AllPairs (λ t u. t.caller ≢ u.caller) ts
apart_here ts apart = λ j k e jk kl is.
    apart j k (running_of e) jk (omega (arith, length-map ts running_of))
    (ap (λ (r : Running). r.caller) (get_or-map running_of ts j e (running_of e) (omega arith)) ∙ is ∙ sym (ap (λ (r : Running). r.caller) (get_or-map running_of ts k e (running_of e) (omega arith))))

pub removed_finds : (ts : List Transaction) (c i : ℕ) → place_in ts c ≡ Some i → AllPairs (λ t u. t.caller ≢ u.caller) (map running_of ts) → (d : ℕ) →
    find_txn (remove ts i) d ≡ cond (nat_eq c d) None (find_txn ts d)
removed_finds ts c i place apart d = removed_at c d ts i nothing (placed_below ts c i place) (placed_caller ts c i place nothing) (apart_here ts apart)

-- the list of times is without the caller's
pub removed_running : (ts : List Transaction) (c i : ℕ) → place_in ts c ≡ Some i → AllPairs (λ t u. t.caller ≢ u.caller) (map running_of ts) →
    map running_of (remove ts i) ≡ without c (map running_of ts)
removed_running ts c i place apart =
    map_remove ts i
    ∙ remove-at c (map running_of ts) i (running_of nothing) (omega (arith, length-map ts running_of, placed_below ts c i place))
    (ap (λ (r : Running). r.caller) (get_or-map running_of ts i nothing (running_of nothing) (placed_below ts c i place)) ∙ placed_caller ts c i place nothing) apart
  where
    map_remove : (ts : List Transaction) (i : ℕ) → map running_of (remove ts i) ≡ remove (map running_of ts) i
    map_remove ts i = map-append running_of (take i ts) (drop (suc i) ts) ∙ ap (λ xs. xs ++ map running_of (drop (suc i) ts)) (sym (take-map running_of i ts)) ∙ ap (λ ys. take i (map running_of ts) ++ ys) (sym (drop-map running_of (suc i) ts))

pub closed : (b new : Book) (c i now : ℕ) → place_in b.txns c ≡ Some i → AllPairs (λ t u. t.caller ≢ u.caller) (map running_of b.txns) → new ≡ record { clock = now; txns = remove b.txns i } → Closed b new c now
closed b new c i now place apart is = subst (λ (n : Book). Closed b n c now) (sym is) (record {
  clock = refl;
  running = removed_running b.txns c i place apart;
  found = removed_finds b.txns c i place apart;
})

pub some_start : (b : Book) (times : List Running) (c i : ℕ) → place_in b.txns c ≡ Some i → times ≡ map running_of b.txns → IsSome (start_of times c)
some_start b times c i place is =
    subst (λ (o : Option ℕ). IsSome o) (sym (ap (λ rs. start_of rs c) is ∙ start_found c b.txns ∙ ap (option_map (λ (t : Transaction). t.start)) (placed_found b.txns c i place nothing))) refl

-- a fact of the transaction that was taken out is one of that which is found
pub of_found : (P : Transaction → Type 0) (b : Book) (c i : ℕ) (t : Transaction) → place_in b.txns c ≡ Some i → t ≡ get_or b.txns i t → P t → IfSome (find_txn b.txns c) P
of_found P b c i t place is fact = subst (λ (o : Option Transaction). IfSome o P) (sym (placed_found b.txns c i place t ∙ ap Some (sym is))) fact

pub start_is : (b : Book) (times : List Running) (c i n : ℕ) (t : Transaction) → place_in b.txns c ≡ Some i → times ≡ map running_of b.txns → t ≡ get_or b.txns i t → start_of times c ≡ Some n → n ≡ t.start
start_is b times c i n t place is found at =
    some_same (sym at ∙ ap (λ rs. start_of rs c) is ∙ start_found c b.txns ∙ ap (option_map (λ (t : Transaction). t.start)) (placed_found b.txns c i place t ∙ ap Some (sym found)))

-- NOTES ADD UP

same_txn : (t : Transaction) → with_written [] t ≡ t
same_txn t = ap (λ w. record { caller = t.caller; start = t.start; deltas = t.deltas; written = w }) (append-nil t.written)

-- nothing more is what there was
pub noted_none : (t : Bool) (o : Option Transaction) → cond t (option_map (with_written []) o) o ≡ o
noted_none true None = refl
noted_none true (Some t) = ap Some (same_txn t)
noted_none false o = refl

pub noted_nothing : (b : Book) (c : ℕ) → Noted b b c []
noted_nothing b c = record {
  times = refl;
  places = λ d. refl;
  found = λ d. sym (noted_none (nat_eq c d) (find_txn b.txns d));
}

pub noted_then : (a b d : Book) (c : ℕ) (xs ys : List Oid) → Noted a b c xs → Noted b d c ys → Noted a d c (xs ++ ys)
noted_then a b d c xs ys first second = record {
  times = second.times ∙ first.times;
  places = λ e. second.places e ∙ first.places e;
  found = λ e. second.found e ∙ ap (λ o. cond (nat_eq c e) (option_map (with_written ys) o) o) (first.found e) ∙ by_test (nat_eq c e) (find_txn a.txns e);
}
  where
    joined : (t : Transaction) → with_written ys (with_written xs t) ≡ with_written (xs ++ ys) t
    joined t = ap (λ w. record { caller = t.caller; start = t.start; deltas = t.deltas; written = w }) (append_assoc t.written xs ys)

    by_test : (t : Bool) (o : Option Transaction) → cond t (option_map (with_written ys) (cond t (option_map (with_written xs) o) o)) (cond t (option_map (with_written xs) o) o) ≡ cond t (option_map (with_written (xs ++ ys)) o) o
    by_test true None = refl
    by_test true (Some t) = ap Some (joined t)
    by_test false o = refl
