-- Rows that are put into groups one by one, each into that of its key, are in the groups of all.
use Rattle.std.proofs.Common.{◌≡◌, ℕ, suc, ◌+◌, Bool, true, false, cond, not, ◌||◌, List, [], ◌∷◌, ◌++◌, length, map, drop, get_or, set, refl, sym, ap, subst, ◌∙◌, arith, true≢false, append_assoc}
use Rattle.std.specs.Prelude.{filter}
use Rattle.std.specs.List.{list_any, position_or_len}
use Rattle.std.proofs.lemmas.List.{append-nil}
use Rattle.graph_value.specs.Value.{same_value}
use Rattle.graph_value.specs.SameLaws.{same_value_Decides}
use Rattle.graph_value.specs.declared.value.Value.{Value}
use Rattle.indexmap.specs.IndexSet.{insert_key}
use Rattle.row_ops.specs.Distinct.{firsts, firsts_on}
use Rattle.row_ops.specs.Grouping.{grown}
use Rattle.row_ops.proofs.SortLemmas.{answered, cond-yes, cond-no}

itself : (v : Value) → same_value v v ≡ true
itself v = (same_value_Decides v v).1 refl

-- the rows with a key
abbrev pub having : {R : Type 0} → (R → Value) → Value → List R → List R
having key k rs = filter (λ r. same_value (key r) k) rs

module _ {R : Type 0} (key : R → Value) where
  abbrev pub gathered : List Value → List (List R) → List R → List (List R)
  gathered ks gs [] = gs
  gathered ks gs (r ∷ rs) = gathered (insert_key same_value ks (key r)) (grown (key r) r ks gs) rs

  pub grown_new : (ks : List Value) (gs : List (List R)) (r : R) → length gs ≡ length ks → list_any (same_value (key r)) ks ≡ false → grown (key r) r ks gs ≡ gs ++ (r ∷ []) ∷ []
  grown_new [] gs r l e = refl
  grown_new (k ∷ ks) [] r l e = absurd (omega arith)
  grown_new (k ∷ ks) (g ∷ gs) r l e = answered (same_value (key r) k)
      (λ b. absurd (true≢false (sym (ap (λ t. t || list_any (same_value (key r)) ks) b) ∙ e)))
      (λ b. cond-no (same_value (key r) k) _ _ b ∙ ap (λ l. g ∷ l) (grown_new ks gs r (omega arith) (sym (ap (λ t. t || list_any (same_value (key r)) ks) b) ∙ e)))

  pub grown_old : (ks : List Value) (gs : List (List R)) (r : R) (d : List R) → length gs ≡ length ks → list_any (same_value (key r)) ks ≡ true
      → let i = position_or_len (same_value (key r)) ks in set gs i (get_or gs i d ++ r ∷ []) ≡ grown (key r) r ks gs
  grown_old [] gs r d l e = absurd (true≢false (sym e))
  grown_old (k ∷ ks) [] r d l e = absurd (omega arith)
  grown_old (k ∷ ks) (g ∷ gs) r d l e = answered (same_value (key r) k)
      (λ b. ap (λ t. set (g ∷ gs) (cond (not t) (1 + position_or_len (same_value (key r)) ks) 0) (get_or (g ∷ gs) (cond (not t) (1 + position_or_len (same_value (key r)) ks) 0) d ++ r ∷ [])) b
      ∙ sym (cond-yes (same_value (key r) k) _ _ b))
      (λ b. let up : 1 + position_or_len (same_value (key r)) ks ≡ suc (position_or_len (same_value (key r)) ks) = omega arith in
      ap (λ t. set (g ∷ gs) (cond (not t) (1 + position_or_len (same_value (key r)) ks) 0) (get_or (g ∷ gs) (cond (not t) (1 + position_or_len (same_value (key r)) ks) 0) d ++ r ∷ [])) b
      ∙ ap (λ n. set (g ∷ gs) n (get_or (g ∷ gs) n d ++ r ∷ [])) up
      ∙ ap (λ l. g ∷ l) (grown_old ks gs r d (omega arith) (sym (ap (λ t. t || list_any (same_value (key r)) ks) b) ∙ e))
      ∙ sym (cond-no (same_value (key r) k) _ _ b))

  -- what the groups come to, of which some rows are there already
  abbrev joined : List Value → List (List R) → List R → List (List R)
  joined [] gs rs = gs
  joined (k ∷ ks) [] rs = []
  joined (k ∷ ks) (g ∷ gs) rs = (g ++ having key k rs) ∷ joined ks gs rs

  abbrev Apart : List Value → Type 0
  Apart [] = Unit {0}
  Apart (k ∷ ks) = (list_any (same_value k) ks ≡ false) × Apart ks

  abbrev NoneHas : Value → List R → Type 0
  NoneHas v [] = Unit {0}
  NoneHas v (r ∷ rs) = (same_value v (key r) ≡ false) × NoneHas v rs

  abbrev of_all : List R → List R → List (List R)
  of_all rs fs = map (λ f. having key (key f) rs) fs

  joined_nil : (ks : List Value) (gs : List (List R)) → length gs ≡ length ks → joined ks gs [] ≡ gs
  joined_nil [] gs l = refl
  joined_nil (k ∷ ks) [] l = absurd (omega arith)
  joined_nil (k ∷ ks) (g ∷ gs) l = ap (λ h. h ∷ joined ks gs []) (append-nil g) ∙ ap (λ hs. g ∷ hs) (joined_nil ks gs (omega arith))

  joined_skip : (ks : List Value) (gs : List (List R)) (r : R) (rs : List R) → list_any (same_value (key r)) ks ≡ false → joined ks gs (r ∷ rs) ≡ joined ks gs rs
  joined_skip [] gs r rs e = refl
  joined_skip (k ∷ ks) [] r rs e = refl
  joined_skip (k ∷ ks) (g ∷ gs) r rs e = answered (same_value (key r) k)
      (λ b. absurd (true≢false (sym (ap (λ t. t || list_any (same_value (key r)) ks) b) ∙ e)))
      (λ b. ap (λ h. (g ++ h) ∷ joined ks gs (r ∷ rs)) (cond-no (same_value (key r) k) (r ∷ having key k rs) (having key k rs) b)
      ∙ ap (λ hs. (g ++ having key k rs) ∷ hs) (joined_skip ks gs r rs (sym (ap (λ t. t || list_any (same_value (key r)) ks) b) ∙ e)))

  joined_grown : (ks : List Value) (gs : List (List R)) (r : R) (rs : List R) → Apart ks → length gs ≡ length ks → list_any (same_value (key r)) ks ≡ true
      → joined ks (grown (key r) r ks gs) rs ≡ joined ks gs (r ∷ rs)
  joined_grown [] gs r rs a l e = absurd (true≢false (sym e))
  joined_grown (k ∷ ks) [] r rs a l e = absurd (omega arith)
  joined_grown (k ∷ ks) (g ∷ gs) r rs a l e = answered (same_value (key r) k)
      (λ b. ap (λ hs. joined (k ∷ ks) hs rs) (cond-yes (same_value (key r) k) ((g ++ r ∷ []) ∷ gs) (g ∷ grown (key r) r ks gs) b)
      ∙ ap (λ h. h ∷ joined ks gs rs) (append_assoc g (r ∷ []) (having key k rs) ∙ ap (λ h. g ++ h) (sym (cond-yes (same_value (key r) k) (r ∷ having key k rs) (having key k rs) b)))
      ∙ ap (λ hs. (g ++ having key k (r ∷ rs)) ∷ hs) (sym (joined_skip ks gs r rs (ap (λ v. list_any (same_value v) ks) ((same_value_Decides (key r) k).0 b) ∙ a.0))))
      (λ b. ap (λ hs. joined (k ∷ ks) hs rs) (cond-no (same_value (key r) k) ((g ++ r ∷ []) ∷ gs) (g ∷ grown (key r) r ks gs) b)
      ∙ ap (λ h. (g ++ h) ∷ joined ks (grown (key r) r ks gs) rs) (sym (cond-no (same_value (key r) k) (r ∷ having key k rs) (having key k rs) b))
      ∙ ap (λ hs. (g ++ having key k (r ∷ rs)) ∷ hs) (joined_grown ks gs r rs a.1 (omega arith) (sym (ap (λ t. t || list_any (same_value (key r)) ks) b) ∙ e)))

  joined_push : (ks : List Value) (gs : List (List R)) (v : Value) (g : List R) (rs : List R) → length gs ≡ length ks → joined (ks ++ v ∷ []) (gs ++ g ∷ []) rs ≡ joined ks gs rs ++ (g ++ having key v rs) ∷ []
  joined_push [] [] v g rs l = refl
  joined_push [] (h ∷ gs) v g rs l = absurd (omega arith)
  joined_push (k ∷ ks) [] v g rs l = absurd (omega arith)
  joined_push (k ∷ ks) (h ∷ gs) v g rs l = ap (λ hs. (h ++ having key k rs) ∷ hs) (joined_push ks gs v g rs (omega arith))

  of_all_skip : (r : R) (rs fs : List R) → NoneHas (key r) fs → of_all (r ∷ rs) fs ≡ of_all rs fs
  of_all_skip r rs [] n = refl
  of_all_skip r rs (f ∷ fs) n =
      ap (λ h. h ∷ of_all (r ∷ rs) fs) (cond-no (same_value (key r) (key f)) (r ∷ having key (key f) rs) (having key (key f) rs) n.0)
      ∙ ap (λ hs. having key (key f) rs ∷ hs) (of_all_skip r rs fs n.1)

  any_push : (v w : Value) (ks : List Value) → list_any (same_value v) ks ≡ true → list_any (same_value v) (ks ++ w ∷ []) ≡ true
  any_push v w [] e = absurd (true≢false (sym e))
  any_push v w (k ∷ ks) e = answered (same_value v k)
      (λ b. ap (λ t. t || list_any (same_value v) (ks ++ w ∷ [])) b)
      (λ b. ap (λ t. t || list_any (same_value v) (ks ++ w ∷ [])) b ∙ any_push v w ks (sym (ap (λ t. t || list_any (same_value v) ks) b) ∙ e))

  any_last : (v : Value) (ks : List Value) → list_any (same_value v) (ks ++ v ∷ []) ≡ true
  any_last v [] = ap (λ t. t || false) (itself v)
  any_last v (k ∷ ks) = answered (same_value v k)
      (λ b. ap (λ t. t || list_any (same_value v) (ks ++ v ∷ [])) b)
      (λ b. ap (λ t. t || list_any (same_value v) (ks ++ v ∷ [])) b ∙ any_last v ks)

  none_has : (v : Value) (ks : List Value) (rs : List R) → list_any (same_value v) ks ≡ true → NoneHas v (firsts_on key ks rs)
  none_has v ks [] e = tt
  none_has v ks (r ∷ rs) e = answered (list_any (same_value (key r)) ks)
      (λ b. subst (NoneHas v) (sym (cond-yes (list_any (same_value (key r)) ks) (firsts_on key ks rs) (r ∷ firsts_on key (ks ++ key r ∷ []) rs) b)) (none_has v ks rs e))
      (λ b. subst (NoneHas v) (sym (cond-no (list_any (same_value (key r)) ks) (firsts_on key ks rs) (r ∷ firsts_on key (ks ++ key r ∷ []) rs) b)) (
        answered (same_value v (key r)) (λ s. absurd (true≢false (sym e ∙ ap (λ w. list_any (same_value w) ks) ((same_value_Decides v (key r)).0 s) ∙ b))) (λ s. s),
        none_has v (ks ++ key r ∷ []) rs (any_push v (key r) ks e),
      ))

  other : (k v : Value) → same_value v k ≡ false → same_value k v ≡ false
  other k v b = answered (same_value k v) (λ s. absurd (true≢false (sym ((same_value_Decides v k).1 (sym ((same_value_Decides k v).0 s))) ∙ b))) (λ s. s)

  none_push : (k v : Value) (ks : List Value) → list_any (same_value k) ks ≡ false → same_value k v ≡ false → list_any (same_value k) (ks ++ v ∷ []) ≡ false
  none_push k v [] e b = ap (λ t. t || false) b
  none_push k v (w ∷ ks) e b = answered (same_value k w)
      (λ s. absurd (true≢false (sym (ap (λ t. t || list_any (same_value k) ks) s) ∙ e)))
      (λ s. ap (λ t. t || list_any (same_value k) (ks ++ v ∷ [])) s ∙ none_push k v ks (sym (ap (λ t. t || list_any (same_value k) ks) s) ∙ e) b)

  apart_push : (ks : List Value) (v : Value) → Apart ks → list_any (same_value v) ks ≡ false → Apart (ks ++ v ∷ [])
  apart_push [] v a e = (refl, tt)
  apart_push (k ∷ ks) v a e = answered (same_value v k)
      (λ b. absurd (true≢false (sym (ap (λ t. t || list_any (same_value v) ks) b) ∙ e)))
      (λ b. (none_push k v ks a.0 (other k v b), apart_push ks v a.1 (sym (ap (λ t. t || list_any (same_value v) ks) b) ∙ e)))

  pub long_old : (ks : List Value) (gs : List (List R)) (r : R) → length gs ≡ length ks → list_any (same_value (key r)) ks ≡ true → length (grown (key r) r ks gs) ≡ length ks
  long_old [] gs r l e = absurd (true≢false (sym e))
  long_old (k ∷ ks) [] r l e = absurd (omega arith)
  long_old (k ∷ ks) (g ∷ gs) r l e = answered (same_value (key r) k)
      (λ b. ap length (cond-yes (same_value (key r) k) ((g ++ r ∷ []) ∷ gs) (g ∷ grown (key r) r ks gs) b) ∙ l)
      (λ b. ap length (cond-no (same_value (key r) k) ((g ++ r ∷ []) ∷ gs) (g ∷ grown (key r) r ks gs) b) ∙ ap suc (long_old ks gs r (omega arith) (sym (ap (λ t. t || list_any (same_value (key r)) ks) b) ∙ e)))

  pub long_new : (ks : List Value) (gs : List (List R)) (r : R) → length gs ≡ length ks → length (gs ++ (r ∷ []) ∷ []) ≡ length (ks ++ key r ∷ [])
  long_new [] [] r l = refl
  long_new [] (g ∷ gs) r l = absurd (omega arith)
  long_new (k ∷ ks) [] r l = absurd (omega arith)
  long_new (k ∷ ks) (g ∷ gs) r l = ap suc (long_new ks gs r (omega arith))

  all_in : (ks : List Value) (gs : List (List R)) (rs : List R) → Apart ks → length gs ≡ length ks → gathered ks gs rs ≡ joined ks gs rs ++ of_all rs (firsts_on key ks rs)
  all_in ks gs [] a l = sym (append-nil (joined ks gs []) ∙ joined_nil ks gs l)
  all_in ks gs (r ∷ rs) a l = answered (list_any (same_value (key r)) ks)
      (λ b. ap (λ ms. gathered ms (grown (key r) r ks gs) rs) (cond-yes (list_any (same_value (key r)) ks) ks (ks ++ key r ∷ []) b)
      ∙ all_in ks (grown (key r) r ks gs) rs a (long_old ks gs r l b)
      ∙ ap (λ hs. hs ++ of_all rs (firsts_on key ks rs)) (joined_grown ks gs r rs a l b)
      ∙ ap (λ hs. joined ks gs (r ∷ rs) ++ hs) (sym (of_all_skip r rs (firsts_on key ks rs) (none_has (key r) ks rs b)))
      ∙ ap (λ fs. joined ks gs (r ∷ rs) ++ of_all (r ∷ rs) fs) (sym (cond-yes (list_any (same_value (key r)) ks) (firsts_on key ks rs) (r ∷ firsts_on key (ks ++ key r ∷ []) rs) b)))
      (λ b. let more = ks ++ key r ∷ [] in
      let fs = firsts_on key more rs in
      ap (λ ms. gathered ms (grown (key r) r ks gs) rs) (cond-no (list_any (same_value (key r)) ks) ks more b)
      ∙ ap (λ hs. gathered more hs rs) (grown_new ks gs r l b)
      ∙ all_in more (gs ++ (r ∷ []) ∷ []) rs (apart_push ks (key r) a b) (long_new ks gs r l)
      ∙ ap (λ hs. hs ++ of_all rs fs) (joined_push ks gs (key r) (r ∷ []) rs l)
      ∙ append_assoc (joined ks gs rs) ((r ∷ having key (key r) rs) ∷ []) (of_all rs fs)
      ∙ ap (λ hs. hs ++ (r ∷ having key (key r) rs) ∷ of_all rs fs) (sym (joined_skip ks gs r rs b))
      ∙ ap (λ h. joined ks gs (r ∷ rs) ++ h ∷ of_all rs fs) (sym (cond-yes (same_value (key r) (key r)) (r ∷ having key (key r) rs) (having key (key r) rs) (itself (key r))))
      ∙ ap (λ hs. joined ks gs (r ∷ rs) ++ having key (key r) (r ∷ rs) ∷ hs) (sym (of_all_skip r rs fs (none_has (key r) more rs (any_last (key r) ks))))
      ∙ ap (λ fs. joined ks gs (r ∷ rs) ++ of_all (r ∷ rs) fs) (sym (cond-no (list_any (same_value (key r)) ks) (firsts_on key ks rs) (r ∷ firsts_on key more rs) b)))

  -- the groups of all rows
  pub gathered_all : (rs : List R) → gathered [] [] rs ≡ of_all rs (firsts key rs)
  gathered_all rs = all_in [] [] rs tt refl

-- one row more, by its key

is_not : (b : Bool) → not b ≡ true → b ≡ false
is_not true h = absurd (true≢false (sym h))
is_not false h = refl

is : (b : Bool) → not b ≡ false → b ≡ true
is true h = refl
is false h = absurd (true≢false h)

pub grown_apart : {R : Type 0} (v : Value) (r : R) (ks : List Value) (gs : List (List R)) → length gs ≡ length ks → not (list_any (same_value v) ks) ≡ true → grown v r ks gs ≡ gs ++ (r ∷ []) ∷ []
grown_apart v r ks gs l e = grown_new (λ _. v) ks gs r l (is_not _ e)

pub grown_within : {R : Type 0} (v : Value) (r : R) (ks : List Value) (gs : List (List R)) → length gs ≡ length ks → not (list_any (same_value v) ks) ≡ false
    → grown v r ks gs ≡ set gs (position_or_len (same_value v) ks) (get_or gs (position_or_len (same_value v) ks) [] ++ r ∷ [])
grown_within v r ks gs l e = sym (grown_old (λ _. v) ks gs r [] l (is _ e))

pub grown_put : {R : Type 0} (v : Value) (r : R) (ks : List Value) (gs new : List (List R)) (place : ℕ) (is_new : Bool) → length gs ≡ length ks → is_new ≡ not (list_any (same_value v) ks) → is_new ≡ false
    → place ≡ position_or_len (same_value v) ks → new ≡ set gs place (get_or gs place [] ++ r ∷ []) → new ≡ grown v r ks gs
grown_put v r ks gs new place is_new l added old at e =
    e
    ∙ ap (λ n. set gs n (get_or gs n [] ++ r ∷ [])) at
    ∙ sym (grown_within v r ks gs l (sym added ∙ old))

-- all rows are in their groups
pub gathered_end : {R : Type 0} (key : R → Value) (ks : List Value) (gs : List (List R)) (left new rs : List R) → gathered key ks gs left ≡ gathered key [] [] rs → left ≡ new → new ≡ drop 1 left
    → gs ≡ map (λ f. having key (key f) rs) (firsts key rs)
gathered_end key ks gs [] new rs e i d = e ∙ gathered_all key rs
gathered_end key ks gs (r ∷ left) new rs e i d = absurd (omega (arith, ap length i, ap length d))
