-- Groups as they are made, the oldest first, seen from the newest on.
use Rattle.std.proofs.Common.{◌≡◌, ℕ, ◌+◌, ◌<◌, true, nat_lt, List, [], ◌∷◌, ◌++◌, length, get_or, set, take, map, reverse, refl, sym, ap, ◌∙◌, arith}
use Rattle.std.proofs.lemmas.Bool.{lt-ltb}
use Rattle.std.proofs.lemmas.List.{length-reverse, length-take-le, map-append, reverse-append, set_at, take_more}
use Rattle.std.proofs.Math.Seq.{take-length}
use Rattle.std.specs.Prelude.{Vec}
use Rattle.undo_law.specs.declared.dated.Dated.{Dated}
use Rattle.anchor_store.specs.Groups.{joined, turned}

pub turned-push : {D A : Type 0} (gs : List (Vec (Dated D) A)) (g : Vec (Dated D) A) → turned (gs ++ g ∷ []) ≡ reverse g.items ∷ turned gs
turned-push gs g =
    ap reverse (map-append (λ g. reverse g.items) gs (g ∷ [])) ∙ reverse-append (map (λ g. reverse g.items) gs) (reverse g.items ∷ [])

split_last : {X : Type 0} (xs : List X) (n : ℕ) (x : X) → n + 1 ≡ length xs → x ≡ get_or xs n x → xs ≡ take n xs ++ x ∷ []
split_last xs n x count last =
    sym (take-length xs) ∙ ap (λ m. take m xs) (sym count) ∙ take_more xs n x (omega arith) ∙ ap (λ y. take n xs ++ y ∷ []) (sym last)

-- a newer delta in the newest group, which is smaller than the interval
pub turned-joined : {D A : Type 0} (k n : ℕ) (d : Dated D) (gs : List (Vec (Dated D) A)) (g v : Vec (Dated D) A) → n + 1 ≡ length gs → g ≡ get_or gs n g → v.items ≡ g.items ++ d ∷ [] → length g.items < k → turned (set gs n v) ≡ joined k d (turned gs)
turned-joined {D} {A} k n d gs g v count last pushed smaller =
    let front = take n gs in
    let whole : gs ≡ front ++ g ∷ [] = split_last gs n g count last in
    let long : length front ≡ n = length-take-le n gs (omega arith) in
    let written : turned (set gs n v) ≡ turned (front ++ v ∷ []) = ap (λ xs. turned (set xs n v)) whole ∙ ap turned (set_at front g [] v n long) in
    let longer : reverse v.items ≡ d ∷ reverse g.items = ap reverse pushed ∙ reverse-append g.items (d ∷ []) in
    let room : nat_lt (length (reverse g.items)) k ≡ true = ap (λ m. nat_lt m k) (length-reverse g.items) ∙ lt-ltb (length g.items) k smaller in
    let joins : joined k d (reverse g.items ∷ turned front) ≡ (d ∷ reverse g.items) ∷ turned front = rw room refl in
    written ∙ turned-push front v ∙ ap (λ xs. xs ∷ turned front) longer ∙ sym joins ∙ ap (joined k d) (sym (ap turned whole ∙ turned-push front g))

map-reverse : {X Y : Type 0} (f : X → Y) (xs : List X) → map f (reverse xs) ≡ reverse (map f xs)
map-reverse f [] = refl
map-reverse f (x ∷ xs) =
    ap (map f) (reverse-append (x ∷ []) xs) ∙ map-append f (reverse xs) (x ∷ []) ∙ ap (λ ys. ys ++ f x ∷ []) (map-reverse f xs) ∙ sym (reverse-append (f x ∷ []) (map f xs))

-- what is built, the newest first, with its last one, and then turned round
pub map-turned : {X Y : Type 0} (f : X → Y) (built pushed turned : List X) (x : X) (y : Y) (whole : List Y) → pushed ≡ built ++ x ∷ [] → f x ≡ y → map f built ++ y ∷ [] ≡ whole → turned ≡ reverse pushed → map f turned ≡ reverse whole
map-turned f built pushed turned x y whole last is all round =
    ap (map f) round ∙ map-reverse f pushed ∙ ap reverse (ap (map f) last ∙ map-append f built (x ∷ []) ∙ ap (λ z. map f built ++ z ∷ []) is ∙ all)
