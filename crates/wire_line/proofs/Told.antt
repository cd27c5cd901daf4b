-- Facts on what a source or a sink tells, from one call to the next.
use Rattle.std.proofs.Common.{◌≡◌, ℕ, List, [], ◌++◌, Option, Some, None, refl, sym, ap, ◌∙◌, append_assoc}
use Rattle.std.specs.Io.KnownBytes.{Keeps, Appends, Consumes, IsAtEnd}
use Rattle.wire_line.specs.Telling.{WhereTold}

-- nothing happened
pub told_same : (told : Option (List ℕ)) (P : List ℕ → List ℕ → Type 0) → ((bytes : List ℕ) → P bytes bytes) → WhereTold told told P
told_same (Some bytes) P always = always bytes
told_same None P always = tt

-- what is told has Q, since what has P has Q
pub told_weaker : (told told' : Option (List ℕ)) (P Q : List ℕ → List ℕ → Type 0) → WhereTold told told' P
    → ((b b' : List ℕ) → P b b' → Q b b') → WhereTold told told' Q
told_weaker None told' P Q has weaker = tt
told_weaker (Some b) None P Q has weaker = has
told_weaker (Some b) (Some b') P Q has weaker = weaker b b' has

-- both of two facts on one call
pub told_both : (told told' : Option (List ℕ)) (P Q R : List ℕ → List ℕ → Type 0) → WhereTold told told' P → WhereTold told told' Q
    → ((b b' : List ℕ) → P b b' → Q b b' → R b b') → WhereTold told told' R
told_both None told' P Q R first second both = tt
told_both (Some b) None P Q R first second both = first
told_both (Some b) (Some b') P Q R first second both = both b b' first second

-- one call after another
pub told_then : (a b c : Option (List ℕ)) (P Q R : List ℕ → List ℕ → Type 0) → WhereTold a b P → WhereTold b c Q
    → ((x y z : List ℕ) → P x y → Q y z → R x z) → WhereTold a c R
told_then None b c P Q R first second joined = tt
told_then (Some x) None c P Q R first second joined = absurd first
told_then (Some x) (Some y) None P Q R first second joined = second
told_then (Some x) (Some y) (Some z) P Q R first second joined = joined x y z first second

-- std's words on a read and a write, at what is told
pub told_keeps : (told told' : Option (List ℕ)) (P : List ℕ → List ℕ → Type 0) → Keeps told told' → ((b : List ℕ) → P b b) → WhereTold told told' P
told_keeps None told' P keeps always = tt
told_keeps (Some b) None P keeps always = keeps
told_keeps (Some b) (Some b') P keeps always = rw keeps (always b)

pub told_consumes : (told told' : Option (List ℕ)) (given : List ℕ) (P : List ℕ → List ℕ → Type 0) → Consumes told told' given
    → ((b b' : List ℕ) → b ≡ given ++ b' → P b b') → WhereTold told told' P
told_consumes None told' given P consumes each = tt
told_consumes (Some b) None given P consumes each = consumes
told_consumes (Some b) (Some b') given P consumes each = each b b' consumes

pub told_appends : (told told' : Option (List ℕ)) (given : List ℕ) (P : List ℕ → List ℕ → Type 0) → Appends told told' given
    → ((b b' : List ℕ) → b' ≡ b ++ given → P b b') → WhereTold told told' P
told_appends None told' given P appends each = tt
told_appends (Some b) None given P appends each = appends
told_appends (Some b) (Some b') given P appends each = each b b' appends

pub told_end : (told told' : Option (List ℕ)) (given : List ℕ) (P : List ℕ → List ℕ → Type 0) → Consumes told told' given → IsAtEnd told'
    → ((b b' : List ℕ) → b' ≡ [] → P b b') → WhereTold told told' P
told_end None told' given P consumes ends each = tt
told_end (Some b) None given P consumes ends each = consumes
told_end (Some b) (Some b') given P consumes ends each = each b b' ends

-- what came and what is left, together: where bytes were given, where none were, and over two calls
abbrev pub Together : (came left came' left' : Option (List ℕ)) → Type 0
Together came left came' left' = WhereTold came came' (λ c c'. WhereTold left left' (λ l l'. c' ++ l' ≡ c ++ l))

pub together_given : (came left came' left' : Option (List ℕ)) (given : List ℕ) → Appends came came' given → Consumes left left' given → Together came left came' left'
together_given came left came' left' given appends consumes =
    told_appends came came' given _ appends
    (λ c c' added. told_consumes left left' given _ consumes
    (λ l l' rest. ap (λ (x : List ℕ). x ++ l') added ∙ append_assoc c given l' ∙ ap (λ (x : List ℕ). c ++ x) (sym rest)))

pub together_kept : (came left came' left' : Option (List ℕ)) → Keeps came came' → Keeps left left' → Together came left came' left'
together_kept came left came' left' keeps stays = told_keeps came came' _ keeps (λ c. told_keeps left left' _ stays (λ l. refl))

pub together_same : (came left : Option (List ℕ)) → Together came left came left
together_same came left = told_same came _ (λ c. told_same left _ (λ l. refl))

pub together_then : (c1 l1 c2 l2 c3 l3 : Option (List ℕ)) → Together c1 l1 c2 l2 → Together c2 l2 c3 l3 → Together c1 l1 c3 l3
together_then c1 l1 c2 l2 c3 l3 first second =
    told_then c1 c2 c3 _ _ _ first second
    (λ a b c one two. told_then l1 l2 l3 _ _ _ one two (λ x y z e f. f ∙ e))
