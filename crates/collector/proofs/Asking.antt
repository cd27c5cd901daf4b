-- One more entry of a sweep, behind those that it asked before.
use Rattle.std.proofs.Common.{◌≡◌, ℕ, List, [], ◌∷◌, ◌++◌, Some, Bool, true, false, not, cond, filter, refl, ap, ◌∙◌, arith}
use Rattle.std.specs.Prelude.{nat_eq}
use Rattle.std.proofs.lemmas.Bool.{false≢true}
use Rattle.std.proofs.lemmas.Bool.Decides.{nat_tests}
use Rattle.std.proofs.lemmas.List.Elements.{filter-append}
use Rattle.world_model.specs.History.{Entry}
use Rattle.world_model.specs.Sending.{are_of_others}
use Rattle.world_model.proofs.Folds.{and_left_true, and_right_true}
use Rattle.collector.specs.Sweeping.{AreAsked, Stage, asks, count, stage_after, sum_after, turn}
use Rattle.collector.specs.Whole.{own_of}
use Rattle.collector.specs.declared.progress.Swept.{Swept}

pub asked-append : (s : Stage) (es : List Entry) (e : Entry) → AreAsked s es → asks (stage_after s es) ≡ Some e.event → AreAsked s (es ++ e ∷ [])
unfolding AreAsked stage_after
asked-append s [] e h next = (next, tt)
asked-append s (d ∷ es) e h next = (h.0, asked-append (turn s d.reply).stage es e h.1 next)

pub stage-append : (s : Stage) (es : List Entry) (e : Entry) → stage_after s (es ++ e ∷ []) ≡ (turn (stage_after s es) e.reply).stage
unfolding stage_after
stage-append s [] e = refl
stage-append s (d ∷ es) e = stage-append (turn s d.reply).stage es e

pub sum-append : (s : Stage) (sum : Swept) (es : List Entry) (e : Entry) → sum_after s sum (es ++ e ∷ []) ≡ count (sum_after s sum es) (turn (stage_after s es) e.reply).progress
unfolding stage_after sum_after
sum-append s sum [] e = refl
sum-append s sum (d ∷ es) e = sum-append (turn s d.reply).stage (count sum (turn s d.reply).progress) es e

-- ---- a caller's own entries

not_own : (b : Bool) → not b ≡ true → b ≡ false
not_own true h = absurd (false≢true h)
not_own false h = refl

others_dropped : (c : ℕ) (es : List Entry) → are_of_others c es ≡ true → own_of c es ≡ []
unfolding own_of are_of_others
others_dropped c [] h = refl
others_dropped c (e ∷ es) h =
    let rest = filter (λ (d : Entry). nat_eq d.caller c) es in
    ap (λ b. cond b (e ∷ rest) rest) (not_own (nat_eq e.caller c) (and_left_true (not (nat_eq e.caller c)) _ h))
    ∙ others_dropped c es (and_right_true (not (nat_eq e.caller c)) _ h)

own_alone : (c : ℕ) (e : Entry) → e.caller ≡ c → own_of c (e ∷ []) ≡ e ∷ []
unfolding own_of
own_alone c e own =
    let same : nat_eq e.caller c ≡ true = grind (arith, nat_tests, own) in
    ap (λ b. cond b (e ∷ []) []) same

-- behind entries of others there is one of its own more
pub own_more : (c : ℕ) (es others : List Entry) (e : Entry) → e.caller ≡ c → are_of_others c others ≡ true → own_of c (es ++ (others ++ e ∷ [])) ≡ own_of c es ++ e ∷ []
unfolding own_of
own_more c es others e own apart =
    let is_own = λ (d : Entry). nat_eq d.caller c in
    filter-append is_own es (others ++ e ∷ [])
    ∙ ap (λ ds. own_of c es ++ ds) (filter-append is_own others (e ∷ []) ∙ ap (λ ds. ds ++ own_of c (e ∷ [])) (others_dropped c others apart) ∙ own_alone c e own)
