-- Words of which there are more than an event has.
use Rattle.std.proofs.Common.{◌≡◌, ◌<◌, ◌^◌, ℕ, Bool, true, false, cond, List, [], ◌∷◌, length, Option, Some, None, option_map, option_and_then, codes, refl, arith}
use Rattle.std.specs.Str.{bytes_eq}
use Rattle.world_model.specs.declared.event.Event.TheVariants.{Next, Read}
use Rattle.world_model.specs.declared.event.Kind.{Kind}
use Rattle.event_lines.specs.Words.{number_below, oid_of}
use Rattle.event_lines.specs.Request.{when_of, read_event, kind_of, next_after, next_of, next_event, delete_event, label_event, unlabel_event, edge_event, lift_event, worded_event, words_event}

nothing_follows : {A B : Type 0} (o : Option A) (none : A → Option B) → ((x : A) → none x ≡ None) → option_and_then none o ≡ None
nothing_follows (Some x) none is = is x
nothing_follows None none is = refl

-- neither way gives anything
neither : {A : Type 0} (b : Bool) (o p : Option A) → o ≡ None → p ≡ None → cond b o p ≡ None
neither true o p none _ = none
neither false o p _ none = none

when_none : (words : List (List ℕ)) → 2 < length words → when_of words ≡ None
unfolding when_of
when_none [] more = absurd (omega (arith, more))
when_none (a ∷ []) more = absurd (omega (arith, more))
when_none (a ∷ b ∷ []) more = absurd (omega (arith, more))
when_none (a ∷ b ∷ c ∷ rest) more = refl

read_none : (words : List (List ℕ)) → 5 < length words → read_event words ≡ None
unfolding read_event
read_none [] more = absurd (omega (arith, more))
read_none (a ∷ words) more = nothing_follows (oid_of a) (λ x. option_map (Read x) (when_of words)) (λ x. rw (when_none words (omega (arith, more))) refl)

after_none : (kind : Kind) (words : List (List ℕ)) → 3 < length words → next_after kind words ≡ None
unfolding next_after
after_none kind [] more = absurd (omega (arith, more))
after_none kind (a ∷ words) more = nothing_follows (number_below (2 ^ 63) a) (λ n. option_map (Next kind (Some n)) (when_of words)) (λ n. rw (when_none words (omega (arith, more))) refl)

next_of_none : (kind : Kind) (words : List (List ℕ)) → 4 < length words → next_of kind words ≡ None
unfolding next_of
next_of_none kind [] more = absurd (omega (arith, more))
next_of_none kind (a ∷ words) more = rw (when_none words (omega (arith, more)), after_none kind words (omega (arith, more))) (neither (bytes_eq a (codes "first")) None _ refl (neither (bytes_eq a (codes "after")) None None refl refl))

next_none : (words : List (List ℕ)) → 5 < length words → next_event words ≡ None
unfolding next_event
next_none [] more = absurd (omega (arith, more))
next_none (a ∷ words) more = nothing_follows (kind_of a) (λ kind. next_of kind words) (λ kind. next_of_none kind words (omega (arith, more)))

write_none : (words : List (List ℕ)) → 5 < length words → (delete_event words ≡ None) × (label_event words ≡ None) × (unlabel_event words ≡ None) × (edge_event words ≡ None)
unfolding delete_event label_event unlabel_event edge_event
write_none [] more = absurd (omega (arith, more))
write_none (a ∷ []) more = absurd (omega (arith, more))
write_none (a ∷ b ∷ []) more = absurd (omega (arith, more))
write_none (a ∷ b ∷ c ∷ []) more = absurd (omega (arith, more))
write_none (a ∷ b ∷ c ∷ d ∷ rest) more = (refl, refl, refl, refl)

lift_none : (words : List (List ℕ)) → 5 < length words → lift_event words ≡ None
unfolding lift_event
lift_none [] more = absurd (omega (arith, more))
lift_none (a ∷ []) more = absurd (omega (arith, more))
lift_none (a ∷ b ∷ rest) more = refl

worded_none : (verb : List ℕ) (words : List (List ℕ)) → 5 < length words → worded_event verb words ≡ None
unfolding worded_event
worded_none verb words more =
    let writes = write_none words more in
    rw (read_none words more, next_none words more, writes.0, writes.1, writes.2, writes.3, lift_none words more)
    (neither (bytes_eq verb (codes "read")) None _ refl
    (neither (bytes_eq verb (codes "next")) None _ refl
    (neither (bytes_eq verb (codes "delete")) None _ refl
    (neither (bytes_eq verb (codes "label")) None _ refl
    (neither (bytes_eq verb (codes "unlabel")) None _ refl
    (neither (bytes_eq verb (codes "edge")) None _ refl
    (neither (bytes_eq verb (codes "lift")) None None refl refl)))))))

pub many_words : (words : List (List ℕ)) → 6 < length words → words_event words ≡ None
unfolding words_event
many_words [] more = absurd (omega (arith, more))
many_words (a ∷ []) more = absurd (omega (arith, more))
many_words (a ∷ b ∷ words) more = worded_none a (b ∷ words) (omega (arith, more))
