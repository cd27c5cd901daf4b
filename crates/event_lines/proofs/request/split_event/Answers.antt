-- The words are the pieces between the spaces.
use Rattle.std.proofs.Common.{◌≡◌, ◌<◌, ℕ, ◌==◌, map, take, length, List, refl, rules, tests, sym, ◌∙◌, subst, IfOk, arith}
use Rattle.event_lines.specs.Request.{words_event}
use Rattle.event_lines.specs.Words.{words_of}
use Rattle.event_lines.proofs.ManyWords.{many_words}
use Rattle.event_lines.proofs.Pieces.{pieces_turn, pieces_end}
use Rattle.event_lines.proofs.request.split_event.Goals as goal

pub returns-then-count-eq-MOST_WORDS : goal.returns-then-count-eq-MOST_WORDS
returns-then-count-eq-MOST_WORDS c =
    let more : length c.loop-word.yielded < length (words_of c.args.text.now) =
    pieces_turn _ _ _ c.loop-word.yielded c.loop-word.yielded_by (λ b. b == 32) c.args.text.now (rw c.into_iter-word-iterator.ensures.into_iter_gives c.split-word-items.ensures.rest) (rw c.into_iter-word-iterator.ensures.into_iter_gives c.split-word-items.ensures.done) refl
    (λ x b q k. search (rules, tests)) _ c.in-Some.word c.in-Some.is c.next.ensures.steps in
    sym (many_words (words_of c.args.text.now) (omega (arith, more, c.loop-word.invariant.count, c.if-count-eq-MOST_WORDS.true)))

pub returns : goal.returns
returns c =
    let words : map (λ w. w.now) (take c.loop-word.count c.loop-word.words) ≡ words_of c.args.text.now =
    c.loop-word.invariant.words
    ∙ pieces_end _ _ _ c.loop-word.yielded c.loop-word.yielded_by (λ b. b == 32) c.args.text.now (rw c.into_iter-word-iterator.ensures.into_iter_gives c.split-word-items.ensures.rest) (rw c.into_iter-word-iterator.ensures.into_iter_gives c.split-word-items.ensures.done) refl
    (λ x b q k. search (rules, tests)) _ c.in-None.is c.next.ensures.steps in
    subst (λ (ws : List (List ℕ)). IfOk c.words_event.result (λ e. e ≡ words_event ws)) words c.words_event.ensures
