-- What a call does to a source or a sink, with the trait's ghosts as one word.
use Rattle.std.specs.Prelude.{◌≡◌, ℕ, ◌+◌, ◌≤◌, List, ◌++◌, length, take, Result, MatchResult}
use Rattle.wire_line.specs.declared.source.Source as source
use Rattle.wire_line.specs.declared.sink.Sink as sink
use Rattle.wire_line.specs.Failures.{Rose}
use Rattle.wire_line.specs.Telling.{WhereTold}
use Rattle.wire_line.specs.Intake.{Intake}

-- P of the bytes that the source has left, before the call and after it, where it tells them
abbrev pub WhereLeft : {I : Type 0} → source.Ghosts I → (before after : I) → (List ℕ → List ℕ → Type 0) → Type 0
WhereLeft g before after P = WhereTold (g.left before) (g.left after) P

-- P of the bytes that the sink has taken, before the call and after it, where it tells them
abbrev pub WhereTaken : {O : Type 0} → sink.Ghosts O → (before after : O) → (List ℕ → List ℕ → Type 0) → Type 0
WhereTaken g before after P = WhereTold (g.taken before) (g.taken after) P

-- What came and what is left are together what they were, where both are told.
abbrev pub SameInput : {I : Type 0} → source.Ghosts I → (before after : I) → Type 0
SameInput g before after = WhereTold (g.came before) (g.came after) (λ came came'.
    WhereLeft g before after (λ left left'. came' ++ left' ≡ came ++ left))

-- The reader took from the source what the source gave, and counted it.
pub record Reads {I : Type 0} (g : source.Ghosts I) (input input' : I) (before after : Intake) : Type 0 where
  pub same_input : SameInput g input input'
  pub counted : WhereLeft g input input' (λ left left'. length left' + after.taken ≡ length left + before.taken)
  pub later : before.taken ≤ after.taken
  pub faults : g.faults input ≤ g.faults input'

-- the source's count of faults rose
abbrev pub SourceRose : {I : Type 0} → source.Ghosts I → (before after : I) → Type 0
SourceRose g before after = Rose (g.faults before) (g.faults after)

-- the sink's count of faults rose
abbrev pub SinkRose : {O : Type 0} → sink.Ghosts O → (before after : O) → Type 0
SinkRose g before after = Rose (g.faults before) (g.faults after)

-- what a text's writing does: all of it is taken, or a front of it where a write failed
abbrev pub TakesText : {E : Type 0} → Result Unit E → (text taken taken' : List ℕ) → Type 0
TakesText result text taken taken' =
    MatchResult result (λ _. taken' ≡ taken ++ text) (λ _. (n : ℕ) × (taken' ≡ taken ++ take n text))
