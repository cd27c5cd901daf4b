-- How a text is offered to a sink: whole, and then its rest, call by call.
use Rattle.std.specs.Prelude.{◌≢◌, ℕ, List, [], drop, Result, Ok, Err, MatchResult}
use Rattle.wire_line.specs.declared.failed.Failed.{Failed}

-- One call, as the trait tells it: the sink before it, the piece that is offered, the answer and the sink after it.
abbrev pub Call : Type 0 → Type 1
Call O = O → List ℕ → Result ℕ Failed → O → Type 0

-- Calls led from the start, with the whole text to write, to this sink and rest.
pub data Offers {O : Type 0} (writes : Call O) (start : O) (text : List ℕ) : O → List ℕ → Type 0 where
  whole : Offers writes start text start text
  then_rest : (now next : O) (rest : List ℕ) (n : ℕ) → Offers writes start text now rest
      → rest ≢ [] → writes now rest (Ok n) next → Offers writes start text next (drop n rest)

-- the call that failed, and the end: no call comes behind it
pub record StopsAtFailure {O : Type 0} (writes : Call O) (start : O) (text : List ℕ) (end : O) : Type 0 where
  pub now : O
  pub rest : List ℕ
  pub offered : Offers writes start text now rest
  pub some : rest ≢ []
  pub why : Failed
  pub fails : writes now rest (Err why) end

-- each call offers all that isn't taken yet, until nothing is left or a call fails
abbrev pub OffersText : {O : Type 0} → Call O → Result Unit Failed → (start : O) (text : List ℕ) (end : O) → Type 0
OffersText writes result start text end =
    MatchResult result (λ _. Offers writes start text end []) (λ _. StopsAtFailure writes start text end)
