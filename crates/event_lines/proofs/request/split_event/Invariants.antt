use Rattle.std.proofs.Common.{◌≡◌, ◌≤◌, map, length, take}
use Rattle.event_lines.specs.declared.request.TheConstants.{MOST_WORDS}
use Rattle.event_lines.proofs.request.split_event.Given as goal

abbrev pub invariant-loop-word : goal.invariant-loop-word
invariant-loop-word l = record {
  count : l.count ≡ length l.yielded;
  within : l.count ≤ MOST_WORDS;
  size : length l.words ≡ MOST_WORDS;
  words : map (λ w. w.now) (take l.count l.words) ≡ map (λ w. w.now) l.yielded;
}
