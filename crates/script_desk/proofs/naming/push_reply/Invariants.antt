use Rattle.std.proofs.Common.{◌≡◌, ◌++◌, length, string_bytes}
use denote.Shadow.{shadow}
use denote.Text.{Utf8}
use Rattle.script_desk.specs.Naming.{reply_lines}
use Rattle.script_desk.proofs.naming.push_reply.Given as goal

abbrev pub invariant-loop-line : goal.invariant-loop-line
invariant-loop-line l = record {
  same : string_bytes l.out ++ reply_lines l.name l.rest ≡ string_bytes l.fn.out ++ reply_lines l.name l.text;
  text : shadow (Utf8 l.rest);
}

abbrev pub decreases-loop-line : goal.decreases-loop-line
decreases-loop-line l = length l.rest
