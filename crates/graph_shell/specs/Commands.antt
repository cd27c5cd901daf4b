-- What the program's words ask for, and what it does then.
use Rattle.std.specs.Prelude.{◌≡◌, ◌⊎◌, ℕ, List, [], ◌∷◌, ◌++◌, map, take, drop, codes, string_bytes, Option, Some, None, IfSome, IfNone, Contains, if◌then◌else◌, String}
use Rattle.std.specs.Str.{bytes_eq}
use Rattle.std.specs.declared.alloc.Global.{Global}
use Rattle.wire_line.specs.declared.source.Source as source
use Rattle.wire_line.specs.declared.sink.Sink as sink
use Rattle.wire_line.specs.Calls.{WhereTaken, SinkRose}
use Rattle.graph_shell.specs.declared.command.Command.{Command}
use Rattle.graph_shell.specs.declared.command.Command.TheVariants.{Events, Script}
use Rattle.event_lines.specs.Reply.{line_end}
use Rattle.graph_shell.specs.Runs.{Run, IsAnchor}
use Rattle.script_run.specs.Runs.{ScriptRun}

-- the command of one word; its anchor interval is 1 as long as that is no word
abbrev pub command_named : List ℕ → Option Command
command_named word =
    if bytes_eq word (codes "events") then Some (Events 1)
    else if bytes_eq word (codes "script") then Some (Script 1)
    else None

abbrev pub command_of : List (List ℕ) → Option Command
command_of (word ∷ []) = command_named word
command_of _ = None

-- what a command holds is within its limits
abbrev pub IsInLimits : Command → Type 0
IsInLimits (Events anchor) = IsAnchor anchor
IsInLimits (Script anchor) = IsAnchor anchor

-- the line that is written for words that are no command
abbrev pub usage_line : List ℕ
usage_line = codes "usage: aeong events|script|load|serve" ++ line_end

-- The usage line was written, at status 2, or a front of it and a write failed, at status 4.
pub record ShowsUsage {O : Type 0} (h : sink.Ghosts O) (output output' : O) (status : ℕ) : Type 0 where
  pub statuses : Contains (2 ∷ 4 ∷ []) status
  pub whole : status ≡ 2 → WhereTaken h output output' (λ taken taken'. taken' ≡ taken ++ usage_line)
  pub front : WhereTaken h output output' (λ taken taken'. (n : ℕ) × (taken' ≡ taken ++ take n usage_line))
  pub sink : status ≡ 4 → SinkRose h output output'

-- the run of a command
abbrev pub RunOf : {I O : Type 0} → Command → source.Ghosts I → sink.Ghosts O → (input input' : I) → (output output' : O) → (status : ℕ) → Type 0
RunOf (Events anchor) g h input input' output output' status = Run anchor g h input input' output output' status
RunOf (Script anchor) g h input input' output output' status = ScriptRun anchor g h input input' output output' status

-- What words lead to: the run of their command, or else the usage line, with the input untouched.
pub record Does {I O : Type 0} (g : source.Ghosts I) (h : sink.Ghosts O) (words : List (List ℕ)) (input input' : I)
    (output output' : O) (status : ℕ) : Type 0 where
  pub runs : IfSome (command_of words) (λ command. RunOf command g h input input' output output' status)
  pub usage : IfNone (command_of words) (ShowsUsage h output output' status)
  pub untouched : IfNone (command_of words) (input' ≡ input)

-- Memory was wanting for the words: nothing was read or written.
pub record LacksMemory {I O : Type 0} (input input' : I) (output output' : O) (status : ℕ) : Type 0 where
  pub is : status ≡ 5
  pub unread : input' ≡ input
  pub unwritten : output' ≡ output

-- One of both.
abbrev pub DoesOrLacks : {I O : Type 0} → source.Ghosts I → sink.Ghosts O → (words : List (List ℕ))
    → (input input' : I) → (output output' : O) → (status : ℕ) → Type 0
DoesOrLacks g h words input input' output output' status =
    Does g h words input input' output output' status ⊎ LacksMemory input input' output output' status

-- the words behind the program's name
abbrev pub words_behind : List (String Global) → List (List ℕ)
words_behind args = map string_bytes (drop 1 args)
