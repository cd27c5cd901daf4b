-- Replies, and what they do to the session's transaction.
use Rattle.std.specs.Prelude.{◌≡◌, ◌⊎◌, ℕ, List, [], ◌++◌, Option, None, true, false, codes, string_bytes, if◌then◌else◌}
use Rattle.session_core.specs.declared.reply.Answered.{Answered}
use Rattle.session_core.specs.declared.reply.ReplyText.{ReplyText}
use Rattle.session_core.specs.declared.reply.ReplyText.TheVariants.{Made, NoMemory}
use Rattle.session_core.specs.Says.{Aborts, Nothing, Or, Says, Sent}
use Rattle.session_core.specs.Texts.{aborted_text, no_memory_text}
use Rattle.world_model.specs.declared.event.Event.TheVariants as event
use Rattle.world_model.specs.Reply as reply
use Rattle.world_model.specs.History.{Entry}
use Rattle.world_model.specs.World.{Start}

-- the text of a reply, without the line end of its last line
abbrev pub text_of : ReplyText → List ℕ
text_of (Made text) = string_bytes text
text_of (NoMemory aborted) = no_memory_text ++ (if aborted then codes " (aborted)" else [])

-- a reply with this text, behind which the session goes on with this transaction, or with none
pub record IsAnswer (a : Answered) (text : List ℕ) (after : Option ℕ) : Type 0 where
  pub told : text_of a.reply.text ≡ text
  pub left : a.running ≡ after

-- a reply that tells of a commit, behind which no transaction is open
pub record IsCommit (a : Answered) (text : List ℕ) : Type 0 where
  pub answer : IsAnswer a text None
  pub goes_on : a.reply.quit ≡ false
  pub has_committed : a.reply.committed ≡ true

-- a reply that neither ends the session nor tells of a commit
pub record IsPlain (a : Answered) (text : List ℕ) (after : Option ℕ) : Type 0 where
  pub answer : IsAnswer a text after
  pub goes_on : a.reply.quit ≡ false
  pub not_committed : a.reply.committed ≡ false

-- the text, or that memory was wanting for it
abbrev pub IsOrWants : List ℕ → List ℕ → Type 0
IsOrWants text t = (t ≡ text) ⊎ (t ≡ no_memory_text)

-- the text of an error, where the session had this transaction open
pub record IsError (text : List ℕ) (running : Option ℕ) (told : ReplyText) : Type 0 where
  pub why : List ℕ
  pub may : IsOrWants text why
  pub is : text_of told ≡ why ++ aborted_text running

-- An error: its text is told, and the session's transaction is aborted, where it has one.
pub record Refuses (text : List ℕ) (running : Option ℕ) (a : Answered) (caller : ℕ) (s : Start) (es later : List Entry) : Type 0 where
  pub why : List ℕ
  pub may : IsOrWants text why
  pub plain : IsPlain a (why ++ aborted_text running) None
  pub aborts : Aborts running caller s es later

-- memory was wanting
abbrev pub Wants : Option ℕ → Answered → Says
Wants running a = Refuses no_memory_text running a

-- An error of a query that runs in a transaction of its own, which is aborted.
pub record GivesUp (text : List ℕ) (a : Answered) (caller : ℕ) (s : Start) (es later : List Entry) : Type 0 where
  pub why : List ℕ
  pub may : IsOrWants text why
  pub plain : IsPlain a why None
  pub aborts : Sent event.Abort reply.Aborted caller s es later

-- the text is told, and nothing is sent
pub record IsTold (text : List ℕ) (running : Option ℕ) (a : Answered) (caller : ℕ) (s : Start) (es later : List Entry) : Type 0 where
  pub plain : IsPlain a text running
  pub nothing : Nothing caller s es later

-- the same, or memory was wanting for the text
abbrev pub Tells : List ℕ → Option ℕ → Answered → Says
Tells text running a = Or (IsTold text running a) (Wants running a)
