-- Replies, as acts on a store.
use Rattle.std.proofs.Common.{◌≡◌, ℕ, List, [], ◌++◌, Option, None, refl, ◌∙◌, append-nil, Bool, inr}
use Rattle.session_core.proofs.Acting.{idles, one, other, says_so, sends}
use Rattle.session_core.specs.Replying.{GivesUp, IsCommit, IsError, IsPlain, IsTold, Refuses, Tells, text_of}
use Rattle.session_core.specs.Says.{Aborts, Acts, Nothing, Sent}
use Rattle.session_core.specs.Texts.{aborted_text, no_memory_text}
use Rattle.session_core.specs.declared.reply.Answered.{Answered}
use Rattle.session_core.specs.declared.reply.ReplyText.{ReplyText}
use Rattle.world_model.specs.declared.event.Event.TheVariants as event
use Rattle.world_model.specs.History.{Entry}
use Rattle.world_model.specs.Reply as reply
use Rattle.world_model.specs.Sending.{Sends}
use Rattle.world_model.specs.World.{Start}

-- a plain reply with another text that is the same
pub retold : (a : Answered) (text other : List ℕ) (after : Option ℕ) → text ≡ other → IsPlain a text after → IsPlain a other after
retold a text other after same h = record {
  answer = record { told = h.answer.told ∙ same; left = h.answer.left };
  goes_on = h.goes_on;
  not_committed = h.not_committed;
}

module _ {S : Type 0} (stands : S → Start → List Entry → Type 0) (caller : S → ℕ) (alone : S → Bool) where
  pub refuses : (text : List ℕ) (running : Option ℕ) (t : ReplyText) (a : Answered) (old new : S) → IsError text running t → IsPlain a (text_of t) None →
      Acts stands caller alone (Aborts running) old new → Acts stands caller alone (Refuses text running a) old new
  refuses text running t a old new e plain h =
      says_so stands caller alone (Aborts running) (Refuses text running a) old new
      (λ c s es later x. record { why = e.why; may = e.may; plain = retold a (text_of t) (e.why ++ aborted_text running) None e.is plain; aborts = x }) h

  pub wants : (text : List ℕ) (running : Option ℕ) (a : Answered) (old new : S) → IsPlain a (no_memory_text ++ aborted_text running) None →
      Acts stands caller alone (Aborts running) old new → Acts stands caller alone (Refuses text running a) old new
  wants text running a old new plain h =
      says_so stands caller alone (Aborts running) (Refuses text running a) old new
      (λ c s es later x. record { why = no_memory_text; may = inr refl; plain = plain; aborts = x }) h

  pub tells : (text : List ℕ) (running : Option ℕ) (t : ReplyText) (a : Answered) (store : S) → text_of t ≡ text → IsPlain a (text_of t) running →
      Acts stands caller alone (Tells text running a) store store
  tells text running t a store is plain =
      one stands caller alone (IsTold text running a) (Refuses no_memory_text running a) store store
      (says_so stands caller alone Nothing (IsTold text running a) store store
      (λ c s es later x. record { plain = retold a (text_of t) text running is plain; nothing = x })
      (idles stands caller alone store))

  abbrev Aborted : S → S → Type 0
  Aborted old new = Sends stands caller alone event.Abort reply.Aborted old new

  pub aborts : (old new : S) → Aborted old new → Acts stands caller alone (Sent event.Abort reply.Aborted) old new
  aborts old new h = sends stands caller alone event.Abort reply.Aborted old new (λ es. tt) h

  pub gives_up : (text : List ℕ) (t : ReplyText) (a : Answered) (old new : S) → IsError text None t → IsPlain a (text_of t) None →
      Aborted old new → Acts stands caller alone (GivesUp text a) old new
  gives_up text t a old new e plain h =
      says_so stands caller alone (Sent event.Abort reply.Aborted) (GivesUp text a) old new
      (λ c s es later x. record { why = e.why; may = e.may; plain = retold a (text_of t) e.why None (e.is ∙ append-nil e.why) plain; aborts = x })
      (aborts old new h)

  pub wants_in_own : (text : List ℕ) (a : Answered) (old new : S) → IsPlain a (no_memory_text ++ aborted_text None) None →
      Aborted old new → Acts stands caller alone (GivesUp text a) old new
  wants_in_own text a old new plain h =
      says_so stands caller alone (Sent event.Abort reply.Aborted) (GivesUp text a) old new
      (λ c s es later x. record { why = no_memory_text; may = inr refl; plain = retold a (no_memory_text ++ []) no_memory_text None (append-nil no_memory_text) plain; aborts = x })
      (aborts old new h)

-- a commit's reply with another text that is the same
pub recommitted : (a : Answered) (text other : List ℕ) → text ≡ other → IsCommit a text → IsCommit a other
recommitted a text other same h = record {
  answer = record { told = h.answer.told ∙ same; left = h.answer.left };
  goes_on = h.goes_on;
  has_committed = h.has_committed;
}
