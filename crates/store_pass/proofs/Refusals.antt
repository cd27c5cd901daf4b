-- Which answer of the core has a reply of some kind.
use Rattle.std.proofs.Common.{◌≡◌, ℕ, ◌⊎◌, Option, refl, inl, inr}
use Rattle.graph_record.specs.declared.object.Object.{Object}
use Rattle.world_model.specs.Pieces.{LiftedParts}
use Rattle.world_model.specs.Replies.{IsRefusal}
use Rattle.world_model.specs.Reply.{Reply, reply_of}
use Rattle.world_model.specs.Reply as reply
use Rattle.world_model.specs.declared.answer.Answer.{Answer}
use Rattle.world_model.specs.declared.answer.Answer.TheVariants as answer
use Rattle.world_model.specs.declared.answer.Wrote.{Wrote}

-- what is no begun is a refusal
pub begun_or_refusal : (a : Answer) → ((x : _) → a ≡ answer.Begun x → ⊥) → IsRefusal (reply_of a) ⊎ ((x : ℕ) × (reply_of a ≡ reply.Begun x)) → IsRefusal (reply_of a)
begun_or_refusal (answer.Begun y) other kind = absurd (other y refl)
begun_or_refusal (answer.Id y) other (inl refusal) = refusal
begun_or_refusal (answer.Id y) other (inr told) = absurd (let e = told.1 in cc)
begun_or_refusal (answer.Version y) other (inl refusal) = refusal
begun_or_refusal (answer.Version y) other (inr told) = absurd (let e = told.1 in cc)
begun_or_refusal (answer.Wrote y) other (inl refusal) = refusal
begun_or_refusal (answer.Wrote y) other (inr told) = absurd (let e = told.1 in cc)
begun_or_refusal (answer.Committed y) other (inl refusal) = refusal
begun_or_refusal (answer.Committed y) other (inr told) = absurd (let e = told.1 in cc)
begun_or_refusal answer.Aborted other (inl refusal) = refusal
begun_or_refusal answer.Aborted other (inr told) = absurd (let e = told.1 in cc)
begun_or_refusal (answer.Marked y) other (inl refusal) = refusal
begun_or_refusal (answer.Marked y) other (inr told) = absurd (let e = told.1 in cc)
begun_or_refusal (answer.Lifted y) other (inl refusal) = refusal
begun_or_refusal (answer.Lifted y) other (inr told) = absurd (let e = told.1 in cc)
begun_or_refusal answer.Installed other (inl refusal) = refusal
begun_or_refusal answer.Installed other (inr told) = absurd (let e = told.1 in cc)
begun_or_refusal (answer.NotInstalled y) other (inl refusal) = refusal
begun_or_refusal (answer.NotInstalled y) other (inr told) = absurd (let e = told.1 in cc)
begun_or_refusal (answer.Stats y) other (inl refusal) = refusal
begun_or_refusal (answer.Stats y) other (inr told) = absurd (let e = told.1 in cc)
begun_or_refusal (answer.Refused y) other (inl refusal) = refusal
begun_or_refusal (answer.Refused y) other (inr told) = absurd (let e = told.1 in cc)

-- what is no number is a refusal
pub number_or_refusal : (a : Answer) → ((x : _) → a ≡ answer.Id x → ⊥) → IsRefusal (reply_of a) ⊎ ((x : Option ℕ) × (reply_of a ≡ reply.Id x)) → IsRefusal (reply_of a)
number_or_refusal (answer.Begun y) other (inl refusal) = refusal
number_or_refusal (answer.Begun y) other (inr told) = absurd (let e = told.1 in cc)
number_or_refusal (answer.Id y) other kind = absurd (other y refl)
number_or_refusal (answer.Version y) other (inl refusal) = refusal
number_or_refusal (answer.Version y) other (inr told) = absurd (let e = told.1 in cc)
number_or_refusal (answer.Wrote y) other (inl refusal) = refusal
number_or_refusal (answer.Wrote y) other (inr told) = absurd (let e = told.1 in cc)
number_or_refusal (answer.Committed y) other (inl refusal) = refusal
number_or_refusal (answer.Committed y) other (inr told) = absurd (let e = told.1 in cc)
number_or_refusal answer.Aborted other (inl refusal) = refusal
number_or_refusal answer.Aborted other (inr told) = absurd (let e = told.1 in cc)
number_or_refusal (answer.Marked y) other (inl refusal) = refusal
number_or_refusal (answer.Marked y) other (inr told) = absurd (let e = told.1 in cc)
number_or_refusal (answer.Lifted y) other (inl refusal) = refusal
number_or_refusal (answer.Lifted y) other (inr told) = absurd (let e = told.1 in cc)
number_or_refusal answer.Installed other (inl refusal) = refusal
number_or_refusal answer.Installed other (inr told) = absurd (let e = told.1 in cc)
number_or_refusal (answer.NotInstalled y) other (inl refusal) = refusal
number_or_refusal (answer.NotInstalled y) other (inr told) = absurd (let e = told.1 in cc)
number_or_refusal (answer.Stats y) other (inl refusal) = refusal
number_or_refusal (answer.Stats y) other (inr told) = absurd (let e = told.1 in cc)
number_or_refusal (answer.Refused y) other (inl refusal) = refusal
number_or_refusal (answer.Refused y) other (inr told) = absurd (let e = told.1 in cc)

-- what is no version is a refusal
pub version_or_refusal : (a : Answer) → ((x : _) → a ≡ answer.Version x → ⊥) → IsRefusal (reply_of a) ⊎ ((x : Object) × (reply_of a ≡ reply.Version x)) → IsRefusal (reply_of a)
version_or_refusal (answer.Begun y) other (inl refusal) = refusal
version_or_refusal (answer.Begun y) other (inr told) = absurd (let e = told.1 in cc)
version_or_refusal (answer.Id y) other (inl refusal) = refusal
version_or_refusal (answer.Id y) other (inr told) = absurd (let e = told.1 in cc)
version_or_refusal (answer.Version y) other kind = absurd (other y refl)
version_or_refusal (answer.Wrote y) other (inl refusal) = refusal
version_or_refusal (answer.Wrote y) other (inr told) = absurd (let e = told.1 in cc)
version_or_refusal (answer.Committed y) other (inl refusal) = refusal
version_or_refusal (answer.Committed y) other (inr told) = absurd (let e = told.1 in cc)
version_or_refusal answer.Aborted other (inl refusal) = refusal
version_or_refusal answer.Aborted other (inr told) = absurd (let e = told.1 in cc)
version_or_refusal (answer.Marked y) other (inl refusal) = refusal
version_or_refusal (answer.Marked y) other (inr told) = absurd (let e = told.1 in cc)
version_or_refusal (answer.Lifted y) other (inl refusal) = refusal
version_or_refusal (answer.Lifted y) other (inr told) = absurd (let e = told.1 in cc)
version_or_refusal answer.Installed other (inl refusal) = refusal
version_or_refusal answer.Installed other (inr told) = absurd (let e = told.1 in cc)
version_or_refusal (answer.NotInstalled y) other (inl refusal) = refusal
version_or_refusal (answer.NotInstalled y) other (inr told) = absurd (let e = told.1 in cc)
version_or_refusal (answer.Stats y) other (inl refusal) = refusal
version_or_refusal (answer.Stats y) other (inr told) = absurd (let e = told.1 in cc)
version_or_refusal (answer.Refused y) other (inl refusal) = refusal
version_or_refusal (answer.Refused y) other (inr told) = absurd (let e = told.1 in cc)

-- what is no wrote is a refusal
pub wrote_or_refusal : (a : Answer) → ((x : _) → a ≡ answer.Wrote x → ⊥) → IsRefusal (reply_of a) ⊎ ((x : Wrote) × (reply_of a ≡ reply.Wrote x)) → IsRefusal (reply_of a)
wrote_or_refusal (answer.Begun y) other (inl refusal) = refusal
wrote_or_refusal (answer.Begun y) other (inr told) = absurd (let e = told.1 in cc)
wrote_or_refusal (answer.Id y) other (inl refusal) = refusal
wrote_or_refusal (answer.Id y) other (inr told) = absurd (let e = told.1 in cc)
wrote_or_refusal (answer.Version y) other (inl refusal) = refusal
wrote_or_refusal (answer.Version y) other (inr told) = absurd (let e = told.1 in cc)
wrote_or_refusal (answer.Wrote y) other kind = absurd (other y refl)
wrote_or_refusal (answer.Committed y) other (inl refusal) = refusal
wrote_or_refusal (answer.Committed y) other (inr told) = absurd (let e = told.1 in cc)
wrote_or_refusal answer.Aborted other (inl refusal) = refusal
wrote_or_refusal answer.Aborted other (inr told) = absurd (let e = told.1 in cc)
wrote_or_refusal (answer.Marked y) other (inl refusal) = refusal
wrote_or_refusal (answer.Marked y) other (inr told) = absurd (let e = told.1 in cc)
wrote_or_refusal (answer.Lifted y) other (inl refusal) = refusal
wrote_or_refusal (answer.Lifted y) other (inr told) = absurd (let e = told.1 in cc)
wrote_or_refusal answer.Installed other (inl refusal) = refusal
wrote_or_refusal answer.Installed other (inr told) = absurd (let e = told.1 in cc)
wrote_or_refusal (answer.NotInstalled y) other (inl refusal) = refusal
wrote_or_refusal (answer.NotInstalled y) other (inr told) = absurd (let e = told.1 in cc)
wrote_or_refusal (answer.Stats y) other (inl refusal) = refusal
wrote_or_refusal (answer.Stats y) other (inr told) = absurd (let e = told.1 in cc)
wrote_or_refusal (answer.Refused y) other (inl refusal) = refusal
wrote_or_refusal (answer.Refused y) other (inr told) = absurd (let e = told.1 in cc)

-- what is no lifted is a refusal
pub lifted_or_refusal : (a : Answer) → ((x : _) → a ≡ answer.Lifted x → ⊥) → IsRefusal (reply_of a) ⊎ ((x : LiftedParts) × (reply_of a ≡ reply.Lifted x)) → IsRefusal (reply_of a)
lifted_or_refusal (answer.Begun y) other (inl refusal) = refusal
lifted_or_refusal (answer.Begun y) other (inr told) = absurd (let e = told.1 in cc)
lifted_or_refusal (answer.Id y) other (inl refusal) = refusal
lifted_or_refusal (answer.Id y) other (inr told) = absurd (let e = told.1 in cc)
lifted_or_refusal (answer.Version y) other (inl refusal) = refusal
lifted_or_refusal (answer.Version y) other (inr told) = absurd (let e = told.1 in cc)
lifted_or_refusal (answer.Wrote y) other (inl refusal) = refusal
lifted_or_refusal (answer.Wrote y) other (inr told) = absurd (let e = told.1 in cc)
lifted_or_refusal (answer.Committed y) other (inl refusal) = refusal
lifted_or_refusal (answer.Committed y) other (inr told) = absurd (let e = told.1 in cc)
lifted_or_refusal answer.Aborted other (inl refusal) = refusal
lifted_or_refusal answer.Aborted other (inr told) = absurd (let e = told.1 in cc)
lifted_or_refusal (answer.Marked y) other (inl refusal) = refusal
lifted_or_refusal (answer.Marked y) other (inr told) = absurd (let e = told.1 in cc)
lifted_or_refusal (answer.Lifted y) other kind = absurd (other y refl)
lifted_or_refusal answer.Installed other (inl refusal) = refusal
lifted_or_refusal answer.Installed other (inr told) = absurd (let e = told.1 in cc)
lifted_or_refusal (answer.NotInstalled y) other (inl refusal) = refusal
lifted_or_refusal (answer.NotInstalled y) other (inr told) = absurd (let e = told.1 in cc)
lifted_or_refusal (answer.Stats y) other (inl refusal) = refusal
lifted_or_refusal (answer.Stats y) other (inr told) = absurd (let e = told.1 in cc)
lifted_or_refusal (answer.Refused y) other (inl refusal) = refusal
lifted_or_refusal (answer.Refused y) other (inr told) = absurd (let e = told.1 in cc)
