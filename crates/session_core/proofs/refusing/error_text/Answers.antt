use Rattle.std.proofs.Common.{refl, inr}
use Rattle.session_core.specs.Texts.{no_memory_text}
use Rattle.session_core.proofs.refusing.error_text.Goals as goal

pub returns-in-Err : goal.returns-in-Err
returns-in-Err c = record { why = no_memory_text; may = inr refl; is = c.wanting.ensures }
