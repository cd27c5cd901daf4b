use Rattle.std.proofs.Common.{sym, ◌∙◌}
use Rattle.std.proofs.lemmas.Slice.Eq.{slice_eq-Decides, bytes_eq-Decides}
use Rattle.undo_delta.proofs.same.same_labels.Goals as goal

-- the slices are the lists
pub returns : goal.returns
returns c =
    let a = c.as_slice.ensures.value in
    let b = c.as_slice-2.ensures.value in
    let told = slice_eq-Decides bytes_eq-Decides _ _ _ c.eq.ensures in
    (λ is. sym a ∙ told.0 is ∙ b, λ same. told.1 (a ∙ same ∙ sym b))
