use Rattle.std.proofs.Common.{w64, sym, subst, ◌∙◌}
use Rattle.std.specs.Prelude.{FitsSigned}
use Rattle.std.proofs.lemmas.Int.{to_z-of_z}
use Rattle.expr_eval.proofs.Digits.{reads_integer, reads_none}
use Rattle.expr_eval.proofs.functions.integer_in.Goals as goal

pub returns-in-Ok : goal.returns-in-Ok
returns-in-Ok c =
    let read = c.in-Ok.ensures.value.0 in
    reads_integer c.args.text.now _ read.0 (to_z-of_z w64 c.in-Ok.n (subst (FitsSigned w64) (sym read.1) read.0.1) ∙ read.1)

pub returns-in-Err : goal.returns-in-Err
returns-in-Err c = reads_none c.args.text.now c.in-Err.ensures.value.0
