-- What is read of a word that is a number.
use Rattle.std.proofs.Common.{◌≡◌, true, arith}
use Rattle.std.proofs.lemmas.Bool.Decides.{nat_tests}
use Rattle.event_lines.specs.Words.{is_number}
use Rattle.event_lines.proofs.Numbers.{number_below_at}
use Rattle.event_lines.proofs.request.number.number_below.Goals as goal

pub returns-clause-read : goal.returns-clause-read
returns-clause-read c =
    let yes : is_number c.args.word.now ≡ true = grind arith in
    let computed = number_below_at c.args.limit c.args.word.now yes in
    grind (arith, nat_tests)
