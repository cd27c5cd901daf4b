use Rattle.std.proofs.Common.{[], subst, sym}
use Rattle.front_core.specs.Keeps.{StandsFor, first_start}
use Rattle.session_core_tests.proofs.Fresh.{none_open}
use Rattle.session_core_tests.proofs.tests.wrong_of.Goals as goal

pub first_wrong-requires : goal.first_wrong-requires
first_wrong-requires c =
    none_open c.over-store.result.core c.over-store.result.caller
    (subst (λ k. StandsFor (first_start 1) k []) (sym c.over-store.ensures.core) c.in_ok-new.ensures)
