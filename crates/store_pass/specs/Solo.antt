-- The core that a `Solo` owns.
use Rattle.front_core.specs.declared.state.State.{State}
use Rattle.store_pass.specs.declared.solo.Solo.{Solo}

-- what the core keeps, whoever uses it
abbrev pub core_of : Solo → State
core_of solo = solo.core
