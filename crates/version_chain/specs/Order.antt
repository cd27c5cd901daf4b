-- The order of a chain: open entries stand first, and the timestamps behind them don't ascend.
use Rattle.std.specs.Prelude.{ℕ, ◌≤◌, ⊤, Option, Some, None, List, [], ◌∷◌}
use Rattle.version_chain.specs.declared.entry.Entry.{Entry}

-- behind an open entry all may stand; behind a committed one, what was committed no later
abbrev pub MayFollow : Option ℕ → Option ℕ → Type 0
MayFollow None older = ⊤
MayFollow (Some newer) None = ⊥
MayFollow (Some newer) (Some older) = older ≤ newer

abbrev pub AllMayFollow : {D : Type 0} → Option ℕ → List (Entry D) → Type 0
AllMayFollow newer [] = ⊤
AllMayFollow newer (e ∷ older) = MayFollow newer e.stamp × AllMayFollow newer older

abbrev pub IsInOrder : {D : Type 0} → List (Entry D) → Type 0
IsInOrder [] = ⊤
IsInOrder (e ∷ older) = AllMayFollow e.stamp older × IsInOrder older
