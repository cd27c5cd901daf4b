-- Sources and sinks in memory, as contracts see them.
use Rattle.std.specs.Prelude.{ℕ, ◌+◌, ◌-◌, ◌^◌, ◌==◌, min, List, Bool, true, false}
use Rattle.std.specs.List.{list_any}

-- a source: the bytes that it gave and those that it has left, the most that it gives in a call, the calls that are
-- to fail, by their numbers from 0, and how many calls and faults there were
pub record Supply : Type 0 where
  pub came : List ℕ
  pub left : List ℕ
  pub piece : ℕ
  pub failing : List ℕ
  pub calls : ℕ
  pub faults : ℕ

-- a source of equal bytes: the byte, how many it gave, and how many are left
pub record Repeated : Type 0 where
  pub byte : ℕ
  pub given : ℕ
  pub rest : ℕ

-- a sink: what it took, how much it has room for, the most that it takes in a call, and then as above
pub record Store : Type 0 where
  pub taken : List ℕ
  pub room : ℕ
  pub piece : ℕ
  pub failing : List ℕ
  pub calls : ℕ
  pub faults : ℕ

-- the call of that number is to fail
abbrev pub is_listed : List ℕ → ℕ → Bool
is_listed failing call = list_any (λ n. n == call) failing

-- the count of faults after a call: one more where it failed, as far as 64 bits go
abbrev pub faults_after : Bool → ℕ → ℕ
faults_after true faults = min (faults + 1) (2 ^ 64 - 1)
faults_after false faults = faults
