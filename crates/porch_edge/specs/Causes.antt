-- Why a call on a handed-in object fails.
use Rattle.std.specs.Prelude.{ℕ, ◌+◌, ◌-◌, ◌^◌, ◌≤◌, min, Result, OnErr}
use Rattle.std.specs.declared.result.Result.TheVariants.{Ok, Err}

-- A count of faults rose, or stands at the end of its range, where it can't be seen to rise.
abbrev pub Rose : ℕ → ℕ → Type 0
Rose before now = min (before + 1) (2 ^ 64 - 1) ≤ now

-- The count never falls, and the call failed only where it rose.
pub record HasCause {T E : Type 0} (before now : ℕ) (result : Result T E) : Type 0 where
  pub later : before ≤ now
  pub failed : OnErr result (Rose before now)

-- The count of one that counts each failed call, and no other, up to the end of its range.
abbrev pub faults_after : {T E : Type 0} → ℕ → Result T E → ℕ
faults_after before (Ok x) = before
faults_after before (Err e) = min (before + 1) (2 ^ 64 - 1)
