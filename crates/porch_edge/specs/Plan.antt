-- Which calls of a disk in memory fail.
use Rattle.std.specs.Prelude.{ℕ, ◌+◌, ◌-◌, ◌^◌, ◌==◌, ◌||◌, Bool, true, false, min, leb, if◌then◌else◌}
use Rattle.std.specs.declared.option.Option.{Option}
use Rattle.std.specs.declared.option.Option.TheVariants.{Some, None}
use Rattle.porch_edge.specs.declared.memory_plan.Pick.{Pick}
use Rattle.porch_edge.specs.declared.memory_plan.Stop.{Stop}
use Rattle.porch_edge.specs.declared.memory_plan.Fate.{Fate}
use Rattle.porch_edge.specs.declared.memory_plan.Fate.TheVariants.{Goes, Fails, Stops}
use Rattle.porch_edge.specs.declared.memory_plan.Plan.{Plan}

-- there is one
abbrev pub is_some : {A : Type 0} → Option A → Bool
is_some None = false
is_some (Some x) = true

-- the call has passed, or the disk has stopped
abbrev pub is_over : Plan → ℕ → Bool
is_over plan call = is_some plan.stopped || leb call plan.made

-- the last call that is named holds
abbrev pub plan_to_fail : Plan → ℕ → Plan
plan_to_fail plan call = if is_over plan call then plan else record plan { fail = Some call }

-- and so does the last stop
abbrev pub plan_to_stop : Plan → Stop → Plan
plan_to_stop plan stop = if is_over plan stop.call then plan else record plan { stop = Some stop }

-- the number of the next call
abbrev pub next_call : Plan → ℕ
next_call plan = min (plan.made + 1) (2 ^ 64 - 1)

-- this call is named
abbrev pub is_call : Option ℕ → ℕ → Bool
is_call None call = false
is_call (Some n) call = n == call

-- the stop is in this call
abbrev pub is_stop : Option Stop → ℕ → Bool
is_stop None call = false
is_stop (Some stop) call = stop.call == call

-- what the stop leaves
abbrev pub pick_of : Option Stop → Option Pick
pick_of None = None
pick_of (Some stop) = Some stop.pick

-- a stopped disk fails; where both name the call, the stop counts
abbrev pub next_fate : Plan → Fate
next_fate plan =
    if is_some plan.stopped then Fails
    else (if is_stop plan.stop (next_call plan) then Stops else (if is_call plan.fail (next_call plan) then Fails else Goes))

-- whether the disk has stopped after a call, and what that leaves
abbrev pub stopped_by : Fate → Plan → Option Pick
stopped_by Goes plan = plan.stopped
stopped_by Fails plan = plan.stopped
stopped_by Stops plan = pick_of plan.stop

-- after the next call
abbrev pub plan_after : Plan → Plan
plan_after plan = record { made = next_call plan; fail = plan.fail; stop = plan.stop; stopped = stopped_by (next_fate plan) plan }
