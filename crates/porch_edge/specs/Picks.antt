-- What a disk in memory has after a crash.
use Rattle.std.specs.Prelude.{ℕ, ◌&&◌, ◌||◌, Bool, false, suc, List, [], ◌∷◌, if◌then◌else◌, leb, ltb}
use Rattle.std.specs.declared.option.Option.{Option}
use Rattle.std.specs.declared.option.Option.TheVariants.{Some, None}
use Rattle.porch_edge.specs.declared.disk.FileName.{FileName}
use Rattle.porch_edge.specs.declared.memory_calls.Change.{Change}
use Rattle.porch_edge.specs.declared.memory_calls.Change.TheVariants.{Nothing, Synced, Write, Cut, Put}
use Rattle.porch_edge.specs.declared.memory_calls.Call.{Call}
use Rattle.porch_edge.specs.declared.memory_plan.Pick.{Pick}
use Rattle.porch_edge.specs.declared.memory_plan.Pick.TheVariants.{Old, New, Fill}
use Rattle.porch_edge.specs.Calls.{change_on, bytes_before}

-- what a call makes of what the last sync left of its file
abbrev pub synced_by : Change → List ℕ → List ℕ → List ℕ
synced_by Nothing now earlier = earlier
synced_by Synced now earlier = now
synced_by (Write from to) now earlier = earlier
synced_by (Cut len) now earlier = earlier
synced_by Put now earlier = now

-- what the last sync left of a file that reads so after these calls, of which the last stands first
abbrev pub synced_bytes : FileName → List ℕ → List Call → List ℕ
synced_bytes file now [] = now
synced_bytes file now (call ∷ earlier) =
    synced_by (change_on file call) now (synced_bytes file (bytes_before (change_on file call) call.before.items now) earlier)

-- the place lies from the first up to the second
abbrev pub is_between : ℕ → ℕ → ℕ → Bool
is_between from to place = leb from place && ltb place to

-- whether a place is pending after a call, where it was so before or not
abbrev pub pending_by : Change → ℕ → Bool → Bool
pending_by Nothing place earlier = earlier
pending_by Synced place earlier = false
pending_by (Write from to) place earlier = is_between from to place || earlier
pending_by (Cut len) place earlier = earlier
pending_by Put place earlier = false

-- whether a place of a file is pending after these calls, of which the last stands first
abbrev pub is_pending : FileName → List Call → ℕ → Bool
is_pending file [] place = false
is_pending file (call ∷ earlier) place = pending_by (change_on file call) place (is_pending file earlier place)

-- bytes that begin at a place, with one byte in each place that is so
abbrev pub painted : (ℕ → Bool) → ℕ → ℕ → List ℕ → List ℕ
painted is byte place [] = []
painted is byte place (x ∷ bytes) = (if is place then byte else x) ∷ painted is byte (suc place) bytes

-- what a pick leaves of a file that reads so after these calls, of which the last stands first
abbrev pub picked : Pick → FileName → List ℕ → List Call → List ℕ
picked Old file now calls = synced_bytes file now calls
picked New file now calls = now
picked (Fill byte) file now calls = painted (is_pending file calls) byte 0 now

-- the content after a crash by the pick, where the disk has stopped, and else the content as read
abbrev pub revived : Option Pick → FileName → List ℕ → List Call → List ℕ
revived None file now calls = now
revived (Some pick) file now calls = picked pick file now calls
