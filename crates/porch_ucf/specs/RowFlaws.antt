-- What is wrong with the rows of a checkpoint.
use Rattle.std.specs.Prelude.{ℕ, ◌+◌, ◌-◌, ◌==◌, nat_lt, nat_le, Bool, true, false, ◌&&◌, ◌||◌, List, length, position, slice_get, option_and_then, Option, Some, None}
use Rattle.std.specs.Option.{option_map}
use Rattle.porch_types.specs.declared.shapes.Ty.{Ty}
use Rattle.porch_flat.specs.declared.whole.Flat.{Flat}
use Rattle.porch_flat.specs.whole.Form.{Form, form_of, call, checkpoint, saved}
use Rattle.porch_flat.specs.whole.Places.{is_number, commands_of, main_of}
use Rattle.porch_flat.specs.whole.Rewritten.{same_number, passes}
use Rattle.porch_ucf.specs.declared.fault.Reason.TheVariants.{Frame, Block}
use Rattle.porch_ucf.specs.declared.fault.ImageFault.{ImageFault}
use Rattle.porch_ucf.specs.declared.fault.ImageFault.TheVariants.{Damaged}
use Rattle.porch_ucf.specs.declared.image.FrameRow.{FrameRow}
use Rattle.porch_ucf.specs.declared.image.BlockRow.{BlockRow}
use Rattle.porch_ucf.specs.declared.resumable.TheConstants.{MOST_COUNT}
use Rattle.porch_ucf.specs.FirstFailing.{first_failing}
use Rattle.porch_ucf.specs.Reading.{row_place}

-- the call number that a SAVED keeps
abbrev pub kept_number : Form → Option ℕ
kept_number (saved k n) = Some k
kept_number form = None

-- the call of a call number in a function: the command in front of the SAVED that keeps the number
abbrev pub call_of : Flat → (function number : ℕ) → Option Form
call_of program f k =
    let commands = commands_of (slice_get program.functions f) in
    option_and_then (λ at. option_map form_of (slice_get commands (at - 1)))
    (position (λ c. is_number k (kept_number (form_of c))) commands)

-- a command at which a frame waits: a CALL of the next frame's function, or a CHECKPOINT where no frame
-- is next
abbrev pub waits_for : Option ℕ → Form → Bool
waits_for (Some next) (call r g os) = next == g
waits_for None checkpoint = true
waits_for next form = false

abbrev pub function_of : Option FrameRow → Option ℕ
function_of None = None
function_of (Some frame) = Some frame.function

-- the outermost frame is that of main
abbrev pub begins_in_main : Flat → List FrameRow → Bool
begins_in_main program frames =
    same_number (function_of (slice_get frames 0)) (main_of program)

-- a frame of this number can be resumed
abbrev pub is_resumable_at : Flat → List FrameRow → ℕ → Bool
is_resumable_at program frames i =
    (nat_lt 0 i || begins_in_main program frames)
    && passes
    (λ frame. passes (waits_for (function_of (slice_get frames (i + 1))))
    (call_of program frame.function frame.call))
    (slice_get frames i)

abbrev pub frame_flaw : Flat → List FrameRow → Option ImageFault
frame_flaw program frames =
    option_map (λ i. Damaged (row_place i) Frame)
    (first_failing (is_resumable_at program frames) 0 (length frames))

-- a block has a type of the program, and as many elements as an allocation may have
abbrev pub is_block : List Ty → BlockRow → Bool
is_block types b = nat_lt b.ty (length types) && nat_le 1 b.count && nat_le b.count MOST_COUNT

abbrev pub block_flaw : List Ty → (frames : ℕ) → List BlockRow → Option ImageFault
block_flaw types frames blocks =
    option_map (λ i. Damaged (row_place (frames + i)) Block)
    (first_failing (λ i. passes (is_block types) (slice_get blocks i)) 0 (length blocks))
