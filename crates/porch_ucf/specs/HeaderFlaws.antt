-- What is wrong with the header of a checkpoint file, in the order in which it is looked for.
use Rattle.std.specs.Prelude.{◌≡◌, ◌⊎◌, ℕ, ◌==◌, nat_le, Bool, ◌&&◌, List, [], ◌∷◌, take, drop, codes, Option, Some, None, if◌then◌else◌}
use Rattle.std.specs.Str.{bytes_eq}
use Rattle.porch_ucf.specs.declared.fault.Reason.TheVariants.{Magic, Version, Reserved, Counts}
use Rattle.porch_ucf.specs.declared.fault.ImageFault.{ImageFault}
use Rattle.porch_ucf.specs.declared.fault.ImageFault.TheVariants.{Damaged, NoMemory}
use Rattle.porch_ucf.specs.declared.header.Header.{Header}
use Rattle.porch_ucf.specs.declared.header.TheConstants.{MAGIC_AT, VERSION_AT, FRAMES_AT, NUMBER_AT, TURNS_AT, BLOCKS_AT, ZERO_AT, ZEROS_AT, VERSION, MOST_TURNS, MOST_BLOCKS}
use Rattle.porch_ucf.specs.Fields.{u32_in, u64_in}
use Rattle.porch_ucf.specs.Headers.{header_of}

-- a fault, unless a test passes
abbrev pub unless : Bool → ImageFault → Option ImageFault
unless passes fault = if passes then None else Some fault

-- the first fault of a list of tests
abbrev pub first_of : List (Option ImageFault) → Option ImageFault
first_of [] = None
first_of (Some fault ∷ later) = Some fault
first_of (None ∷ later) = first_of later

-- why a file isn't read: its flaw, or want of memory
abbrev pub IsRefusal : Option ImageFault → ImageFault → Type 0
IsRefusal flaw fault = (fault ≡ NoMemory) ⊎ (flaw ≡ Some fault)

-- the name of the format stands behind the gate
abbrev pub magic_flaw : List ℕ → Option ImageFault
magic_flaw text =
    unless (bytes_eq (take 7 (drop MAGIC_AT text)) (codes "ORCHUCF")) (Damaged MAGIC_AT Magic)

abbrev pub version_flaw : List ℕ → Option ImageFault
version_flaw text = unless (u32_in text VERSION_AT == VERSION) (Damaged VERSION_AT Version)

-- two places are kept at 0
abbrev pub reserved_flaw : List ℕ → Option ImageFault
reserved_flaw text =
    first_of
    (unless (u32_in text ZERO_AT == 0) (Damaged ZERO_AT Reserved)
    ∷ unless (u64_in text ZEROS_AT == 0) (Damaged ZEROS_AT Reserved) ∷ [])

-- there is a frame, a checkpoint for each number up to this one was taken in a turn of its own, and
-- turns and blocks are within their limits
abbrev pub counts_flaw : Header → Option ImageFault
counts_flaw h =
    first_of
    (unless (nat_le 1 h.frames) (Damaged FRAMES_AT Counts)
    ∷ unless (nat_le 1 h.number && nat_le h.number h.turns) (Damaged NUMBER_AT Counts)
    ∷ unless (nat_le h.turns MOST_TURNS) (Damaged TURNS_AT Counts)
    ∷ unless (nat_le h.blocks MOST_BLOCKS) (Damaged BLOCKS_AT Counts) ∷ [])

-- the first flaw that a header has by itself
abbrev pub header_flaw : List ℕ → Option ImageFault
header_flaw text =
    first_of
    (magic_flaw text ∷ version_flaw text ∷ reserved_flaw text ∷ counts_flaw (header_of text) ∷ [])
