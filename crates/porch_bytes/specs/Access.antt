-- Which bytes of memory may be read and written.
use Rattle.std.specs.Prelude.{ℕ, ◌+◌, ◌%◌, ◌==◌, nat_le, ℤ, pos, int_le, Bool, ◌&&◌, List, take, position, if◌then◌else◌, Option}
use Rattle.std.specs.Option.{option_map}
use Rattle.porch_bytes.specs.declared.access.Parts.{Parts}

-- an address lies between two places
abbrev pub is_between : (from to at : ℕ) → Bool
is_between from to at = nat_le from at && nat_le (at + 1) to

-- The end of the part of memory that an address lies in: the globals, the used stack or the heap. Of an address
-- in none it is the address itself. At least one byte lies between two parts.
abbrev pub part_end : Parts → (at : ℕ) → ℕ
part_end parts at =
    if is_between parts.globals parts.globals_end at then parts.globals_end
    else (if is_between parts.stack parts.stack_end at then parts.stack_end
    else (if is_between parts.heap parts.end at then parts.end
    else at))

-- so many bytes may be reached at an address: each lies in a part of memory, and the address is aligned
abbrev pub is_place : Parts → (size align at : ℕ) → Bool
is_place parts size align at = nat_le (at + size) (part_end parts at) && (at % align) == 0

-- a sum is an address of memory, or its end
abbrev pub is_address : Parts → ℤ → Bool
is_address parts z = int_le (pos 0) z && int_le z (pos parts.end)

-- bytes up to the first 0, where there is one
abbrev pub text_in : List ℕ → Option (List ℕ)
text_in bytes = option_map (λ n. take n bytes) (position (λ b. b == 0) bytes)
