-- Where the objects of a state lie in the memory of a machine that stands for it.
use Rattle.std.specs.Prelude.{ℕ, ◌≡◌, ◌<◌, ◌≤◌, ◌+◌, ◌*◌, ◌%◌, length, slice_get, Some}
use Rattle.porch_types.specs.Leaves.{IsTypes}
use Rattle.porch_values.specs.declared.widths.Widths.{Widths}
use Rattle.porch_objects.specs.Store.{Home, Object, object_at}
use Rattle.porch_flat.specs.declared.whole.Flat.{Flat}
use Rattle.porch_flat.specs.declared.whole.Sort.{Sort}
use Rattle.porch_flat.specs.whole.Rules.{IsValid}
use Rattle.porch_abstract.specs.Machine as abstract
use Rattle.porch_bytes.specs.declared.access.Parts.{Parts}
use Rattle.porch_bytes.specs.Memory.{global_types, variables}
use Rattle.porch_bytes.specs.State.{Setting, State, frames_of}
use Rattle.porch_bytes.specs.Column.{size_of, align_of, parts_with}
use Rattle.porch_stands.specs.Follows.{IsStoodFor}

-- a program's types are lawful, and those of its globals and variables are among them
pub record HasTypes (flat : Flat) : Type 0 where
  pub types_are : IsTypes flat.types
  pub globals_known : (g ty : ℕ) → slice_get (global_types flat) g ≡ Some ty → ty < length flat.types
  pub variables_known : (under : Setting) (function v ty : ℕ) → slice_get (variables under.layout flat function) v ≡ Some ty
      → ty < length flat.types

-- A valid program with lawful types is such a one.
abbrev pub ValidProgramsHaveTypes : Type 0
ValidProgramsHaveTypes = (sort : Sort) (flat : Flat) → IsValid sort flat → IsTypes flat.types → HasTypes flat

-- so many bytes from an address on lie in one part of memory
pub data LieIn (parts : Parts) (at bytes : ℕ) : Type 0 where
  in_globals : parts.globals ≤ at → at + bytes ≤ parts.globals_end → LieIn parts at bytes
  in_stack : parts.stack ≤ at → at + bytes ≤ parts.stack_end → LieIn parts at bytes
  in_heap : parts.heap ≤ at → at + bytes ≤ parts.end → LieIn parts at bytes

-- an object of a type of the program lies at an address, in one part of memory, and is aligned
pub record IsPlaced (flat : Flat) (on : Setting) (m : State) (at : ℕ) (object : Object) : Type 0 where
  pub known : object.root.ty < length flat.types
  pub lies : LieIn (parts_with flat on (frames_of m.phase)) at (object.root.count * size_of flat on object.root.ty)
  pub inside : at + object.root.count * size_of flat on object.root.ty ≤ length m.memory
  pub aligned : at % align_of flat on object.root.ty ≡ 0

-- Where a machine stands for a state, each object that lives has its place.
abbrev pub ObjectsArePlaced : Type 0
ObjectsArePlaced =
    (flat : Flat) (on : Setting) (w : Widths) (m : State) (s : abstract.State) → HasTypes flat
    → (h : IsStoodFor flat on w m s) (home : Home) (object : Object) → object_at s.store home ≡ Some object
    → IsPlaced flat on m (h.stands.address home) object
