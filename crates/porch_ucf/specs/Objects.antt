-- The objects of a checkpoint, whose values are its data, and where they stand in it.
use Rattle.std.specs.Prelude.{ℕ, ◌+◌, ◌*◌, ◌==◌, List, [], ◌∷◌, ◌++◌, length, slice_get, Option}
use Rattle.std.specs.List.{flat_map, fold}
use Rattle.porch_types.specs.declared.shapes.Ty.{Ty}
use Rattle.porch_metrics.specs.Extents.{extent_of, ucf_layout}
use Rattle.porch_find.specs.declared.roots.Root.{Root}
use Rattle.porch_flat.specs.declared.whole.Flat.{Flat}
use Rattle.porch_flat.specs.whole.Places.{vars_of}
use Rattle.porch_ucf.specs.declared.fault.Reason.TheVariants.{Size}
use Rattle.porch_ucf.specs.declared.fault.ImageFault.{ImageFault}
use Rattle.porch_ucf.specs.declared.fault.ImageFault.TheVariants.{Damaged}
use Rattle.porch_ucf.specs.declared.header.TheConstants.{BODY_AT}
use Rattle.porch_ucf.specs.declared.image.FrameRow.{FrameRow}
use Rattle.porch_ucf.specs.declared.image.BlockRow.{BlockRow}
use Rattle.porch_ucf.specs.HeaderFlaws.{unless}

-- an object of one element
abbrev pub single : ℕ → List BlockRow
single ty = record { ty = ty; count = 1 } ∷ []

-- the variables of a frame
abbrev pub frame_objects : Flat → FrameRow → List BlockRow
frame_objects program frame = flat_map single (vars_of (slice_get program.functions frame.function))

-- the globals, the variables of each frame, the heap blocks
abbrev pub objects_of : Flat → List FrameRow → List BlockRow → List BlockRow
objects_of program frames blocks =
    flat_map (λ g. single g.ty) program.globals
    ++ (flat_map (frame_objects program) frames ++ blocks)

-- how many bytes an object has in the data, where its values are packed
abbrev pub packed_size : List Ty → BlockRow → ℕ
packed_size types object = object.count * (extent_of ucf_layout types object.ty).size

-- objects in the data, and where they end
pub record Placed : Type 0 where
  pub roots : List Root
  pub end : ℕ

abbrev pub put_behind : List Ty → Placed → BlockRow → Placed
put_behind types placed object =
    record {
      roots = placed.roots ++ record { at = placed.end; ty = object.ty; count = object.count } ∷ [];
      end = placed.end + packed_size types object;
    }

abbrev pub nothing_placed : Placed
nothing_placed = record { roots = []; end = 0 }

-- objects that follow one another from the beginning of the data
abbrev pub placed : List Ty → List BlockRow → Placed
placed types objects = fold (put_behind types) nothing_placed objects

-- the data is as long as its objects
abbrev pub size_flaw : List Ty → List BlockRow → List ℕ → Option ImageFault
size_flaw types objects bytes =
    unless ((placed types objects).end == length bytes) (Damaged BODY_AT Size)
