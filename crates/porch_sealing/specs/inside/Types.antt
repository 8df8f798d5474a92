-- Types by their first numbers.
use Rattle.std.specs.Prelude.{ℕ, List, map}
use Rattle.porch_types.specs.declared.shapes.Ty.{Ty}
use Rattle.porch_check.specs.Shapes.{Member, Shapes, shape_of}
use Rattle.porch_check.specs.Sealing.{type_of}

abbrev pub member_types : List Member → List ℕ
member_types ms = map (λ (m : Member). m.shape) ms

-- the types of a program that have these first numbers
abbrev pub types_in : Shapes → List ℕ → List Ty
types_in s ns = map (λ n. type_of s (shape_of s n) n) ns
