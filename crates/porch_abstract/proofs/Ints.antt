-- Ints, in each width of long.
use Rattle.std.proofs.Common.{ℤ, Bool, true, false, not, ◌&&◌, ◌||◌, IsTrue, refl}
use Rattle.porch_types.specs.declared.shapes.Kind.TheVariants.{Int}
use Rattle.porch_values.specs.declared.widths.Widths.{Widths}
use Rattle.porch_values.specs.Integers.{in_range, is_value_of}

in_one : (narrow wide test : Bool) → IsTrue (narrow || wide) → IsTrue ((not narrow || test) && (not wide || test)) → IsTrue test
in_one true true true s h = h
in_one true true false s h = h
in_one true false true s h = refl
in_one true false false s h = h
in_one false true true s h = refl
in_one false true false s h = h
in_one false false test s h = cc

pub int_in_range : (w : Widths) (z : ℤ) → IsTrue (is_value_of Int w z) → IsTrue (in_range Int 32 z)
int_in_range w z h = in_one w.narrow w.wide (in_range Int 32 z) w.some h
