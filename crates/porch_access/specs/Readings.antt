-- Values that are read of objects.
use Rattle.std.specs.Prelude.{ℕ}
use Rattle.porch_typed.specs.Mirror.{Expression, read, whole, first, Place}
use Rattle.porch_check.specs.Operands.{Typed, typed_as}
use Rattle.porch_operands.specs.Views.{as_value}
use Rattle.porch_access.specs.declared.reading.How as code_how
use Rattle.porch_access.specs.declared.reading.How.TheVariants as how
use Rattle.porch_access.specs.declared.reading.Reading as code_reading

abbrev pub read_tree : code_how.How → (ty : ℕ) → Place → Expression
read_tree how.First n p = first n p
read_tree how.Whole n p = whole n p
read_tree how.Scalar n p = read n p

-- what is read at a place
abbrev pub read_with : Place → code_reading.Reading → Typed
read_with p r = typed_as (read_tree r.how r.shape p) (as_value r.value)
