-- What names of objects, values and roots mean.
use Rattle.porch_live.specs.declared.value.Home.{Home}
use Rattle.porch_live.specs.declared.value.Home.TheVariants.{Global, Call, Block}
use Rattle.porch_live.specs.declared.value.Value.{Value}
use Rattle.porch_live.specs.declared.value.Value.TheVariants.{Number, Null, Pointer, Past, Indeterminate}
use Rattle.porch_live.specs.declared.object.Root.{Root}
use Rattle.porch_objects.specs.Store as store
use Rattle.porch_objects.specs.Store.{of_global, of_call, of_block, number, null, pointer, past, indeterminate}

abbrev pub home_of : Home → store.Home
home_of (Global global) = of_global global
home_of (Call call variable) = of_call call variable
home_of (Block block) = of_block block

abbrev pub value_of : Value → store.Value
value_of (Number z) = number z
value_of Null = null
value_of (Pointer home leaf) = pointer (home_of home) leaf
value_of (Past home leaf until) = past (home_of home) leaf until
value_of Indeterminate = indeterminate

abbrev pub root_of : Root → store.Root
root_of root = record { ty = root.ty; count = root.count }
