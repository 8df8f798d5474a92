-- What an answer of the code means: the answer that the definitions give, with the store as it is then.
use Rattle.std.specs.Prelude.{ℕ, List, Vec, Result, Ok, Err}
use Rattle.std.specs.declared.alloc.Global.{Global}
use Rattle.porch_values.specs.declared.acts.Act.{Act}
use Rattle.porch_live.specs.declared.value.Value.{Value}
use Rattle.porch_live.specs.Views.{value_of}
use Rattle.porch_objects.specs.Store as store
use Rattle.porch_objects.specs.Pointers.{Allocation}

-- the store, or the act
abbrev pub after : Result (Unit {0}) Act → store.Store → Result store.Store Act
after (Ok done) s = Ok s
after (Err act) s = Err act

-- the value, or the act
abbrev pub value_in : Result Value Act → Result store.Value Act
value_in (Ok value) = Ok (value_of value)
value_in (Err act) = Err act

-- the address and the store with the object, or the act
abbrev pub allocation_of : Result Value Act → store.Store → Result Allocation Act
allocation_of (Ok value) s = Ok (record { address = value_of value; store = s })
allocation_of (Err act) s = Err act

-- the bytes, or the act
abbrev pub text_of : Result (Vec ℕ Global) Act → Result (List ℕ) Act
text_of (Ok bytes) = Ok bytes.items
text_of (Err act) = Err act
