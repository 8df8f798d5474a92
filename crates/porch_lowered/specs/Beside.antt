-- The store of a flat run beside that of the source: they have the same objects, and each call of the flat run has its
-- temporaries behind the declared variables. So every object has the same name in both.
use Rattle.std.specs.Prelude.{ℕ, ◌≡◌, ◌<◌, ⊤, List, [], ◌∷◌, ◌++◌, length, slice_index}
use Rattle.porch_sound.specs.Typing.{Each}
use Rattle.porch_objects.specs.Store.{Home, of_global, of_call, of_block, Value, number, null, pointer, past, indeterminate, Object, Activation, HeapObject, Store, with_calls}

-- the calls with temporaries behind their variables, those of the innermost call first
abbrev pub with_temporaries : List Activation → List (List Object) → List Activation
with_temporaries [] temporaries = []
with_temporaries (a ∷ calls) [] = a ∷ calls
with_temporaries (a ∷ calls) (t ∷ temporaries) =
    record { number = a.number; variables = a.variables ++ t } ∷ with_temporaries calls temporaries

abbrev pub beside : Store → List (List Object) → Store
beside s temporaries = with_calls s (with_temporaries s.calls temporaries)

-- `declared` has for each call that was made how many variables it declares. A name that the source knows: of a call one
-- of these.
abbrev pub IsDeclared : (declared : List ℕ) → Home → Type 0
IsDeclared declared (of_global global) = ⊤
IsDeclared declared (of_call call variable) = variable < slice_index declared call
IsDeclared declared (of_block block) = ⊤

-- a value that points to no temporary
abbrev pub IsGrounded : (declared : List ℕ) → Value → Type 0
IsGrounded declared (number z) = ⊤
IsGrounded declared null = ⊤
IsGrounded declared (pointer home leaf) = IsDeclared declared home
IsGrounded declared (past home leaf until) = IsDeclared declared home
IsGrounded declared indeterminate = ⊤

abbrev pub HoldsGrounded : (declared : List ℕ) → Object → Type 0
HoldsGrounded declared object = Each (λ v. IsGrounded declared v) object.leaves

-- a call that was made and has as many variables as it declares, none of which points to a temporary
pub record IsFrame (declared : List ℕ) (a : Activation) : Type 0 where
  pub made : a.number < length declared
  pub variables : length a.variables ≡ slice_index declared a.number
  pub values : Each (λ object. HoldsGrounded declared object) a.variables

-- a store of the source
pub record IsGroundedStore (declared : List ℕ) (s : Store) : Type 0 where
  pub made : length declared ≡ s.called
  pub globals : Each (λ object. HoldsGrounded declared object) s.globals
  pub calls : Each (λ a. IsFrame declared a) s.calls
  pub blocks : Each (λ (b : HeapObject). HoldsGrounded declared b.object) s.blocks
