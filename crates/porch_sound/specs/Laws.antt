-- What is done with objects gives values of its type, and keeps the store typed.
use Rattle.std.specs.Prelude.{ℕ, ℤ, ◌≡◌, ◌<◌, ⊤, IsTrue, Bool, List, [], ◌∷◌, ◌++◌, length, slice_get, Some, Result, Ok, Err}
use Rattle.porch_types.specs.declared.shapes.Kind.TheVariants.{Long}
use Rattle.porch_types.specs.declared.shapes.Ty.{Ty}
use Rattle.porch_types.specs.declared.shapes.Ty.TheVariants.{Pointer}
use Rattle.porch_types.specs.Leaves.{IsTypes, leaves_of}
use Rattle.porch_types.specs.LeafTypes.{IsScalar}
use Rattle.porch_types.specs.Rows.{IsSubobject}
use Rattle.porch_values.specs.Integers.{is_value_of}
use Rattle.porch_values.specs.declared.acts.Act.{Act}
use Rattle.porch_values.specs.declared.widths.Widths.{Widths}
use Rattle.porch_objects.specs.Store.{Home, Value, Root, Object, Store, object_at, seen, forgotten, entered, left, reached_one}
use Rattle.porch_objects.specs.Pointers as pointers
use Rattle.porch_objects.specs.Pointers.{Allocation}
use Rattle.porch_sound.specs.Typing.{StoreTyping, root_of, Adds, IsValueOf, IsTypedObject, AreTyped, IsTypedStore}

-- what a result gives has a property
abbrev pub Gives : {A : Type 0} → (A → Type 0) → Result A Act → Type 0
Gives P (Ok x) = P x
Gives P (Err a) = ⊤

-- with one call more, whose variables have these types
abbrev pub with_call : StoreTyping → List ℕ → StoreTyping
with_call made variables = record { globals = made.globals; calls = made.calls ++ variables ∷ []; blocks = made.blocks }

-- with one allocation more
abbrev pub with_block : StoreTyping → Root → StoreTyping
with_block made root = record { globals = made.globals; calls = made.calls; blocks = made.blocks ++ root ∷ [] }

-- an object that is alive has the root that it was made with, and is typed
pub record IsAlive (types : List Ty) (widths : Widths) (made : StoreTyping) (home : Home) (object : Object) : Type 0 where
  pub root : root_of made home ≡ Some object.root
  pub typed : IsTypedObject types widths made object

-- what an allocation of elements of a type gives
pub record IsMade (types : List Ty) (widths : Widths) (made : StoreTyping) (ty : ℕ) (a : Allocation) : Type 0 where
  pub later : StoreTyping
  pub adds : Adds made later
  pub address : IsValueOf types widths later ty a.address
  pub typed : IsTypedStore types widths later a.store
  pub calls : later.calls ≡ made.calls

-- Of a typed store: what is read of it has its type, and what changes it keeps it typed.
pub record KeepsTypes (types : List Ty) (widths : Widths) (made : StoreTyping) (s : Store) : Type 0 where
  pub objects : (home : Home) (o : Object) → object_at s home ≡ Some o → IsAlive types widths made home o
  pub values : (ty : ℕ) (v : Value) → IsValueOf types widths made ty v → IsValueOf types widths made ty (seen s v)
  pub loaded : (ty to : ℕ) (p : Value) → slice_get types ty ≡ Some (Pointer to) → IsScalar (slice_get types to)
      → IsValueOf types widths made ty p → Gives (IsValueOf types widths made to) (pointers.load s p)
  -- to a subobject of what a pointer points to
  pub members : (ty outer leaf inner ty' : ℕ) (p : Value) → slice_get types ty ≡ Some (Pointer outer) → IsSubobject types outer 1 leaf inner
      → slice_get types ty' ≡ Some (Pointer inner) → IsValueOf types widths made ty p
      → Gives (IsValueOf types widths made ty') (pointers.member s p leaf)
  pub steps : (ty to : ℕ) (p : Value) (z : ℤ) → slice_get types ty ≡ Some (Pointer to) → IsValueOf types widths made ty p
      → Gives (IsValueOf types widths made ty) (pointers.step types to s p z)
  -- the number of elements between two pointers is a long in each width
  pub differences : (ty to : ℕ) (p q : Value) → slice_get types ty ≡ Some (Pointer to) → IsValueOf types widths made ty p
      → IsValueOf types widths made ty q → Gives (λ z. IsTrue (is_value_of Long widths z)) (pointers.difference types to s p q)
  pub stored : (ty to : ℕ) (p v : Value) → slice_get types ty ≡ Some (Pointer to) → IsScalar (slice_get types to)
      → IsValueOf types widths made ty p → IsValueOf types widths made to v
      → Gives (IsTypedStore types widths made) (pointers.store s p v)
  pub copied : (ty to : ℕ) (p q : Value) → slice_get types ty ≡ Some (Pointer to) → IsValueOf types widths made ty p
      → IsValueOf types widths made ty q → Gives (IsTypedStore types widths made) (pointers.copy (leaves_of types to) s p q)
  pub allocated : (ty to : ℕ) (zeros : Bool) (count : ℤ) → slice_get types ty ≡ Some (Pointer to) → to < length types
      → Gives (IsMade types widths made ty) (pointers.allocate types to zeros count s)
  pub released : (p : Value) → Gives (IsTypedStore types widths made) (pointers.release s p)
  pub forgets : (home : Home) → IsTypedStore types widths made (forgotten s home)
  pub reaches : IsTypedStore types widths made (reached_one s)
  pub enters : (variables : List ℕ) (objects : List Object) → AreTyped types widths made variables objects
      → IsTypedStore types widths (with_call made variables) (entered s objects)
  pub leaves : IsTypedStore types widths made (left s)

abbrev pub KeepTypes : Type 0
KeepTypes = (types : List Ty) (widths : Widths) (made : StoreTyping) (s : Store) → IsTypes types
    → IsTypedStore types widths made s → KeepsTypes types widths made s
