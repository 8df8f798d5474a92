-- What is done through pointers of the source is the same with temporaries beside it, and leaves these as they were.
use Rattle.std.specs.Prelude.{ℕ, ℤ, ◌≡◌, Bool, List, [], ◌∷◌, ◌++◌, length, Result, Ok, Err}
use Rattle.porch_types.specs.declared.shapes.Ty.{Ty}
use Rattle.porch_values.specs.declared.acts.Act.{Act}
use Rattle.porch_objects.specs.Store.{Home, Value, Object, Store, object_at, seen, leaf_at, forgotten, entered, left, reached_one}
use Rattle.porch_objects.specs.Pointers as pointers
use Rattle.porch_objects.specs.Pointers.{Allocation}
use Rattle.porch_sound.specs.Typing.{Each}
use Rattle.porch_sound.specs.Laws.{Gives}
use Rattle.porch_lowered.specs.Beside.{beside, IsDeclared, IsGrounded, HoldsGrounded, IsGroundedStore}

-- a result of the source's store as one of the other store
abbrev pub store_beside : List (List Object) → Result Store Act → Result Store Act
store_beside temporaries (Ok s) = Ok (beside s temporaries)
store_beside temporaries (Err a) = Err a

abbrev pub allocation_beside : List (List Object) → Result Allocation Act → Result Allocation Act
allocation_beside temporaries (Ok made) = Ok (record { address = made.address; store = beside made.store temporaries })
allocation_beside temporaries (Err a) = Err a

-- What is read of the one store is read of the other.
pub record ReadsAlike (types : List Ty) (declared : List ℕ) (s : Store) (t : List (List Object)) : Type 0 where
  pub objects : (home : Home) → IsDeclared declared home → object_at (beside s t) home ≡ object_at s home
  pub leaves : (home : Home) (leaf : ℕ) → IsDeclared declared home → leaf_at (beside s t) home leaf ≡ leaf_at s home leaf
  pub values : (v : Value) → IsGrounded declared v → seen (beside s t) v ≡ seen s v
  pub loaded : (p : Value) → IsGrounded declared p → pointers.load (beside s t) p ≡ pointers.load s p
  pub members : (p : Value) (leaf : ℕ) → IsGrounded declared p → pointers.member (beside s t) p leaf ≡ pointers.member s p leaf
  pub steps : (pointee : ℕ) (p : Value) (z : ℤ) → IsGrounded declared p
      → pointers.step types pointee (beside s t) p z ≡ pointers.step types pointee s p z
  pub differences : (pointee : ℕ) (p q : Value) → IsGrounded declared p → IsGrounded declared q
      → pointers.difference types pointee (beside s t) p q ≡ pointers.difference types pointee s p q
  pub equalities : (pointee : ℕ) (p q : Value) → IsGrounded declared p → IsGrounded declared q
      → pointers.equality types pointee (beside s t) p q ≡ pointers.equality types pointee s p q
  pub texts : (pointee : ℕ) (p : Value) → IsGrounded declared p
      → pointers.text types pointee (beside s t) p ≡ pointers.text types pointee s p

-- What changes the one store changes the other alike, and no temporary.
pub record ChangesAlike (types : List Ty) (declared : List ℕ) (s : Store) (t : List (List Object)) : Type 0 where
  pub stored : (p v : Value) → IsGrounded declared p → IsGrounded declared v
      → pointers.store (beside s t) p v ≡ store_beside t (pointers.store s p v)
  pub copied : (count : ℕ) (p q : Value) → IsGrounded declared p → IsGrounded declared q
      → pointers.copy count (beside s t) p q ≡ store_beside t (pointers.copy count s p q)
  pub allocated : (ty : ℕ) (zeros : Bool) (count : ℤ)
      → pointers.allocate types ty zeros count (beside s t) ≡ allocation_beside t (pointers.allocate types ty zeros count s)
  pub released : (p : Value) → IsGrounded declared p → pointers.release (beside s t) p ≡ store_beside t (pointers.release s p)
  pub forgets : (home : Home) → IsDeclared declared home → forgotten (beside s t) home ≡ beside (forgotten s home) t
  pub reaches : reached_one (beside s t) ≡ beside (reached_one s) t
  -- a call begins with temporaries of its own, and ends with them
  pub enters : (variables more : List Object) → entered (beside s t) (variables ++ more) ≡ beside (entered s variables) (more ∷ t)
  pub leaves : (more : List Object) → left (beside s (more ∷ t)) ≡ beside (left s) t

-- Nothing that is done through pointers of the source makes one to a temporary.
pub record StaysGrounded (types : List Ty) (declared : List ℕ) (s : Store) : Type 0 where
  pub leaves : (home : Home) (leaf : ℕ) → IsGrounded declared (leaf_at s home leaf)
  pub values : (v : Value) → IsGrounded declared v → IsGrounded declared (seen s v)
  pub loaded : (p : Value) → Gives (IsGrounded declared) (pointers.load s p)
  pub members : (p : Value) (leaf : ℕ) → IsGrounded declared p → Gives (IsGrounded declared) (pointers.member s p leaf)
  pub steps : (pointee : ℕ) (p : Value) (z : ℤ) → IsGrounded declared p → Gives (IsGrounded declared) (pointers.step types pointee s p z)
  pub stored : (p v : Value) → IsGrounded declared v → Gives (IsGroundedStore declared) (pointers.store s p v)
  pub copied : (count : ℕ) (p q : Value) → Gives (IsGroundedStore declared) (pointers.copy count s p q)
  pub allocated : (ty : ℕ) (zeros : Bool) (count : ℤ)
      → Gives (λ made. IsGrounded declared made.address × IsGroundedStore declared made.store) (pointers.allocate types ty zeros count s)
  pub released : (p : Value) → Gives (IsGroundedStore declared) (pointers.release s p)
  pub forgets : (home : Home) → IsGroundedStore declared (forgotten s home)
  pub reaches : IsGroundedStore declared (reached_one s)
  pub enters : (variables : List Object) → Each (λ object. HoldsGrounded declared object) variables
      → IsGroundedStore (declared ++ length variables ∷ []) (entered s variables)
  pub ends : IsGroundedStore declared (left s)

abbrev pub AreReadAlike : Type 0
AreReadAlike =
    (types : List Ty) (declared : List ℕ) (s : Store) (t : List (List Object)) → IsGroundedStore declared s → ReadsAlike types declared s t

abbrev pub AreChangedAlike : Type 0
AreChangedAlike =
    (types : List Ty) (declared : List ℕ) (s : Store) (t : List (List Object)) → IsGroundedStore declared s → ChangesAlike types declared s t

abbrev pub StayGrounded : Type 0
StayGrounded = (types : List Ty) (declared : List ℕ) (s : Store) → IsGroundedStore declared s → StaysGrounded types declared s
