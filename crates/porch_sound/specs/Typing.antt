-- The store typing of a run: which objects were made so far, and of which types. It only grows. An object that has ended
-- keeps its type in it, so that a pointer to it still has one.
use Rattle.std.specs.Prelude.{ℕ, ◌≡◌, ◌<◌, ◌≤◌, ⊤, IsTrue, List, [], ◌∷◌, ◌++◌, length, slice_get, slice_index_or, Option, Some, None}
use Rattle.porch_types.specs.declared.shapes.Kind.{Kind}
use Rattle.porch_types.specs.declared.shapes.Ty.{Ty}
use Rattle.porch_types.specs.declared.shapes.Ty.TheVariants.{Whole, Pointer}
use Rattle.porch_types.specs.Rows.{IsSubobject}
use Rattle.porch_types.specs.LeafTypes.{leaf_type}
use Rattle.porch_values.specs.Integers.{is_value_of}
use Rattle.porch_values.specs.declared.widths.Widths.{Widths}
use Rattle.porch_objects.specs.Store.{Home, of_global, of_call, of_block, Value, number, null, pointer, past, indeterminate, Root, Object, Activation, HeapObject, Store, leaves_in, one_of}
use Rattle.porch_objects.specs.Pointers.{MOST_COUNT}

-- P holds of each element
abbrev pub Each : {A : Type 0} → (A → Type 0) → List A → Type 0
Each P [] = ⊤
Each P (x ∷ xs) = P x × Each P xs

pub record StoreTyping : Type 0 where
  -- the types of the globals
  pub globals : List ℕ
  -- for each call that was made, the types of its variables
  pub calls : List (List ℕ)
  -- for each allocation its root
  pub blocks : List Root

abbrev pub one_root : Option ℕ → Option Root
one_root None = None
one_root (Some ty) = Some (one_of ty)

-- the root of an object that was made
abbrev pub root_of : StoreTyping → Home → Option Root
root_of made (of_global global) = one_root (slice_get made.globals global)
root_of made (of_call call variable) = one_root (slice_get (slice_index_or made.calls call []) variable)
root_of made (of_block block) = slice_get made.blocks block

-- later, with the objects that were made since
pub record Adds (made later : StoreTyping) : Type 0 where
  pub globals : later.globals ≡ made.globals
  pub calls : (more : List (List ℕ)) × (later.calls ≡ made.calls ++ more)
  pub blocks : (more : List Root) × (later.blocks ≡ made.blocks ++ more)

module _ (types : List Ty) (widths : Widths) (made : StoreTyping) where
  -- a pointer of this type: a subobject of its pointee type begins at the leaf
  pub record Points (ty : ℕ) (home : Home) (leaf : ℕ) : Type 0 where
    pub to : ℕ
    pub shape : slice_get types ty ≡ Some (Pointer to)
    pub root : Root
    pub here : root_of made home ≡ Some root
    pub subobject : IsSubobject types root.ty root.count leaf to

  -- A value of a type: an integer is in the range of its kind in each width. A missing value is one of each type.
  abbrev pub IsValueOf : (ty : ℕ) → Value → Type 0
  IsValueOf ty (number z) = (kind : Kind) × (slice_get types ty ≡ Some (Whole kind)) × IsTrue (is_value_of kind widths z)
  IsValueOf ty null = (to : ℕ) × (slice_get types ty ≡ Some (Pointer to))
  IsValueOf ty (pointer home leaf) = Points ty home leaf
  IsValueOf ty (past home leaf until) = Points ty home leaf
  IsValueOf ty indeterminate = ⊤

  -- an object whose leaves have values of their types
  pub record IsTypedObject (object : Object) : Type 0 where
    pub known : object.root.ty < length types
    pub few : object.root.count ≤ MOST_COUNT
    pub size : length object.leaves ≡ leaves_in types object.root
    pub leaves : (leaf : ℕ) → IsValueOf (leaf_type types object.root.ty leaf) (slice_index_or object.leaves leaf indeterminate)

  -- objects of these types, in order
  abbrev pub AreTyped : List ℕ → List Object → Type 0
  AreTyped [] [] = ⊤
  AreTyped [] (object ∷ objects) = ⊥
  AreTyped (ty ∷ tys) [] = ⊥
  AreTyped (ty ∷ tys) (object ∷ objects) = (object.root ≡ one_of ty) × IsTypedObject object × AreTyped tys objects

  pub record IsTypedCall (a : Activation) : Type 0 where
    pub made_before : a.number < length made.calls
    pub variables : AreTyped (slice_index_or made.calls a.number []) a.variables

  pub record IsTypedBlock (b : HeapObject) : Type 0 where
    pub root : slice_get made.blocks b.number ≡ Some b.object.root
    pub object : IsTypedObject b.object

  -- A store that agrees with the store typing.
  pub record IsTypedStore (s : Store) : Type 0 where
    pub called : length made.calls ≡ s.called
    pub allocated : length made.blocks ≡ s.allocated
    pub globals : AreTyped made.globals s.globals
    pub calls : Each (λ a. IsTypedCall a) s.calls
    pub blocks : Each (λ b. IsTypedBlock b) s.blocks
