-- What is known at a place of a text, and how it goes on behind an expression, a type name or a declarator.
use Rattle.std.specs.Prelude.{ℕ, ℤ, ◌≡◌, ◌⊎◌, ⊤, IsTrue, false, List, Some, Result, Ok, Err}
use Rattle.porch_lex.specs.declared.refusal.Refusal.{Refusal}
use Rattle.porch_types.specs.declared.shapes.Kind.TheVariants.{Int}
use Rattle.porch_values.specs.Integers.{in_range}
use Rattle.porch_check.specs.Shapes.{Shapes, structure}
use Rattle.porch_check.specs.Scopes.{Meaning, variable, global, type_name, enumerator, Tag, Scope, Scopes, of_name, of_tag}
use Rattle.porch_check.specs.Operands.{Typing}
use Rattle.porch_typing.specs.Shapes.{Each, IsKnown, IsShape, AreShapes}

-- what a name means has a type
abbrev pub IsMeaning : Shapes → Meaning → Type 0
IsMeaning s (variable k n) = IsKnown s n
IsMeaning s (global k n) = IsKnown s n
IsMeaning s (type_name n) = IsKnown s n
IsMeaning s m = ⊤

-- a tag whose brace was not opened is a struct's
pub record IsTag (s : Shapes) (t : Tag) : Type 0 where
  pub known : IsKnown s t.shape
  pub struct : t.begun ≡ false → IsShape s t.shape (structure t.shape)

pub record IsScope (s : Shapes) (c : Scope) : Type 0 where
  pub names : (x : List ℕ) (m : Meaning) → of_name x c.names ≡ Some m → IsMeaning s m
  pub tags : (x : List ℕ) (t : Tag) → of_tag x c.tags ≡ Some t → IsTag s t

-- What holds at each place of a text.
pub record IsState (s : Scopes) : Type 0 where
  pub shapes : AreShapes s.shapes
  pub inner : IsScope s.shapes s.inner
  pub outer : Each (IsScope s.shapes) s.outer

-- no part of an expression declares an object or a function
pub record Stays (s t : Scopes) : Type 0 where
  pub outer : t.outer ≡ s.outer
  pub declared : t.declared ≡ s.declared
  pub variables : t.variables ≡ s.variables
  pub globals : t.globals ≡ s.globals
  pub entries : t.entries ≡ s.entries
  pub functions : t.functions ≡ s.functions

-- an enumeration constant
abbrev pub IsEnumerator : Meaning → Type 0
IsEnumerator m = (z : ℤ) × (m ≡ enumerator z) × IsTrue (in_range Int 32 z)

-- names of a scope are those that it had, or enumeration constants
abbrev pub KeepsNames : (c d : Scope) → Type 0
KeepsNames c d = (x : List ℕ) (m : Meaning) → of_name x d.names ≡ Some m → (of_name x c.names ≡ Some m) ⊎ IsEnumerator m

-- what holds of what was found, and of what is known behind it
abbrev pub IsHeld : {A : Type 0} → (A → Scopes → Type 0) → Typing A → Type 0
IsHeld P (Ok r) = P r.0 r.1
IsHeld P (Err r) = ⊤

pub record Holds {A : Type 0} (P : A → Scopes → Type 0) (r : Typing A) : Type 0 where
  pub is : IsHeld P r

-- the same of what is found without a change of what is known
abbrev pub IsGiven : {A : Type 0} → (A → Type 0) → Result A Refusal → Type 0
IsGiven P (Ok x) = P x
IsGiven P (Err r) = ⊤

pub record Gives {A : Type 0} (P : A → Type 0) (r : Result A Refusal) : Type 0 where
  pub is : IsGiven P r
