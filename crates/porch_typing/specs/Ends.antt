-- The program that a text comes to, with its last types, and what agrees with it at a place of the text.
use Rattle.std.specs.Prelude.{ℕ, ◌≡◌, ⊤, ◌⊎◌, IsTrue, nat_eq, if◌then◌else◌, List, map, take, slice_get, Some, None}
use Rattle.std.specs.List.{list_any}
use Rattle.std.specs.Str.{bytes_eq}
use Rattle.porch_types.specs.declared.shapes.Kind.{Kind}
use Rattle.porch_types.specs.declared.shapes.Kind.TheVariants.{Int}
use Rattle.porch_types.specs.Kinds.{kind_number}
use Rattle.porch_types.specs.Leaves as leaves
use Rattle.porch_values.specs.Integers.{in_range}
use Rattle.porch_typed.specs.Mirror.{Function, Program}
use Rattle.porch_typed.specs.Typed.{type_of_kind, global_type}
use Rattle.porch_check.specs.Shapes.{Shape, void, pointer, array, structure, function, Member, Shapes, leaves_of, members_of, VOID}
use Rattle.porch_check.specs.Shapes as shape
use Rattle.porch_check.specs.Scopes.{Meaning, variable, global, enumerator, Scope, Scopes, of_name}
use Rattle.porch_check.specs.Calls as calls
use Rattle.porch_check.specs.Sealing.{number_of, type_of}
use Rattle.porch_typing.specs.Shapes.{Each, IsShape, AreOnce}

-- The end of a text: its last types, its program, one of that program's functions, and the names of those in order.
pub record End : Type 0 where
  pub last : Shapes
  pub program : Program
  pub function : Function
  pub bodies : List (List ℕ)

-- no void, no function, and no array without a count
abbrev pub IsSized : Shape → Type 0
IsSized void = ⊥
IsSized (function result params) = ⊥
IsSized (array of None) = ⊥
IsSized x = ⊤

-- a scalar
abbrev pub IsScalarShape : Shape → Type 0
IsScalarShape (shape.whole kind) = ⊤
IsScalarShape (pointer to) = ⊤
IsScalarShape x = ⊥

module _ (w : End) where
  -- the number that a type gets at the end
  abbrev pub seal : ℕ → ℕ
  seal n = number_of w.last n

  abbrev pub IsComplete : ℕ → Type 0
  IsComplete n = (k : ℕ) × (leaves_of w.last n ≡ Some k)

  -- a member stands where those in front of it end
  pub record IsMemberAt (n i : ℕ) (m : Member) : Type 0 where
    pub complete : IsComplete m.shape
    pub begins : m.leaf ≡ leaves.leaves_together (leaves.leaves_of w.program.types) (take i (map (λ (m : Member). seal m.shape) (members_of w.last n)))

  -- The program has the last types, by their last numbers.
  pub record IsEnd : Type 0 where
    pub once : AreOnce w.last
    pub types : (n k : ℕ) (x : Shape) → IsShape w.last n x → leaves_of w.last n ≡ Some k
        → slice_get w.program.types (seal n) ≡ Some (type_of w.last x n)
    pub sized : (n k : ℕ) (x : Shape) → IsShape w.last n x → leaves_of w.last n ≡ Some k → IsSized x
    pub pointers : (n to : ℕ) → IsShape w.last n (pointer to) → IsComplete n
    pub wholes : (n : ℕ) (kind : Kind) → IsShape w.last n (shape.whole kind) → n ≡ kind_number kind
    pub kinds : (kind : Kind) → IsComplete (kind_number kind) × IsShape w.last (kind_number kind) (shape.whole kind)
    pub numbers : (kind : Kind) → seal (kind_number kind) ≡ type_of_kind kind
    pub members : (n number k i : ℕ) (m : Member) → IsShape w.last n (structure number) → leaves_of w.last n ≡ Some k
        → slice_get (members_of w.last n) i ≡ Some m → IsMemberAt n i m

  -- what a name means is so in the program
  abbrev pub IsMeant : Meaning → Type 0
  IsMeant (variable k n) = (slice_get w.function.variables k ≡ Some (seal n)) × IsComplete n
  IsMeant (global k n) = (global_type (slice_get w.program.globals k) ≡ Some (seal n)) × IsComplete n
  IsMeant (enumerator z) = IsTrue (in_range Int 32 z)
  IsMeant m = ⊤

  abbrev pub AreMeant : Scope → Type 0
  AreMeant c = (x : List ℕ) (m : Meaning) → of_name x c.names ≡ Some m → IsMeant m

  -- the function of this number has a type of that number
  pub record IsCallable (k n : ℕ) : Type 0 where
    pub result : ℕ
    pub params : List ℕ
    pub shape : IsShape w.last n (function result params)
    pub function : Function
    pub here : slice_get w.program.functions k ≡ Some function
    pub gives : function.result ≡ (if nat_eq result VOID then None else Some (seal result))
    pub takes : take function.params function.variables ≡ map seal params
    pub scalar : (x : Shape) → IsShape w.last result x → (result ≡ VOID) ⊎ IsScalarShape x

  -- what is known at a place of the text is so in the program
  pub record Agrees (s : Scopes) : Type 0 where
    pub inner : AreMeant s.inner
    pub outer : Each AreMeant s.outer
    pub declared : (x : List ℕ) (n : ℕ) → of_name x s.declared ≡ Some n → IsTrue (list_any (bytes_eq x) w.bodies)
        → IsCallable (calls.number_of x w.bodies) n
