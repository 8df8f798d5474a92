-- What expressions are found to be has its type in the program that the text comes to.
use Rattle.std.specs.Prelude.{ℕ, ◌≡◌, ⊤, IsTrue, true, List, Option, Some, None}
use Rattle.std.specs.List.{list_any}
use Rattle.std.specs.Str.{bytes_eq}
use Rattle.porch_types.specs.declared.shapes.Kind.{Kind}
use Rattle.porch_types.specs.declared.shapes.Kind.TheVariants.{Int}
use Rattle.porch_typed.specs.Typed.{type_of_kind, AreBytes, HasType, IsPlaceOf}
use Rattle.porch_check.specs.Shapes.{pointer, structure}
use Rattle.porch_check.specs.Scopes.{Scopes}
use Rattle.porch_check.specs.Operands.{Value, integer, address, no_address, record_of, nothing, Typed, Form, operand, place, literal, size, sized, callee, library_callee}
use Rattle.porch_check.specs.Declarations.{Parameter, Part, star, counted, listed, Declared}
use Rattle.porch_check.specs.Sealing.{sealed, sealed_place}
use Rattle.porch_typing.specs.Shapes.{Each, IsKnown, IsShape, ComeTo, GoOn}
use Rattle.porch_typing.specs.States.{IsScope, IsState, Stays, KeepsNames}
use Rattle.porch_typing.specs.Ends.{End, seal, IsComplete, Agrees}

-- the types that a form names are known
abbrev pub IsKnownForm : Form → Scopes → Type 0
IsKnownForm (place p n) s = IsKnown s.shapes n
IsKnownForm (size n) s = IsKnown s.shapes n
IsKnownForm (sized x n) s = IsKnown s.shapes n
IsKnownForm f s = ⊤

-- nothing that later parts rely on
abbrev pub Anything : {A : Type 0} → A → Scopes → Type 0
Anything x s = ⊤

-- nothing is said of the program
abbrev pub NoFact : {A : Type 0} → A → Type 0
NoFact x = ⊤

-- the number of a type that is known
abbrev pub IsType : ℕ → Scopes → Type 0
IsType n s = IsKnown s.shapes n

-- what stands round a name names known types, and a parameter list's scope is in order
abbrev pub IsPart : Part → Scopes → Type 0
IsPart (star at) s = ⊤
IsPart (counted at n) s = ⊤
IsPart (listed at ps c) s = Each (λ (p : Parameter). IsKnown s.shapes p.shape) ps × IsScope s.shapes c

abbrev pub AreParts : List Part → Scopes → Type 0
AreParts ps s = Each (λ (p : Part). IsPart p s) ps

abbrev pub IsDeclared : Declared → Scopes → Type 0
IsDeclared d s = AreParts d.parts s

module _ (w : End) where
  -- the type of a value; a null pointer of no type is an int
  abbrev pub type_of_value : Value → Option ℕ
  type_of_value (integer kind) = Some (type_of_kind kind)
  type_of_value (address n to) = Some (seal w n)
  type_of_value no_address = Some (type_of_kind Int)
  type_of_value (record_of n) = Some (seal w n)
  type_of_value nothing = None

  abbrev pub IsValue : Value → Type 0
  IsValue (address n to) = IsShape w.last n (pointer to)
  IsValue (record_of n) = IsComplete w n × (number : ℕ) × IsShape w.last n (structure number)
  IsValue v = ⊤

  pub record IsOperand (x : Typed) : Type 0 where
    pub tree : HasType w.program w.function (sealed (seal w) x.tree) (type_of_value x.value)
    pub value : IsValue x.value
    pub zero : x.is_zero ≡ true → (kind : Kind) × (x.value ≡ integer kind)

  abbrev pub IsForm : Form → Type 0
  IsForm (operand x) = IsOperand x
  IsForm (place p n) = IsPlaceOf w.program w.function (sealed_place (seal w) p) (seal w n) × IsComplete w n
  IsForm (literal bs) = AreBytes bs
  IsForm (size n) = IsComplete w n
  IsForm (sized x n) = IsOperand x × IsComplete w n
  IsForm (callee n) = IsTrue (list_any (bytes_eq n.bytes) w.bodies)
  IsForm (library_callee l) = ⊤

  -- Behind an expression, a type name or a declarator: `K` holds of what was found, and `R` where the program agrees.
  pub record Leads {A : Type 0} (K : A → Scopes → Type 0) (R : A → Type 0) (s : Scopes) (x : A) (t : Scopes) : Type 0 where
    pub goes : GoOn w.last s.shapes t.shapes
    pub state : IsState t
    pub stays : Stays s t
    pub names : KeepsNames s.inner t.inner
    pub known : K x t
    pub holds : Agrees w s → ComeTo t.shapes w.last → R x

  -- behind a parameter, which is a new name of its scope
  pub record Passes {A : Type 0} (K : A → Scopes → Type 0) (s : Scopes) (x : A) (t : Scopes) : Type 0 where
    pub goes : GoOn w.last s.shapes t.shapes
    pub state : IsState t
    pub stays : Stays s t
    pub known : K x t
