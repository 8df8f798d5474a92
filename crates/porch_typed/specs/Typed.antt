-- Which trees are typed: what lowering relies on. The rules that a source text is refused by are not these; what
-- comes through them is a tree like this.
use Rattle.std.specs.Prelude.{ℕ, ℤ, ◌≡◌, ◌≢◌, ◌<◌, ◌≤◌, ◌+◌, ◌^◌, ◌⊎◌, Bool, true, false, IsTrue, List, [], ◌∷◌, length, take, map, sum_by, slice_get, All, codes, Option, Some, None, ⊤}
use Rattle.std.specs.List.{IsDistinct}
use Rattle.std.specs.List.Sorted.{IsStrictlyIncreasing}
use Rattle.std.specs.Ordering.{int_eq}
use Rattle.std.specs.Str.{bytes_eq}
use Rattle.porch_types.specs.declared.shapes.Kind.{Kind}
use Rattle.porch_types.specs.declared.shapes.Kind.TheVariants.{Char, UChar, Short, UShort, Int, UInt, Long, ULong}
use Rattle.porch_types.specs.declared.shapes.Ty.{Ty}
use Rattle.porch_types.specs.declared.shapes.Ty.TheVariants.{Whole, Pointer, Array, Struct}
use Rattle.porch_types.specs.Leaves.{IsTypes, leaves_of, leaves_together}
use Rattle.porch_types.specs.Rows.{IsSubobject}
use Rattle.porch_values.specs.declared.acts.Op.{Op}
use Rattle.porch_values.specs.Integers.{in_range, is_shift, is_operand_kind}
use Rattle.porch_typed.specs.declared.typed.Comparison.{Comparison}
use Rattle.porch_typed.specs.declared.typed.Conversion.{Conversion}
use Rattle.porch_typed.specs.declared.typed.Conversion.TheVariants as shown
use Rattle.porch_typed.specs.declared.typed.Fill.{Fill}
use Rattle.porch_typed.specs.declared.typed.Fill.TheVariants as fill
use Rattle.porch_typed.specs.declared.typed.GlobalVariable.{GlobalVariable}
use Rattle.porch_typed.specs.declared.typed.Operator.{Operator}
use Rattle.porch_typed.specs.declared.typed.Operator.TheVariants as operator
use Rattle.porch_typed.specs.Size.{program_nodes}
use Rattle.porch_typed.specs.Mirror.{Expression, constant, null_pointer, read, whole, address, first, row, all_of, any_of, unary, isnt, choice, sequence, assign, assign_by, increment, conversion, discard, member_of, call, put_character, put_text, put_literal, print, allocate, release, checkpoint, Expressions, no_expressions, with_expression, Steps, no_steps, with_step, Place, variable, global, pointee, member, Print, bytes, number, text, literal, Prints, no_prints, with_print, Initial, nothing, value, filled, Statement, block, declare, evaluate, choose, repeat_while, repeat_until, repeat_for, switch, leave_loop, go_round, give, Statements, no_statements, with_statement, SwitchEntry, case, default, statement, SwitchEntries, no_entries, with_entry, Function, Program}

-- the numbers of the kinds' types
abbrev pub type_of_kind : Kind → ℕ
type_of_kind Char = 0
type_of_kind UChar = 1
type_of_kind Short = 2
type_of_kind UShort = 3
type_of_kind Int = 4
type_of_kind UInt = 5
type_of_kind Long = 6
type_of_kind ULong = 7

-- the most leaves of all globals together
abbrev pub MOST_GLOBAL_LEAVES : ℕ
MOST_GLOBAL_LEAVES = 4_194_304

-- the most tokens of a function
abbrev pub MOST_TOKENS : ℕ
MOST_TOKENS = 1_048_576

-- what the conversions of printf take
abbrev pub shown_kind : Conversion → Kind
shown_kind shown.Character = Int
shown_kind shown.Decimal = Int
shown_kind shown.Unsigned = UInt
shown_kind shown.Hexadecimal = UInt
shown_kind shown.Long = Long
shown_kind shown.UnsignedLong = ULong

-- whether an operator compares, as none of an assignment does
abbrev pub does_compare : Operator → Bool
does_compare (operator.Arithmetic op kind) = false
does_compare (operator.Shift op kind) = false
does_compare (operator.Compare c kind) = true
does_compare (operator.ComparePointers c ty) = true
does_compare (operator.Forward ty) = false
does_compare (operator.Back ty) = false
does_compare (operator.ForwardOf ty) = false
does_compare (operator.Difference ty) = false

module _ (types : List Ty) where
  abbrev pub IsWhole : ℕ → Type 0
  IsWhole ty = (kind : Kind) × (slice_get types ty ≡ Some (Whole kind))

  -- a pointer to such a type
  abbrev pub IsPointerTo : ℕ → ℕ → Type 0
  IsPointerTo ty to = slice_get types ty ≡ Some (Pointer to)

  abbrev pub IsPointer : ℕ → Type 0
  IsPointer ty = (to : ℕ) × IsPointerTo ty to

  abbrev pub IsScalar : ℕ → Type 0
  IsScalar ty = IsWhole ty ⊎ IsPointer ty

  abbrev pub IsStruct : ℕ → Type 0
  IsStruct ty = (members : List ℕ) × (slice_get types ty ≡ Some (Struct members))

  -- a member of the struct that begins at this leaf
  pub record IsMember (struct leaf ty : ℕ) : Type 0 where
    pub members : List ℕ
    pub of_struct : slice_get types struct ≡ Some (Struct members)
    pub place : ℕ
    pub here : slice_get members place ≡ Some ty
    pub begins : leaf ≡ leaves_together (leaves_of types) (take place members)

  -- what an operator takes, and what it gives
  pub data Applies : Operator → (left right result : ℕ) → Type 0 where
    arithmetic : (op : Op) (kind : Kind) (left right : ℕ) → is_shift op ≡ false → IsTrue (is_operand_kind kind)
        → IsWhole left → IsWhole right → Applies (operator.Arithmetic op kind) left right (type_of_kind kind)
    shift : (op : Op) (kind : Kind) (left right : ℕ) → is_shift op ≡ true → IsTrue (is_operand_kind kind)
        → IsWhole left → IsWhole right → Applies (operator.Shift op kind) left right (type_of_kind kind)
    compare : (c : Comparison) (kind : Kind) (left right : ℕ)
        → IsTrue (is_operand_kind kind) → IsWhole left → IsWhole right
        → Applies (operator.Compare c kind) left right (type_of_kind Int)
    compare_pointers : (c : Comparison) (ty : ℕ) → IsPointer ty
        → Applies (operator.ComparePointers c ty) ty ty (type_of_kind Int)
    forward : (ty right : ℕ) → IsPointer ty → IsWhole right → Applies (operator.Forward ty) ty right ty
    back : (ty right : ℕ) → IsPointer ty → IsWhole right → Applies (operator.Back ty) ty right ty
    forward_of : (ty left : ℕ) → IsWhole left → IsPointer ty → Applies (operator.ForwardOf ty) left ty ty
    difference : (ty : ℕ) → IsPointer ty → Applies (operator.Difference ty) ty ty (type_of_kind Long)

  -- what an operator gives can be stored where its left operand was: any integer in an integer, else the same type
  abbrev pub IsStored : (result target : ℕ) → Type 0
  IsStored result target = (IsWhole result × IsWhole target) ⊎ (result ≡ target)

-- the bytes of a literal
abbrev pub AreBytes : List ℕ → Type 0
AreBytes bs = All (λ b. b < 256) bs

abbrev pub global_type : Option GlobalVariable → Option ℕ
global_type None = None
global_type (Some g) = Some g.ty

module _ (p : Program) where
  -- a leaf that is of a type, and what it begins with
  abbrev pub FitsLeaf : ℕ → Fill → Type 0
  FitsLeaf t (fill.Constant z) =
      (kind : Kind) × (slice_get p.types t ≡ Some (Whole kind)) × IsTrue (in_range kind 32 z)
  FitsLeaf t fill.Null = IsPointer p.types t
  FitsLeaf t (fill.Address g place) =
      (to object : ℕ) × IsPointerTo p.types t to × (global_type (slice_get p.globals g) ≡ Some object)
      × IsSubobject p.types object 1 place to

  -- what leaves of an object begin with: the leaves rise
  abbrev pub AreFills : ℕ → List (ℕ × Fill) → Type 0
  AreFills ty fills =
      IsStrictlyIncreasing (map (λ x. x.0) fills)
      × All (λ x. (t : ℕ) × IsSubobject p.types ty 1 x.0 t × FitsLeaf t x.1) fills

-- A tree of a program's function. An expression has one type, or none where it is void.
module _ (p : Program) (f : Function) where
  -- parameters of a function, as far as there are
  abbrev pub params_of : Option Function → List ℕ
  params_of None = []
  params_of (Some g) = take g.params g.variables

  abbrev pub result_of : Option Function → Option ℕ
  result_of None = None
  result_of (Some g) = g.result

  -- it has a type like this: a test takes a scalar, an operator an integer, a text a pointer to char
  abbrev pub OfType : (ℕ → Type 0) → (Option ℕ → Type 0) → Type 0
  OfType IsLike has = (t : ℕ) × IsLike t × has (Some t)

  abbrev mutual
    pub HasType : Expression → Option ℕ → Type 0
    HasType (constant kind z) ty = (ty ≡ Some (type_of_kind kind)) × IsTrue (in_range kind 32 z)
    HasType (null_pointer t) ty = (ty ≡ Some t) × IsPointer p.types t
    HasType (read t place) ty = (ty ≡ Some t) × IsScalar p.types t × IsPlaceOf place t
    HasType (whole t place) ty = (ty ≡ Some t) × IsStruct p.types t × IsPlaceOf place t
    HasType (address t place) ty =
        (ty ≡ Some t) × (to : ℕ) × IsPointerTo p.types t to × IsPlaceOf place to
    HasType (first t place) ty =
        (ty ≡ Some t) × (to array count : ℕ) × IsPointerTo p.types t to
        × (slice_get p.types array ≡ Some (Array to count)) × IsPlaceOf place array
    HasType (row e steps) ty = (left : ℕ) × HasType e (Some left) × (steps ≢ no_steps) × Gives steps left ty
    HasType (all_of e es) ty =
        (ty ≡ Some (type_of_kind Int)) × OfType (IsScalar p.types) (HasType e) × (es ≢ no_expressions) × AreTests es
    HasType (any_of e es) ty =
        (ty ≡ Some (type_of_kind Int)) × OfType (IsScalar p.types) (HasType e) × (es ≢ no_expressions) × AreTests es
    HasType (unary op kind e) ty =
        (ty ≡ Some (type_of_kind kind)) × IsTrue (is_operand_kind kind) × OfType (IsWhole p.types) (HasType e)
    HasType (isnt e) ty = (ty ≡ Some (type_of_kind Int)) × OfType (IsScalar p.types) (HasType e)
    HasType (choice t e a b) ty = (ty ≡ t) × OfType (IsScalar p.types) (HasType e) × HasType a t × HasType b t
    HasType (sequence e es) ty = (t : Option ℕ) × HasType e t × (es ≢ no_expressions) × HasLast es ty
    HasType (assign t place e) ty =
        (ty ≡ Some t) × (IsScalar p.types t ⊎ IsStruct p.types t) × IsPlaceOf place t × HasType e (Some t)
    HasType (assign_by t op place e) ty =
        (ty ≡ Some t) × IsScalar p.types t × IsPlaceOf place t
        × (does_compare op ≡ false) × (right result : ℕ) × HasType e (Some right)
        × Applies p.types op t right result × IsStored p.types result t
    HasType (increment t before way place) ty = (ty ≡ Some t) × IsScalar p.types t × IsPlaceOf place t
    HasType (conversion kind e) ty = (ty ≡ Some (type_of_kind kind)) × OfType (IsWhole p.types) (HasType e)
    HasType (discard e) ty = (ty ≡ None) × (t : Option ℕ) × HasType e t
    HasType (member_of t leaf e) ty =
        (ty ≡ Some t) × (IsScalar p.types t ⊎ IsStruct p.types t)
        × (struct : ℕ) × HasType e (Some struct) × IsMember p.types struct leaf t
    HasType (call g es) ty =
        (ty ≡ result_of (slice_get p.functions g)) × (g < length p.functions)
        × HaveTypes es (params_of (slice_get p.functions g))
    HasType (put_character e) ty = (ty ≡ Some (type_of_kind Int)) × HasType e (Some (type_of_kind Int))
    HasType (put_text e) ty = (ty ≡ Some (type_of_kind Int)) × OfType (λ t. IsPointerTo p.types t (type_of_kind Char)) (HasType e)
    HasType (put_literal bs) ty = (ty ≡ Some (type_of_kind Int)) × AreBytes bs
    HasType (print ps) ty = (ty ≡ Some (type_of_kind Int)) × ArePrints ps
    HasType (allocate t zeroed e) ty = (ty ≡ Some t) × IsPointer p.types t × OfType (IsWhole p.types) (HasType e)
    HasType (release e) ty = (ty ≡ None) × (t : ℕ) × IsPointer p.types t × HasType e (Some t)
    HasType checkpoint ty = ty ≡ None

    pub AreTests : Expressions → Type 0
    AreTests no_expressions = ⊤
    AreTests (with_expression e es) = OfType (IsScalar p.types) (HasType e) × AreTests es

    -- the last of them has the type
    pub HasLast : Expressions → Option ℕ → Type 0
    HasLast no_expressions ty = ⊤
    HasLast (with_expression e no_expressions) ty = HasType e ty
    HasLast (with_expression e es) ty = (t : Option ℕ) × HasType e t × HasLast es ty

    pub HaveTypes : Expressions → List ℕ → Type 0
    HaveTypes no_expressions [] = ⊤
    HaveTypes (with_expression e es) (t ∷ ts) = HasType e (Some t) × HaveTypes es ts
    HaveTypes es ts = ⊥

    -- operators behind an operand of a type give a type
    pub Gives : Steps → ℕ → Option ℕ → Type 0
    Gives no_steps left ty = ty ≡ Some left
    Gives (with_step op e steps) left ty =
        (right result : ℕ) × HasType e (Some right) × Applies p.types op left right result × Gives steps result ty

    pub ArePrints : Prints → Type 0
    ArePrints no_prints = ⊤
    ArePrints (with_print x xs) = IsPrint x × ArePrints xs

    pub IsPrint : Print → Type 0
    IsPrint (bytes bs) = AreBytes bs
    IsPrint (number how e) = HasType e (Some (type_of_kind (shown_kind how)))
    IsPrint (text e) = OfType (λ t. IsPointerTo p.types t (type_of_kind Char)) (HasType e)
    IsPrint (literal bs) = AreBytes bs

    -- a place of this type
    pub IsPlaceOf : Place → ℕ → Type 0
    IsPlaceOf (variable v) ty = slice_get f.variables v ≡ Some ty
    IsPlaceOf (global g) ty = global_type (slice_get p.globals g) ≡ Some ty
    IsPlaceOf (pointee e) ty = (t : ℕ) × IsPointerTo p.types t ty × HasType e (Some t)
    IsPlaceOf (member leaf place) ty = (struct : ℕ) × IsPlaceOf place struct × IsMember p.types struct leaf ty

  abbrev pub BeginsWith : ℕ → Initial → Type 0
  BeginsWith ty nothing = ⊤
  BeginsWith ty (value e) = HasType e (Some ty)
  BeginsWith ty (filled fills) = AreFills p ty fills

  -- any expression, or none
  abbrev pub IsAny : Option Expression → Type 0
  IsAny None = ⊤
  IsAny (Some e) = (t : Option ℕ) × HasType e t

  abbrev pub IsTest : Option Expression → Type 0
  IsTest None = ⊤
  IsTest (Some e) = OfType (IsScalar p.types) (HasType e)

  abbrev pub IsGiven : Option Expression → Type 0
  IsGiven None = ⊤
  IsGiven (Some e) = (t : ℕ) × (f.result ≡ Some t) × HasType e (Some t)

  -- the case values of a switch, and how many defaults it has
  abbrev pub cases_of : SwitchEntries → List ℤ
  cases_of no_entries = []
  cases_of (with_entry (case z) xs) = z ∷ cases_of xs
  cases_of (with_entry default xs) = cases_of xs
  cases_of (with_entry (statement s) xs) = cases_of xs

  abbrev pub defaults_of : SwitchEntries → ℕ
  defaults_of no_entries = 0
  defaults_of (with_entry (case z) xs) = defaults_of xs
  defaults_of (with_entry default xs) = 1 + defaults_of xs
  defaults_of (with_entry (statement s) xs) = defaults_of xs

  -- a statement, where a break and a continue may stand or not
  abbrev mutual
    pub IsStatement : Statement → (leaves rounds : Bool) → Type 0
    IsStatement (block ss) l r = AreStatements ss l r
    IsStatement (declare v i) l r = (ty : ℕ) × (slice_get f.variables v ≡ Some ty) × BeginsWith ty i
    IsStatement (evaluate e) l r = (t : Option ℕ) × HasType e t
    IsStatement (choose e s t) l r = IsTest (Some e) × IsStatement s l r × IsStatement t l r
    IsStatement (repeat_while e s) l r = IsTest (Some e) × IsStatement s true true
    IsStatement (repeat_until s e) l r = IsStatement s true true × IsTest (Some e)
    IsStatement (repeat_for a b c s) l r = IsAny a × IsTest b × IsAny c × IsStatement s true true
    IsStatement (switch kind e xs) l r =
        IsTrue (is_operand_kind kind) × HasType e (Some (type_of_kind kind))
        × All (λ z. IsTrue (in_range kind 32 z)) (cases_of xs) × IsDistinct int_eq (cases_of xs)
        × (defaults_of xs ≤ 1) × AreEntries xs r
    IsStatement leave_loop l r = l ≡ true
    IsStatement go_round l r = r ≡ true
    IsStatement (give e) l r = IsGiven e

    pub AreStatements : Statements → (leaves rounds : Bool) → Type 0
    AreStatements no_statements l r = ⊤
    AreStatements (with_statement s ss) l r = IsStatement s l r × AreStatements ss l r

    pub AreEntries : SwitchEntries → (rounds : Bool) → Type 0
    AreEntries no_entries r = ⊤
    AreEntries (with_entry x xs) r = IsEntry x r × AreEntries xs r

    pub IsEntry : SwitchEntry → (rounds : Bool) → Type 0
    IsEntry (case z) r = ⊤
    IsEntry default r = ⊤
    IsEntry (statement s) r = IsStatement s true r

  abbrev pub IsResult : Option ℕ → Type 0
  IsResult None = ⊤
  IsResult (Some ty) = IsScalar p.types ty

  pub record IsFunction : Type 0 where
    pub variables : All (λ ty. ty < length p.pointers) f.variables
    pub few : length f.variables ≤ f.tokens
    pub most : f.tokens ≤ MOST_TOKENS
    pub params : f.params ≤ length f.variables
    pub scalars : All (IsScalar p.types) (take f.params f.variables)
    pub result : IsResult f.result
    pub body : AreStatements f.body false false

-- a main without parameters that gives an int
pub record IsMain (f : Function) : Type 0 where
  pub named : f.name ≡ codes "main"
  pub params : f.params ≡ 0
  pub result : f.result ≡ Some (type_of_kind Int)

-- A typed program. Its own types are the first, as many as `pointers` has; those behind them are there so that each of
-- its own types has a pointer type. Objects have types of its own, and pointers point to such.
pub record IsTyped (p : Program) : Type 0 where
  pub types : IsTypes p.types
  pub own : (8 ≤ length p.pointers) × (length p.pointers ≤ length p.types)
  pub pointers : (ty pointer : ℕ) → slice_get p.pointers ty ≡ Some pointer → IsPointerTo p.types pointer ty
  pub targets : (ty to : ℕ) → IsPointerTo p.types ty to → to < length p.pointers
  pub derived : (ty : ℕ) → IsWhole p.types ty → ty < 8
  pub objects : All (λ (g : GlobalVariable). g.ty < length p.pointers) p.globals
  pub fills : All (λ (g : GlobalVariable). AreFills p g.ty g.fills) p.globals
  pub small : sum_by (λ (g : GlobalVariable). leaves_of p.types g.ty) p.globals ≤ MOST_GLOBAL_LEAVES
  pub functions : All (IsFunction p) p.functions
  pub names : IsDistinct bytes_eq (map (λ (f : Function). f.name) p.functions)
  pub main : Function
  pub here : slice_get p.functions p.main ≡ Some main
  pub is_main : IsMain main
  pub few : program_nodes p < 2 ^ 27
