-- What the operators do with values. Each uses its operands when both are evaluated, then converts them, and then works:
-- so Indeterminate comes before a conversion's act, and that before Divide, Shift and all others.
use Rattle.std.specs.Prelude.{ℕ, ℤ, pos, ◌-ℤ◌, int_lt, int_le, Bool, not, List, slice_get, if◌then◌else◌, Option, Some, Result, Ok, Err}
use Rattle.std.specs.Ordering.{int_eq}
use Rattle.porch_types.specs.declared.shapes.Kind.{Kind}
use Rattle.porch_types.specs.declared.shapes.Kind.TheVariants.{Char, UChar, Short, UShort, Int, UInt, Long, ULong}
use Rattle.porch_types.specs.declared.shapes.Ty.{Ty}
use Rattle.porch_types.specs.declared.shapes.Ty.TheVariants.{Whole}
use Rattle.porch_types.specs.LeafTypes.{pointee_of}
use Rattle.porch_values.specs.declared.acts.Act.{Act}
use Rattle.porch_values.specs.declared.acts.Op.TheVariants.{Add, Sub}
use Rattle.porch_values.specs.declared.widths.Widths.{Widths}
use Rattle.porch_values.specs.Integers.{applied, converted, complemented}
use Rattle.porch_objects.specs.Store.{Value, number, Store}
use Rattle.porch_objects.specs.Pointers.{used, if_number, step, difference, equality}
use Rattle.porch_typed.specs.declared.typed.Comparison.{Comparison}
use Rattle.porch_typed.specs.declared.typed.Comparison.TheVariants.{Less, Greater, LessEqual, GreaterEqual, Equal, NotEqual}
use Rattle.porch_typed.specs.declared.typed.Direction.{Direction}
use Rattle.porch_typed.specs.declared.typed.Direction.TheVariants.{Forward, Back}
use Rattle.porch_typed.specs.declared.typed.Operator.{Operator}
use Rattle.porch_typed.specs.declared.typed.Operator.TheVariants as operator
use Rattle.porch_typed.specs.declared.typed.Unary.{Unary}
use Rattle.porch_typed.specs.declared.typed.Unary.TheVariants.{Plus, Minus, Complement}

-- what follows a result
abbrev pub if_ok : {A B : Type 0} → Result A Act → (A → Result B Act) → Result B Act
if_ok (Ok x) go = go x
if_ok (Err a) go = Err a

abbrev pub as_value : Result ℤ Act → Result Value Act
as_value z = if_ok z (λ z. Ok (number z))

-- the int of a truth value
abbrev pub truth_value : Bool → Value
truth_value holds = number (if holds then pos 1 else pos 0)

abbrev pub compares : Comparison → ℤ → ℤ → Bool
compares Less x y = int_lt x y
compares Greater x y = int_lt y x
compares LessEqual x y = int_le x y
compares GreaterEqual x y = int_le y x
compares Equal x y = int_eq x y
compares NotEqual x y = not (int_eq x y)

-- the kind that a value of a kind is promoted to
abbrev pub promoted_kind : Kind → Kind
promoted_kind Char = Int
promoted_kind UChar = Int
promoted_kind Short = Int
promoted_kind UShort = Int
promoted_kind Int = Int
promoted_kind UInt = UInt
promoted_kind Long = Long
promoted_kind ULong = ULong

-- two operands are used, and are numbers
abbrev pub both_numbers : Store → Value → Value → (ℤ → ℤ → Result Value Act) → Result Value Act
both_numbers s a b go = used s a (λ a. used s b (λ b. if_number a (λ x. if_number b (λ y. go x y))))

-- a pointer and a number are used
abbrev pub pointer_and_number : Store → Value → Value → (Value → ℤ → Result Value Act) → Result Value Act
pointer_and_number s p z go = used s p (λ p. used s z (λ z. if_number z (λ z. go p z)))

-- the type that a pointer type points to
abbrev pub target_of : List Ty → ℕ → ℕ
target_of types ty = pointee_of (slice_get types ty)

-- The operator of `++` and `--`, whose right operand is 1: on char and short they go through int.
abbrev pub increment_of : Option Ty → (ty : ℕ) → Direction → Operator
increment_of (Some (Whole kind)) ty Forward = operator.Arithmetic Add (promoted_kind kind)
increment_of (Some (Whole kind)) ty Back = operator.Arithmetic Sub (promoted_kind kind)
increment_of _ ty Forward = operator.Forward ty
increment_of _ ty Back = operator.Back ty

module _ (types : List Ty) (widths : Widths) where
  -- both numbers converted to a kind
  abbrev pub both_converted : Kind → ℤ → ℤ → (ℤ → ℤ → Result Value Act) → Result Value Act
  both_converted kind x y go = if_ok (converted kind widths x) (λ x. if_ok (converted kind widths y) (λ y. go x y))

  -- whether a comparison holds of two pointers; for their order they have to stand in one row
  abbrev pub pointers_compare : Comparison → (pointee : ℕ) → Store → Value → Value → Result Bool Act
  pointers_compare Equal pointee s p q = equality types pointee s p q
  pointers_compare NotEqual pointee s p q = if_ok (equality types pointee s p q) (λ same. Ok (not same))
  pointers_compare c pointee s p q = if_ok (difference types pointee s p q) (λ z. Ok (compares c z (pos 0)))

  -- What an operator makes of two values.
  abbrev pub operate : Operator → Store → Value → Value → Result Value Act
  operate (operator.Arithmetic op kind) s a b =
      both_numbers s a b (λ x y. both_converted kind x y (λ x y. as_value (applied op kind widths x y)))
  operate (operator.Shift op kind) s a b =
      both_numbers s a b (λ x y. if_ok (converted kind widths x) (λ x. as_value (applied op kind widths x y)))
  operate (operator.Compare c kind) s a b =
      both_numbers s a b (λ x y. both_converted kind x y (λ x y. Ok (truth_value (compares c x y))))
  operate (operator.ComparePointers c ty) s a b =
      if_ok (pointers_compare c (target_of types ty) s a b) (λ holds. Ok (truth_value holds))
  operate (operator.Forward ty) s a b = pointer_and_number s a b (λ p z. step types (target_of types ty) s p z)
  operate (operator.Back ty) s a b = pointer_and_number s a b (λ p z. step types (target_of types ty) s p (pos 0 -ℤ z))
  operate (operator.ForwardOf ty) s a b = pointer_and_number s b a (λ p z. step types (target_of types ty) s p z)
  operate (operator.Difference ty) s a b = as_value (difference types (target_of types ty) s a b)

  -- what `+`, `-` and `~` make of a number, which is promoted first
  abbrev pub operate_unary : Unary → Kind → ℤ → Result Value Act
  operate_unary Plus kind z = as_value (converted kind widths z)
  operate_unary Minus kind z = if_ok (converted kind widths z) (λ z. as_value (applied Sub kind widths (pos 0) z))
  operate_unary Complement kind z = if_ok (converted kind widths z) (λ z. as_value (complemented kind widths z))

  -- a value as it is stored in an object of a type: an integer is converted to its kind
  abbrev pub fit_to : Option Ty → Value → Result Value Act
  fit_to (Some (Whole kind)) (number z) = as_value (converted kind widths z)
  fit_to ty v = Ok v
