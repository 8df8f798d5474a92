-- What constants are spelled, and which expressions are constants: folded under the widths 32 and 64 of long together,
-- with no undefined behaviour in what is evaluated.
use Rattle.std.specs.Prelude.{ℕ, zero, suc, ◌-◌, ◌==◌, ℤ, pos, nat_le, int_lt, int_le, Bool, true, false, not, ◌&&◌, if◌then◌else◌, List, [], ◌∷◌, ◌++◌, drop, Result, Ok, Err, refl}
use Rattle.std.specs.Option.{option_map_or}
use Rattle.std.specs.List.{list_any}
use Rattle.std.specs.Ordering.{int_eq}
use Rattle.porch_types.specs.declared.shapes.Kind.{Kind}
use Rattle.porch_types.specs.declared.shapes.Kind.TheVariants.{Int, UInt, Long, ULong}
use Rattle.porch_values.specs.declared.acts.Act.{Act}
use Rattle.porch_values.specs.declared.acts.Op.TheVariants.{Sub}
use Rattle.porch_values.specs.declared.widths.Widths.{Widths}
use Rattle.porch_values.specs.Integers.{applied, converted, complemented, signed_bits, is_operand_kind, is_shift}
use Rattle.porch_lex.specs.Values.{whole_of, character_of}
use Rattle.porch_lex.specs.Literals.{character_length}
use Rattle.porch_lex.specs.Constants.{constant_base, constant_suffix, is_u, is_l, greatest_int}
use Rattle.porch_tree.specs.Mirror.{Name}
use Rattle.porch_typed.specs.declared.typed.Comparison.{Comparison}
use Rattle.porch_typed.specs.declared.typed.Comparison.TheVariants.{Less, Greater, LessEqual, GreaterEqual, Equal, NotEqual}
use Rattle.porch_typed.specs.declared.typed.Operator.{Operator}
use Rattle.porch_typed.specs.declared.typed.Operator.TheVariants as operator
use Rattle.porch_typed.specs.declared.typed.Unary.{Unary}
use Rattle.porch_typed.specs.declared.typed.Unary.TheVariants.{Plus, Minus, Complement}
use Rattle.porch_typed.specs.Mirror.{Expression, constant, row, all_of, any_of, unary, isnt, choice, conversion, Expressions, no_expressions, with_expression, Steps, no_steps, with_step}

-- The type of an integer constant, by its base, its suffix and its value.

abbrev pub suffixed_kind : (unsigned long : Bool) → (base value : ℕ) → Kind
suffixed_kind true true base value = ULong
suffixed_kind true false base value = UInt
suffixed_kind false true base value = Long
suffixed_kind false false base value = if base == 10 then Int else if nat_le value greatest_int then Int else UInt

abbrev pub whole_kind : List ℕ → Kind
whole_kind cs =
    suffixed_kind (list_any is_u (constant_suffix cs)) (list_any is_l (constant_suffix cs)) (constant_base cs) (whole_of cs)

-- A character constant is an int with the value of a char. Its bytes begin with the quote.
abbrev pub character_value : List ℕ → ℤ
character_value cs = signed_bits 8 (pos (character_of (drop 1 cs)))

-- The characters of a literal behind its first quote, after so many bytes more.
abbrev pub characters_from : List ℕ → (skipped : ℕ) → List ℕ
characters_from [] n = []
characters_from (c ∷ cs) (suc n) = characters_from cs n
characters_from (c ∷ cs) zero =
    if c == 34 then []
    else character_of (c ∷ cs) ∷ characters_from cs (option_map_or (λ n. n - 1) (character_length 34 (c ∷ cs)) 0)

abbrev pub characters_of : Name → List ℕ
characters_of n = characters_from (drop 1 n.bytes) 0

-- adjacent literals are joined
abbrev pub all_characters : List Name → List ℕ
all_characters [] = []
all_characters (n ∷ ns) = characters_of n ++ all_characters ns

-- What an expression is as a constant.
pub data Folded : Type 0 where
  no_constant : Folded
  -- it is built like one, and meets undefined behaviour
  undefined : Folded
  known : ℤ → Folded

abbrev pub both_widths : Widths
both_widths = record { narrow = true; wide = true; some = refl }

abbrev pub folded_result : Result ℤ Act → (ℤ → Folded) → Folded
folded_result (Ok z) go = go z
folded_result (Err a) go = undefined

abbrev pub if_known : Folded → (ℤ → Folded) → Folded
if_known (known z) go = go z
if_known f go = f

-- both are constants, and then both are known
abbrev pub if_both : Folded → Folded → (ℤ → ℤ → Folded) → Folded
if_both no_constant g go = no_constant
if_both f no_constant go = no_constant
if_both undefined g go = undefined
if_both f undefined go = undefined
if_both (known x) (known y) go = go x y

-- The second is evaluated where the first is known not to decide.
abbrev pub if_also : Folded → Folded → (decides : ℤ → Bool) → (decided : ℤ) → Folded → Folded
if_also no_constant g decides z rest = no_constant
if_also f no_constant decides z rest = no_constant
if_also undefined g decides z rest = undefined
if_also (known x) g decides z rest = if decides x then known z else rest

abbrev pub as_int : Bool → ℤ
as_int true = pos 1
as_int false = pos 0

abbrev pub truth : ℤ → Bool
truth z = not (int_eq z (pos 0))

abbrev pub as_kind : Kind → ℤ → (ℤ → Folded) → Folded
as_kind kind z go = folded_result (converted kind both_widths z) go

abbrev pub known_if_ok : Result ℤ Act → Folded
known_if_ok r = folded_result r (λ z. known z)

abbrev pub does_hold : Comparison → ℤ → ℤ → Bool
does_hold Less x y = int_lt x y
does_hold Greater x y = int_lt y x
does_hold LessEqual x y = int_le x y
does_hold GreaterEqual x y = int_le y x
does_hold Equal x y = int_eq x y
does_hold NotEqual x y = not (int_eq x y)

-- an operator on integers, each converted to the kind, which is a promoted one; a shift's count stays as it is
abbrev pub folded_step : Operator → ℤ → ℤ → Folded
folded_step (operator.Arithmetic op kind) x y =
    if is_operand_kind kind && not (is_shift op)
    then as_kind kind x (λ x. as_kind kind y (λ y. known_if_ok (applied op kind both_widths x y)))
    else no_constant
folded_step (operator.Shift op kind) x y =
    if is_operand_kind kind && is_shift op
    then as_kind kind x (λ x. known_if_ok (applied op kind both_widths x y))
    else no_constant
folded_step (operator.Compare c kind) x y = as_kind kind x (λ x. as_kind kind y (λ y. known (as_int (does_hold c x y))))
folded_step op x y = no_constant

abbrev pub folded_unary : Unary → Kind → ℤ → Folded
folded_unary Plus kind x = known x
folded_unary Minus kind x =
    if is_operand_kind kind then known_if_ok (applied Sub kind both_widths (pos 0) x) else no_constant
folded_unary Complement kind x =
    if is_operand_kind kind then known_if_ok (complemented kind both_widths x) else no_constant

-- of a choice both parts are constants, and one of them is evaluated
abbrev pub chosen : ℤ → Folded → Folded → Folded
chosen z no_constant g = no_constant
chosen z f no_constant = no_constant
chosen z f g = if truth z then f else g

abbrev pub or_undefined : Folded → Folded → Folded → Folded
or_undefined no_constant f g = no_constant
or_undefined undefined no_constant g = no_constant
or_undefined undefined f no_constant = no_constant
or_undefined undefined f g = undefined
or_undefined (known z) f g = chosen z f g

-- An expression of integers as a constant.
abbrev mutual
  pub folded : Expression → Folded
  folded (constant kind z) = known z
  folded (row e steps) = folded_row steps (folded e)
  folded (all_of e es) = folded_all es (folded e)
  folded (any_of e es) = folded_any es (folded e)
  folded (unary op kind e) = if_known (folded e) (λ z. as_kind kind z (folded_unary op kind))
  folded (isnt e) = if_known (folded e) (λ z. known (as_int (not (truth z))))
  folded (choice ty e a b) = or_undefined (folded e) (folded a) (folded b)
  folded (conversion kind e) = if_known (folded e) (λ z. as_kind kind z (λ z. known z))
  folded e = no_constant

  pub folded_row : Steps → Folded → Folded
  folded_row no_steps f = f
  folded_row (with_step op e steps) f = folded_row steps (if_both f (folded e) (folded_step op))

  -- the value of operands of `&&`, and of `||`, is 1 or 0
  pub folded_all : Expressions → Folded → Folded
  folded_all no_expressions f = if_known f (λ z. known (as_int (truth z)))
  folded_all (with_expression e es) f =
      let rest = folded_all es (folded e) in if_also f rest (λ z. not (truth z)) (pos 0) rest

  pub folded_any : Expressions → Folded → Folded
  folded_any no_expressions f = if_known f (λ z. known (as_int (truth z)))
  folded_any (with_expression e es) f = let rest = folded_any es (folded e) in if_also f rest truth (pos 1) rest
