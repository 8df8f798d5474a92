-- The typed forms: one definition for each, which is given what its operands were found to be. `at` is the place of the
-- whole form.
use Rattle.std.specs.Prelude.{ℕ, nat_eq, Bool, true, false, ◌&&◌, if◌then◌else◌, List, [], ◌∷◌, Option, Some, None, Result, Ok}
use Rattle.std.specs.Str.{bytes_eq}
use Rattle.porch_lex.specs.declared.refusal.Refusal.{Refusal}
use Rattle.porch_lex.specs.declared.refusal.Rule.TheVariants.{Unknown, Mismatch, NotPlace, PointerCast}
use Rattle.porch_types.specs.declared.shapes.Kind.{Kind}
use Rattle.porch_types.specs.declared.shapes.Kind.TheVariants.{Int, Long}
use Rattle.porch_types.specs.Kinds.{kind_number, int_type}
use Rattle.porch_values.specs.declared.acts.Op.{Op}
use Rattle.porch_values.specs.declared.acts.Op.TheVariants.{Add, Sub, Mul, Div, Rem, And, Or, Xor, Shl, Shr}
use Rattle.porch_tree.specs.declared.tree.Assigning.{Assigning}
use Rattle.porch_tree.specs.declared.tree.Assigning.TheVariants as assigning
use Rattle.porch_tree.specs.declared.tree.Infix.{Infix}
use Rattle.porch_tree.specs.declared.tree.Infix.TheVariants as sign
use Rattle.porch_tree.specs.Mirror.{Name}
use Rattle.porch_typed.specs.declared.typed.Comparison.{Comparison}
use Rattle.porch_typed.specs.declared.typed.Comparison.TheVariants.{Less, Greater, LessEqual, GreaterEqual, Equal, NotEqual}
use Rattle.porch_typed.specs.declared.typed.Direction.{Direction}
use Rattle.porch_typed.specs.declared.typed.Operator.{Operator}
use Rattle.porch_typed.specs.declared.typed.Operator.TheVariants as operator
use Rattle.porch_typed.specs.declared.typed.Unary.{Unary}
use Rattle.porch_typed.specs.Mirror.{Expression, row, all_of, any_of, unary, isnt, choice, assign, assign_by, increment, conversion, discard, member_of, Expressions, no_expressions, with_expression, Steps, no_steps, with_step, pointee}
use Rattle.porch_typed.specs.Mirror as tree
use Rattle.porch_check.specs.Refusals.{refuse, and_then, found_or}
use Rattle.porch_check.specs.Shapes.{Shape, void, pointer, array, structure, Shapes, shape_of, is_complete, Member, members_of}
use Rattle.porch_check.specs.Shapes as shape
use Rattle.porch_check.specs.Scopes.{Scopes, with_shape}
use Rattle.porch_check.specs.Operands.{Value, integer, address, no_address, record_of, nothing, Typed, typed_as, Form, operand, place, Typing, go_on, value_at, value_of, promoted, joined_kinds, is_scalar, is_null, null_as, fitted}

-- an operator with its right operand, and the value that it gives
pub record Operation : Type 0 where
  pub operator : Operator
  pub right : Expression
  pub value : Value

abbrev pub operation : Operator → Expression → Value → Operation
operation op e v = record { operator = op; right = e; value = v }

-- pointers go only over complete types
abbrev pub if_complete : {A : Type 0} → Scopes → (shape at : ℕ) → A → Result A Refusal
if_complete s n at x = if is_complete s.shapes n then Ok x else refuse Mismatch at

-- `* / % & ^ |`, and `+ -` of integers
abbrev pub arithmetic : Op → (at : ℕ) → Value → Typed → Value → Result Operation Refusal
arithmetic op at (integer a) y (integer b) =
    joined_kinds at a b (λ kind. Ok (operation (operator.Arithmetic op kind) y.tree (integer kind)))
arithmetic op at a y b = refuse Mismatch at

-- `<< >>`: the left operand's promoted kind
abbrev pub shift : Op → (at : ℕ) → Value → Typed → Value → Result Operation Refusal
shift op at (integer a) y (integer b) = Ok (operation (operator.Shift op (promoted a)) y.tree (integer (promoted a)))
shift op at a y b = refuse Mismatch at

-- `+`: also a pointer and an integer in either order
abbrev pub addition : (at : ℕ) → Scopes → Value → Typed → Value → Result Operation Refusal
addition at s (address n to) y (integer b) = if_complete s to at (operation (operator.Forward n) y.tree (address n to))
addition at s (integer a) y (address n to) = if_complete s to at (operation (operator.ForwardOf n) y.tree (address n to))
addition at s a y b = arithmetic Add at a y b

-- `-`: also a pointer less an integer, and two pointers of one pointee type
abbrev pub subtraction : (at : ℕ) → Scopes → Value → Typed → Value → Result Operation Refusal
subtraction at s (address n to) y (integer b) = if_complete s to at (operation (operator.Back n) y.tree (address n to))
subtraction at s (address n to) y (address m of) =
    if nat_eq n m then if_complete s to at (operation (operator.Difference n) y.tree (integer Long)) else refuse Mismatch at
subtraction at s a y b = arithmetic Sub at a y b

abbrev pub comparison : Comparison → (at : ℕ) → Value → Typed → Value → Result Operation Refusal
comparison c at (integer a) y (integer b) =
    joined_kinds at a b (λ kind. Ok (operation (operator.Compare c kind) y.tree (integer Int)))
comparison c at a y b = refuse Mismatch at

-- `< > <= >=`: also pointers of one pointee type
abbrev pub relation : Comparison → (at : ℕ) → Scopes → Value → Typed → Value → Result Operation Refusal
relation c at s (address n to) y (address m of) =
    if nat_eq n m then if_complete s to at (operation (operator.ComparePointers c n) y.tree (integer Int)) else refuse Mismatch at
relation c at s a y b = comparison c at a y b

-- `== !=`: also pointers that agree. Where both are null and none is typed they are compared as ints.
abbrev pub equality : Comparison → (at : ℕ) → Typed → Value → Typed → Value → Result Operation Refusal
equality c at x (address n to) y (address m of) =
    if nat_eq n m then Ok (operation (operator.ComparePointers c n) y.tree (integer Int)) else refuse Mismatch at
equality c at x (address n to) y b =
    if is_null y then Ok (operation (operator.ComparePointers c n) (null_as y.tree n) (integer Int)) else refuse Mismatch at
equality c at x a y (address n to) =
    if is_null x then Ok (operation (operator.ComparePointers c n) y.tree (integer Int)) else refuse Mismatch at
equality c at x (integer a) y (integer b) = comparison c at (integer a) y (integer b)
equality c at x a y b =
    if is_null x && is_null y then Ok (operation (operator.Compare c Int) y.tree (integer Int)) else refuse Mismatch at

abbrev pub logical : (at : ℕ) → Typed → Typed → Result Operation Refusal
logical at x y =
    if is_scalar x.value && is_scalar y.value then Ok (operation (operator.Compare NotEqual Int) y.tree (integer Int))
    else refuse Mismatch at

-- two operands and what stands between them
abbrev pub operated : Infix → (at : ℕ) → Typed → Typed → Scopes → Result Operation Refusal
operated sign.Any at x y s = logical at x y
operated sign.All at x y s = logical at x y
operated sign.BitOr at x y s = arithmetic Or at x.value y y.value
operated sign.BitXor at x y s = arithmetic Xor at x.value y y.value
operated sign.BitAnd at x y s = arithmetic And at x.value y y.value
operated sign.Equal at x y s = equality Equal at x x.value y y.value
operated sign.NotEqual at x y s = equality NotEqual at x x.value y y.value
operated sign.Less at x y s = relation Less at s x.value y y.value
operated sign.Greater at x y s = relation Greater at s x.value y y.value
operated sign.LessEqual at x y s = relation LessEqual at s x.value y y.value
operated sign.GreaterEqual at x y s = relation GreaterEqual at s x.value y y.value
operated sign.ShiftLeft at x y s = shift Shl at x.value y y.value
operated sign.ShiftRight at x y s = shift Shr at x.value y y.value
operated sign.Add at x y s = addition at s x.value y y.value
operated sign.Sub at x y s = subtraction at s x.value y y.value
operated sign.Mul at x y s = arithmetic Mul at x.value y y.value
operated sign.Div at x y s = arithmetic Div at x.value y y.value
operated sign.Rem at x y s = arithmetic Rem at x.value y y.value

-- The tree of a row of operators. Its first operator makes a row of an operand, and each further one makes that longer.

abbrev pub with_last_step : Steps → Operator → Expression → Steps
with_last_step no_steps op e = with_step op e no_steps
with_last_step (with_step o x steps) op e = with_step o x (with_last_step steps op e)

abbrev pub with_last : Expressions → Expression → Expressions
with_last no_expressions e = with_expression e no_expressions
with_last (with_expression x xs) e = with_expression x (with_last xs e)

abbrev pub row_tree : (begun : Bool) → Expression → Operator → Expression → Expression
row_tree true (row e steps) op y = row e (with_last_step steps op y)
row_tree begun e op y = row e (with_step op y no_steps)

abbrev pub all_tree : (begun : Bool) → Expression → Expression → Expression
all_tree true (all_of e es) y = all_of e (with_last es y)
all_tree begun e y = all_of e (with_expression y no_expressions)

abbrev pub any_tree : (begun : Bool) → Expression → Expression → Expression
any_tree true (any_of e es) y = any_of e (with_last es y)
any_tree begun e y = any_of e (with_expression y no_expressions)

-- the left operand; a null one becomes of the other's pointer type
abbrev pub left_tree : Operator → Typed → Expression
left_tree (operator.ComparePointers c n) x = if is_null x then null_as x.tree n else x.tree
left_tree op x = x.tree

abbrev pub tree_of : Infix → (begun : Bool) → Typed → Operation → Expression
tree_of sign.All begun x o = all_tree begun x.tree o.right
tree_of sign.Any begun x o = any_tree begun x.tree o.right
tree_of op begun x o = row_tree begun (left_tree o.operator x) o.operator o.right

-- an operator behind what stands to the left of it
abbrev pub joined : Infix → (at : ℕ) → (begun : Bool) → Typed → Typed → Scopes → Result Typed Refusal
joined op at begun x y s = and_then (operated op at x y s) (λ o. Ok (typed_as (tree_of op begun x o) o.value))

-- One operand.

abbrev pub unary_form : Unary → (at : ℕ) → Typed → Value → Result Form Refusal
unary_form op at x (integer kind) = Ok (operand (typed_as (unary op (promoted kind) x.tree) (integer (promoted kind))))
unary_form op at x v = refuse Mismatch at

abbrev pub not_form : (at : ℕ) → Typed → Result Form Refusal
not_form at x = if is_scalar x.value then Ok (operand (typed_as (isnt x.tree) (integer Int))) else refuse Mismatch at

-- `*`
abbrev pub pointee_form : (at : ℕ) → Scopes → Typed → Value → Result Form Refusal
pointee_form at s x (address n to) = if_complete s to at (place (pointee x.tree) to)
pointee_form at s x v = refuse Mismatch at

-- `&`; `of` is the place of the operand
abbrev pub address_form : (of : ℕ) → Form → Scopes → Typing Form
address_form of (place p n) s =
    let r = with_shape (pointer n) s in Ok (operand (typed_as (tree.address r.0 p) (address r.0 n)), r.1)
address_form of f s = refuse NotPlace of

-- `++ --`
abbrev pub increment_value : Scopes → (at : ℕ) → Value → Result Value Refusal
increment_value s at (integer kind) = Ok (integer kind)
increment_value s at (address n to) = if_complete s to at (address n to)
increment_value s at v = refuse Mismatch at

abbrev pub increment_form : (before : Bool) → Direction → (at of : ℕ) → Form → Scopes → Result Form Refusal
increment_form before way at of (place p n) s =
    and_then (increment_value s at (value_at s.shapes n)) (λ v. Ok (operand (typed_as (increment n before way p) v)))
increment_form before way at of f s = refuse NotPlace of

-- Behind an operand.

-- `p[i]` of a pointer and an integer in either order
abbrev pub index_form : (at : ℕ) → Scopes → Typed → Value → Typed → Value → Result Form Refusal
index_form at s x (address n to) y (integer b) =
    if_complete s to at (place (pointee (row x.tree (with_step (operator.Forward n) y.tree no_steps))) to)
index_form at s x (integer a) y (address n to) =
    if_complete s to at (place (pointee (row x.tree (with_step (operator.ForwardOf n) y.tree no_steps))) to)
index_form at s x a y b = refuse Mismatch at

abbrev pub member_named : List ℕ → List Member → Option Member
member_named x [] = None
member_named x (m ∷ ms) = if bytes_eq x m.name then Some m else member_named x ms

-- of a struct that is no place; an array in it is no value
abbrev pub member_value : (at : ℕ) → Scopes → Expression → Member → Value → Result Form Refusal
member_value at s e m nothing = refuse Mismatch at
member_value at s e m v = Ok (operand (typed_as (member_of m.shape m.leaf e) v))

-- `.` of a struct by its type
abbrev pub member_in : Shape → (at : ℕ) → Name → Scopes → (struct : ℕ) → (Member → Result Form Refusal) → Result Form Refusal
member_in (structure k) at n s struct go = found_or (member_named n.bytes (members_of s.shapes struct)) Unknown n.at go
member_in x at n s struct go = refuse Mismatch at

abbrev pub member_of_value : (at : ℕ) → Name → Scopes → Typed → Value → Result Form Refusal
member_of_value at n s x (record_of struct) =
    member_in (shape_of s.shapes struct) at n s struct (λ m. member_value at s x.tree m (value_at s.shapes m.shape))
member_of_value at n s x v = refuse Mismatch at

abbrev pub member_form : (at : ℕ) → Name → Form → Scopes → Result Form Refusal
member_form at n (place p struct) s =
    member_in (shape_of s.shapes struct) at n s struct (λ m. Ok (place (tree.member m.leaf p) m.shape))
member_form at n (operand x) s = member_of_value at n s x x.value
member_form at n f s = refuse Mismatch at

-- `->` of a pointer to a struct, which is complete
abbrev pub arrow_form : (at : ℕ) → Name → Scopes → Typed → Value → Result Form Refusal
arrow_form at n s x (address p to) =
    and_then (if_complete s to at to) (λ struct.
    member_in (shape_of s.shapes struct) at n s struct (λ m. Ok (place (tree.member m.leaf (pointee x.tree)) m.shape)))
arrow_form at n s x v = refuse Mismatch at

-- `?:`; `of` is the place of the condition.

abbrev pub choice_of : Option ℕ → Typed → Expression → Expression → Value → Form
choice_of ty c a b v = operand (typed_as (choice ty c.tree a b) v)

-- integers, pointers that agree, one struct type, or both void
abbrev pub chosen_form : (at : ℕ) → Typed → Typed → Value → Typed → Value → Result Form Refusal
chosen_form at c x (integer a) y (integer b) =
    joined_kinds at a b (λ kind.
    Ok (choice_of (Some (kind_number kind)) c (conversion kind x.tree) (conversion kind y.tree) (integer kind)))
chosen_form at c x (address n to) y (address m of) =
    if nat_eq n m then Ok (choice_of (Some n) c x.tree y.tree (address n to)) else refuse Mismatch at
chosen_form at c x (address n to) y b =
    if is_null y then Ok (choice_of (Some n) c x.tree (null_as y.tree n) (address n to)) else refuse Mismatch at
chosen_form at c x a y (address n to) =
    if is_null x then Ok (choice_of (Some n) c (null_as x.tree n) y.tree (address n to)) else refuse Mismatch at
chosen_form at c x (record_of n) y (record_of m) =
    if nat_eq n m then Ok (choice_of (Some n) c x.tree y.tree (record_of n)) else refuse Mismatch at
chosen_form at c x nothing y nothing = Ok (choice_of None c x.tree y.tree nothing)
chosen_form at c x a y b =
    if is_null x && is_null y
    then Ok (choice_of (Some int_type) c (conversion Int x.tree) (conversion Int y.tree) no_address)
    else refuse Mismatch at

-- at one node MixedLong wins over Mismatch of the condition
abbrev pub with_condition : Bool → (of : ℕ) → Value → Value → Result Form Refusal → Result Form Refusal
with_condition true of a b r = r
with_condition false of (integer a) (integer b) r = and_then r (λ f. refuse Mismatch of)
with_condition false of a b r = refuse Mismatch of

abbrev pub choice_form : (at of : ℕ) → Typed → Typed → Typed → Result Form Refusal
choice_form at of c x y = with_condition (is_scalar c.value) of x.value y.value (chosen_form at c x x.value y y.value)

-- Assignments.

abbrev pub infix_of : Assigning → Infix
infix_of assigning.Mul = sign.Mul
infix_of assigning.Div = sign.Div
infix_of assigning.Rem = sign.Rem
infix_of assigning.Sub = sign.Sub
infix_of assigning.ShiftLeft = sign.ShiftLeft
infix_of assigning.ShiftRight = sign.ShiftRight
infix_of assigning.BitAnd = sign.BitAnd
infix_of assigning.BitXor = sign.BitXor
infix_of assigning.BitOr = sign.BitOr
infix_of a = sign.Add

-- the operator, then `=`
abbrev pub assigned_by : Infix → (at : ℕ) → tree.Place → (shape : ℕ) → Typed → Scopes → Typing Form
assigned_by op at p n y s =
    go_on (value_of at (place p n) s) (λ x s.
    and_then (operated op at x y s) (λ o.
    and_then (fitted at n (typed_as o.right o.value) s) (λ e.
    Ok (operand (typed_as (assign_by n o.operator p o.right) (value_at s.shapes n)), s))))

abbrev pub assigned : Assigning → (at : ℕ) → tree.Place → (shape : ℕ) → Typed → Scopes → Typing Form
assigned assigning.Plain at p n y s =
    and_then (fitted at n y s) (λ e. Ok (operand (typed_as (assign n p e) (value_at s.shapes n)), s))
assigned a at p n y s = assigned_by (infix_of a) at p n y s

abbrev pub assign_form : Assigning → (at : ℕ) → Form → Typed → Scopes → Typing Form
assign_form a at (place p n) y s = assigned a at p n y s
assign_form a at f y s = refuse NotPlace at

-- Casts: an integer to a kind, anything to void, and the pointer type of an allocation in front of it.

abbrev pub cast_to_kind : (at : ℕ) → Kind → Typed → Value → Result Form Refusal
cast_to_kind at kind x (integer k) = Ok (operand (typed_as (conversion kind x.tree) (integer kind)))
cast_to_kind at kind x (address n to) = refuse PointerCast at
cast_to_kind at kind x no_address = refuse PointerCast at
cast_to_kind at kind x v = refuse Mismatch at

abbrev pub is_address_of : (shape : ℕ) → Value → Bool
is_address_of n (address m to) = nat_eq n m
is_address_of n v = false

abbrev pub cast_to_pointer : (at shape : ℕ) → Typed → Result Form Refusal
cast_to_pointer at n x =
    if x.is_allocation && is_address_of n x.value then Ok (operand (typed_as x.tree x.value)) else refuse PointerCast at

abbrev pub cast_to_other : (at : ℕ) → Value → Result Form Refusal
cast_to_other at (address n to) = refuse PointerCast at
cast_to_other at no_address = refuse PointerCast at
cast_to_other at v = refuse Mismatch at

abbrev pub cast_form : Shape → (at shape : ℕ) → Typed → Result Form Refusal
cast_form void at n x = Ok (operand (typed_as (discard x.tree) nothing))
cast_form (shape.whole kind) at n x = cast_to_kind at kind x x.value
cast_form (pointer to) at n x = cast_to_pointer at n x
cast_form t at n x = cast_to_other at x.value
