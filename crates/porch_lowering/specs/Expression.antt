-- The code of expressions and places. Each form writes the variable that its value goes to only when all of its operands
-- were read, but for `&&`, `||`, `?:` and calls, which write a temporary.
use Rattle.std.specs.Prelude.{ℕ, ℤ, ◌+◌, pos, nat_eq, Bool, true, false, not, ◌&&◌, ◌||◌, if◌then◌else◌, is_some, List, [], ◌∷◌, ◌++◌, length, map, slice_get, unwrap_or, Option, Some, None}
use Rattle.porch_types.specs.declared.shapes.Kind.TheVariants.{UChar, Int, Long}
use Rattle.porch_types.specs.declared.shapes.Ty.{Ty}
use Rattle.porch_types.specs.declared.shapes.Ty.TheVariants.{Struct}
use Rattle.porch_types.specs.Kinds.{kind_number}
use Rattle.porch_values.specs.Integers.{in_range}
use Rattle.porch_flat.specs.declared.flat.Operand.{Operand}
use Rattle.porch_flat.specs.declared.flat.Operand.TheVariants.{Var, Constant}
use Rattle.porch_flat.specs.declared.whole.Command.{Command}
use Rattle.porch_flat.specs.declared.whole.Command.TheVariants as command
use Rattle.porch_typed.specs.declared.typed.Conversion.{Conversion}
use Rattle.porch_typed.specs.declared.typed.Conversion.TheVariants as conversion
use Rattle.porch_typed.specs.declared.typed.Operator.{Operator}
use Rattle.porch_typed.specs.Mirror.{Expression, Expressions, Steps, Place, Print, Prints, Program}
use Rattle.porch_typed.specs.Mirror as tree
use Rattle.porch_mean.specs.Operators.{increment_of}
use Rattle.porch_mean.specs.Printing.{NEWLINE, up_to_zero}
use Rattle.porch_lowering.specs.Code.{InUse, and_one, at_most, Code, no_code, plain, then_code, then_commands, commands_then, Coder, Held, held, hold}
use Rattle.porch_lowering.specs.Values.{INT, operator_type, pointer_to, type_of, type_held, may_lack, constant_of, variable_of, Accepts, no_constant, constant_in, constant_operand, atom_of, pointer_in}
use Rattle.porch_lowering.specs.Operators.{var_of, left_accepts, right_accepts, commands_if, used_commands, operate, next_of, branch_on, negate, operate_unary, promote}

-- a value goes to a variable, or is dropped
abbrev pub moved_to : Option ℕ → Operand → List Command
moved_to None o = []
moved_to (Some d) o = command.Move d o ∷ []

-- Whether the code of an expression writes the variable that its value goes to in its last command alone, with a value
-- that is there. Then it may be a variable of the source.
module _ (p : Program) where
  abbrev mutual
    pub writes_last : Expression → Bool
    writes_last (tree.all_of e es) = false
    writes_last (tree.any_of e es) = false
    writes_last (tree.choice ty e a b) = false
    writes_last (tree.call function es) = false
    writes_last (tree.address ty place) = place_writes_last place
    writes_last (tree.sequence e es) = last_writes_last es (writes_last e)
    writes_last (tree.conversion kind e) = not (nat_eq (type_held p e) (kind_number kind)) || writes_last e
    writes_last e = true

    pub place_writes_last : Place → Bool
    place_writes_last (tree.pointee e) = writes_last e
    place_writes_last place = true

    pub last_writes_last : Expressions → Bool → Bool
    last_writes_last tree.no_expressions writes = writes
    last_writes_last (tree.with_expression e es) writes = last_writes_last es (writes_last e)

-- whether the operand of the first operator stands where it is
abbrev pub begins_in_place : Steps → Bool
begins_in_place tree.no_steps = true
begins_in_place (tree.with_step op e steps) = is_some (atom_of (right_accepts op) e)

abbrev pub first_accepts : Steps → Accepts
first_accepts tree.no_steps = no_constant
first_accepts (tree.with_step op e steps) = left_accepts op

-- an operand that is left where it stands only if it may be
abbrev pub if_in_place : Bool → Option Operand → Option Operand
if_in_place true o = o
if_in_place false o = None

-- where the value of a step goes: the last one's is that of the row
abbrev pub goes_to : Steps → Option ℕ → Option ℕ
goes_to tree.no_steps to = to
goes_to (tree.with_step op e steps) to = None

-- where the value of one of the expressions behind a comma goes
abbrev pub if_last : Expressions → Option ℕ → Option ℕ
if_last tree.no_expressions to = to
if_last (tree.with_expression e es) to = None

-- what a condition may be tested as where it stands
abbrev pub test_accepts : (ty : ℕ) → Accepts
test_accepts ty = if nat_eq ty INT then constant_in Int else no_constant

-- the greatest int
abbrev pub MOST_INT : ℤ
MOST_INT = pos 2147483647

-- what meets Overflow
abbrev pub overflow : (target : ℕ) → Command
overflow d = command.Add d (Constant MOST_INT) (Constant (pos 1))

-- A number of bytes is the value, and has to be an int.
abbrev pub count_to : Option ℕ → (t : ℕ) → (count : ℕ) → List Command
count_to to t count = if in_range Int 32 (pos count) then moved_to to (Constant (pos count)) else overflow t ∷ []

-- it is added to a number
abbrev pub add_constant : (variable : ℕ) → (count : ℕ) → Command
add_constant c count = if in_range Int 32 (pos count) then command.Add c (Var c) (Constant (pos count)) else overflow c

-- bytes are shown one by one
abbrev pub show_bytes : (variable : ℕ) → List ℕ → List Command
show_bytes v bytes = map (λ b. command.Char v (Constant (pos b))) bytes

-- how a value is shown
abbrev pub show_command : Conversion → (target : ℕ) → Operand → Command
show_command conversion.Character d o = command.Char d o
show_command conversion.Decimal d o = command.Dec d o
show_command conversion.Unsigned d o = command.Dec d o
show_command conversion.Hexadecimal d o = command.Hex d o
show_command conversion.Long d o = command.Dec d o
show_command conversion.UnsignedLong d o = command.Dec d o

-- how many bytes of a format stand in it, and how many of its pieces are counted when they are shown
abbrev pub bytes_of : Print → List ℕ
bytes_of (tree.bytes bs) = bs
bytes_of (tree.literal bs) = up_to_zero bs
bytes_of (tree.number how e) = []
bytes_of (tree.text e) = []

abbrev pub constant_bytes : Prints → ℕ
constant_bytes tree.no_prints = 0
constant_bytes (tree.with_print x xs) = length (bytes_of x) + constant_bytes xs

module _ (p : Program) (start : ℕ → ℕ) where
  -- the next free temporary that holds a value of a type
  abbrev pub next : ℕ → InUse → ℕ
  next ty used = next_of start ty used

  -- the variable that a value goes to, which is a temporary where it is dropped, and what is in use with it
  abbrev pub target : Option ℕ → (ty : ℕ) → InUse → ℕ
  target to ty used = unwrap_or to (next ty used)

  abbrev pub with_target : Option ℕ → (ty : ℕ) → InUse → InUse
  with_target None ty used = and_one ty used
  with_target (Some d) ty used = used

  -- a value of an expression of a type that isn't void, held
  abbrev pub hold_value : Option Operand → (ty : ℕ) → Coder → InUse → (label : ℕ) → Held
  hold_value o ty value used label = hold o (next ty used) ty value used label

  -- where a value that may be missing was put it is used
  abbrev pub use_if : Bool → ℕ → List Command
  use_if lacks t = commands_if lacks (used_commands (Var t))

  -- An operator, and what its result is converted to where it is stored in another type: the code, and where that is.
  abbrev pub operate_for : (ty : ℕ) → Operator → (target : Option ℕ) → (left : Operand) → (right : Operand) → (right_ty : ℕ) → InUse → (label : ℕ) → Held
  operate_for ty op d left right right_ty used label =
      let result = operator_type op in
      if nat_eq result ty
      then held (operate start op (target d ty used) left ty right right_ty (with_target d ty used) label) (Var (target d ty used)) (with_target d ty used)
      else (let t = next result used in
      let with_result = and_one result used in
      held
      (then_commands
      (operate start op t left ty right right_ty (with_target d ty with_result) label)
      (command.Cast (target d ty with_result) t ∷ []))
      (Var (target d ty with_result)) (with_target d ty with_result))

  -- A variable is changed by an operator. `right` is the right operand's code, and `in_place` the operand where it stands.
  -- The value is the new one, or the old one.
  abbrev pub change_variable : (ty : ℕ) → Operator → (variable : ℕ) → (in_place : Option Operand) → (right_ty : ℕ) → Coder → (is_new : Bool) → Coder
  change_variable ty op v in_place right_ty right is_new to used label =
      let is_kept = not (is_some in_place) || (not is_new && is_some to) in
      let left = hold (if_in_place (not is_kept) (Some (Var v))) (next ty used) ty (λ d used label. plain (moved_to d (Var v)) used label) used label in
      let other = hold_value in_place right_ty right left.used left.code.label in
      let result = operate_for ty op (Some v) left.operand other.operand right_ty other.used other.code.label in
      then_commands (then_code left.code (then_code other.code result.code)) (moved_to to (if is_new then Var v else left.operand))

  -- What stands at a place is changed.
  abbrev pub change_place : (ty : ℕ) → Operator → (pointer : Option Operand) → (pointer_ty : ℕ) → (place : Coder) → (in_place : Option Operand) → (right_ty : ℕ) → Coder → (is_new : Bool) → Coder
  change_place ty op pointer pointer_ty place in_place right_ty right is_new to used label =
      let at = hold_value (if_in_place (is_some in_place) pointer) pointer_ty place used label in
      let t = next ty at.used in
      let with_left = and_one ty at.used in
      let other = hold_value in_place right_ty right with_left at.code.label in
      let result = operate_for ty op None (Var t) other.operand right_ty other.used other.code.label in
      then_commands
      (then_code (then_commands at.code (command.Load t (var_of at.operand) ∷ [])) (then_code other.code result.code))
      (command.Store (var_of at.operand) result.operand ∷ moved_to to (if is_new then result.operand else Var t))

  -- A scalar variable is assigned to.
  abbrev pub assign_variable : (ty variable : ℕ) → (writes_last : Bool) → Coder → Coder
  assign_variable ty v true value to used label = then_commands (value (Some v) used label) (moved_to to (Var v))
  assign_variable ty v false value to used label =
      let t = next ty used in
      then_commands (value (Some t) (and_one ty used) label) (command.Move v (Var t) ∷ moved_to to (Var v))

  -- What stands at a place is assigned to. Where the value is dropped an operand is stored as it stands.
  abbrev pub assign_place : (ty : ℕ) → (pointer : Option Operand) → (pointer_ty : ℕ) → (place : Coder) → (in_place : Option Operand) → Coder → Coder
  assign_place ty pointer pointer_ty place in_place value to used label =
      let stays = if_in_place (not (is_some to)) in_place in
      let at = hold_value (if_in_place (is_some stays) pointer) pointer_ty place used label in
      let x = hold_value stays ty value at.used at.code.label in
      then_commands (then_code at.code x.code) (command.Store (var_of at.operand) x.operand ∷ moved_to to x.operand)

  -- A struct is copied, and is where it was copied to.
  abbrev pub copy_struct : (pointer_ty : ℕ) → (place : Coder) → Coder → Coder
  copy_struct pointer_ty place value to used label =
      let at = hold_value None pointer_ty place used label in
      let from = hold_value None pointer_ty value at.used at.code.label in
      then_commands (then_code at.code from.code) (command.Copy (var_of at.operand) (var_of from.operand) ∷ moved_to to at.operand)

  -- an assignment, by what is assigned to
  abbrev pub assign_by_shape : Option Ty → (variable : Option ℕ) → (struct direct indirect : Coder) → Coder
  assign_by_shape (Some (Struct members)) v struct direct indirect = struct
  assign_by_shape shape (Some v) struct direct indirect = direct
  assign_by_shape shape None struct direct indirect = indirect

  -- with a variable, or without one
  abbrev pub by_variable : Option ℕ → (ℕ → Coder) → Coder → Coder
  by_variable (Some v) direct indirect = direct v
  by_variable None direct indirect = indirect

  -- the type of the pointer to a place of a type
  abbrev pub place_type : Place → (ty : ℕ) → ℕ
  place_type (tree.pointee e) ty = type_held p e
  place_type place ty = pointer_to p ty

  -- a value that needs no conversion is used where it may be missing
  abbrev pub converted_already : (lacks : Bool) → (kind : ℕ) → Coder → Coder
  converted_already true kind value to used label =
      let d = target to kind used in then_commands (value (Some d) (with_target to kind used) label) (used_commands (Var d))
  converted_already false kind value to used label = value to used label

  -- A constant goes to where it is asked for, a value of the kind as it is, and any other is converted.
  abbrev pub convert_to : (kind : ℕ) → (constant : Option ℤ) → (ty : ℕ) → (lacks : Bool) → (in_place : Option Operand) → Coder → Coder
  convert_to kind (Some z) ty lacks in_place value to used label = plain (moved_to to (Constant z)) used label
  convert_to kind None ty lacks in_place value to used label =
      if nat_eq ty kind then converted_already lacks kind value to used label
      else (let d = target to kind used in
      let x = hold_value in_place ty value (with_target to kind used) label in
      then_commands x.code (command.Cast d (var_of x.operand) ∷ []))

  -- a member of a struct: a struct again is its place, and all else is read
  abbrev pub member_code : Option Ty → (ty : ℕ) → (leaf : ℕ) → (struct_ty : ℕ) → Coder → Coder
  member_code (Some (Struct members)) ty leaf struct_ty value to used label =
      let d = target to (pointer_to p ty) used in
      let x = hold_value None struct_ty value (with_target to (pointer_to p ty) used) label in
      then_commands x.code (command.Member d (var_of x.operand) leaf ∷ [])
  member_code shape ty leaf struct_ty value to used label =
      let d = target to ty used in
      let x = hold_value None struct_ty value (with_target to ty used) label in
      let t = next (pointer_to p ty) x.used in
      record {
        commands = x.code.commands ++ command.Member t (var_of x.operand) leaf ∷ command.Load d t ∷ [];
        most = at_most x.code.most (and_one (pointer_to p ty) x.used);
        label = x.code.label;
      }

  -- what is read, by the pointer to it
  abbrev pub read_code : (ty : ℕ) → (pointer : Option Operand) → (pointer_ty : ℕ) → (place : Coder) → Coder
  read_code ty pointer pointer_ty place to used label =
      let d = target to ty used in
      let at = hold_value pointer pointer_ty place (with_target to ty used) label in
      then_commands at.code (command.Load d (var_of at.operand) ∷ [])

  -- a condition, and on at a label where it is true
  abbrev pub test : Expression → Coder → (to : ℕ) → InUse → (label : ℕ) → Code
  test e value to used label =
      let ty = type_held p e in
      let x = hold_value (atom_of (test_accepts ty) e) ty value used label in
      then_code x.code (branch_on start ty x.operand to x.used x.code.label)

  -- a condition, and on at a label where it doesn't hold
  abbrev pub goes_on_where_it_holds : Expression → (end : ℕ) → InUse → (label : ℕ) → Coder → Code
  goes_on_where_it_holds e end used label value =
      then_commands (test e value label used (label + 1)) (command.Jump end ∷ command.Label label ∷ [])

  -- The bytes that were shown, added up: those that stand in the format and those that were counted, in this many temporaries.
  abbrev pub add_counts : (sum : ℕ) → (counts : List ℕ) → List Command
  add_counts sum [] = []
  add_counts sum (c ∷ counts) = command.Add sum (Var sum) (Var c) ∷ add_counts sum counts

  -- `t` is a temporary for what is asked for only where the sum is no int
  abbrev pub sum_code : Option ℕ → (t : ℕ) → (constant : ℕ) → (counts : List ℕ) → List Command
  sum_code to t constant [] = count_to to t constant
  sum_code to t constant (c ∷ counts) = add_constant c constant ∷ (add_counts c counts ++ moved_to to (Var c))

  -- the temporaries that hold the arguments of printf, in order, with those in use behind them
  abbrev pub argument_kept : Print → InUse → InUse
  argument_kept (tree.bytes bs) used = used
  argument_kept (tree.literal bs) used = used
  argument_kept (tree.number how e) used = and_one (type_held p e) used
  argument_kept (tree.text e) used = and_one (type_held p e) used

  abbrev pub arguments_kept : Prints → InUse → InUse
  arguments_kept tree.no_prints used = used
  arguments_kept (tree.with_print x xs) used = arguments_kept xs (argument_kept x used)

  -- texts are used once more before the first piece is shown: what they point to may have ended
  abbrev pub text_used : Print → InUse → List Command
  text_used (tree.text e) used = used_commands (Var (next (type_held p e) used))
  text_used x used = []

  abbrev pub texts_used : Prints → InUse → List Command
  texts_used tree.no_prints used = []
  texts_used (tree.with_print x xs) used = text_used x used ++ texts_used xs (argument_kept x used)

  -- a piece is shown; the number of its bytes goes to a temporary
  abbrev pub piece_code : Print → (count : ℕ) → InUse → List Command
  piece_code (tree.bytes bs) c used = show_bytes c bs
  piece_code (tree.literal bs) c used = show_bytes c (up_to_zero bs)
  piece_code (tree.number how e) c used = show_command how c (Var (next (type_held p e) used)) ∷ []
  piece_code (tree.text e) c used = command.Text c (next (type_held p e) used) ∷ []

  abbrev pub is_counted : Print → Bool
  is_counted (tree.bytes bs) = false
  is_counted (tree.literal bs) = false
  is_counted (tree.number how e) = true
  is_counted (tree.text e) = true

  abbrev pub counted_behind : Print → InUse → InUse
  counted_behind x counted = if is_counted x then and_one INT counted else counted

  -- `counted` has the counts that are in use besides the arguments
  abbrev pub pieces_code : Prints → (counted : InUse) → InUse → List Command
  pieces_code tree.no_prints counted used = []
  pieces_code (tree.with_print x xs) counted used =
      piece_code x (next INT counted) used ++ pieces_code xs (counted_behind x counted) (argument_kept x used)

  abbrev pub counts_of : Prints → (counted : InUse) → List ℕ
  counts_of tree.no_prints counted = []
  counts_of (tree.with_print x xs) counted =
      if is_counted x then next INT counted ∷ counts_of xs (and_one INT counted) else counts_of xs counted

  abbrev pub all_counted : Prints → (counted : InUse) → InUse
  all_counted tree.no_prints counted = and_one INT counted
  all_counted (tree.with_print x xs) counted = all_counted xs (counted_behind x counted)

  -- what an argument of a call is when it is evaluated: a constant, or a temporary
  abbrev pub argument_operand : Option ℤ → ℕ → Operand
  argument_operand (Some z) t = Constant z
  argument_operand None t = Var t

  abbrev pub with_argument : Option ℤ → ℕ → InUse → InUse
  with_argument (Some z) ty used = used
  with_argument None ty used = and_one ty used

  abbrev pub argument_operands : Expressions → InUse → List Operand
  argument_operands tree.no_expressions used = []
  argument_operands (tree.with_expression e es) used =
      argument_operand (constant_of e) (next (type_held p e) used) ∷ argument_operands es (with_argument (constant_of e) (type_held p e) used)

  -- a value is put into the next temporary, and used
  abbrev pub kept_code : (lacks : Bool) → (ty : ℕ) → Coder → InUse → (label : ℕ) → Code
  kept_code lacks ty value used label =
      let t = next ty used in then_commands (value (Some t) (and_one ty used) label) (use_if lacks t)

  -- putchar: the byte is shown, and is the value, as an unsigned char
  abbrev pub put_code : Option ℕ → Held → Code
  put_code None x = then_code x.code (plain (command.Char (next INT x.used) x.operand ∷ []) (and_one INT x.used) x.code.label)
  put_code (Some d) x =
      let t = next INT x.used in
      let byte = next (kind_number UChar) x.used in
      then_code x.code
      (plain (command.Char t x.operand ∷ command.Cast byte (var_of x.operand) ∷ command.Cast d byte ∷ [])
      (and_one INT (and_one (kind_number UChar) x.used)) x.code.label)

  -- a wide operand: a constant as it is, and a variable's value promoted
  abbrev pub wide_operand : (ty : ℕ) → Operand → InUse → (label : ℕ) → Held
  wide_operand ty (Constant z) used label = held (no_code used label) (Constant z) used
  wide_operand ty (Var v) used label = promote start ty (Var v) used label

  -- the variable that a call's value goes to
  abbrev pub result_to : (result : Option ℕ) → Option ℕ → Option ℕ
  result_to None to = None
  result_to (Some ty) to = to

  abbrev mutual
    pub code : Expression → Coder
    code (tree.constant kind z) to used label = plain (moved_to to (Constant z)) used label
    code (tree.null_pointer ty) to used label = plain (moved_to to (Constant (pos 0))) used label
    code (tree.read ty place) to used label =
        by_variable (variable_of place) (λ v to used label. plain (command.Move (unwrap_or to v) (Var v) ∷ []) used label)
        (read_code ty (pointer_in place) (place_type place ty) (place_code place None)) to used label
    code (tree.whole ty place) to used label =
        place_code place (Some 0) (Some (target to (pointer_to p ty) used)) (with_target to (pointer_to p ty) used) label
    code (tree.address ty place) to used label = place_code place None (Some (target to ty used)) (with_target to ty used) label
    code (tree.first ty place) to used label = place_code place (Some 0) (Some (target to ty used)) (with_target to ty used) label
    code (tree.row e steps) to used label =
        let left = hold_value (if_in_place (begins_in_place steps) (atom_of (first_accepts steps) e)) (type_held p e) (code e) used label in
        then_code left.code (steps_code steps left.operand (type_held p e) used to left.used left.code.label)
    code (tree.all_of e es) to used label =
        let d = target to INT used in
        let in_tests = with_target to INT used in
        let first = goes_on_where_it_holds e label in_tests (label + 1) (code e) in
        let tests = then_code first (all_code es label in_tests first.label) in
        then_commands (commands_then (command.Move d (Constant (pos 0)) ∷ []) tests)
        (command.Move d (Constant (pos 1)) ∷ command.Label label ∷ [])
    code (tree.any_of e es) to used label =
        let d = target to INT used in
        let in_tests = with_target to INT used in
        let first = test e (code e) label in_tests (label + 1) in
        let tests = then_code first (any_code es label in_tests first.label) in
        then_commands (commands_then (command.Move d (Constant (pos 1)) ∷ []) tests)
        (command.Move d (Constant (pos 0)) ∷ command.Label label ∷ [])
    code (tree.unary op kind e) to used label =
        let d = target to (kind_number kind) used in
        let x = hold_value (atom_of (constant_in kind) e) (type_held p e) (code e) (with_target to (kind_number kind) used) label in
        then_code x.code (operate_unary start op d (kind_number kind) x.operand (type_held p e) x.used x.code.label)
    code (tree.isnt e) to used label =
        let d = target to INT used in
        let x = hold_value (atom_of no_constant e) (type_held p e) (code e) (with_target to INT used) label in
        then_code x.code (negate start d (type_held p e) x.operand x.used x.code.label)
    code (tree.choice ty e a b) to used label =
        let condition = test e (code e) label used (label + 2) in
        let other = code b to used condition.label in
        let chosen = code a to used other.label in
        then_commands
        (then_code condition
        (then_code (then_commands other (command.Jump (label + 1) ∷ command.Label label ∷ [])) chosen))
        (command.Label (label + 1) ∷ [])
    code (tree.sequence e es) to used label = let first = code e None used label in then_code first (last_code es to used first.label)
    code (tree.assign ty place e) to used label =
        assign_by_shape (slice_get p.types ty) (variable_of place)
        (copy_struct (pointer_to p ty) (place_code place None) (code e))
        (assign_variable ty (unwrap_or (variable_of place) 0) (writes_last p e) (code e))
        (assign_place ty (pointer_in place) (place_type place ty) (place_code place None) (atom_of (λ z. true) e) (code e))
        to used label
    code (tree.assign_by ty op place e) to used label =
        by_variable (variable_of place)
        (λ v. change_variable ty op v (atom_of (right_accepts op) e) (type_held p e) (code e) true)
        (change_place ty op (pointer_in place) (place_type place ty) (place_code place None) (atom_of (right_accepts op) e) (type_held p e) (code e) true)
        to used label
    code (tree.increment ty before way place) to used label =
        let op = increment_of (slice_get p.types ty) ty way in
        by_variable (variable_of place)
        (λ v. change_variable ty op v (Some (Constant (pos 1))) INT (λ to used label. no_code used label) before)
        (change_place ty op (pointer_in place) (place_type place ty) (place_code place None) (Some (Constant (pos 1))) INT
        (λ to used label. no_code used label) before)
        to used label
    code (tree.conversion kind e) to used label =
        convert_to (kind_number kind) (constant_of (tree.conversion kind e)) (type_held p e) (may_lack e) (atom_of no_constant e) (code e) to used label
    code (tree.discard e) to used label = code e None used label
    code (tree.member_of ty leaf e) to used label = member_code (slice_get p.types ty) ty leaf (type_held p e) (code e) to used label
    code (tree.call function es) to used label =
        then_commands (arguments_code es used label)
        (command.Call (result_to (type_of p (tree.call function es)) to) function (argument_operands es used) ∷ [])
    code (tree.put_character e) to used label =
        let x = hold_value (if_in_place (not (is_some to)) (atom_of (constant_in Int) e)) INT (code e) used label in
        put_code to x
    code (tree.put_text e) to used label =
        let x = hold_value (atom_of no_constant e) (type_held p e) (code e) used label in
        let t = next INT x.used in
        let newline = next INT (and_one INT x.used) in
        record {
          commands =
              x.code.commands
              ++ command.Text t (var_of x.operand) ∷ command.Char newline (Constant (pos NEWLINE))
              ∷ command.Add (unwrap_or to t) (Var t) (Constant (pos 1)) ∷ [];
          most = at_most x.code.most (and_one INT (and_one INT x.used));
          label = x.code.label;
        }
    code (tree.put_literal bs) to used label =
        let t = next INT used in
        plain (show_bytes t (up_to_zero bs) ++ command.Char t (Constant (pos NEWLINE)) ∷ count_to to t (length (up_to_zero bs) + 1))
        (and_one INT used) label
    code (tree.print xs) to used label =
        let counted = arguments_kept xs used in
        let first = print_arguments_code xs used label in
        let shown =
        texts_used xs used
        ++ (pieces_code xs counted used ++ sum_code to (next INT counted) (constant_bytes xs) (counts_of xs counted)) in
        then_code first (plain shown (all_counted xs counted) first.label)
    code (tree.allocate ty zeroed e) to used label =
        let d = target to ty used in
        let x = hold_value (atom_of (constant_in Long) e) (type_held p e) (code e) (with_target to ty used) label in
        let count = wide_operand (type_held p e) x.operand x.used x.code.label in
        then_commands (then_code x.code count.code) ((if zeroed then command.Calloc d count.operand else command.Alloc d count.operand) ∷ [])
    code (tree.release e) to used label =
        let x = hold_value (atom_of no_constant e) (type_held p e) (code e) used label in
        then_commands x.code (command.Free (var_of x.operand) ∷ [])
    code tree.checkpoint to used label = plain (command.Checkpoint ∷ []) used label

    -- A pointer to a place, or with a leaf to the subobject that begins so far behind it.
    pub place_code : Place → (behind : Option ℕ) → Coder
    place_code (tree.variable v) behind to used label = plain (command.Local (unwrap_or to 0) v (unwrap_or behind 0) ∷ []) used label
    place_code (tree.global g) behind to used label = plain (command.GlobalA (unwrap_or to 0) g (unwrap_or behind 0) ∷ []) used label
    place_code (tree.pointee e) None to used label = then_commands (code e to used label) (use_if (may_lack e) (unwrap_or to 0))
    place_code (tree.pointee e) (Some leaf) to used label =
        let x = hold_value (atom_of no_constant e) (type_held p e) (code e) used label in
        then_commands x.code (command.Member (unwrap_or to 0) (var_of x.operand) leaf ∷ [])
    place_code (tree.member leaf place) behind to used label = place_code place (Some (leaf + unwrap_or behind 0)) to used label

    -- Operators behind a left operand. `free` is what is in use without that operand: the value of each step but the last
    -- goes to the next temporary there.
    pub steps_code : Steps → (left : Operand) → (ty : ℕ) → (free : InUse) → Coder
    steps_code tree.no_steps left ty free to used label = no_code used label
    steps_code (tree.with_step op e steps) left ty free to used label =
        let right = hold_value (atom_of (right_accepts op) e) (type_held p e) (code e) used label in
        let result = operator_type op in
        let d = target (goes_to steps to) result free in
        let in_step = at_most (with_target (goes_to steps to) result free) right.used in
        let step = operate start op d left ty right.operand (type_held p e) in_step right.code.label in
        then_code right.code (then_code step (steps_code steps (Var d) result free to (and_one result free) step.label))

    -- tests, from which what doesn't hold leads to a label
    pub all_code : Expressions → (end : ℕ) → InUse → (label : ℕ) → Code
    all_code tree.no_expressions end used label = no_code used label
    all_code (tree.with_expression e es) end used label =
        let first = goes_on_where_it_holds e end used label (code e) in then_code first (all_code es end used first.label)

    -- tests, from which what holds leads to a label
    pub any_code : Expressions → (end : ℕ) → InUse → (label : ℕ) → Code
    any_code tree.no_expressions end used label = no_code used label
    any_code (tree.with_expression e es) end used label =
        let first = test e (code e) end used label in then_code first (any_code es end used first.label)

    -- the last of the expressions behind a comma has the value
    pub last_code : Expressions → Coder
    last_code tree.no_expressions to used label = no_code used label
    last_code (tree.with_expression e es) to used label =
        let first = code e (if_last es to) used label in then_code first (last_code es to used first.label)

    -- arguments of a call: each is used when it is evaluated, and held
    pub arguments_code : Expressions → InUse → (label : ℕ) → Code
    arguments_code tree.no_expressions used label = no_code used label
    arguments_code (tree.with_expression e es) used label =
        let x = hold_value (constant_operand (λ z. true) (constant_of e)) (type_held p e) (code e) used label in
        then_code (then_commands x.code (commands_if (may_lack e) (used_commands x.operand))) (arguments_code es x.used x.code.label)

    -- arguments of printf
    pub print_arguments_code : Prints → InUse → (label : ℕ) → Code
    print_arguments_code tree.no_prints used label = no_code used label
    print_arguments_code (tree.with_print x xs) used label =
        let first = print_argument_code x used label in then_code first (print_arguments_code xs (argument_kept x used) first.label)

    pub print_argument_code : Print → InUse → (label : ℕ) → Code
    print_argument_code (tree.bytes bs) used label = no_code used label
    print_argument_code (tree.literal bs) used label = no_code used label
    print_argument_code (tree.number how e) used label = kept_code (may_lack e) (type_held p e) (code e) used label
    print_argument_code (tree.text e) used label = kept_code (may_lack e) (type_held p e) (code e) used label
