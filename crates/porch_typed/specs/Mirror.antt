-- The typed tree as plain data, which definitions go over by cases: one type for each type of the code, and
-- one for each list of what leads back to it. The comments on its parts stand at the code's tree.
use Rattle.std.specs.Prelude.{ℕ, ℤ, Bool, List, Option}
use Rattle.porch_types.specs.declared.shapes.Kind.{Kind}
use Rattle.porch_types.specs.declared.shapes.Ty.{Ty}
use Rattle.porch_typed.specs.declared.typed.Conversion.{Conversion}
use Rattle.porch_typed.specs.declared.typed.Direction.{Direction}
use Rattle.porch_typed.specs.declared.typed.Fill.{Fill}
use Rattle.porch_typed.specs.declared.typed.GlobalVariable.{GlobalVariable}
use Rattle.porch_typed.specs.declared.typed.Operator.{Operator}
use Rattle.porch_typed.specs.declared.typed.Unary.{Unary}

mutual
  pub data Expression : Type 0 where
    constant : Kind → ℤ → Expression
    null_pointer : (ty : ℕ) → Expression
    read : (ty : ℕ) → Place → Expression
    whole : (ty : ℕ) → Place → Expression
    address : (ty : ℕ) → Place → Expression
    first : (ty : ℕ) → Place → Expression
    row : Expression → Steps → Expression
    all_of : Expression → Expressions → Expression
    any_of : Expression → Expressions → Expression
    unary : Unary → Kind → Expression → Expression
    isnt : Expression → Expression
    choice : (ty : Option ℕ) → (condition chosen other : Expression) → Expression
    sequence : Expression → Expressions → Expression
    assign : (ty : ℕ) → Place → Expression → Expression
    assign_by : (ty : ℕ) → Operator → Place → Expression → Expression
    increment : (ty : ℕ) → (before : Bool) → Direction → Place → Expression
    conversion : Kind → Expression → Expression
    discard : Expression → Expression
    member_of : (ty leaf : ℕ) → Expression → Expression
    call : (function : ℕ) → Expressions → Expression
    put_character : Expression → Expression
    put_text : Expression → Expression
    put_literal : List ℕ → Expression
    print : Prints → Expression
    allocate : (ty : ℕ) → (zeroed : Bool) → Expression → Expression
    release : Expression → Expression
    checkpoint : Expression

  pub data Expressions : Type 0 where
    no_expressions : Expressions
    with_expression : Expression → Expressions → Expressions

  -- operators, each with the operand behind it
  pub data Steps : Type 0 where
    no_steps : Steps
    with_step : Operator → Expression → Steps → Steps

  pub data Place : Type 0 where
    variable : ℕ → Place
    global : ℕ → Place
    pointee : Expression → Place
    member : (leaf : ℕ) → Place → Place

  pub data Print : Type 0 where
    bytes : List ℕ → Print
    number : Conversion → Expression → Print
    text : Expression → Print
    literal : List ℕ → Print

  pub data Prints : Type 0 where
    no_prints : Prints
    with_print : Print → Prints → Prints

pub data Initial : Type 0 where
  nothing : Initial
  value : Expression → Initial
  filled : List (ℕ × Fill) → Initial

mutual
  pub data Statement : Type 0 where
    block : Statements → Statement
    declare : (variable : ℕ) → Initial → Statement
    evaluate : Expression → Statement
    choose : Expression → Statement → Statement → Statement
    repeat_while : Expression → Statement → Statement
    repeat_until : Statement → Expression → Statement
    repeat_for : (start condition next : Option Expression) → Statement → Statement
    switch : Kind → Expression → SwitchEntries → Statement
    leave_loop : Statement
    go_round : Statement
    give : Option Expression → Statement

  pub data Statements : Type 0 where
    no_statements : Statements
    with_statement : Statement → Statements → Statements

  pub data SwitchEntry : Type 0 where
    case : ℤ → SwitchEntry
    default : SwitchEntry
    statement : Statement → SwitchEntry

  pub data SwitchEntries : Type 0 where
    no_entries : SwitchEntries
    with_entry : SwitchEntry → SwitchEntries → SwitchEntries

pub record Function : Type 0 where
  pub name : List ℕ
  pub result : Option ℕ
  pub params : ℕ
  pub variables : List ℕ
  pub body : Statements
  pub tokens : ℕ

pub record Program : Type 0 where
  pub types : List Ty
  pub pointers : List ℕ
  pub globals : List GlobalVariable
  pub functions : List Function
  pub main : ℕ
