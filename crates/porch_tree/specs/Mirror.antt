-- The tree of a source text as plain data, which definitions go over by cases: one type for each
-- type of the code, and one for each list of what leads back to it. Its parts are those of the
-- code's tree, where the comments on them stand.
use Rattle.std.specs.Prelude.{ℕ, Bool, List, Option}
use Rattle.porch_tree.specs.declared.word.Keyword.{Keyword}
use Rattle.porch_tree.specs.declared.tree.Assigning.{Assigning}
use Rattle.porch_tree.specs.declared.tree.Consts.{Consts}
use Rattle.porch_tree.specs.declared.tree.Infix.{Infix}
use Rattle.porch_tree.specs.declared.tree.Level.{Level}
use Rattle.porch_tree.specs.declared.tree.Prefix.{Prefix}
use Rattle.porch_tree.specs.declared.tree.TagSort.{TagSort}

-- a name, a constant or a string literal: its place in the text, and its bytes
pub record Name : Type 0 where
  pub at : ℕ
  pub bytes : List ℕ

mutual
  pub data Expr : Type 0 where
    name : Name → Expr
    -- an integer constant, a character constant
    whole : Name → Expr
    character : Name → Expr
    texts : Name → List Name → Expr
    nested : (at : ℕ) → Expr → Expr
    suffixed : Expr → Suffixes → Expr
    prefixed : (at : ℕ) → Prefix → Expr → Expr
    size_of : (at : ℕ) → TypeName → Expr
    cast : (at : ℕ) → TypeName → Expr → Expr
    row : Level → Expr → Operands → Expr
    conditional : Expr → Expr → Expr → Expr
    assign : Assigning → Expr → Expr → Expr
    sequence : Expr → Exprs → Expr

  pub data Exprs : Type 0 where
    no_exprs : Exprs
    with_expr : Expr → Exprs → Exprs

  -- operators, each with the operand behind it
  pub data Operands : Type 0 where
    no_operands : Operands
    with_operand : Infix → Expr → Operands → Operands

  pub data Perhaps : Type 0 where
    absent : Perhaps
    present : Expr → Perhaps

  pub data Suffix : Type 0 where
    index : Expr → Suffix
    call : Exprs → Suffix
    member : Name → Suffix
    arrow : Name → Suffix
    increased : Suffix
    decreased : Suffix

  pub data Suffixes : Type 0 where
    no_suffixes : Suffixes
    with_suffix : Suffix → Suffixes → Suffixes

  pub data Base : Type 0 where
    kind : (at : ℕ) → List Keyword → Base
    void : (at : ℕ) → Consts → Base
    typedef_name : (at : ℕ) → Name → Consts → Base
    tag : (at : ℕ) → TagSort → Name → Consts → Base
    structure : (at : ℕ) → Option Name → Fields → Consts → Base
    enumeration : (at : ℕ) → Option Name → Constants → Consts → Base

  pub data Field : Type 0 where
    field : Base → Declarators → Field

  pub data Fields : Type 0 where
    no_fields : Fields
    with_field : Field → Fields → Fields

  pub data Constant : Type 0 where
    constant : Name → Perhaps → Constant

  pub data Constants : Type 0 where
    no_constants : Constants
    with_constant : Constant → Constants → Constants

  -- its stars: how many `const` stand behind each
  pub data Declarator : Type 0 where
    declarator : (at : ℕ) → (stars : List ℕ) → Core → Brackets → Declarator

  pub data Declarators : Type 0 where
    no_declarators : Declarators
    with_declarator : Declarator → Declarators → Declarators

  pub data Core : Type 0 where
    lacking : Core
    named : Name → Core
    inner : (at : ℕ) → Declarator → Core

  pub data Bracket : Type 0 where
    count : Perhaps → Bracket
    empty_list : Bracket
    void_list : Bracket
    param_list : Params → Bracket

  pub data Brackets : Type 0 where
    no_brackets : Brackets
    with_bracket : Bracket → Brackets → Brackets

  pub data Param : Type 0 where
    param : Base → Declarator → Param

  pub data Params : Type 0 where
    no_params : Params
    with_param : Param → Params → Params

  pub data TypeName : Type 0 where
    type_name : Base → Declarator → TypeName

mutual
  pub data Initial : Type 0 where
    value : Expr → Initial
    braced : (at : ℕ) → Initials → (comma : Bool) → Initial

  pub data Initials : Type 0 where
    no_initials : Initials
    with_initial : Initial → Initials → Initials

pub record Entry : Type 0 where
  pub declarator : Declarator
  pub initial : Option Initial

pub record Declaration : Type 0 where
  -- the place of `static`
  pub fixed : Option ℕ
  pub base : Base
  pub entries : List Entry

mutual
  pub data Stmt : Type 0 where
    block : (at : ℕ) → List Declaration → Stmts → Stmt
    evaluate : Perhaps → Stmt
    choose : (at : ℕ) → Expr → Stmt → Stmt
    choose_else : (at : ℕ) → Expr → Stmt → Stmt → Stmt
    while_loop : (at : ℕ) → Expr → Stmt → Stmt
    do_loop : (at : ℕ) → Stmt → Expr → Stmt
    for_loop : (at : ℕ) → (start condition next : Perhaps) → Stmt → Stmt
    switch : (at : ℕ) → Expr → SwitchEntries → Stmt
    break : (at : ℕ) → Stmt
    continue : (at : ℕ) → Stmt
    give : (at : ℕ) → Perhaps → Stmt

  pub data Stmts : Type 0 where
    no_stmts : Stmts
    with_stmt : Stmt → Stmts → Stmts

  pub data SwitchEntry : Type 0 where
    case : (at : ℕ) → Expr → SwitchEntry
    default : (at : ℕ) → SwitchEntry
    stmt : Stmt → SwitchEntry

  pub data SwitchEntries : Type 0 where
    no_entries : SwitchEntries
    with_entry : SwitchEntry → SwitchEntries → SwitchEntries

-- a function with its body
pub record Definition : Type 0 where
  pub fixed : Option ℕ
  pub base : Base
  pub declarator : Declarator
  pub declarations : List Declaration
  pub body : Stmts

pub data Item : Type 0 where
  typedef : Base → Declarator → Item
  declaration : Declaration → Item
  function : Definition → Item

-- a whole text
abbrev pub TranslationUnit : Type 0
TranslationUnit = List Item
