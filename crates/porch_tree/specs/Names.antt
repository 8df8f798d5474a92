-- Which names are typedef names, and where a tree has to read one so. A typedef name is the name of a
-- typedef that stands earlier in the text. Where a type may begin it is read as a type, and elsewhere as
-- a plain name.
use Rattle.std.specs.Prelude.{ℕ, Bool, true, false, List, [], ◌∷◌, Contains, Option, Some, None, ⊤}
use Rattle.porch_tree.specs.declared.tree.Prefix.{Prefix}
use Rattle.porch_tree.specs.declared.tree.Prefix.TheVariants.{Increase, Decrease}
use Rattle.porch_tree.specs.Mirror.{Expr, name, whole, character, texts, nested, suffixed, prefixed, size_of, cast, row, conditional, assign, sequence, Exprs, no_exprs, with_expr, Operands, no_operands, with_operand, Perhaps, absent, present, Suffix, index, call, member, arrow, increased, decreased, Suffixes, no_suffixes, with_suffix, Base, kind, void, typedef_name, tag, structure, enumeration, Field, field, Fields, no_fields, with_field, Constant, constant, Constants, no_constants, with_constant, Declarator, declarator, Declarators, no_declarators, with_declarator, Core, lacking, named, inner, Bracket, count, empty_list, void_list, param_list, Brackets, no_brackets, with_bracket, Param, param, Params, no_params, with_param, TypeName, type_name, Initial, value, braced, Initials, no_initials, with_initial, Entry, Declaration, Stmt, block, evaluate, choose, choose_else, while_loop, do_loop, for_loop, switch, break, continue, give, Stmts, no_stmts, with_stmt, SwitchEntry, case, default, stmt, SwitchEntries, no_entries, with_entry, Definition, typedef, declaration, function, TranslationUnit}

-- the name with which an expression begins
abbrev pub first_name : Expr → Option (List ℕ)
first_name (name n) = Some n.bytes
first_name (whole n) = None
first_name (character n) = None
first_name (texts n ns) = None
first_name (nested at e) = None
first_name (suffixed e ss) = first_name e
first_name (prefixed at p e) = None
first_name (size_of at t) = None
first_name (cast at t e) = None
first_name (row l e os) = first_name e
first_name (conditional e a b) = first_name e
first_name (assign a x e) = first_name x
first_name (sequence e es) = first_name e

-- the declared name
abbrev mutual
  pub name_in : Declarator → List ℕ
  name_in (declarator at stars core bs) = core_name core

  pub core_name : Core → List ℕ
  core_name lacking = []
  core_name (named n) = n.bytes
  core_name (inner at d) = name_in d

-- whether a type in parentheses may stand at the operand
abbrev pub takes_cast : Prefix → Bool
takes_cast Increase = false
takes_cast Decrease = false
takes_cast p = true

module _ (types : List (List ℕ)) where
  -- it is no typedef name
  abbrev pub IsPlain : Option (List ℕ) → Type 0
  IsPlain None = ⊤
  IsPlain (Some n) = Contains types n → ⊥

  -- what stands in parentheses, where a type in parentheses may stand too
  abbrev pub IsNoType : Bool → Expr → Type 0
  IsNoType true e = IsPlain (first_name e)
  IsNoType false e = ⊤

  -- An expression, where a type in parentheses may stand in its place, or not.
  abbrev mutual
    pub ReadsExpr : Expr → Bool → Type 0
    ReadsExpr (name n) b = ⊤
    ReadsExpr (whole n) b = ⊤
    ReadsExpr (character n) b = ⊤
    ReadsExpr (texts n ns) b = ⊤
    ReadsExpr (nested at e) b = IsNoType b e × ReadsExpr e true
    ReadsExpr (suffixed e ss) b = ReadsExpr e b × ReadsSuffixes ss
    ReadsExpr (prefixed at p e) b = ReadsExpr e (takes_cast p)
    ReadsExpr (size_of at t) b = ReadsTypeName t
    ReadsExpr (cast at t e) b = ReadsTypeName t × ReadsExpr e true
    ReadsExpr (row l e os) b = ReadsExpr e true × ReadsOperands os
    ReadsExpr (conditional e x y) b = ReadsExpr e true × ReadsExpr x true × ReadsExpr y true
    ReadsExpr (assign a x e) b = ReadsExpr x true × ReadsExpr e true
    ReadsExpr (sequence e es) b = ReadsExpr e true × ReadsExprs es

    pub ReadsOperands : Operands → Type 0
    ReadsOperands no_operands = ⊤
    ReadsOperands (with_operand o e os) = ReadsExpr e true × ReadsOperands os

    pub ReadsExprs : Exprs → Type 0
    ReadsExprs no_exprs = ⊤
    ReadsExprs (with_expr e es) = ReadsExpr e true × ReadsExprs es

    pub ReadsPerhaps : Perhaps → Type 0
    ReadsPerhaps absent = ⊤
    ReadsPerhaps (present e) = ReadsExpr e true

    pub ReadsSuffixes : Suffixes → Type 0
    ReadsSuffixes no_suffixes = ⊤
    ReadsSuffixes (with_suffix s ss) = ReadsSuffix s × ReadsSuffixes ss

    pub ReadsSuffix : Suffix → Type 0
    ReadsSuffix (index e) = ReadsExpr e true
    ReadsSuffix (call es) = ReadsExprs es
    ReadsSuffix (member n) = ⊤
    ReadsSuffix (arrow n) = ⊤
    ReadsSuffix increased = ⊤
    ReadsSuffix decreased = ⊤

    pub ReadsBase : Base → Type 0
    ReadsBase (kind at words) = ⊤
    ReadsBase (void at c) = ⊤
    ReadsBase (typedef_name at n c) = Contains types n.bytes
    ReadsBase (tag at sort n c) = ⊤
    ReadsBase (structure at n fs c) = ReadsFields fs
    ReadsBase (enumeration at n cs c) = ReadsConstants cs

    pub ReadsFields : Fields → Type 0
    ReadsFields no_fields = ⊤
    ReadsFields (with_field f fs) = ReadsField f × ReadsFields fs

    pub ReadsField : Field → Type 0
    ReadsField (field b ds) = ReadsBase b × ReadsDeclarators ds

    pub ReadsDeclarators : Declarators → Type 0
    ReadsDeclarators no_declarators = ⊤
    ReadsDeclarators (with_declarator d ds) = ReadsDeclarator d × ReadsDeclarators ds

    pub ReadsConstants : Constants → Type 0
    ReadsConstants no_constants = ⊤
    ReadsConstants (with_constant c cs) = ReadsConstant c × ReadsConstants cs

    pub ReadsConstant : Constant → Type 0
    ReadsConstant (constant n e) = ReadsPerhaps e

    pub ReadsDeclarator : Declarator → Type 0
    ReadsDeclarator (declarator at stars core bs) = ReadsCore core × ReadsBrackets bs

    pub ReadsCore : Core → Type 0
    ReadsCore lacking = ⊤
    ReadsCore (named n) = ⊤
    ReadsCore (inner at d) = ReadsDeclarator d

    pub ReadsBrackets : Brackets → Type 0
    ReadsBrackets no_brackets = ⊤
    ReadsBrackets (with_bracket b bs) = ReadsBracket b × ReadsBrackets bs

    pub ReadsBracket : Bracket → Type 0
    ReadsBracket (count e) = ReadsPerhaps e
    ReadsBracket empty_list = ⊤
    ReadsBracket void_list = ⊤
    ReadsBracket (param_list ps) = ReadsParams ps

    pub ReadsParams : Params → Type 0
    ReadsParams no_params = ⊤
    ReadsParams (with_param p ps) = ReadsParam p × ReadsParams ps

    pub ReadsParam : Param → Type 0
    ReadsParam (param b d) = ReadsBase b × ReadsDeclarator d

    pub ReadsTypeName : TypeName → Type 0
    ReadsTypeName (type_name b d) = ReadsBase b × ReadsDeclarator d

  abbrev mutual
    pub ReadsInitial : Initial → Type 0
    ReadsInitial (value e) = ReadsExpr e true
    ReadsInitial (braced at is comma) = ReadsInitials is

    pub ReadsInitials : Initials → Type 0
    ReadsInitials no_initials = ⊤
    ReadsInitials (with_initial i is) = ReadsInitial i × ReadsInitials is

  abbrev pub ReadsStart : Option Initial → Type 0
  ReadsStart None = ⊤
  ReadsStart (Some i) = ReadsInitial i

  abbrev pub ReadsEntries : List Entry → Type 0
  ReadsEntries [] = ⊤
  ReadsEntries (e ∷ es) = ReadsDeclarator e.declarator × ReadsStart e.initial × ReadsEntries es

  abbrev pub ReadsDeclaration : Declaration → Type 0
  ReadsDeclaration d = ReadsBase d.base × ReadsEntries d.entries

  abbrev pub ReadsDeclarations : List Declaration → Type 0
  ReadsDeclarations [] = ⊤
  ReadsDeclarations (d ∷ ds) = ReadsDeclaration d × ReadsDeclarations ds

  -- a declaration may stand in place of the first statement of a block
  abbrev pub BeginsPlain : Stmts → Type 0
  BeginsPlain (with_stmt (evaluate (present e)) ss) = IsPlain (first_name e)
  BeginsPlain ss = ⊤

  abbrev mutual
    pub ReadsStmt : Stmt → Type 0
    ReadsStmt (block at ds ss) = ReadsDeclarations ds × BeginsPlain ss × ReadsStmts ss
    ReadsStmt (evaluate e) = ReadsPerhaps e
    ReadsStmt (choose at e s) = ReadsExpr e true × ReadsStmt s
    ReadsStmt (choose_else at e s t) = ReadsExpr e true × ReadsStmt s × ReadsStmt t
    ReadsStmt (while_loop at e s) = ReadsExpr e true × ReadsStmt s
    ReadsStmt (do_loop at s e) = ReadsStmt s × ReadsExpr e true
    ReadsStmt (for_loop at a b c s) =
        ReadsPerhaps a × ReadsPerhaps b × ReadsPerhaps c × ReadsStmt s
    ReadsStmt (switch at e xs) = ReadsExpr e true × ReadsEntriesOf xs
    ReadsStmt (break at) = ⊤
    ReadsStmt (continue at) = ⊤
    ReadsStmt (give at e) = ReadsPerhaps e

    pub ReadsStmts : Stmts → Type 0
    ReadsStmts no_stmts = ⊤
    ReadsStmts (with_stmt s ss) = ReadsStmt s × ReadsStmts ss

    pub ReadsEntriesOf : SwitchEntries → Type 0
    ReadsEntriesOf no_entries = ⊤
    ReadsEntriesOf (with_entry x xs) = ReadsSwitchEntry x × ReadsEntriesOf xs

    pub ReadsSwitchEntry : SwitchEntry → Type 0
    ReadsSwitchEntry (case at e) = ReadsExpr e true
    ReadsSwitchEntry (default at) = ⊤
    ReadsSwitchEntry (stmt s) = ReadsStmt s

  abbrev pub ReadsDefinition : Definition → Type 0
  ReadsDefinition f =
      ReadsBase f.base × ReadsDeclarator f.declarator × ReadsDeclarations f.declarations
      × BeginsPlain f.body × ReadsStmts f.body

-- Each item reads the names of the typedefs in front of it.
abbrev pub ReadsNames : List (List ℕ) → TranslationUnit → Type 0
ReadsNames types [] = ⊤
ReadsNames types (typedef b d ∷ xs) =
    ReadsBase types b × ReadsDeclarator types d × ReadsNames (name_in d ∷ types) xs
ReadsNames types (declaration d ∷ xs) = ReadsDeclaration types d × ReadsNames types xs
ReadsNames types (function f ∷ xs) = ReadsDefinition types f × ReadsNames types xs
