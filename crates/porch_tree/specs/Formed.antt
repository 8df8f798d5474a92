-- Which trees the grammar has: what may stand in each place, by the levels of the operators, and which
-- lists aren't empty.
use Rattle.std.specs.Prelude.{ℕ, ◌≡◌, ◌≢◌, ◌<◌, ◌+◌, zero, suc, nat_le, Bool, true, false, ◌&&◌, IsTrue, List, [], ◌∷◌, count_by, Option, Some, None, ⊤}
use Rattle.std.specs.List.{list_all}
use Rattle.porch_tree.specs.declared.word.Keyword.{Keyword}
use Rattle.porch_tree.specs.declared.word.Keyword.TheVariants as key
use Rattle.porch_tree.specs.declared.tree.Level.{Level}
use Rattle.porch_tree.specs.declared.tree.Prefix.{Prefix}
use Rattle.porch_tree.specs.declared.tree.Prefix.TheVariants.{Increase, Decrease, Sizeof}
use Rattle.porch_tree.specs.Words.{level_rank, infix_level}
use Rattle.porch_tree.specs.Mirror.{Name, Expr, name, whole, character, texts, nested, suffixed, prefixed, size_of, cast, row, conditional, assign, sequence, Exprs, no_exprs, with_expr, Operands, no_operands, with_operand, Perhaps, absent, present, Suffix, index, call, member, arrow, increased, decreased, Suffixes, no_suffixes, with_suffix, Base, kind, void, typedef_name, tag, structure, enumeration, Field, field, Fields, no_fields, with_field, Constant, constant, Constants, no_constants, with_constant, Declarator, declarator, Declarators, no_declarators, with_declarator, Core, lacking, named, inner, Bracket, count, empty_list, void_list, param_list, Brackets, no_brackets, with_bracket, Param, param, Params, no_params, with_param, TypeName, type_name, Initial, value, braced, Initials, no_initials, with_initial, Entry, Declaration, Stmt, block, evaluate, choose, choose_else, while_loop, do_loop, for_loop, switch, break, continue, give, Stmts, no_stmts, with_stmt, SwitchEntry, case, default, stmt, SwitchEntries, no_entries, with_entry, Definition, Item, typedef, declaration, function, TranslationUnit}

-- what a suffix may stand behind
abbrev pub IsPrimary : Expr → Type 0
IsPrimary (name n) = ⊤
IsPrimary (whole n) = ⊤
IsPrimary (character n) = ⊤
IsPrimary (texts n ns) = ⊤
IsPrimary (nested at e) = ⊤
IsPrimary e = ⊥

-- unary
abbrev pub IsUnary : Expr → Type 0
IsUnary (cast at t e) = ⊥
IsUnary (row l e os) = ⊥
IsUnary (conditional e a b) = ⊥
IsUnary (assign a x e) = ⊥
IsUnary (sequence e es) = ⊥
IsUnary e = ⊤

-- It binds tighter than the operators of a level.
abbrev pub IsTighter : Level → Expr → Type 0
IsTighter l (row m e os) = level_rank l < level_rank m
IsTighter l (conditional e a b) = ⊥
IsTighter l (assign a x e) = ⊥
IsTighter l (sequence e es) = ⊥
IsTighter l e = ⊤

-- cast
abbrev pub IsCast : Expr → Type 0
IsCast (row l e os) = ⊥
IsCast (conditional e a b) = ⊥
IsCast (assign a x e) = ⊥
IsCast (sequence e es) = ⊥
IsCast e = ⊤

-- the condition of a conditional
abbrev pub IsCondition : Expr → Type 0
IsCondition (conditional e a b) = ⊥
IsCondition (assign a x e) = ⊥
IsCondition (sequence e es) = ⊥
IsCondition e = ⊤

-- cond
abbrev pub IsCond : Expr → Type 0
IsCond (assign a x e) = ⊥
IsCond (sequence e es) = ⊥
IsCond e = ⊤

-- assign
abbrev pub IsAssign : Expr → Type 0
IsAssign (sequence e es) = ⊥
IsAssign e = ⊤

abbrev pub IsOperandOf : Prefix → Expr → Type 0
IsOperandOf Increase e = IsUnary e
IsOperandOf Decrease e = IsUnary e
IsOperandOf Sizeof e = IsUnary e
IsOperandOf p e = IsCast e

-- the words of a kind
abbrev pub is_char : Keyword → Bool
is_char key.Char = true
is_char k = false

abbrev pub is_short : Keyword → Bool
is_short key.Short = true
is_short k = false

abbrev pub is_int : Keyword → Bool
is_int key.Int = true
is_int k = false

abbrev pub is_long : Keyword → Bool
is_long key.Long = true
is_long k = false

abbrev pub is_signed : Keyword → Bool
is_signed key.Signed = true
is_signed k = false

abbrev pub is_unsigned : Keyword → Bool
is_unsigned key.Unsigned = true
is_unsigned k = false

abbrev pub is_kind_word : Keyword → Bool
is_kind_word key.Char = true
is_kind_word key.Short = true
is_kind_word key.Int = true
is_kind_word key.Long = true
is_kind_word key.Signed = true
is_kind_word key.Unsigned = true
is_kind_word key.Const = true
is_kind_word k = false

-- C90's lists of these words, in any order: no word twice, one sign at most, one of char, short and
-- long at most, and char without int
abbrev pub is_kind_of : (char short int long signed unsigned : ℕ) → Bool
is_kind_of c s i l sg u =
    nat_le (c + s + l) 1 && nat_le (c + i) 1 && nat_le (sg + u) 1 && nat_le 1 (c + s + i + l + sg + u)

abbrev pub is_kind : List Keyword → Bool
is_kind ks =
    list_all is_kind_word ks
    && is_kind_of (count_by is_char ks) (count_by is_short ks) (count_by is_int ks)
    (count_by is_long ks) (count_by is_signed ks) (count_by is_unsigned ks)

-- A place that is kept twice is kept as one.
abbrev pub IsPlaced : ℕ → ℕ → Name → Type 0
IsPlaced zero at n = at ≡ n.at
IsPlaced (suc k) at n = ⊤

abbrev pub IsPlacedAt : (at : ℕ) → List ℕ → Core → Brackets → Type 0
IsPlacedAt at [] lacking no_brackets = at ≡ 0
IsPlacedAt at [] lacking bs = ⊤
IsPlacedAt at [] (named n) bs = at ≡ n.at
IsPlacedAt at [] (inner k d) bs = at ≡ k
IsPlacedAt at stars core bs = ⊤

-- a declarator that has tokens
abbrev pub HasTokens : Declarator → Type 0
HasTokens (declarator at [] lacking no_brackets) = ⊥
HasTokens d = ⊤

-- A parenthesis where a core may stand begins parameters only in front of `)` or of what isn't a name.
abbrev pub BeginsParams : Params → Type 0
BeginsParams (with_param (param (typedef_name at n c) d) ps) = c.before ≢ 0
BeginsParams ps = ⊤

abbrev pub IsListFirst : Core → Brackets → Type 0
IsListFirst lacking (with_bracket (param_list ps) bs) = BeginsParams ps
IsListFirst core bs = ⊤

-- One `void` alone is the empty list, and no parameter.
abbrev pub IsNotVoid : Params → Type 0
IsNotVoid (with_param (param (void at c) (declarator k [] lacking no_brackets)) no_params) =
    (c.before + c.behind) ≢ 0
IsNotVoid ps = ⊤

-- what stands in a type name behind its base
abbrev pub AreCounts : Brackets → Type 0
AreCounts no_brackets = ⊤
AreCounts (with_bracket (count e) bs) = AreCounts bs
AreCounts (with_bracket b bs) = ⊥

abbrev pub IsAbstract : Declarator → Type 0
IsAbstract (declarator at stars lacking bs) = AreCounts bs
IsAbstract d = ⊥

abbrev mutual
  pub IsExpr : Expr → Type 0
  IsExpr (name n) = ⊤
  IsExpr (whole n) = ⊤
  IsExpr (character n) = ⊤
  IsExpr (texts n ns) = ⊤
  IsExpr (nested at e) = IsExpr e
  IsExpr (suffixed e ss) = IsPrimary e × IsExpr e × (ss ≢ no_suffixes) × AreSuffixes ss
  IsExpr (prefixed at p e) = IsOperandOf p e × IsExpr e
  IsExpr (size_of at t) = IsTypeName t
  IsExpr (cast at t e) = IsTypeName t × IsCast e × IsExpr e
  IsExpr (row l e os) = IsTighter l e × IsExpr e × (os ≢ no_operands) × AreOperands l os
  IsExpr (conditional e a b) = IsCondition e × IsExpr e × IsExpr a × IsCond b × IsExpr b
  IsExpr (assign a x e) = IsUnary x × IsExpr x × IsAssign e × IsExpr e
  IsExpr (sequence e es) = IsAssign e × IsExpr e × (es ≢ no_exprs) × AreAssigns es

  pub AreOperands : Level → Operands → Type 0
  AreOperands l no_operands = ⊤
  AreOperands l (with_operand o e os) =
      (infix_level o ≡ l) × IsTighter l e × IsExpr e × AreOperands l os

  pub AreAssigns : Exprs → Type 0
  AreAssigns no_exprs = ⊤
  AreAssigns (with_expr e es) = IsAssign e × IsExpr e × AreAssigns es

  -- cond, or nothing
  pub IsCount : Perhaps → Type 0
  IsCount absent = ⊤
  IsCount (present e) = IsCond e × IsExpr e

  pub AreSuffixes : Suffixes → Type 0
  AreSuffixes no_suffixes = ⊤
  AreSuffixes (with_suffix s ss) = IsSuffix s × AreSuffixes ss

  pub IsSuffix : Suffix → Type 0
  IsSuffix (index e) = IsExpr e
  IsSuffix (call es) = AreAssigns es
  IsSuffix (member n) = ⊤
  IsSuffix (arrow n) = ⊤
  IsSuffix increased = ⊤
  IsSuffix decreased = ⊤

  pub IsBase : Base → Type 0
  IsBase (kind at words) = IsTrue (is_kind words)
  IsBase (void at c) = ⊤
  IsBase (typedef_name at n c) = IsPlaced c.before at n
  IsBase (tag at sort n c) = ⊤
  IsBase (structure at n fs c) = (fs ≢ no_fields) × AreFields fs
  IsBase (enumeration at n cs c) = (cs ≢ no_constants) × AreConstants cs

  pub AreFields : Fields → Type 0
  AreFields no_fields = ⊤
  AreFields (with_field f fs) = IsField f × AreFields fs

  pub IsField : Field → Type 0
  IsField (field b ds) = IsBase b × (ds ≢ no_declarators) × AreDeclarators ds

  pub AreDeclarators : Declarators → Type 0
  AreDeclarators no_declarators = ⊤
  AreDeclarators (with_declarator d ds) = IsDeclarator true d × AreDeclarators ds

  pub AreConstants : Constants → Type 0
  AreConstants no_constants = ⊤
  AreConstants (with_constant c cs) = IsConstant c × AreConstants cs

  pub IsConstant : Constant → Type 0
  IsConstant (constant n e) = IsCount e

  -- a declarator, which has to have a name or not
  pub IsDeclarator : Bool → Declarator → Type 0
  IsDeclarator must (declarator at stars core bs) =
      IsPlacedAt at stars core bs × IsListFirst core bs × IsCore must core × AreBrackets bs

  pub IsCore : Bool → Core → Type 0
  IsCore true lacking = ⊥
  IsCore false lacking = ⊤
  IsCore must (named n) = ⊤
  IsCore must (inner at d) = HasTokens d × IsDeclarator must d

  pub AreBrackets : Brackets → Type 0
  AreBrackets no_brackets = ⊤
  AreBrackets (with_bracket b bs) = IsBracket b × AreBrackets bs

  pub IsBracket : Bracket → Type 0
  IsBracket (count e) = IsCount e
  IsBracket empty_list = ⊤
  IsBracket void_list = ⊤
  IsBracket (param_list ps) = (ps ≢ no_params) × IsNotVoid ps × AreParams ps

  pub AreParams : Params → Type 0
  AreParams no_params = ⊤
  AreParams (with_param p ps) = IsParam p × AreParams ps

  pub IsParam : Param → Type 0
  IsParam (param b d) = IsBase b × IsDeclarator false d

  pub IsTypeName : TypeName → Type 0
  IsTypeName (type_name b d) = IsBase b × IsAbstract d × IsDeclarator false d

-- expr, or nothing
abbrev pub IsOptional : Perhaps → Type 0
IsOptional absent = ⊤
IsOptional (present e) = IsExpr e

abbrev mutual
  pub IsInitial : Initial → Type 0
  IsInitial (value e) = IsAssign e × IsExpr e
  IsInitial (braced at is comma) = (is ≢ no_initials) × AreInitials is

  pub AreInitials : Initials → Type 0
  AreInitials no_initials = ⊤
  AreInitials (with_initial i is) = IsInitial i × AreInitials is

abbrev pub IsStart : Option Initial → Type 0
IsStart None = ⊤
IsStart (Some i) = IsInitial i

abbrev pub AreEntries : List Entry → Type 0
AreEntries [] = ⊤
AreEntries (e ∷ es) = IsDeclarator true e.declarator × IsStart e.initial × AreEntries es

abbrev pub IsDeclaration : Declaration → Type 0
IsDeclaration d = IsBase d.base × AreEntries d.entries

abbrev pub AreDeclarations : List Declaration → Type 0
AreDeclarations [] = ⊤
AreDeclarations (d ∷ ds) = IsDeclaration d × AreDeclarations ds

-- no `if` without its `else` stands at the end
abbrev pub IsClosed : Stmt → Type 0
IsClosed (choose at e s) = ⊥
IsClosed (choose_else at e s t) = IsClosed t
IsClosed (while_loop at e s) = IsClosed s
IsClosed (for_loop at a b c s) = IsClosed s
IsClosed s = ⊤

-- An `else` belongs to the nearest `if`.
abbrev mutual
  pub IsStmt : Stmt → Type 0
  IsStmt (block at ds ss) = AreDeclarations ds × AreStmts ss
  IsStmt (evaluate e) = IsOptional e
  IsStmt (choose at e s) = IsExpr e × IsStmt s
  IsStmt (choose_else at e s t) = IsExpr e × IsClosed s × IsStmt s × IsStmt t
  IsStmt (while_loop at e s) = IsExpr e × IsStmt s
  IsStmt (do_loop at s e) = IsStmt s × IsExpr e
  IsStmt (for_loop at a b c s) = IsOptional a × IsOptional b × IsOptional c × IsStmt s
  IsStmt (switch at e xs) = IsExpr e × AreSwitchEntries xs
  IsStmt (break at) = ⊤
  IsStmt (continue at) = ⊤
  IsStmt (give at e) = IsOptional e

  pub AreStmts : Stmts → Type 0
  AreStmts no_stmts = ⊤
  AreStmts (with_stmt s ss) = IsStmt s × AreStmts ss

  pub AreSwitchEntries : SwitchEntries → Type 0
  AreSwitchEntries no_entries = ⊤
  AreSwitchEntries (with_entry x xs) = IsSwitchEntry x × AreSwitchEntries xs

  pub IsSwitchEntry : SwitchEntry → Type 0
  IsSwitchEntry (case at e) = IsCond e × IsExpr e
  IsSwitchEntry (default at) = ⊤
  IsSwitchEntry (stmt s) = IsStmt s

abbrev pub IsDefinition : Definition → Type 0
IsDefinition f =
    IsBase f.base × IsDeclarator true f.declarator × AreDeclarations f.declarations × AreStmts f.body

abbrev pub IsItem : Item → Type 0
IsItem (typedef b d) = IsBase b × IsDeclarator true d
IsItem (declaration d) = IsDeclaration d
IsItem (function f) = IsDefinition f

abbrev pub AreItems : TranslationUnit → Type 0
AreItems [] = ⊤
AreItems (x ∷ xs) = IsItem x × AreItems xs
