-- What the code's tree is as plain data: one layer for each type, and one fold of each family. A name
-- takes its bytes from the text.
use Rattle.std.specs.Prelude.{ℕ, ◌-◌, List, [], ◌∷◌, map, take, drop, Option, Some, None}
use Rattle.std.specs.Option.{option_map}
use Rattle.porch_tree.specs.declared.tree.Base as code_base
use Rattle.porch_tree.specs.declared.tree.Bracket as code_bracket
use Rattle.porch_tree.specs.declared.tree.Core as code_core
use Rattle.porch_tree.specs.declared.tree.Expr as code_expr
use Rattle.porch_tree.specs.declared.tree.Suffix as code_suffix
use Rattle.porch_tree.specs.declared.tree.Constant as code_constant
use Rattle.porch_tree.specs.declared.tree.Declarator as code_declarator
use Rattle.porch_tree.specs.declared.tree.Field as code_field
use Rattle.porch_tree.specs.declared.tree.Param as code_param
use Rattle.porch_tree.specs.declared.tree.TypeName as code_type_name
use Rattle.porch_tree.specs.declared.tree.Base.TheOpen.{Base-F, Bracket-F, Core-F, Expr-F, Suffix-F, Constant-F, Declarator-F, Field-F, Param-F, TypeName-F}
use Rattle.porch_tree.specs.declared.tree.Name as code_name
use Rattle.porch_tree.specs.declared.tree.Infix as code_infix
use Rattle.porch_tree.specs.declared.tree.Initial as code_initial
use Rattle.porch_tree.specs.declared.tree.Entry as code_entry
use Rattle.porch_tree.specs.declared.tree.Declaration as code_declaration
use Rattle.porch_tree.specs.declared.tree.Stmt as code_stmt
use Rattle.porch_tree.specs.declared.tree.SwitchEntry as code_switch_entry
use Rattle.porch_tree.specs.declared.tree.Definition as code_definition
use Rattle.porch_tree.specs.declared.tree.Item as code_item
use Rattle.porch_tree.specs.declared.tree.Tree as code_tree
use Rattle.porch_tree.specs.declared.tree.Initial.TheOpen.{Initial-F}
use Rattle.porch_tree.specs.declared.tree.Stmt.TheOpen.{Stmt-F, SwitchEntry-F}
use Rattle.porch_tree.specs.declared.tree.Item.TheVariants as variant
use Rattle.porch_tree.specs.Mirror.{Name, Expr, name, whole, character, texts, nested, suffixed, prefixed, size_of, cast, row, conditional, assign, sequence, Exprs, no_exprs, with_expr, Operands, no_operands, with_operand, Perhaps, absent, present, Suffix, index, call, member, arrow, increased, decreased, Suffixes, no_suffixes, with_suffix, Base, kind, void, typedef_name, tag, structure, enumeration, Field, field, Fields, no_fields, with_field, Constant, constant, Constants, no_constants, with_constant, Declarator, declarator, Declarators, no_declarators, with_declarator, Core, lacking, named, inner, Bracket, count, empty_list, void_list, param_list, Brackets, no_brackets, with_bracket, Param, param, Params, no_params, with_param, TypeName, type_name, Initial, value, braced, Initials, no_initials, with_initial, Entry, Declaration, Stmt, block, evaluate, choose, choose_else, while_loop, do_loop, for_loop, switch, break, continue, give, Stmts, no_stmts, with_stmt, SwitchEntry, case, default, stmt, SwitchEntries, no_entries, with_entry, Definition, Item, typedef, declaration, function, TranslationUnit}

-- lists
abbrev pub exprs_of : List Expr → Exprs
exprs_of [] = no_exprs
exprs_of (x ∷ xs) = with_expr x (exprs_of xs)

abbrev pub operands_of : List (code_infix.Infix × Expr) → Operands
operands_of [] = no_operands
operands_of (x ∷ xs) = with_operand x.0 x.1 (operands_of xs)

abbrev pub perhaps : Option Expr → Perhaps
perhaps None = absent
perhaps (Some e) = present e

abbrev pub suffixes_of : List Suffix → Suffixes
suffixes_of [] = no_suffixes
suffixes_of (x ∷ xs) = with_suffix x (suffixes_of xs)

abbrev pub fields_of : List Field → Fields
fields_of [] = no_fields
fields_of (x ∷ xs) = with_field x (fields_of xs)

abbrev pub constants_of : List Constant → Constants
constants_of [] = no_constants
constants_of (x ∷ xs) = with_constant x (constants_of xs)

abbrev pub declarators_of : List Declarator → Declarators
declarators_of [] = no_declarators
declarators_of (x ∷ xs) = with_declarator x (declarators_of xs)

abbrev pub brackets_of : List Bracket → Brackets
brackets_of [] = no_brackets
brackets_of (x ∷ xs) = with_bracket x (brackets_of xs)

abbrev pub params_of : List Param → Params
params_of [] = no_params
params_of (x ∷ xs) = with_param x (params_of xs)

abbrev pub initials_of : List Initial → Initials
initials_of [] = no_initials
initials_of (x ∷ xs) = with_initial x (initials_of xs)

abbrev pub stmts_of : List Stmt → Stmts
stmts_of [] = no_stmts
stmts_of (x ∷ xs) = with_stmt x (stmts_of xs)

abbrev pub entries_of : List SwitchEntry → SwitchEntries
entries_of [] = no_entries
entries_of (x ∷ xs) = with_entry x (entries_of xs)

abbrev pub choice_of : ℕ → Expr → Stmt → Option Stmt → Stmt
choice_of at e s None = choose at e s
choice_of at e s (Some t) = choose_else at e s t

module _ (text : List ℕ) where
  abbrev pub name_of : code_name.Name → Name
  name_of n = record { at = n.at; bytes = take (n.to - n.at) (drop n.at text) }

  abbrev pub base_step : Base-F Base Bracket Core Expr Suffix Constant Declarator Field Param TypeName → Base
  base_step (Base-F.Kind at words) = kind at words
  base_step (Base-F.Void at consts) = void at consts
  base_step (Base-F.TypedefName at n consts) = typedef_name at (name_of n) consts
  base_step (Base-F.Tag at sort n consts) = tag at sort (name_of n) consts
  base_step (Base-F.Struct at n fields consts) = structure at (option_map name_of n) (fields_of fields) consts
  base_step (Base-F.Enum at n constants consts) = enumeration at (option_map name_of n) (constants_of constants) consts

  abbrev pub bracket_step : Bracket-F Base Bracket Core Expr Suffix Constant Declarator Field Param TypeName → Bracket
  bracket_step (Bracket-F.Count e) = count (perhaps e)
  bracket_step Bracket-F.EmptyList = empty_list
  bracket_step Bracket-F.VoidList = void_list
  bracket_step (Bracket-F.ParamList ps) = param_list (params_of ps)

  abbrev pub core_step : Core-F Base Bracket Core Expr Suffix Constant Declarator Field Param TypeName → Core
  core_step Core-F.Lacking = lacking
  core_step (Core-F.Named n) = named (name_of n)
  core_step (Core-F.Inner at d) = inner at d

  abbrev pub expr_step : Expr-F Base Bracket Core Expr Suffix Constant Declarator Field Param TypeName → Expr
  expr_step (Expr-F.Name n) = name (name_of n)
  expr_step (Expr-F.Whole n) = whole (name_of n)
  expr_step (Expr-F.Character n) = character (name_of n)
  expr_step (Expr-F.Texts n ns) = texts (name_of n) (map name_of ns)
  expr_step (Expr-F.Nested at e) = nested at e
  expr_step (Expr-F.Suffixed e ss) = suffixed e (suffixes_of ss)
  expr_step (Expr-F.Prefixed at p e) = prefixed at p e
  expr_step (Expr-F.SizeOf at t) = size_of at t
  expr_step (Expr-F.Cast at t e) = cast at t e
  expr_step (Expr-F.Row l e es) = row l e (operands_of es)
  expr_step (Expr-F.Conditional c a b) = conditional c a b
  expr_step (Expr-F.Assign a x e) = assign a x e
  expr_step (Expr-F.Sequence e es) = sequence e (exprs_of es)

  abbrev pub suffix_step : Suffix-F Base Bracket Core Expr Suffix Constant Declarator Field Param TypeName → Suffix
  suffix_step (Suffix-F.Index e) = index e
  suffix_step (Suffix-F.Call es) = call (exprs_of es)
  suffix_step (Suffix-F.Member n) = member (name_of n)
  suffix_step (Suffix-F.Arrow n) = arrow (name_of n)
  suffix_step Suffix-F.Increased = increased
  suffix_step Suffix-F.Decreased = decreased

  abbrev pub constant_step : Constant-F Base Bracket Core Expr Suffix Constant Declarator Field Param TypeName → Constant
  constant_step c = constant (name_of c.name) (perhaps c.value)

  abbrev pub declarator_step : Declarator-F Base Bracket Core Expr Suffix Constant Declarator Field Param TypeName → Declarator
  declarator_step c = declarator c.at c.stars c.core (brackets_of c.brackets)

  abbrev pub field_step : Field-F Base Bracket Core Expr Suffix Constant Declarator Field Param TypeName → Field
  field_step c = field c.base (declarators_of c.declarators)

  abbrev pub param_step : Param-F Base Bracket Core Expr Suffix Constant Declarator Field Param TypeName → Param
  param_step c = param c.base c.declarator

  abbrev pub type_name_step : TypeName-F Base Bracket Core Expr Suffix Constant Declarator Field Param TypeName → TypeName
  type_name_step c = type_name c.base c.declarator

  abbrev pub base_of : code_base.Base → Base
  base_of =
      code_base.fold-Base Base Bracket Core Expr Suffix Constant Declarator Field Param TypeName
      base_step bracket_step core_step expr_step suffix_step constant_step declarator_step field_step param_step type_name_step

  abbrev pub bracket_of : code_bracket.Bracket → Bracket
  bracket_of =
      code_bracket.fold-Bracket Base Bracket Core Expr Suffix Constant Declarator Field Param TypeName
      base_step bracket_step core_step expr_step suffix_step constant_step declarator_step field_step param_step type_name_step

  abbrev pub core_of : code_core.Core → Core
  core_of =
      code_core.fold-Core Base Bracket Core Expr Suffix Constant Declarator Field Param TypeName
      base_step bracket_step core_step expr_step suffix_step constant_step declarator_step field_step param_step type_name_step

  abbrev pub expr_of : code_expr.Expr → Expr
  expr_of =
      code_expr.fold-Expr Base Bracket Core Expr Suffix Constant Declarator Field Param TypeName
      base_step bracket_step core_step expr_step suffix_step constant_step declarator_step field_step param_step type_name_step

  abbrev pub suffix_of : code_suffix.Suffix → Suffix
  suffix_of =
      code_suffix.fold-Suffix Base Bracket Core Expr Suffix Constant Declarator Field Param TypeName
      base_step bracket_step core_step expr_step suffix_step constant_step declarator_step field_step param_step type_name_step

  abbrev pub constant_of : code_constant.Constant → Constant
  constant_of =
      code_constant.fold-Constant Base Bracket Core Expr Suffix Constant Declarator Field Param TypeName
      base_step bracket_step core_step expr_step suffix_step constant_step declarator_step field_step param_step type_name_step

  abbrev pub declarator_of : code_declarator.Declarator → Declarator
  declarator_of =
      code_declarator.fold-Declarator Base Bracket Core Expr Suffix Constant Declarator Field Param TypeName
      base_step bracket_step core_step expr_step suffix_step constant_step declarator_step field_step param_step type_name_step

  abbrev pub field_of : code_field.Field → Field
  field_of =
      code_field.fold-Field Base Bracket Core Expr Suffix Constant Declarator Field Param TypeName
      base_step bracket_step core_step expr_step suffix_step constant_step declarator_step field_step param_step type_name_step

  abbrev pub param_of : code_param.Param → Param
  param_of =
      code_param.fold-Param Base Bracket Core Expr Suffix Constant Declarator Field Param TypeName
      base_step bracket_step core_step expr_step suffix_step constant_step declarator_step field_step param_step type_name_step

  abbrev pub type_name_of : code_type_name.TypeName → TypeName
  type_name_of =
      code_type_name.fold-TypeName Base Bracket Core Expr Suffix Constant Declarator Field Param TypeName
      base_step bracket_step core_step expr_step suffix_step constant_step declarator_step field_step param_step type_name_step

  abbrev pub initial_step : Initial-F Initial → Initial
  initial_step (Initial-F.Value e) = value (expr_of e)
  initial_step (Initial-F.Braced at is comma) = braced at (initials_of is) comma

  abbrev pub initial_of : code_initial.Initial → Initial
  initial_of = code_initial.fold-Initial Initial initial_step

  abbrev pub entry_of : code_entry.Entry → Entry
  entry_of e =
      record { declarator = declarator_of e.declarator; initial = option_map initial_of e.initial }

  abbrev pub declaration_of : code_declaration.Declaration → Declaration
  declaration_of d =
      record { fixed = d.fixed; base = base_of d.base; entries = map entry_of d.entries }

  abbrev pub perhaps_of : Option code_expr.Expr → Perhaps
  perhaps_of e = perhaps (option_map expr_of e)

  abbrev pub stmt_step : Stmt-F Stmt SwitchEntry → Stmt
  stmt_step (Stmt-F.Block at ds ss) = block at (map declaration_of ds) (stmts_of ss)
  stmt_step (Stmt-F.Evaluate e) = evaluate (perhaps_of e)
  stmt_step (Stmt-F.Choose at e s t) = choice_of at (expr_of e) s t
  stmt_step (Stmt-F.While at e s) = while_loop at (expr_of e) s
  stmt_step (Stmt-F.Do at s e) = do_loop at s (expr_of e)
  stmt_step (Stmt-F.For at a b c s) =
      for_loop at (perhaps_of a) (perhaps_of b) (perhaps_of c) s
  stmt_step (Stmt-F.Switch at e es) = switch at (expr_of e) (entries_of es)
  stmt_step (Stmt-F.Break at) = break at
  stmt_step (Stmt-F.Continue at) = continue at
  stmt_step (Stmt-F.Return at e) = give at (perhaps_of e)

  abbrev pub switch_entry_step : SwitchEntry-F Stmt SwitchEntry → SwitchEntry
  switch_entry_step (SwitchEntry-F.Case at e) = case at (expr_of e)
  switch_entry_step (SwitchEntry-F.Default at) = default at
  switch_entry_step (SwitchEntry-F.Stmt s) = stmt s

  abbrev pub stmt_of : code_stmt.Stmt → Stmt
  stmt_of = code_stmt.fold-Stmt Stmt SwitchEntry stmt_step switch_entry_step

  abbrev pub switch_entry_of : code_switch_entry.SwitchEntry → SwitchEntry
  switch_entry_of =
      code_switch_entry.fold-SwitchEntry Stmt SwitchEntry stmt_step switch_entry_step

  abbrev pub definition_of : code_definition.Definition → Definition
  definition_of d =
      record {
        fixed = d.fixed;
        base = base_of d.base;
        declarator = declarator_of d.declarator;
        declarations = map declaration_of d.declarations;
        body = stmts_of (map stmt_of d.body);
      }

  abbrev pub item_of : code_item.Item → Item
  item_of (variant.Typedef b d) = typedef (base_of b) (declarator_of d)
  item_of (variant.Declaration d) = declaration (declaration_of d)
  item_of (variant.Function d) = function (definition_of d)

  -- the unit that a text's tree is
  abbrev pub unit_of : code_tree.Tree → TranslationUnit
  unit_of t = map item_of t.items
