-- Which tags of structs the braces of a part of the text complete, in the scope that the part stands in. A parameter list
-- is a scope of its own.
use Rattle.std.specs.Prelude.{ℕ, List, [], ◌∷◌, ◌++◌, Option, Some, None}
use Rattle.porch_tree.specs.Mirror.{Name, Expr, nested, suffixed, prefixed, size_of, cast, row, conditional, assign, sequence, Exprs, no_exprs, with_expr, Operands, no_operands, with_operand, Perhaps, absent, present, Suffix, index, call, Suffixes, no_suffixes, with_suffix, Base, structure, enumeration, Field, field, Fields, no_fields, with_field, Constant, constant, Constants, no_constants, with_constant, Declarator, declarator, Declarators, no_declarators, with_declarator, Core, inner, Bracket, count, Brackets, no_brackets, with_bracket, param, Params, no_params, with_param, TypeName, type_name, Initial, value, braced, Initials, no_initials, with_initial, Entry, Item, typedef, declaration, function, TranslationUnit}

abbrev pub Tags : Type 0
Tags = List (List ℕ)

abbrev pub tag_name : Option Name → Tags
tag_name None = []
tag_name (Some n) = n.bytes ∷ []

abbrev mutual
  pub expr_braces : Expr → Tags
  expr_braces (nested at e) = expr_braces e
  expr_braces (suffixed e ss) = expr_braces e ++ suffixes_braces ss
  expr_braces (prefixed at p e) = expr_braces e
  expr_braces (size_of at t) = type_name_braces t
  expr_braces (cast at t e) = type_name_braces t ++ expr_braces e
  expr_braces (row l e os) = expr_braces e ++ operands_braces os
  expr_braces (conditional e a b) = expr_braces e ++ expr_braces a ++ expr_braces b
  expr_braces (assign a x e) = expr_braces x ++ expr_braces e
  expr_braces (sequence e es) = expr_braces e ++ exprs_braces es
  expr_braces e = []

  pub exprs_braces : Exprs → Tags
  exprs_braces no_exprs = []
  exprs_braces (with_expr e es) = expr_braces e ++ exprs_braces es

  pub operands_braces : Operands → Tags
  operands_braces no_operands = []
  operands_braces (with_operand o e os) = expr_braces e ++ operands_braces os

  pub perhaps_braces : Perhaps → Tags
  perhaps_braces absent = []
  perhaps_braces (present e) = expr_braces e

  pub suffix_braces : Suffix → Tags
  suffix_braces (index e) = expr_braces e
  suffix_braces (call es) = exprs_braces es
  suffix_braces x = []

  pub suffixes_braces : Suffixes → Tags
  suffixes_braces no_suffixes = []
  suffixes_braces (with_suffix x xs) = suffix_braces x ++ suffixes_braces xs

  pub base_braces : Base → Tags
  base_braces (structure at n fs cs) = tag_name n ++ fields_braces fs
  base_braces (enumeration at n xs cs) = constants_braces xs
  base_braces b = []

  pub field_braces : Field → Tags
  field_braces (field b ds) = base_braces b ++ declarators_braces ds

  pub fields_braces : Fields → Tags
  fields_braces no_fields = []
  fields_braces (with_field f fs) = field_braces f ++ fields_braces fs

  pub constant_braces : Constant → Tags
  constant_braces (constant n p) = perhaps_braces p

  pub constants_braces : Constants → Tags
  constants_braces no_constants = []
  constants_braces (with_constant x xs) = constant_braces x ++ constants_braces xs

  pub declarator_braces : Declarator → Tags
  declarator_braces (declarator at stars c bs) = core_braces c ++ brackets_braces bs

  pub declarators_braces : Declarators → Tags
  declarators_braces no_declarators = []
  declarators_braces (with_declarator d ds) = declarator_braces d ++ declarators_braces ds

  pub core_braces : Core → Tags
  core_braces (inner at d) = declarator_braces d
  core_braces c = []

  pub bracket_braces : Bracket → Tags
  bracket_braces (count p) = perhaps_braces p
  bracket_braces b = []

  pub brackets_braces : Brackets → Tags
  brackets_braces no_brackets = []
  brackets_braces (with_bracket b bs) = bracket_braces b ++ brackets_braces bs

  pub type_name_braces : TypeName → Tags
  type_name_braces (type_name b d) = base_braces b ++ declarator_braces d

-- of a parameter list
abbrev pub params_braces : Params → Tags
params_braces no_params = []
params_braces (with_param (param b d) ps) = base_braces b ++ declarator_braces d ++ params_braces ps

abbrev mutual
  pub initial_braces : Initial → Tags
  initial_braces (value e) = expr_braces e
  initial_braces (braced at xs comma) = initials_braces xs

  pub initials_braces : Initials → Tags
  initials_braces no_initials = []
  initials_braces (with_initial x xs) = initial_braces x ++ initials_braces xs

abbrev pub begun_with : Option Initial → Tags
begun_with None = []
begun_with (Some x) = initial_braces x

abbrev pub entries_braces : List Entry → Tags
entries_braces [] = []
entries_braces (e ∷ es) = declarator_braces e.declarator ++ begun_with e.initial ++ entries_braces es

-- of the file; none stand in the blocks of functions
abbrev pub item_braces : Item → Tags
item_braces (typedef b d) = base_braces b ++ declarator_braces d
item_braces (declaration d) = base_braces d.base ++ entries_braces d.entries
item_braces (function f) = base_braces f.base ++ declarator_braces f.declarator

abbrev pub unit_braces : TranslationUnit → Tags
unit_braces [] = []
unit_braces (x ∷ xs) = item_braces x ++ unit_braces xs
