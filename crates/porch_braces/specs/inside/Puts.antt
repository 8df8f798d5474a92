-- The tags that the braces of a part of the text complete, put behind others.
use Rattle.std.specs.Prelude.{List, [], ◌∷◌, ◌++◌, Option, Some, None}
use Rattle.porch_tree.specs.Mirror.{Expr, nested, suffixed, prefixed, size_of, cast, row, conditional, assign, sequence, Exprs, no_exprs, with_expr, Operands, no_operands, with_operand, Perhaps, absent, present, Suffix, index, call, Suffixes, no_suffixes, with_suffix, Base, structure, enumeration, Field, field, Fields, no_fields, with_field, Constant, constant, Constants, no_constants, with_constant, Declarator, declarator, Declarators, no_declarators, with_declarator, Core, inner, Bracket, count, Brackets, no_brackets, with_bracket, Param, param, Params, no_params, with_param, TypeName, type_name, Initial, value, braced, Initials, no_initials, with_initial, Entry, Item, typedef, declaration, function, TranslationUnit}
use Rattle.porch_check.specs.Braces.{Tags, tag_name}

abbrev mutual
  pub put_expr : Expr → Tags → Tags
  put_expr (nested at e) ts = put_expr e ts
  put_expr (suffixed e ss) ts = put_suffixes ss (put_expr e ts)
  put_expr (prefixed at p e) ts = put_expr e ts
  put_expr (size_of at t) ts = put_type_name t ts
  put_expr (cast at t e) ts = put_expr e (put_type_name t ts)
  put_expr (row l e os) ts = put_operands os (put_expr e ts)
  put_expr (conditional e a b) ts = put_expr b (put_expr a (put_expr e ts))
  put_expr (assign a x e) ts = put_expr e (put_expr x ts)
  put_expr (sequence e es) ts = put_exprs es (put_expr e ts)
  put_expr e ts = ts

  pub put_exprs : Exprs → Tags → Tags
  put_exprs no_exprs ts = ts
  put_exprs (with_expr e es) ts = put_exprs es (put_expr e ts)

  pub put_operands : Operands → Tags → Tags
  put_operands no_operands ts = ts
  put_operands (with_operand o e os) ts = put_operands os (put_expr e ts)

  pub put_perhaps : Perhaps → Tags → Tags
  put_perhaps absent ts = ts
  put_perhaps (present e) ts = put_expr e ts

  pub put_suffix : Suffix → Tags → Tags
  put_suffix (index e) ts = put_expr e ts
  put_suffix (call es) ts = put_exprs es ts
  put_suffix x ts = ts

  pub put_suffixes : Suffixes → Tags → Tags
  put_suffixes no_suffixes ts = ts
  put_suffixes (with_suffix x xs) ts = put_suffixes xs (put_suffix x ts)

  pub put_base : Base → Tags → Tags
  put_base (structure at n fs cs) ts = put_fields fs (ts ++ tag_name n)
  put_base (enumeration at n xs cs) ts = put_constants xs ts
  put_base b ts = ts

  pub put_field : Field → Tags → Tags
  put_field (field b ds) ts = put_declarators ds (put_base b ts)

  pub put_fields : Fields → Tags → Tags
  put_fields no_fields ts = ts
  put_fields (with_field f fs) ts = put_fields fs (put_field f ts)

  pub put_constant : Constant → Tags → Tags
  put_constant (constant n p) ts = put_perhaps p ts

  pub put_constants : Constants → Tags → Tags
  put_constants no_constants ts = ts
  put_constants (with_constant x xs) ts = put_constants xs (put_constant x ts)

  pub put_declarator : Declarator → Tags → Tags
  put_declarator (declarator at stars c bs) ts = put_brackets bs (put_core c ts)

  pub put_declarators : Declarators → Tags → Tags
  put_declarators no_declarators ts = ts
  put_declarators (with_declarator d ds) ts = put_declarators ds (put_declarator d ts)

  pub put_core : Core → Tags → Tags
  put_core (inner at d) ts = put_declarator d ts
  put_core c ts = ts

  pub put_bracket : Bracket → Tags → Tags
  put_bracket (count p) ts = put_perhaps p ts
  put_bracket b ts = ts

  pub put_brackets : Brackets → Tags → Tags
  put_brackets no_brackets ts = ts
  put_brackets (with_bracket b bs) ts = put_brackets bs (put_bracket b ts)

  pub put_type_name : TypeName → Tags → Tags
  put_type_name (type_name b d) ts = put_declarator d (put_base b ts)

abbrev pub put_param : Param → Tags → Tags
put_param (param b d) ts = put_declarator d (put_base b ts)

abbrev pub put_params : Params → Tags → Tags
put_params no_params ts = ts
put_params (with_param x xs) ts = put_params xs (put_param x ts)

abbrev mutual
  pub put_initial : Initial → Tags → Tags
  put_initial (value e) ts = put_expr e ts
  put_initial (braced at xs comma) ts = put_initials xs ts

  pub put_initials : Initials → Tags → Tags
  put_initials no_initials ts = ts
  put_initials (with_initial x xs) ts = put_initials xs (put_initial x ts)

abbrev pub put_beginning : Option Initial → Tags → Tags
put_beginning None ts = ts
put_beginning (Some x) ts = put_initial x ts

abbrev pub put_entry : Entry → Tags → Tags
put_entry e ts = put_beginning e.initial (put_declarator e.declarator ts)

abbrev pub put_entries : List Entry → Tags → Tags
put_entries [] ts = ts
put_entries (e ∷ es) ts = put_entries es (put_entry e ts)

abbrev pub put_item : Item → Tags → Tags
put_item (typedef b d) ts = put_declarator d (put_base b ts)
put_item (declaration d) ts = put_entries d.entries (put_base d.base ts)
put_item (function f) ts = put_declarator f.declarator (put_base f.base ts)

abbrev pub put_unit : TranslationUnit → Tags → Tags
put_unit [] ts = ts
put_unit (x ∷ xs) ts = put_unit xs (put_item x ts)
