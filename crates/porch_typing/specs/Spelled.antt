-- Trees whose constants and literals are spelled as their tokens are, and whose sequences have a second part.
use Rattle.std.specs.Prelude.{◌≡◌, ◌≢◌, ◌<◌, ⊤, false, ◌∷◌}
use Rattle.porch_lex.specs.Constants.{is_wide}
use Rattle.porch_tree.specs.Mirror.{Name, Expr, name, whole, character, texts, nested, suffixed, prefixed, size_of, cast, row, conditional, assign, sequence, Exprs, no_exprs, with_expr, Operands, no_operands, with_operand, Perhaps, absent, present, Suffix, index, call, member, arrow, increased, decreased, Suffixes, no_suffixes, with_suffix, Base, structure, enumeration, Field, field, Fields, no_fields, with_field, Constant, constant, Constants, no_constants, with_constant, Declarator, declarator, Declarators, no_declarators, with_declarator, Core, inner, Bracket, count, param_list, Brackets, no_brackets, with_bracket, Param, param, Params, no_params, with_param, TypeName, type_name}
use Rattle.porch_typing.specs.Shapes.{Each}

abbrev pub IsText : Name → Type 0
IsText n = Each (λ b. b < 256) n.bytes

abbrev mutual
  pub IsSpelled : Expr → Type 0
  IsSpelled (name n) = ⊤
  IsSpelled (whole n) = is_wide n.bytes ≡ false
  IsSpelled (character n) = ⊤
  IsSpelled (texts n ns) = Each IsText (n ∷ ns)
  IsSpelled (nested at e) = IsSpelled e
  IsSpelled (suffixed e ss) = IsSpelled e × AreSpelledSuffixes ss
  IsSpelled (prefixed at p e) = IsSpelled e
  IsSpelled (size_of at t) = IsSpelledName t
  IsSpelled (cast at t e) = IsSpelledName t × IsSpelled e
  IsSpelled (row l e os) = IsSpelled e × AreSpelledOperands os
  IsSpelled (conditional e a b) = IsSpelled e × IsSpelled a × IsSpelled b
  IsSpelled (assign a x e) = IsSpelled x × IsSpelled e
  IsSpelled (sequence e es) = IsSpelled e × (es ≢ no_exprs) × AreSpelled es

  pub AreSpelled : Exprs → Type 0
  AreSpelled no_exprs = ⊤
  AreSpelled (with_expr e es) = IsSpelled e × AreSpelled es

  pub AreSpelledOperands : Operands → Type 0
  AreSpelledOperands no_operands = ⊤
  AreSpelledOperands (with_operand o e os) = IsSpelled e × AreSpelledOperands os

  pub IsSpelledPerhaps : Perhaps → Type 0
  IsSpelledPerhaps absent = ⊤
  IsSpelledPerhaps (present e) = IsSpelled e

  pub IsSpelledSuffix : Suffix → Type 0
  IsSpelledSuffix (index e) = IsSpelled e
  IsSpelledSuffix (call es) = AreSpelled es
  IsSpelledSuffix (member n) = ⊤
  IsSpelledSuffix (arrow n) = ⊤
  IsSpelledSuffix increased = ⊤
  IsSpelledSuffix decreased = ⊤

  pub AreSpelledSuffixes : Suffixes → Type 0
  AreSpelledSuffixes no_suffixes = ⊤
  AreSpelledSuffixes (with_suffix x xs) = IsSpelledSuffix x × AreSpelledSuffixes xs

  pub IsSpelledBase : Base → Type 0
  IsSpelledBase (structure at n fs cs) = AreSpelledFields fs
  IsSpelledBase (enumeration at n xs cs) = AreSpelledConstants xs
  IsSpelledBase b = ⊤

  pub IsSpelledField : Field → Type 0
  IsSpelledField (field b ds) = IsSpelledBase b × AreSpelledDeclarators ds

  pub AreSpelledFields : Fields → Type 0
  AreSpelledFields no_fields = ⊤
  AreSpelledFields (with_field f fs) = IsSpelledField f × AreSpelledFields fs

  pub IsSpelledConstant : Constant → Type 0
  IsSpelledConstant (constant n p) = IsSpelledPerhaps p

  pub AreSpelledConstants : Constants → Type 0
  AreSpelledConstants no_constants = ⊤
  AreSpelledConstants (with_constant x xs) = IsSpelledConstant x × AreSpelledConstants xs

  pub IsSpelledDeclarator : Declarator → Type 0
  IsSpelledDeclarator (declarator at stars c bs) = IsSpelledCore c × AreSpelledBrackets bs

  pub AreSpelledDeclarators : Declarators → Type 0
  AreSpelledDeclarators no_declarators = ⊤
  AreSpelledDeclarators (with_declarator d ds) = IsSpelledDeclarator d × AreSpelledDeclarators ds

  pub IsSpelledCore : Core → Type 0
  IsSpelledCore (inner at d) = IsSpelledDeclarator d
  IsSpelledCore c = ⊤

  pub IsSpelledBracket : Bracket → Type 0
  IsSpelledBracket (count p) = IsSpelledPerhaps p
  IsSpelledBracket (param_list ps) = AreSpelledParams ps
  IsSpelledBracket b = ⊤

  pub AreSpelledBrackets : Brackets → Type 0
  AreSpelledBrackets no_brackets = ⊤
  AreSpelledBrackets (with_bracket b bs) = IsSpelledBracket b × AreSpelledBrackets bs

  pub IsSpelledParam : Param → Type 0
  IsSpelledParam (param b d) = IsSpelledBase b × IsSpelledDeclarator d

  pub AreSpelledParams : Params → Type 0
  AreSpelledParams no_params = ⊤
  AreSpelledParams (with_param p ps) = IsSpelledParam p × AreSpelledParams ps

  pub IsSpelledName : TypeName → Type 0
  IsSpelledName (type_name b d) = IsSpelledBase b × IsSpelledDeclarator d
