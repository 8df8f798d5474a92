-- What puts tags behind others puts those that the definitions tell.
use Rattle.std.proofs.Common.{◌≡◌, List, [], ◌∷◌, ◌++◌, Option, Some, None, refl, ap, sym, ◌∙◌}
use Rattle.std.proofs.lemmas.List.{append-nil, append_assoc}
use Rattle.porch_tree.specs.Mirror as m
use Rattle.porch_check.specs.Braces as b
use Rattle.porch_braces.specs.inside.Puts as p

-- one after the other
both : (ts xs ys : b.Tags) {here there : b.Tags} → here ≡ ts ++ xs → there ≡ here ++ ys → there ≡ ts ++ (xs ++ ys)
both ts xs ys f g = g ∙ ap (λ zs. zs ++ ys) f ∙ append_assoc ts xs ys

none : (ts : b.Tags) → ts ≡ ts ++ []
none ts = sym (append-nil ts)

mutual
  pub expr_put : (x : m.Expr) (ts : b.Tags) → p.put_expr x ts ≡ ts ++ b.expr_braces x
  expr_put (m.name n) ts = none ts
  expr_put (m.whole n) ts = none ts
  expr_put (m.character n) ts = none ts
  expr_put (m.texts n ns) ts = none ts
  expr_put (m.nested at e) ts = expr_put e ts
  expr_put (m.suffixed e ss) ts = both ts (b.expr_braces e) (b.suffixes_braces ss) (expr_put e ts) (suffixes_put ss (p.put_expr e ts))
  expr_put (m.prefixed at q e) ts = expr_put e ts
  expr_put (m.size_of at t) ts = type_name_put t ts
  expr_put (m.cast at t e) ts = both ts (b.type_name_braces t) (b.expr_braces e) (type_name_put t ts) (expr_put e (p.put_type_name t ts))
  expr_put (m.row l e os) ts = both ts (b.expr_braces e) (b.operands_braces os) (expr_put e ts) (operands_put os (p.put_expr e ts))
  expr_put (m.conditional e a c) ts = both ts (b.expr_braces e ++ b.expr_braces a) (b.expr_braces c) (both ts (b.expr_braces e) (b.expr_braces a) (expr_put e ts) (expr_put a (p.put_expr e ts))) (expr_put c (p.put_expr a (p.put_expr e ts)))
  expr_put (m.assign a x e) ts = both ts (b.expr_braces x) (b.expr_braces e) (expr_put x ts) (expr_put e (p.put_expr x ts))
  expr_put (m.sequence e es) ts = both ts (b.expr_braces e) (b.exprs_braces es) (expr_put e ts) (exprs_put es (p.put_expr e ts))

  pub exprs_put : (x : m.Exprs) (ts : b.Tags) → p.put_exprs x ts ≡ ts ++ b.exprs_braces x
  exprs_put m.no_exprs ts = none ts
  exprs_put (m.with_expr e es) ts = both ts (b.expr_braces e) (b.exprs_braces es) (expr_put e ts) (exprs_put es (p.put_expr e ts))

  pub operands_put : (x : m.Operands) (ts : b.Tags) → p.put_operands x ts ≡ ts ++ b.operands_braces x
  operands_put m.no_operands ts = none ts
  operands_put (m.with_operand o e os) ts = both ts (b.expr_braces e) (b.operands_braces os) (expr_put e ts) (operands_put os (p.put_expr e ts))

  pub perhaps_put : (x : m.Perhaps) (ts : b.Tags) → p.put_perhaps x ts ≡ ts ++ b.perhaps_braces x
  perhaps_put m.absent ts = none ts
  perhaps_put (m.present e) ts = expr_put e ts

  pub suffix_put : (x : m.Suffix) (ts : b.Tags) → p.put_suffix x ts ≡ ts ++ b.suffix_braces x
  suffix_put (m.index e) ts = expr_put e ts
  suffix_put (m.call es) ts = exprs_put es ts
  suffix_put (m.member n) ts = none ts
  suffix_put (m.arrow n) ts = none ts
  suffix_put m.increased ts = none ts
  suffix_put m.decreased ts = none ts

  pub suffixes_put : (x : m.Suffixes) (ts : b.Tags) → p.put_suffixes x ts ≡ ts ++ b.suffixes_braces x
  suffixes_put m.no_suffixes ts = none ts
  suffixes_put (m.with_suffix x xs) ts = both ts (b.suffix_braces x) (b.suffixes_braces xs) (suffix_put x ts) (suffixes_put xs (p.put_suffix x ts))

  pub base_put : (x : m.Base) (ts : b.Tags) → p.put_base x ts ≡ ts ++ b.base_braces x
  base_put (m.kind at ws) ts = none ts
  base_put (m.void at cs) ts = none ts
  base_put (m.typedef_name at n cs) ts = none ts
  base_put (m.tag at x n cs) ts = none ts
  base_put (m.structure at n fs cs) ts = both ts (b.tag_name n) (b.fields_braces fs) refl (fields_put fs (ts ++ b.tag_name n))
  base_put (m.enumeration at n xs cs) ts = constants_put xs ts

  pub field_put : (x : m.Field) (ts : b.Tags) → p.put_field x ts ≡ ts ++ b.field_braces x
  field_put (m.field x ds) ts = both ts (b.base_braces x) (b.declarators_braces ds) (base_put x ts) (declarators_put ds (p.put_base x ts))

  pub fields_put : (x : m.Fields) (ts : b.Tags) → p.put_fields x ts ≡ ts ++ b.fields_braces x
  fields_put m.no_fields ts = none ts
  fields_put (m.with_field f fs) ts = both ts (b.field_braces f) (b.fields_braces fs) (field_put f ts) (fields_put fs (p.put_field f ts))

  pub constant_put : (x : m.Constant) (ts : b.Tags) → p.put_constant x ts ≡ ts ++ b.constant_braces x
  constant_put (m.constant n x) ts = perhaps_put x ts

  pub constants_put : (x : m.Constants) (ts : b.Tags) → p.put_constants x ts ≡ ts ++ b.constants_braces x
  constants_put m.no_constants ts = none ts
  constants_put (m.with_constant x xs) ts = both ts (b.constant_braces x) (b.constants_braces xs) (constant_put x ts) (constants_put xs (p.put_constant x ts))

  pub declarator_put : (x : m.Declarator) (ts : b.Tags) → p.put_declarator x ts ≡ ts ++ b.declarator_braces x
  declarator_put (m.declarator at stars c bs) ts = both ts (b.core_braces c) (b.brackets_braces bs) (core_put c ts) (brackets_put bs (p.put_core c ts))

  pub declarators_put : (x : m.Declarators) (ts : b.Tags) → p.put_declarators x ts ≡ ts ++ b.declarators_braces x
  declarators_put m.no_declarators ts = none ts
  declarators_put (m.with_declarator d ds) ts = both ts (b.declarator_braces d) (b.declarators_braces ds) (declarator_put d ts) (declarators_put ds (p.put_declarator d ts))

  pub core_put : (x : m.Core) (ts : b.Tags) → p.put_core x ts ≡ ts ++ b.core_braces x
  core_put m.lacking ts = none ts
  core_put (m.named n) ts = none ts
  core_put (m.inner at d) ts = declarator_put d ts

  pub bracket_put : (x : m.Bracket) (ts : b.Tags) → p.put_bracket x ts ≡ ts ++ b.bracket_braces x
  bracket_put (m.count x) ts = perhaps_put x ts
  bracket_put m.empty_list ts = none ts
  bracket_put m.void_list ts = none ts
  bracket_put (m.param_list ps) ts = none ts

  pub brackets_put : (x : m.Brackets) (ts : b.Tags) → p.put_brackets x ts ≡ ts ++ b.brackets_braces x
  brackets_put m.no_brackets ts = none ts
  brackets_put (m.with_bracket x xs) ts = both ts (b.bracket_braces x) (b.brackets_braces xs) (bracket_put x ts) (brackets_put xs (p.put_bracket x ts))

  pub type_name_put : (x : m.TypeName) (ts : b.Tags) → p.put_type_name x ts ≡ ts ++ b.type_name_braces x
  type_name_put (m.type_name x d) ts = both ts (b.base_braces x) (b.declarator_braces d) (base_put x ts) (declarator_put d (p.put_base x ts))

pub params_put : (x : m.Params) (ts : b.Tags) → p.put_params x ts ≡ ts ++ b.params_braces x
params_put m.no_params ts = none ts
params_put (m.with_param (m.param x d) ps) ts = both ts (b.base_braces x ++ b.declarator_braces d) (b.params_braces ps) (both ts (b.base_braces x) (b.declarator_braces d) (base_put x ts) (declarator_put d (p.put_base x ts))) (params_put ps (p.put_declarator d (p.put_base x ts)))

mutual
  pub initial_put : (x : m.Initial) (ts : b.Tags) → p.put_initial x ts ≡ ts ++ b.initial_braces x
  initial_put (m.value e) ts = expr_put e ts
  initial_put (m.braced at xs comma) ts = initials_put xs ts

  pub initials_put : (x : m.Initials) (ts : b.Tags) → p.put_initials x ts ≡ ts ++ b.initials_braces x
  initials_put m.no_initials ts = none ts
  initials_put (m.with_initial x xs) ts = both ts (b.initial_braces x) (b.initials_braces xs) (initial_put x ts) (initials_put xs (p.put_initial x ts))

pub beginning_put : (x : Option m.Initial) (ts : b.Tags) → p.put_beginning x ts ≡ ts ++ b.begun_with x
beginning_put None ts = none ts
beginning_put (Some x) ts = initial_put x ts

pub entries_put : (xs : List m.Entry) (ts : b.Tags) → p.put_entries xs ts ≡ ts ++ b.entries_braces xs
entries_put [] ts = none ts
entries_put (e ∷ es) ts = both ts (b.declarator_braces e.declarator ++ b.begun_with e.initial) (b.entries_braces es) (both ts (b.declarator_braces e.declarator) (b.begun_with e.initial) (declarator_put e.declarator ts) (beginning_put e.initial (p.put_declarator e.declarator ts))) (entries_put es (p.put_beginning e.initial (p.put_declarator e.declarator ts)))

pub item_put : (x : m.Item) (ts : b.Tags) → p.put_item x ts ≡ ts ++ b.item_braces x
item_put (m.typedef x d) ts = both ts (b.base_braces x) (b.declarator_braces d) (base_put x ts) (declarator_put d (p.put_base x ts))
item_put (m.declaration d) ts = both ts (b.base_braces d.base) (b.entries_braces d.entries) (base_put d.base ts) (entries_put d.entries (p.put_base d.base ts))
item_put (m.function f) ts = both ts (b.base_braces f.base) (b.declarator_braces f.declarator) (base_put f.base ts) (declarator_put f.declarator (p.put_base f.base ts))

pub unit_put : (xs : List m.Item) (ts : b.Tags) → p.put_unit xs ts ≡ ts ++ b.unit_braces xs
unit_put [] ts = none ts
unit_put (x ∷ xs) ts = both ts (b.item_braces x) (b.unit_braces xs) (item_put x ts) (unit_put xs (p.put_item x ts))

-- from nothing on
pub unit_tags : (xs : List m.Item) → p.put_unit xs [] ≡ b.unit_braces xs
unit_tags xs = unit_put xs []

pub params_tags : (xs : m.Params) → p.put_params xs [] ≡ b.params_braces xs
params_tags xs = params_put xs []
