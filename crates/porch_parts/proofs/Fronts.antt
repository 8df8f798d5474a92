-- The pieces of each part of a tree are some pieces in front of those behind it.
use Rattle.std.proofs.Common.{◌≡◌, ℕ, zero, suc, Bool, List, [], ◌∷◌, ◌++◌, Option, Some, None, refl, sym, ap, ◌∙◌, append_assoc}
use Rattle.porch_tree.specs.declared.word.Keyword.{Keyword}
use Rattle.porch_tree.specs.Mirror.{Name, Expr, name, whole, character, texts, nested, suffixed, prefixed, size_of, cast, row, conditional, assign, sequence, Exprs, no_exprs, with_expr, Operands, no_operands, with_operand, Perhaps, absent, present, Suffix, index, call, member, arrow, increased, decreased, Suffixes, no_suffixes, with_suffix, Base, kind, void, typedef_name, tag, structure, enumeration, Field, field, Fields, no_fields, with_field, Constant, constant, Constants, no_constants, with_constant, Declarator, declarator, Declarators, no_declarators, with_declarator, Core, lacking, named, inner, Bracket, count, empty_list, void_list, param_list, Brackets, no_brackets, with_bracket, Param, param, Params, no_params, with_param, TypeName, type_name}
use Rattle.porch_tree.specs.Pieces.{Piece, text_pieces, const_pieces, star_pieces, kind_pieces, tag_pieces, expr_pieces, operands_pieces, more_pieces, argument_pieces, perhaps_pieces, suffixes_pieces, suffix_pieces, base_pieces, fields_pieces, field_pieces, declarators_pieces, more_declarators_pieces, constants_pieces, more_constants_pieces, constant_pieces, given_pieces, declarator_pieces, core_pieces, brackets_pieces, bracket_pieces, params_pieces, more_params_pieces, param_pieces, type_name_pieces}

pub record Front (pieces : List Piece → List Piece) : Type 0 where
  pub own : List Piece
  pub split : (ps : List Piece) → pieces ps ≡ own ++ ps

pub none : Front (λ ps. ps)
none = record { own = []; split = λ ps. refl }

-- a piece in front of a part
pub one : (p : Piece) (G : List Piece → List Piece) → Front G → Front (λ ps. p ∷ G ps)
one p G g = record { own = p ∷ g.own; split = λ ps. ap (λ qs. p ∷ qs) (g.split ps) }

-- a part in front of a part
pub chain : (F G : List Piece → List Piece) → Front F → Front G → Front (λ ps. F (G ps))
chain F G f g = record {
  own = f.own ++ g.own;
  split = λ ps. f.split (G ps) ∙ ap (λ qs. f.own ++ qs) (g.split ps) ∙ sym (append_assoc (f.own) (g.own) ps);
}

module _ (i : Bool) where
  text_front : (ns : List Name) (d : ℕ) → Front (text_pieces i ns d)
  text_front [] d = none
  text_front (n ∷ ns) d = one _ _ (text_front ns d)

  const_front : (n : ℕ) (at : Option ℕ) (d : ℕ) → Front (const_pieces i n at d)
  const_front zero at d = none
  const_front (suc n) at d = one _ _ (const_front n None d)

  star_front : (ns : List ℕ) (at : Option ℕ) (d : ℕ) → Front (star_pieces i ns at d)
  star_front [] at d = none
  star_front (n ∷ ns) at d = one _ _ (chain _ _ (const_front n None d) (star_front ns None d))

  kind_front : (ks : List Keyword) (at : Option ℕ) (d : ℕ) → Front (kind_pieces i ks at d)
  kind_front [] at d = none
  kind_front (k ∷ ks) at d = one _ _ (kind_front ks None d)

  tag_front : (n : Option Name) (d : ℕ) → Front (tag_pieces i n d)
  tag_front None d = none
  tag_front (Some n) d = one _ _ none

  mutual
    pub expr_front : (e : Expr) (d : ℕ) → Front (expr_pieces i e d)
    expr_front (name n) d = one _ _ none
    expr_front (whole n) d = one _ _ none
    expr_front (character n) d = one _ _ none
    expr_front (texts n ns) d = one _ _ (text_front ns (suc d))
    expr_front (nested at e) d = one _ _ (chain _ _ (expr_front e (suc (suc d))) (one _ _ none))
    expr_front (suffixed e ss) d = chain _ _ (expr_front e d) (suffixes_front ss (suc d))
    expr_front (prefixed at p e) d = one _ _ (expr_front e (suc d))
    expr_front (size_of at t) d = one _ _ (one _ _ (chain _ _ (type_name_front t (suc d)) (one _ _ none)))
    expr_front (cast at t e) d = one _ _ (chain _ _ (type_name_front t (suc d)) (one _ _ (expr_front e (suc d))))
    expr_front (row l e os) d = chain _ _ (expr_front e d) (operands_front os d)
    expr_front (conditional e a b) d =
        chain _ _ (expr_front e (suc d)) (one _ _ (chain _ _ (expr_front a (suc (suc d))) (one _ _ (expr_front b (suc d)))))
    expr_front (assign a x e) d = chain _ _ (expr_front x (suc d)) (one _ _ (expr_front e (suc d)))
    expr_front (sequence e es) d = chain _ _ (expr_front e d) (more_front es d)

    operands_front : (os : Operands) (d : ℕ) → Front (operands_pieces i os d)
    operands_front no_operands d = none
    operands_front (with_operand o e os) d = one _ _ (chain _ _ (expr_front e d) (operands_front os d))

    more_front : (es : Exprs) (d : ℕ) → Front (more_pieces i es d)
    more_front no_exprs d = none
    more_front (with_expr e es) d = one _ _ (chain _ _ (expr_front e d) (more_front es d))

    argument_front : (es : Exprs) (d : ℕ) → Front (argument_pieces i es d)
    argument_front no_exprs d = none
    argument_front (with_expr e es) d = chain _ _ (expr_front e d) (more_front es d)

    perhaps_front : (e : Perhaps) (d : ℕ) → Front (perhaps_pieces i e d)
    perhaps_front absent d = none
    perhaps_front (present e) d = expr_front e d

    suffixes_front : (ss : Suffixes) (d : ℕ) → Front (suffixes_pieces i ss d)
    suffixes_front no_suffixes d = none
    suffixes_front (with_suffix s ss) d = chain _ _ (suffix_front s d) (suffixes_front ss d)

    suffix_front : (s : Suffix) (d : ℕ) → Front (suffix_pieces i s d)
    suffix_front (index e) d = one _ _ (chain _ _ (expr_front e (suc d)) (one _ _ none))
    suffix_front (call es) d = one _ _ (chain _ _ (argument_front es d) (one _ _ none))
    suffix_front (member n) d = one _ _ (one _ _ none)
    suffix_front (arrow n) d = one _ _ (one _ _ none)
    suffix_front increased d = one _ _ none
    suffix_front decreased d = one _ _ none

    pub base_front : (b : Base) (d : ℕ) → Front (base_pieces i b d)
    base_front (kind at ks) d = kind_front ks (Some at) d
    base_front (void at c) d = chain _ _ (const_front c.before (Some at) d) (one _ _ (const_front c.behind None d))
    base_front (typedef_name at n c) d = chain _ _ (const_front c.before (Some at) d) (one _ _ (const_front c.behind None d))
    base_front (tag at s n c) d = chain _ _ (const_front c.before (Some at) d) (one _ _ (one _ _ (const_front c.behind None d)))
    base_front (structure at n fs c) d =
        chain _ _ (const_front c.before (Some at) d)
        (one _ _ (chain _ _ (tag_front n d) (one _ _ (chain _ _ (fields_front fs (suc d)) (one _ _ (const_front c.behind None d))))))
    base_front (enumeration at n cs c) d =
        chain _ _ (const_front c.before (Some at) d)
        (one _ _ (chain _ _ (tag_front n d) (one _ _ (chain _ _ (constants_front cs d) (one _ _ (const_front c.behind None d))))))

    fields_front : (fs : Fields) (d : ℕ) → Front (fields_pieces i fs d)
    fields_front no_fields d = none
    fields_front (with_field f fs) d = chain _ _ (field_front f d) (fields_front fs d)

    field_front : (f : Field) (d : ℕ) → Front (field_pieces i f d)
    field_front (field b ds) d = chain _ _ (base_front b d) (chain _ _ (declarators_front ds d) (one _ _ none))

    declarators_front : (xs : Declarators) (d : ℕ) → Front (declarators_pieces i xs d)
    declarators_front no_declarators d = none
    declarators_front (with_declarator x xs) d = chain _ _ (declarator_front x (suc d)) (more_declarators_front xs d)

    more_declarators_front : (xs : Declarators) (d : ℕ) → Front (more_declarators_pieces i xs d)
    more_declarators_front no_declarators d = none
    more_declarators_front (with_declarator x xs) d = one _ _ (chain _ _ (declarator_front x (suc d)) (more_declarators_front xs d))

    constants_front : (cs : Constants) (d : ℕ) → Front (constants_pieces i cs d)
    constants_front no_constants d = none
    constants_front (with_constant c cs) d = chain _ _ (constant_front c d) (more_constants_front cs d)

    more_constants_front : (cs : Constants) (d : ℕ) → Front (more_constants_pieces i cs d)
    more_constants_front no_constants d = none
    more_constants_front (with_constant c cs) d = one _ _ (chain _ _ (constant_front c d) (more_constants_front cs d))

    constant_front : (c : Constant) (d : ℕ) → Front (constant_pieces i c d)
    constant_front (constant n e) d = one _ _ (given_front e d)

    given_front : (e : Perhaps) (d : ℕ) → Front (given_pieces i e d)
    given_front absent d = none
    given_front (present e) d = one _ _ (expr_front e d)

    pub declarator_front : (x : Declarator) (d : ℕ) → Front (declarator_pieces i x d)
    declarator_front (declarator at stars core bs) d = chain _ _ (star_front stars (Some at) d) (chain _ _ (core_front core d) (brackets_front bs _ d))

    core_front : (c : Core) (d : ℕ) → Front (core_pieces i c d)
    core_front lacking d = none
    core_front (named n) d = one _ _ none
    core_front (inner at x) d = one _ _ (chain _ _ (declarator_front x (suc d)) (one _ _ none))

    brackets_front : (bs : Brackets) (at : Option ℕ) (d : ℕ) → Front (brackets_pieces i bs at d)
    brackets_front no_brackets at d = none
    brackets_front (with_bracket b bs) at d = chain _ _ (bracket_front b at d) (brackets_front bs None d)

    bracket_front : (b : Bracket) (at : Option ℕ) (d : ℕ) → Front (bracket_pieces i b at d)
    bracket_front (count e) at d = one _ _ (chain _ _ (perhaps_front e d) (one _ _ none))
    bracket_front empty_list at d = one _ _ (one _ _ none)
    bracket_front void_list at d = one _ _ (one _ _ (one _ _ none))
    bracket_front (param_list xs) at d = one _ _ (chain _ _ (params_front xs d) (one _ _ none))

    params_front : (xs : Params) (d : ℕ) → Front (params_pieces i xs d)
    params_front no_params d = none
    params_front (with_param x xs) d = chain _ _ (param_front x d) (more_params_front xs d)

    more_params_front : (xs : Params) (d : ℕ) → Front (more_params_pieces i xs d)
    more_params_front no_params d = none
    more_params_front (with_param x xs) d = one _ _ (chain _ _ (param_front x d) (more_params_front xs d))

    param_front : (x : Param) (d : ℕ) → Front (param_pieces i x d)
    param_front (param b x) d = chain _ _ (base_front b d) (declarator_front x (suc d))

    type_name_front : (t : TypeName) (d : ℕ) → Front (type_name_pieces i t d)
    type_name_front (type_name b x) d = chain _ _ (base_front b d) (declarator_front x d)
