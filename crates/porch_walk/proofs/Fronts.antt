-- The pieces of each part of a tree are some pieces in front of those behind it, all of them in the block
-- or all outside of it.
use Rattle.std.proofs.Common.{◌≡◌, ℕ, zero, suc, Bool, true, false, List, [], ◌∷◌, ◌++◌, Option, Some, None, refl, sym, ap, ◌∙◌, append_assoc}
use Rattle.porch_tree.specs.declared.word.Keyword.{Keyword}
use Rattle.porch_tree.specs.Mirror.{Name, Expr, name, whole, character, texts, nested, suffixed, prefixed, size_of, cast, row, conditional, assign, sequence, Exprs, no_exprs, with_expr, Operands, no_operands, with_operand, Perhaps, absent, present, Suffix, index, call, member, arrow, increased, decreased, Suffixes, no_suffixes, with_suffix, Base, kind, void, typedef_name, tag, structure, enumeration, Field, field, Fields, no_fields, with_field, Constant, constant, Constants, no_constants, with_constant, Declarator, declarator, Declarators, no_declarators, with_declarator, Core, lacking, named, inner, Bracket, count, empty_list, void_list, param_list, Brackets, no_brackets, with_bracket, Param, param, Params, no_params, with_param, TypeName, type_name, Initial, value, braced, Initials, no_initials, with_initial, Entry, Declaration, Stmt, block, evaluate, choose, choose_else, while_loop, do_loop, for_loop, switch, break, continue, give, Stmts, no_stmts, with_stmt, SwitchEntry, case, default, stmt, SwitchEntries, no_entries, with_entry}
use Rattle.porch_tree.specs.Pieces.{Piece, text_pieces, const_pieces, star_pieces, kind_pieces, tag_pieces, expr_pieces, operands_pieces, more_pieces, argument_pieces, perhaps_pieces, suffixes_pieces, suffix_pieces, base_pieces, fields_pieces, field_pieces, declarators_pieces, more_declarators_pieces, constants_pieces, more_constants_pieces, constant_pieces, given_pieces, declarator_pieces, core_pieces, brackets_pieces, bracket_pieces, params_pieces, more_params_pieces, param_pieces, type_name_pieces, optional_pieces, comma_pieces, initial_pieces, initials_pieces, more_initials_pieces, begun_pieces, entry_pieces, more_entries_pieces, entries_pieces, static_pieces, declaration_pieces, declarations_pieces, stmt_pieces, stmts_pieces, switch_pieces, switch_entry_pieces}

-- all of these are in the block, or outside of it
abbrev pub AreIn : Bool → List Piece → Type 0
AreIn i [] = Unit {0}
AreIn i (p ∷ ps) = (p.inside ≡ i) × AreIn i ps

pub record Front (i : Bool) (pieces : List Piece → List Piece) : Type 0 where
  pub own : List Piece
  pub are_in : AreIn i own
  pub split : (ps : List Piece) → pieces ps ≡ own ++ ps

are_in_both : (i : Bool) (ps qs : List Piece) → AreIn i ps → AreIn i qs → AreIn i (ps ++ qs)
are_in_both i [] qs g h = h
are_in_both i (p ∷ ps) qs g h = (g.0, are_in_both i ps qs g.1 h)

module _ (i : Bool) where
  pub none : Front i (λ ps. ps)
  none = record { own = []; are_in = tt; split = λ ps. refl }

  -- a piece in front of a part
  pub one : (p : Piece) (G : List Piece → List Piece) → p.inside ≡ i → Front i G → Front i (λ ps. p ∷ G ps)
  one p G h g = record { own = p ∷ g.own; are_in = (h, g.are_in); split = λ ps. ap (λ qs. p ∷ qs) (g.split ps) }

  -- a part in front of a part
  pub chain : (F G : List Piece → List Piece) → Front i F → Front i G → Front i (λ ps. F (G ps))
  chain F G f g = record {
    own = f.own ++ g.own;
    are_in = are_in_both i (f.own) (g.own) (f.are_in) (g.are_in);
    split = λ ps. f.split (G ps) ∙ ap (λ qs. f.own ++ qs) (g.split ps) ∙ sym (append_assoc (f.own) (g.own) ps);
  }

  text_front : (ns : List Name) (d : ℕ) → Front i (text_pieces i ns d)
  text_front [] d = none
  text_front (n ∷ ns) d = one _ _ refl (text_front ns d)

  const_front : (n : ℕ) (at : Option ℕ) (d : ℕ) → Front i (const_pieces i n at d)
  const_front zero at d = none
  const_front (suc n) at d = one _ _ refl (const_front n None d)

  star_front : (ns : List ℕ) (at : Option ℕ) (d : ℕ) → Front i (star_pieces i ns at d)
  star_front [] at d = none
  star_front (n ∷ ns) at d = one _ _ refl (chain _ _ (const_front n None d) (star_front ns None d))

  kind_front : (ks : List Keyword) (at : Option ℕ) (d : ℕ) → Front i (kind_pieces i ks at d)
  kind_front [] at d = none
  kind_front (k ∷ ks) at d = one _ _ refl (kind_front ks None d)

  tag_front : (n : Option Name) (d : ℕ) → Front i (tag_pieces i n d)
  tag_front None d = none
  tag_front (Some n) d = one _ _ refl none

  mutual
    expr_front : (e : Expr) (d : ℕ) → Front i (expr_pieces i e d)
    expr_front (name n) d = one _ _ refl none
    expr_front (whole n) d = one _ _ refl none
    expr_front (character n) d = one _ _ refl none
    expr_front (texts n ns) d = one _ _ refl (text_front ns (suc d))
    expr_front (nested at e) d = one _ _ refl (chain _ _ (expr_front e (suc (suc d))) (one _ _ refl none))
    expr_front (suffixed e ss) d = chain _ _ (expr_front e d) (suffixes_front ss (suc d))
    expr_front (prefixed at p e) d = one _ _ refl (expr_front e (suc d))
    expr_front (size_of at t) d = one _ _ refl (one _ _ refl (chain _ _ (type_name_front t (suc d)) (one _ _ refl none)))
    expr_front (cast at t e) d = one _ _ refl (chain _ _ (type_name_front t (suc d)) (one _ _ refl (expr_front e (suc d))))
    expr_front (row l e os) d = chain _ _ (expr_front e d) (operands_front os d)
    expr_front (conditional e a b) d =
        chain _ _ (expr_front e (suc d)) (one _ _ refl (chain _ _ (expr_front a (suc (suc d))) (one _ _ refl (expr_front b (suc d)))))
    expr_front (assign a x e) d = chain _ _ (expr_front x (suc d)) (one _ _ refl (expr_front e (suc d)))
    expr_front (sequence e es) d = chain _ _ (expr_front e d) (more_front es d)

    operands_front : (os : Operands) (d : ℕ) → Front i (operands_pieces i os d)
    operands_front no_operands d = none
    operands_front (with_operand o e os) d = one _ _ refl (chain _ _ (expr_front e d) (operands_front os d))

    more_front : (es : Exprs) (d : ℕ) → Front i (more_pieces i es d)
    more_front no_exprs d = none
    more_front (with_expr e es) d = one _ _ refl (chain _ _ (expr_front e d) (more_front es d))

    argument_front : (es : Exprs) (d : ℕ) → Front i (argument_pieces i es d)
    argument_front no_exprs d = none
    argument_front (with_expr e es) d = chain _ _ (expr_front e d) (more_front es d)

    perhaps_front : (e : Perhaps) (d : ℕ) → Front i (perhaps_pieces i e d)
    perhaps_front absent d = none
    perhaps_front (present e) d = expr_front e d

    suffixes_front : (ss : Suffixes) (d : ℕ) → Front i (suffixes_pieces i ss d)
    suffixes_front no_suffixes d = none
    suffixes_front (with_suffix s ss) d = chain _ _ (suffix_front s d) (suffixes_front ss d)

    suffix_front : (s : Suffix) (d : ℕ) → Front i (suffix_pieces i s d)
    suffix_front (index e) d = one _ _ refl (chain _ _ (expr_front e (suc d)) (one _ _ refl none))
    suffix_front (call es) d = one _ _ refl (chain _ _ (argument_front es d) (one _ _ refl none))
    suffix_front (member n) d = one _ _ refl (one _ _ refl none)
    suffix_front (arrow n) d = one _ _ refl (one _ _ refl none)
    suffix_front increased d = one _ _ refl none
    suffix_front decreased d = one _ _ refl none

    pub base_front : (b : Base) (d : ℕ) → Front i (base_pieces i b d)
    base_front (kind at ks) d = kind_front ks (Some at) d
    base_front (void at c) d = chain _ _ (const_front c.before (Some at) d) (one _ _ refl (const_front c.behind None d))
    base_front (typedef_name at n c) d = chain _ _ (const_front c.before (Some at) d) (one _ _ refl (const_front c.behind None d))
    base_front (tag at s n c) d = chain _ _ (const_front c.before (Some at) d) (one _ _ refl (one _ _ refl (const_front c.behind None d)))
    base_front (structure at n fs c) d =
        chain _ _ (const_front c.before (Some at) d)
        (one _ _ refl (chain _ _ (tag_front n d) (one _ _ refl (chain _ _ (fields_front fs (suc d)) (one _ _ refl (const_front c.behind None d))))))
    base_front (enumeration at n cs c) d =
        chain _ _ (const_front c.before (Some at) d)
        (one _ _ refl (chain _ _ (tag_front n d) (one _ _ refl (chain _ _ (constants_front cs d) (one _ _ refl (const_front c.behind None d))))))

    fields_front : (fs : Fields) (d : ℕ) → Front i (fields_pieces i fs d)
    fields_front no_fields d = none
    fields_front (with_field f fs) d = chain _ _ (field_front f d) (fields_front fs d)

    field_front : (f : Field) (d : ℕ) → Front i (field_pieces i f d)
    field_front (field b ds) d = chain _ _ (base_front b d) (chain _ _ (declarators_front ds d) (one _ _ refl none))

    declarators_front : (xs : Declarators) (d : ℕ) → Front i (declarators_pieces i xs d)
    declarators_front no_declarators d = none
    declarators_front (with_declarator x xs) d = chain _ _ (declarator_front x (suc d)) (more_declarators_front xs d)

    more_declarators_front : (xs : Declarators) (d : ℕ) → Front i (more_declarators_pieces i xs d)
    more_declarators_front no_declarators d = none
    more_declarators_front (with_declarator x xs) d = one _ _ refl (chain _ _ (declarator_front x (suc d)) (more_declarators_front xs d))

    constants_front : (cs : Constants) (d : ℕ) → Front i (constants_pieces i cs d)
    constants_front no_constants d = none
    constants_front (with_constant c cs) d = chain _ _ (constant_front c d) (more_constants_front cs d)

    more_constants_front : (cs : Constants) (d : ℕ) → Front i (more_constants_pieces i cs d)
    more_constants_front no_constants d = none
    more_constants_front (with_constant c cs) d = one _ _ refl (chain _ _ (constant_front c d) (more_constants_front cs d))

    constant_front : (c : Constant) (d : ℕ) → Front i (constant_pieces i c d)
    constant_front (constant n e) d = one _ _ refl (given_front e d)

    given_front : (e : Perhaps) (d : ℕ) → Front i (given_pieces i e d)
    given_front absent d = none
    given_front (present e) d = one _ _ refl (expr_front e d)

    pub declarator_front : (x : Declarator) (d : ℕ) → Front i (declarator_pieces i x d)
    declarator_front (declarator at stars core bs) d = chain _ _ (star_front stars (Some at) d) (chain _ _ (core_front core d) (brackets_front bs _ d))

    core_front : (c : Core) (d : ℕ) → Front i (core_pieces i c d)
    core_front lacking d = none
    core_front (named n) d = one _ _ refl none
    core_front (inner at x) d = one _ _ refl (chain _ _ (declarator_front x (suc d)) (one _ _ refl none))

    brackets_front : (bs : Brackets) (at : Option ℕ) (d : ℕ) → Front i (brackets_pieces i bs at d)
    brackets_front no_brackets at d = none
    brackets_front (with_bracket b bs) at d = chain _ _ (bracket_front b at d) (brackets_front bs None d)

    bracket_front : (b : Bracket) (at : Option ℕ) (d : ℕ) → Front i (bracket_pieces i b at d)
    bracket_front (count e) at d = one _ _ refl (chain _ _ (perhaps_front e d) (one _ _ refl none))
    bracket_front empty_list at d = one _ _ refl (one _ _ refl none)
    bracket_front void_list at d = one _ _ refl (one _ _ refl (one _ _ refl none))
    bracket_front (param_list xs) at d = one _ _ refl (chain _ _ (params_front xs d) (one _ _ refl none))

    params_front : (xs : Params) (d : ℕ) → Front i (params_pieces i xs d)
    params_front no_params d = none
    params_front (with_param x xs) d = chain _ _ (param_front x d) (more_params_front xs d)

    more_params_front : (xs : Params) (d : ℕ) → Front i (more_params_pieces i xs d)
    more_params_front no_params d = none
    more_params_front (with_param x xs) d = one _ _ refl (chain _ _ (param_front x d) (more_params_front xs d))

    param_front : (x : Param) (d : ℕ) → Front i (param_pieces i x d)
    param_front (param b x) d = chain _ _ (base_front b d) (declarator_front x (suc d))

    type_name_front : (t : TypeName) (d : ℕ) → Front i (type_name_pieces i t d)
    type_name_front (type_name b x) d = chain _ _ (base_front b d) (declarator_front x d)

  optional_front : (e : Perhaps) (d : ℕ) → Front i (optional_pieces i e d)
  optional_front absent d = none
  optional_front (present e) d = expr_front e (suc d)

  comma_front : (c : Bool) (d : ℕ) → Front i (comma_pieces i c d)
  comma_front true d = one _ _ refl none
  comma_front false d = none

  mutual
    initial_front : (x : Initial) (d : ℕ) → Front i (initial_pieces i x d)
    initial_front (value e) d = expr_front e (suc d)
    initial_front (braced at xs c) d = one _ _ refl (chain _ _ (initials_front xs (suc d)) (chain _ _ (comma_front c (suc d)) (one _ _ refl none)))

    initials_front : (xs : Initials) (d : ℕ) → Front i (initials_pieces i xs d)
    initials_front no_initials d = none
    initials_front (with_initial x xs) d = chain _ _ (initial_front x d) (more_initials_front xs d)

    more_initials_front : (xs : Initials) (d : ℕ) → Front i (more_initials_pieces i xs d)
    more_initials_front no_initials d = none
    more_initials_front (with_initial x xs) d = one _ _ refl (chain _ _ (initial_front x d) (more_initials_front xs d))

  pub begun_front : (s : Option Initial) (d : ℕ) → Front i (begun_pieces i s d)
  begun_front None d = none
  begun_front (Some x) d = one _ _ refl (initial_front x d)

  entry_front : (e : Entry) (d : ℕ) → Front i (entry_pieces i e d)
  entry_front e d = chain _ _ (declarator_front e.declarator (suc d)) (begun_front e.initial d)

  pub more_entries_front : (es : List Entry) (d : ℕ) → Front i (more_entries_pieces i es d)
  more_entries_front [] d = none
  more_entries_front (e ∷ es) d = one _ _ refl (chain _ _ (entry_front e d) (more_entries_front es d))

  pub entries_front : (es : List Entry) (d : ℕ) → Front i (entries_pieces i es d)
  entries_front [] d = none
  entries_front (e ∷ es) d = chain _ _ (entry_front e d) (more_entries_front es d)

  pub static_front : (k : Option ℕ) (d : ℕ) → Front i (static_pieces i k d)
  static_front None d = none
  static_front (Some at) d = one _ _ refl none

  declaration_front : (x : Declaration) (d : ℕ) → Front i (declaration_pieces i x d)
  declaration_front x d = chain _ _ (static_front x.fixed d) (chain _ _ (base_front x.base d) (chain _ _ (entries_front x.entries d) (one _ _ refl none)))

  declarations_front : (xs : List Declaration) (d : ℕ) → Front i (declarations_pieces i xs d)
  declarations_front [] d = none
  declarations_front (x ∷ xs) d = chain _ _ (declaration_front x d) (declarations_front xs d)

mutual
  stmt_front : (s : Stmt) (d : ℕ) → Front true (stmt_pieces s d)
  stmt_front (block at ds ss) d =
      one true _ _ refl (chain true _ _ (declarations_front true ds (suc (suc d))) (chain true _ _ (stmts_front ss (suc (suc d))) (one true _ _ refl (none true))))
  stmt_front (evaluate e) d = chain true _ _ (optional_front true e (suc d)) (one true _ _ refl (none true))
  stmt_front (choose at e s) d =
      one true _ _ refl (one true _ _ refl (chain true _ _ (expr_front true e (suc (suc d))) (one true _ _ refl (stmt_front s (suc d)))))
  stmt_front (choose_else at e s t) d =
      one true _ _ refl (one true _ _ refl (chain true _ _ (expr_front true e (suc (suc d)))
      (one true _ _ refl (chain true _ _ (stmt_front s (suc d)) (one true _ _ refl (stmt_front t (suc d)))))))
  stmt_front (while_loop at e s) d =
      one true _ _ refl (one true _ _ refl (chain true _ _ (expr_front true e (suc (suc d))) (one true _ _ refl (stmt_front s (suc d)))))
  stmt_front (do_loop at s e) d =
      one true _ _ refl (chain true _ _ (stmt_front s (suc d))
      (one true _ _ refl (one true _ _ refl (chain true _ _ (expr_front true e (suc (suc d))) (one true _ _ refl (one true _ _ refl (none true)))))))
  stmt_front (for_loop at a b c s) d =
      one true _ _ refl (one true _ _ refl (chain true _ _ (optional_front true a (suc d))
      (one true _ _ refl (chain true _ _ (optional_front true b (suc d))
      (one true _ _ refl (chain true _ _ (optional_front true c (suc d)) (one true _ _ refl (stmt_front s (suc d)))))))))
  stmt_front (switch at e xs) d =
      one true _ _ refl (one true _ _ refl (chain true _ _ (expr_front true e (suc (suc d)))
      (one true _ _ refl (one true _ _ refl (chain true _ _ (switch_front xs (suc d)) (one true _ _ refl (none true)))))))
  stmt_front (break at) d = one true _ _ refl (one true _ _ refl (none true))
  stmt_front (continue at) d = one true _ _ refl (one true _ _ refl (none true))
  stmt_front (give at e) d = one true _ _ refl (chain true _ _ (optional_front true e (suc d)) (one true _ _ refl (none true)))

  stmts_front : (ss : Stmts) (d : ℕ) → Front true (stmts_pieces ss d)
  stmts_front no_stmts d = none true
  stmts_front (with_stmt s ss) d = chain true _ _ (stmt_front s d) (stmts_front ss d)

  switch_front : (xs : SwitchEntries) (d : ℕ) → Front true (switch_pieces xs d)
  switch_front no_entries d = none true
  switch_front (with_entry x xs) d = chain true _ _ (switch_entry_front x d) (switch_front xs d)

  switch_entry_front : (x : SwitchEntry) (d : ℕ) → Front true (switch_entry_pieces x d)
  switch_entry_front (case at e) d = one true _ _ refl (chain true _ _ (expr_front true e d) (one true _ _ refl (none true)))
  switch_entry_front (default at) d = one true _ _ refl (one true _ _ refl (none true))
  switch_entry_front (stmt s) d = stmt_front s d

-- what stands in the block of a function
pub body_front : (ds : List Declaration) (ss : Stmts) (d : ℕ) → Front true (λ ps. declarations_pieces true ds d (stmts_pieces ss d ps))
body_front ds ss d = chain true _ _ (declarations_front true ds d) (stmts_front ss d)
