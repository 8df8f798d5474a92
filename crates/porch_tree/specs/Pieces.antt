-- What a tree is as tokens. Each function puts the pieces of its part in front of those behind it. A number
-- `d` says in how many counted uses of the grammar the part lies; the counted uses are block, stmt,
-- expr, an assignment, a conditional, unary, a cast, initial, declarator and the fields of a struct.
use Rattle.std.specs.Prelude.{ℕ, zero, suc, Bool, true, false, if◌then◌else◌, List, [], ◌∷◌, Option, Some, None}
use Rattle.porch_tree.specs.declared.word.Keyword.{Keyword}
use Rattle.porch_tree.specs.declared.word.Keyword.TheVariants.{Case, Const, Continue, Default, Do, Else, Enum, For, If, Return, Sizeof, Static, Struct, Switch, Typedef, Void, While, Break}
use Rattle.porch_tree.specs.declared.word.Mark.{Mark}
use Rattle.porch_tree.specs.declared.word.Mark.TheVariants.{OpenBracket, CloseBracket, OpenParenthesis, CloseParenthesis, OpenBrace, CloseBrace, Dot, Arrow, PlusPlus, MinusMinus, Star, Question, Colon, Semicolon, Equal, Comma}
use Rattle.porch_tree.specs.declared.word.Word.{Word}
use Rattle.porch_tree.specs.declared.word.Word.TheVariants as word
use Rattle.porch_tree.specs.Words.{prefix_word, infix_mark, assigning_mark, tag_keyword}
use Rattle.porch_tree.specs.Mirror.{Name, Expr, name, whole, character, texts, nested, suffixed, prefixed, size_of, cast, row, conditional, assign, sequence, Exprs, no_exprs, with_expr, Operands, no_operands, with_operand, Perhaps, absent, present, Suffix, index, call, member, arrow, increased, decreased, Suffixes, no_suffixes, with_suffix, Base, kind, void, typedef_name, tag, structure, enumeration, Field, field, Fields, no_fields, with_field, Constant, constant, Constants, no_constants, with_constant, Declarator, declarator, Declarators, no_declarators, with_declarator, Core, lacking, named, inner, Bracket, count, empty_list, void_list, param_list, Brackets, no_brackets, with_bracket, Param, param, Params, no_params, with_param, TypeName, type_name, Initial, value, braced, Initials, no_initials, with_initial, Entry, Declaration, Stmt, block, evaluate, choose, choose_else, while_loop, do_loop, for_loop, switch, break, continue, give, Stmts, no_stmts, with_stmt, SwitchEntry, case, default, stmt, SwitchEntries, no_entries, with_entry, Definition, Item, typedef, declaration, function, TranslationUnit}

-- a token as the grammar sees it
pub record Spelled : Type 0 where
  pub word : Word
  pub at : ℕ
  pub bytes : List ℕ

-- a token of a tree
pub record Piece : Type 0 where
  pub word : Word
  -- its place, where the tree keeps it
  pub at : Option ℕ
  -- the bytes of a name, a constant or a literal
  pub bytes : List ℕ
  -- the counted uses that it lies in
  pub uses : ℕ
  -- whether it lies in the block of a function
  pub inside : Bool

-- The place of the first token of an expression.
abbrev pub at_of : Expr → ℕ
at_of (name n) = n.at
at_of (whole n) = n.at
at_of (character n) = n.at
at_of (texts n ns) = n.at
at_of (nested at e) = at
at_of (suffixed e ss) = at_of e
at_of (prefixed at p e) = at
at_of (size_of at t) = at
at_of (cast at t e) = at
at_of (row l e os) = at_of e
at_of (conditional e a b) = at_of e
at_of (assign a x e) = at_of x
at_of (sequence e es) = at_of e

-- where the word behind so many `const` stands, if these begin at a place
abbrev pub behind_consts : ℕ → ℕ → Option ℕ
behind_consts zero at = Some at
behind_consts (suc n) at = None

-- where the first bracket of a declarator stands that begins at a place, if the bracket is its first token
abbrev pub first_bracket : ℕ → List ℕ → Core → Option ℕ
first_bracket at [] lacking = Some at
first_bracket at stars core = None

module _ (inside : Bool) where
  -- a word at a place, a word whose place isn't kept, and a name, a constant or a literal
  abbrev pub piece : Option ℕ → Word → ℕ → Piece
  piece at w d = record { word = w; at = at; bytes = []; uses = d; inside = inside }

  abbrev pub key : Keyword → ℕ → Piece
  key k d = piece None (word.Key k) d

  abbrev pub key_at : ℕ → Keyword → ℕ → Piece
  key_at at k d = piece (Some at) (word.Key k) d

  abbrev pub mark : Mark → ℕ → Piece
  mark m d = piece None (word.Mark m) d

  abbrev pub mark_at : ℕ → Mark → ℕ → Piece
  mark_at at m d = piece (Some at) (word.Mark m) d

  abbrev pub spelt : Word → Name → ℕ → Piece
  spelt w n d =
      record { word = w; at = Some n.at; bytes = n.bytes; uses = d; inside = inside }

  abbrev pub text_pieces : List Name → ℕ → List Piece → List Piece
  text_pieces [] d ps = ps
  text_pieces (n ∷ ns) d ps = spelt word.Text n d ∷ text_pieces ns d ps

  -- so many `const`, of which the first may have a place
  abbrev pub const_pieces : ℕ → Option ℕ → ℕ → List Piece → List Piece
  const_pieces zero at d ps = ps
  const_pieces (suc n) at d ps = piece at (word.Key Const) d ∷ const_pieces n None d ps

  abbrev pub star_pieces : List ℕ → Option ℕ → ℕ → List Piece → List Piece
  star_pieces [] at d ps = ps
  star_pieces (n ∷ ns) at d ps = piece at (word.Mark Star) d ∷ const_pieces n None d (star_pieces ns None d ps)

  abbrev pub kind_pieces : List Keyword → Option ℕ → ℕ → List Piece → List Piece
  kind_pieces [] at d ps = ps
  kind_pieces (k ∷ ks) at d ps = piece at (word.Key k) d ∷ kind_pieces ks None d ps

  abbrev pub tag_pieces : Option Name → ℕ → List Piece → List Piece
  tag_pieces None d ps = ps
  tag_pieces (Some n) d ps = spelt word.Name n d ∷ ps

  abbrev mutual
    -- the uses `d` of an expression include that of expr, where it is one
    pub expr_pieces : Expr → ℕ → List Piece → List Piece
    expr_pieces (name n) d ps = spelt word.Name n (suc d) ∷ ps
    expr_pieces (whole n) d ps = spelt word.Whole n (suc d) ∷ ps
    expr_pieces (character n) d ps = spelt word.Character n (suc d) ∷ ps
    expr_pieces (texts n ns) d ps = spelt word.Text n (suc d) ∷ text_pieces ns (suc d) ps
    expr_pieces (nested at e) d ps =
        mark_at at OpenParenthesis (suc d)
        ∷ expr_pieces e (suc (suc d)) (mark CloseParenthesis (suc d) ∷ ps)
    expr_pieces (suffixed e ss) d ps = expr_pieces e d (suffixes_pieces ss (suc d) ps)
    expr_pieces (prefixed at p e) d ps =
        piece (Some at) (prefix_word p) (suc d) ∷ expr_pieces e (suc d) ps
    expr_pieces (size_of at t) d ps =
        key_at at Sizeof (suc d) ∷ mark OpenParenthesis (suc d)
        ∷ type_name_pieces t (suc d) (mark CloseParenthesis (suc d) ∷ ps)
    expr_pieces (cast at t e) d ps =
        mark_at at OpenParenthesis (suc d)
        ∷ type_name_pieces t (suc d) (mark CloseParenthesis (suc d) ∷ expr_pieces e (suc d) ps)
    expr_pieces (row l e os) d ps = expr_pieces e d (operands_pieces os d ps)
    expr_pieces (conditional e a b) d ps =
        expr_pieces e (suc d)
        (mark Question (suc d) ∷ expr_pieces a (suc (suc d)) (mark Colon (suc d) ∷ expr_pieces b (suc d) ps))
    expr_pieces (assign a x e) d ps =
        expr_pieces x (suc d) (mark (assigning_mark a) (suc d) ∷ expr_pieces e (suc d) ps)
    expr_pieces (sequence e es) d ps = expr_pieces e d (more_pieces es d ps)

    pub operands_pieces : Operands → ℕ → List Piece → List Piece
    operands_pieces no_operands d ps = ps
    operands_pieces (with_operand o e os) d ps =
        mark (infix_mark o) d ∷ expr_pieces e d (operands_pieces os d ps)

    -- expressions, each behind a comma
    pub more_pieces : Exprs → ℕ → List Piece → List Piece
    more_pieces no_exprs d ps = ps
    more_pieces (with_expr e es) d ps = mark Comma d ∷ expr_pieces e d (more_pieces es d ps)

    -- expressions with commas between them
    pub argument_pieces : Exprs → ℕ → List Piece → List Piece
    argument_pieces no_exprs d ps = ps
    argument_pieces (with_expr e es) d ps = expr_pieces e d (more_pieces es d ps)

    pub perhaps_pieces : Perhaps → ℕ → List Piece → List Piece
    perhaps_pieces absent d ps = ps
    perhaps_pieces (present e) d ps = expr_pieces e d ps

    pub suffixes_pieces : Suffixes → ℕ → List Piece → List Piece
    suffixes_pieces no_suffixes d ps = ps
    suffixes_pieces (with_suffix s ss) d ps = suffix_pieces s d (suffixes_pieces ss d ps)

    pub suffix_pieces : Suffix → ℕ → List Piece → List Piece
    suffix_pieces (index e) d ps =
        mark OpenBracket d ∷ expr_pieces e (suc d) (mark CloseBracket d ∷ ps)
    suffix_pieces (call es) d ps =
        mark OpenParenthesis d ∷ argument_pieces es d (mark CloseParenthesis d ∷ ps)
    suffix_pieces (member n) d ps = mark Dot d ∷ spelt word.Name n d ∷ ps
    suffix_pieces (arrow n) d ps = mark Arrow d ∷ spelt word.Name n d ∷ ps
    suffix_pieces increased d ps = mark PlusPlus d ∷ ps
    suffix_pieces decreased d ps = mark MinusMinus d ∷ ps

    pub base_pieces : Base → ℕ → List Piece → List Piece
    base_pieces (kind at words) d ps = kind_pieces words (Some at) d ps
    base_pieces (void at c) d ps =
        const_pieces c.before (Some at) d
        (piece (behind_consts c.before at) (word.Key Void) d ∷ const_pieces c.behind None d ps)
    base_pieces (typedef_name at n c) d ps =
        const_pieces c.before (Some at) d
        (spelt word.Name n d ∷ const_pieces c.behind None d ps)
    base_pieces (tag at sort n c) d ps =
        const_pieces c.before (Some at) d
        (piece (behind_consts c.before at) (word.Key (tag_keyword sort)) d
        ∷ spelt word.Name n d ∷ const_pieces c.behind None d ps)
    base_pieces (structure at n fs c) d ps =
        const_pieces c.before (Some at) d
        (piece (behind_consts c.before at) (word.Key Struct) d
        ∷ tag_pieces n d
        (mark OpenBrace d
        ∷ fields_pieces fs (suc d) (mark CloseBrace d ∷ const_pieces c.behind None d ps)))
    base_pieces (enumeration at n cs c) d ps =
        const_pieces c.before (Some at) d
        (piece (behind_consts c.before at) (word.Key Enum) d
        ∷ tag_pieces n d
        (mark OpenBrace d
        ∷ constants_pieces cs d (mark CloseBrace d ∷ const_pieces c.behind None d ps)))

    pub fields_pieces : Fields → ℕ → List Piece → List Piece
    fields_pieces no_fields d ps = ps
    fields_pieces (with_field f fs) d ps = field_pieces f d (fields_pieces fs d ps)

    pub field_pieces : Field → ℕ → List Piece → List Piece
    field_pieces (field b ds) d ps =
        base_pieces b d (declarators_pieces ds d (mark Semicolon d ∷ ps))

    pub declarators_pieces : Declarators → ℕ → List Piece → List Piece
    declarators_pieces no_declarators d ps = ps
    declarators_pieces (with_declarator x xs) d ps =
        declarator_pieces x (suc d) (more_declarators_pieces xs d ps)

    pub more_declarators_pieces : Declarators → ℕ → List Piece → List Piece
    more_declarators_pieces no_declarators d ps = ps
    more_declarators_pieces (with_declarator x xs) d ps =
        mark Comma d ∷ declarator_pieces x (suc d) (more_declarators_pieces xs d ps)

    pub constants_pieces : Constants → ℕ → List Piece → List Piece
    constants_pieces no_constants d ps = ps
    constants_pieces (with_constant c cs) d ps =
        constant_pieces c d (more_constants_pieces cs d ps)

    pub more_constants_pieces : Constants → ℕ → List Piece → List Piece
    more_constants_pieces no_constants d ps = ps
    more_constants_pieces (with_constant c cs) d ps =
        mark Comma d ∷ constant_pieces c d (more_constants_pieces cs d ps)

    pub constant_pieces : Constant → ℕ → List Piece → List Piece
    constant_pieces (constant n e) d ps = spelt word.Name n d ∷ given_pieces e d ps

    pub given_pieces : Perhaps → ℕ → List Piece → List Piece
    given_pieces absent d ps = ps
    given_pieces (present e) d ps = mark Equal d ∷ expr_pieces e d ps

    -- the uses `d` of a declarator include its own
    pub declarator_pieces : Declarator → ℕ → List Piece → List Piece
    declarator_pieces (declarator at stars core bs) d ps =
        star_pieces stars (Some at) d
        (core_pieces core d (brackets_pieces bs (first_bracket at stars core) d ps))

    pub core_pieces : Core → ℕ → List Piece → List Piece
    core_pieces lacking d ps = ps
    core_pieces (named n) d ps = spelt word.Name n d ∷ ps
    core_pieces (inner at x) d ps =
        mark_at at OpenParenthesis d
        ∷ declarator_pieces x (suc d) (mark CloseParenthesis d ∷ ps)

    -- the first of them may have a place
    pub brackets_pieces : Brackets → Option ℕ → ℕ → List Piece → List Piece
    brackets_pieces no_brackets at d ps = ps
    brackets_pieces (with_bracket b bs) at d ps =
        bracket_pieces b at d (brackets_pieces bs None d ps)

    pub bracket_pieces : Bracket → Option ℕ → ℕ → List Piece → List Piece
    bracket_pieces (count e) at d ps =
        piece at (word.Mark OpenBracket) d ∷ perhaps_pieces e d (mark CloseBracket d ∷ ps)
    bracket_pieces empty_list at d ps =
        piece at (word.Mark OpenParenthesis) d ∷ mark CloseParenthesis d ∷ ps
    bracket_pieces void_list at d ps =
        piece at (word.Mark OpenParenthesis) d ∷ key Void d ∷ mark CloseParenthesis d ∷ ps
    bracket_pieces (param_list xs) at d ps =
        piece at (word.Mark OpenParenthesis) d ∷ params_pieces xs d (mark CloseParenthesis d ∷ ps)

    pub params_pieces : Params → ℕ → List Piece → List Piece
    params_pieces no_params d ps = ps
    params_pieces (with_param x xs) d ps = param_pieces x d (more_params_pieces xs d ps)

    pub more_params_pieces : Params → ℕ → List Piece → List Piece
    more_params_pieces no_params d ps = ps
    more_params_pieces (with_param x xs) d ps =
        mark Comma d ∷ param_pieces x d (more_params_pieces xs d ps)

    pub param_pieces : Param → ℕ → List Piece → List Piece
    param_pieces (param b x) d ps = base_pieces b d (declarator_pieces x (suc d) ps)

    -- what stands behind the base of a type name counts as no declarator
    pub type_name_pieces : TypeName → ℕ → List Piece → List Piece
    type_name_pieces (type_name b x) d ps = base_pieces b d (declarator_pieces x d ps)

  -- an expr, which is a counted use
  abbrev pub whole_pieces : Expr → ℕ → List Piece → List Piece
  whole_pieces e d ps = expr_pieces e (suc d) ps

  abbrev pub optional_pieces : Perhaps → ℕ → List Piece → List Piece
  optional_pieces absent d ps = ps
  optional_pieces (present e) d ps = whole_pieces e d ps

  abbrev pub comma_pieces : Bool → ℕ → List Piece → List Piece
  comma_pieces comma d ps = if comma then mark Comma d ∷ ps else ps

  abbrev mutual
    pub initial_pieces : Initial → ℕ → List Piece → List Piece
    initial_pieces (value e) d ps = expr_pieces e (suc d) ps
    initial_pieces (braced at is comma) d ps =
        mark_at at OpenBrace (suc d)
        ∷ initials_pieces is (suc d) (comma_pieces comma (suc d) (mark CloseBrace (suc d) ∷ ps))

    pub initials_pieces : Initials → ℕ → List Piece → List Piece
    initials_pieces no_initials d ps = ps
    initials_pieces (with_initial i is) d ps = initial_pieces i d (more_initials_pieces is d ps)

    pub more_initials_pieces : Initials → ℕ → List Piece → List Piece
    more_initials_pieces no_initials d ps = ps
    more_initials_pieces (with_initial i is) d ps =
        mark Comma d ∷ initial_pieces i d (more_initials_pieces is d ps)

  abbrev pub begun_pieces : Option Initial → ℕ → List Piece → List Piece
  begun_pieces None d ps = ps
  begun_pieces (Some i) d ps = mark Equal d ∷ initial_pieces i d ps

  abbrev pub entry_pieces : Entry → ℕ → List Piece → List Piece
  entry_pieces e d ps = declarator_pieces e.declarator (suc d) (begun_pieces e.initial d ps)

  abbrev pub more_entries_pieces : List Entry → ℕ → List Piece → List Piece
  more_entries_pieces [] d ps = ps
  more_entries_pieces (e ∷ es) d ps = mark Comma d ∷ entry_pieces e d (more_entries_pieces es d ps)

  abbrev pub entries_pieces : List Entry → ℕ → List Piece → List Piece
  entries_pieces [] d ps = ps
  entries_pieces (e ∷ es) d ps = entry_pieces e d (more_entries_pieces es d ps)

  abbrev pub static_pieces : Option ℕ → ℕ → List Piece → List Piece
  static_pieces None d ps = ps
  static_pieces (Some at) d ps = key_at at Static d ∷ ps

  abbrev pub declaration_pieces : Declaration → ℕ → List Piece → List Piece
  declaration_pieces x d ps =
      static_pieces x.fixed d (base_pieces x.base d (entries_pieces x.entries d (mark Semicolon d ∷ ps)))

  abbrev pub declarations_pieces : List Declaration → ℕ → List Piece → List Piece
  declarations_pieces [] d ps = ps
  declarations_pieces (x ∷ xs) d ps = declaration_pieces x d (declarations_pieces xs d ps)

-- Statements stand in the block of a function. Each is a counted use.
abbrev mutual
  pub stmt_pieces : Stmt → ℕ → List Piece → List Piece
  stmt_pieces (block at ds ss) d ps =
      mark_at true at OpenBrace (suc (suc d))
      ∷ declarations_pieces true ds (suc (suc d))
      (stmts_pieces ss (suc (suc d)) (mark true CloseBrace (suc (suc d)) ∷ ps))
  stmt_pieces (evaluate e) d ps = optional_pieces true e (suc d) (mark true Semicolon (suc d) ∷ ps)
  stmt_pieces (choose at e s) d ps =
      key_at true at If (suc d) ∷ mark true OpenParenthesis (suc d)
      ∷ whole_pieces true e (suc d) (mark true CloseParenthesis (suc d) ∷ stmt_pieces s (suc d) ps)
  stmt_pieces (choose_else at e s t) d ps =
      key_at true at If (suc d) ∷ mark true OpenParenthesis (suc d)
      ∷ whole_pieces true e (suc d)
      (mark true CloseParenthesis (suc d)
      ∷ stmt_pieces s (suc d) (key true Else (suc d) ∷ stmt_pieces t (suc d) ps))
  stmt_pieces (while_loop at e s) d ps =
      key_at true at While (suc d) ∷ mark true OpenParenthesis (suc d)
      ∷ whole_pieces true e (suc d) (mark true CloseParenthesis (suc d) ∷ stmt_pieces s (suc d) ps)
  stmt_pieces (do_loop at s e) d ps =
      key_at true at Do (suc d)
      ∷ stmt_pieces s (suc d)
      (key true While (suc d) ∷ mark true OpenParenthesis (suc d)
      ∷ whole_pieces true e (suc d)
      (mark true CloseParenthesis (suc d) ∷ mark true Semicolon (suc d) ∷ ps))
  stmt_pieces (for_loop at a b c s) d ps =
      key_at true at For (suc d) ∷ mark true OpenParenthesis (suc d)
      ∷ optional_pieces true a (suc d)
      (mark true Semicolon (suc d)
      ∷ optional_pieces true b (suc d)
      (mark true Semicolon (suc d)
      ∷ optional_pieces true c (suc d)
      (mark true CloseParenthesis (suc d) ∷ stmt_pieces s (suc d) ps)))
  stmt_pieces (switch at e xs) d ps =
      key_at true at Switch (suc d) ∷ mark true OpenParenthesis (suc d)
      ∷ whole_pieces true e (suc d)
      (mark true CloseParenthesis (suc d) ∷ mark true OpenBrace (suc d)
      ∷ switch_pieces xs (suc d) (mark true CloseBrace (suc d) ∷ ps))
  stmt_pieces (break at) d ps = key_at true at Break (suc d) ∷ mark true Semicolon (suc d) ∷ ps
  stmt_pieces (continue at) d ps = key_at true at Continue (suc d) ∷ mark true Semicolon (suc d) ∷ ps
  stmt_pieces (give at e) d ps =
      key_at true at Return (suc d) ∷ optional_pieces true e (suc d) (mark true Semicolon (suc d) ∷ ps)

  pub stmts_pieces : Stmts → ℕ → List Piece → List Piece
  stmts_pieces no_stmts d ps = ps
  stmts_pieces (with_stmt s ss) d ps = stmt_pieces s d (stmts_pieces ss d ps)

  pub switch_pieces : SwitchEntries → ℕ → List Piece → List Piece
  switch_pieces no_entries d ps = ps
  switch_pieces (with_entry x xs) d ps = switch_entry_pieces x d (switch_pieces xs d ps)

  pub switch_entry_pieces : SwitchEntry → ℕ → List Piece → List Piece
  switch_entry_pieces (case at e) d ps =
      key_at true at Case d ∷ expr_pieces true e d (mark true Colon d ∷ ps)
  switch_entry_pieces (default at) d ps = key_at true at Default d ∷ mark true Colon d ∷ ps
  switch_entry_pieces (stmt s) d ps = stmt_pieces s d ps

abbrev pub definition_pieces : Definition → List Piece → List Piece
definition_pieces f ps =
    static_pieces false f.fixed 0
    (base_pieces false f.base 0
    (declarator_pieces false f.declarator 1
    (mark false OpenBrace 1
    ∷ declarations_pieces true f.declarations 1
    (stmts_pieces f.body 1 (mark true CloseBrace 1 ∷ ps)))))

abbrev pub item_pieces : Item → List Piece → List Piece
item_pieces (typedef b x) ps =
    key false Typedef 0
    ∷ base_pieces false b 0 (declarator_pieces false x 1 (mark false Semicolon 0 ∷ ps))
item_pieces (declaration x) ps = declaration_pieces false x 0 ps
item_pieces (function f) ps = definition_pieces f ps

-- the pieces of a unit, from its first token on
abbrev pub unit_pieces : TranslationUnit → List Piece
unit_pieces [] = []
unit_pieces (x ∷ xs) = item_pieces x (unit_pieces xs)
