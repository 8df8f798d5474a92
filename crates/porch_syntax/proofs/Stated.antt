-- What was read is a program so far: the tokens that it has in it, and each part in its bounds.
use Rattle.std.proofs.Common.{◌≡◌, ℕ, ◌+◌, ◌-◌, ◌<◌, ◌≤◌, Bool, true, false, nat_lt, nat_eq, if◌then◌else◌, List, [], ◌∷◌, ◌++◌, length, Option, Some, None, refl, sym, ap, subst, ◌∙◌, append_assoc, arith}
use Rattle.porch_syntax.specs.declared.token.Token.{Token}
use Rattle.porch_syntax.specs.declared.token.Token.TheVariants as token
use Rattle.porch_syntax.specs.declared.statement.Purpose.{Purpose}
use Rattle.porch_syntax.specs.declared.statement.Purpose.TheVariants as purpose
use Rattle.porch_syntax.specs.Tree.{Node, Action, assign, repeat, putchar, give, Program, actions_of}
use Rattle.porch_syntax.specs.Language.{expr_tokens, stmt_tokens, stmts_tokens, decl_tokens, unit_tokens, IsExpr, IsStmt, AreStmts, AreDecls}
use Rattle.porch_syntax.specs.inside.Reading.{part_of, Reading, at_atom, Outcome, goes, ends, wrong, fresh, read_step}
use Rattle.porch_syntax.specs.inside.Program.{Block, Written, Phase, declarations, statements, declaring, declared, assigning, looping, entering, printing, printed, reading, over, State, known, state, with_variable, with_action, left_block, statement_step, declaration_step, declaring_step, declared_step, assigning_step, looping_step, entering_step, printing_step, printed_step, semicolon_step, parenthesis_step, end_step, outcome_step, step, then_run, run, beginning, program_at, program_in, body_of, program_from, read_program}
use Rattle.porch_syntax.proofs.Lists.{append_nothing, append_one}
use Rattle.porch_syntax.proofs.Shown.{reading_tokens, ReadingGood, StepIs, read_is, fresh_good}

-- The tokens.

abbrev blocks_tokens : List Block → List Action → List Token
blocks_tokens [] as' = stmts_tokens (actions_of as')
blocks_tokens (b ∷ bs) as' =
    blocks_tokens bs b.before ++ token.While ∷ token.OpenParenthesis ∷ (expr_tokens b.condition ++ token.CloseParenthesis ∷ token.OpenBrace ∷ stmts_tokens (actions_of as'))

abbrev written_tokens : Written → List Token
written_tokens w = decl_tokens 0 w.variables ++ blocks_tokens w.blocks w.actions

abbrev purpose_tokens : ℕ → Purpose → List Token
purpose_tokens n purpose.Initial = token.Int ∷ token.Name n ∷ token.Assign ∷ []
purpose_tokens n (purpose.Assigned x) = token.Name x ∷ token.Assign ∷ []
purpose_tokens n purpose.Condition = token.While ∷ token.OpenParenthesis ∷ []
purpose_tokens n purpose.Shown = token.Putchar ∷ token.OpenParenthesis ∷ []
purpose_tokens n purpose.Given = token.Return ∷ []

abbrev phase_tokens : ℕ → Phase → List Token
phase_tokens n declarations = []
phase_tokens n statements = []
phase_tokens n declaring = token.Int ∷ []
phase_tokens n declared = token.Int ∷ token.Name n ∷ []
phase_tokens n (assigning x) = token.Name x ∷ []
phase_tokens n looping = token.While ∷ []
phase_tokens n (entering c) = token.While ∷ token.OpenParenthesis ∷ (expr_tokens c ++ token.CloseParenthesis ∷ [])
phase_tokens n printing = token.Putchar ∷ []
phase_tokens n (printed e) = token.Putchar ∷ token.OpenParenthesis ∷ (expr_tokens e ++ token.CloseParenthesis ∷ [])
phase_tokens n (reading u r) = purpose_tokens n u ++ reading_tokens r
phase_tokens n over = token.CloseBrace ∷ []

abbrev state_tokens : Written → Phase → List Token
state_tokens w p = written_tokens w ++ phase_tokens (length w.variables) p

-- The bounds.

abbrev BlocksGood : ℕ → List Block → List Action → Type 0
BlocksGood n [] as' = AreStmts n 200 (actions_of as')
BlocksGood n (b ∷ bs) as' =
    BlocksGood n bs b.before × (length bs < 199) × IsExpr n (199 - length bs) b.condition × AreStmts n (200 - length (b ∷ bs)) (actions_of as')

abbrev WrittenGood : Written → Type 0
WrittenGood w = AreDecls 200 0 w.variables × BlocksGood (length w.variables) w.blocks w.actions

abbrev NoneYet : Written → Type 0
NoneYet w = (w.blocks ≡ []) × (w.actions ≡ [])

abbrev PurposeGood : Written → Purpose → Type 0
PurposeGood w purpose.Initial = NoneYet w
PurposeGood w (purpose.Assigned x) = (length w.blocks < 199) × (x < length w.variables)
PurposeGood w purpose.Condition = length w.blocks < 199
PurposeGood w purpose.Shown = length w.blocks < 199
PurposeGood w purpose.Given = length w.blocks < 199

abbrev room_of : Written → Purpose → ℕ
room_of w purpose.Initial = 200
room_of w (purpose.Assigned x) = 199 - length w.blocks
room_of w purpose.Condition = 199 - length w.blocks
room_of w purpose.Shown = 199 - length w.blocks
room_of w purpose.Given = 199 - length w.blocks

abbrev PhaseGood : Written → Phase → Type 0
PhaseGood w declarations = NoneYet w
PhaseGood w statements = Unit {0}
PhaseGood w declaring = NoneYet w
PhaseGood w declared = NoneYet w
PhaseGood w (assigning x) = x < length w.variables
PhaseGood w looping = Unit {0}
PhaseGood w (entering c) = (length w.blocks < 199) × IsExpr (length w.variables) (199 - length w.blocks) c
PhaseGood w printing = Unit {0}
PhaseGood w (printed e) = (length w.blocks < 199) × IsExpr (length w.variables) (199 - length w.blocks) e
PhaseGood w (reading u r) = PurposeGood w u × ReadingGood (known u (length w.variables)) (room_of w u) r
PhaseGood w over = w.blocks ≡ []

abbrev StateGood : Written → Phase → Type 0
StateGood w p = WrittenGood w × PhaseGood w p

abbrev StepGood : Written → Phase → Token → Option State → Type 0
StepGood w p t None = Unit {0}
StepGood w p t (Some s) = StateGood s.written s.phase × (state_tokens s.written s.phase ≡ state_tokens w p ++ t ∷ [])

-- only the phase changes
phase_only : (w : Written) (p q : Phase) (t : Token) → phase_tokens (length w.variables) q ≡ phase_tokens (length w.variables) p ++ t ∷ []
    → state_tokens w q ≡ state_tokens w p ++ t ∷ []
phase_only w p q t h =
    ap (λ (x : List Token). written_tokens w ++ x) h ∙ sym (append_assoc (written_tokens w) (phase_tokens (length w.variables) p) (t ∷ []))

below_is : (x n : ℕ) → nat_lt x n ≡ true → x < n
below_is x n h = search (arith, h)

same_is : (x n : ℕ) → nat_eq x n ≡ true → x ≡ n
same_is x n h = search (arith, h)

-- Lists grow at their ends.

stmts_last_tokens : (as' : List Action) (a : Action) → stmts_tokens (actions_of (as' ++ a ∷ [])) ≡ stmts_tokens (actions_of as') ++ stmt_tokens a
stmts_last_tokens [] a = append_nothing (stmt_tokens a)
stmts_last_tokens (x ∷ as') a =
    ap (λ (ts : List Token). stmt_tokens x ++ ts) (stmts_last_tokens as' a)
    ∙ sym (append_assoc (stmt_tokens x) (stmts_tokens (actions_of as')) (stmt_tokens a))

stmts_last : (n d : ℕ) (as' : List Action) (a : Action) → AreStmts n d (actions_of as') → IsStmt n d a → AreStmts n d (actions_of (as' ++ a ∷ []))
stmts_last n d [] a g h = (h, tt)
stmts_last n d (x ∷ as') a g h = (g.0, stmts_last n d as' a g.1 h)

blocks_last_tokens : (bs : List Block) (as' : List Action) (a : Action) → blocks_tokens bs (as' ++ a ∷ []) ≡ blocks_tokens bs as' ++ stmt_tokens a
blocks_last_tokens [] as' a = stmts_last_tokens as' a
blocks_last_tokens (b ∷ bs) as' a =
    ap (λ (x : List Token). blocks_tokens bs b.before ++ token.While ∷ token.OpenParenthesis ∷ (expr_tokens b.condition ++ token.CloseParenthesis ∷ token.OpenBrace ∷ x)) (stmts_last_tokens as' a)
    ∙ simp append_assoc

blocks_last : (n : ℕ) (bs : List Block) (as' : List Action) (a : Action) → BlocksGood n bs as' → IsStmt n (200 - length bs) a → BlocksGood n bs (as' ++ a ∷ [])
blocks_last n [] as' a g h = stmts_last n 200 as' a g h
blocks_last n (b ∷ bs) as' a g h = (g.0, g.1, g.2, stmts_last n (200 - length (b ∷ bs)) as' a g.3 h)

abbrev decl_one : ℕ → Option Node → List Token
decl_one x None = token.Int ∷ token.Name x ∷ token.Semicolon ∷ []
decl_one x (Some e) = token.Int ∷ token.Name x ∷ token.Assign ∷ (expr_tokens e ++ token.Semicolon ∷ [])

abbrev DeclGood : ℕ → ℕ → Option Node → Type 0
DeclGood d x None = Unit {0}
DeclGood d x (Some e) = IsExpr (x + 1) d e

decl_first : (x : ℕ) (v : Option Node) → decl_tokens x (v ∷ []) ≡ decl_one x v
decl_first x None = refl
decl_first x (Some e) = refl

longer : (x : ℕ) (v : Option Node) (more : List (Option Node)) → (x + 1) + length more ≡ x + length (v ∷ more)
longer x v more = omega arith

decls_last_tokens : (vs : List (Option Node)) (x : ℕ) (v : Option Node) → decl_tokens x (vs ++ v ∷ []) ≡ decl_tokens x vs ++ decl_one (x + length vs) v
decls_last_tokens [] x v =
    let same : x ≡ x + 0 = omega arith in
    decl_first x v ∙ ap (λ (k : ℕ). decl_one k v) same
decls_last_tokens (None ∷ more) x v =
    let same = longer x None more in
    ap (λ (ts : List Token). token.Int ∷ token.Name x ∷ token.Semicolon ∷ ts) (decls_last_tokens more (x + 1) v ∙ ap (λ (k : ℕ). decl_tokens (x + 1) more ++ decl_one k v) same)
decls_last_tokens ((Some e) ∷ more) x v =
    let same = longer x (Some e) more in
    ap (λ (ts : List Token). token.Int ∷ token.Name x ∷ token.Assign ∷ (expr_tokens e ++ token.Semicolon ∷ ts)) (decls_last_tokens more (x + 1) v ∙ ap (λ (k : ℕ). decl_tokens (x + 1) more ++ decl_one k v) same)
    ∙ simp append_assoc

decl_at : (d x y : ℕ) (v : Option Node) → x ≡ y → DeclGood d x v → DeclGood d y v
decl_at d x y v h g = subst (λ (k : ℕ). DeclGood d k v) h g

decl_only : (d x : ℕ) (v : Option Node) → DeclGood d x v → AreDecls d x (v ∷ [])
decl_only d x None g = tt
decl_only d x (Some e) g = (g, tt)

decls_last : (vs : List (Option Node)) (d x : ℕ) (v : Option Node) → AreDecls d x vs → DeclGood d (x + length vs) v → AreDecls d x (vs ++ v ∷ [])
decls_last [] d x v g h =
    let same : x + 0 ≡ x = omega arith in
    decl_only d x v (decl_at d (x + 0) x v same h)
decls_last (None ∷ more) d x v g h =
    let same = sym (longer x None more) in
    decls_last more d (x + 1) v g (decl_at d _ _ v same h)
decls_last ((Some e) ∷ more) d x v g h =
    let same = sym (longer x (Some e) more) in
    (g.0, decls_last more d (x + 1) v g.1 (decl_at d _ _ v same h))

-- One more declaration.

no_blocks_good : (n : ℕ) (bs : List Block) (as' : List Action) → bs ≡ [] → as' ≡ [] → BlocksGood n bs as'
no_blocks_good n [] [] h k = tt
no_blocks_good n [] (a ∷ as') h k = cc
no_blocks_good n (b ∷ bs) as' h k = cc

no_blocks_tokens : (bs : List Block) (as' : List Action) → bs ≡ [] → as' ≡ [] → blocks_tokens bs as' ≡ []
no_blocks_tokens [] [] h k = refl
no_blocks_tokens [] (a ∷ as') h k = cc
no_blocks_tokens (b ∷ bs) as' h k = cc

variable_good : (w : Written) (p : Phase) (t : Token) (v : Option Node) → WrittenGood w → NoneYet w → DeclGood 200 (length w.variables) v
    → decl_one (length w.variables) v ≡ phase_tokens (length w.variables) p ++ t ∷ []
    → StepGood w p t (with_variable w v)
variable_good w p t v g h k e =
    let same : length w.variables ≡ 0 + length w.variables = omega arith in
    let none = no_blocks_tokens w.blocks w.actions h.0 h.1 in (
      ((decls_last w.variables 200 0 v g.0 (decl_at 200 _ _ v same k), no_blocks_good (length (w.variables ++ v ∷ [])) w.blocks w.actions h.0 h.1), h),
      append_nothing _
          ∙ ap (λ (x : List Token). decl_tokens 0 (w.variables ++ v ∷ []) ++ x) none
          ∙ append_nothing _
          ∙ decls_last_tokens w.variables 0 v
          ∙ ap (λ (k : ℕ). decl_tokens 0 w.variables ++ decl_one k v) (sym same)
          ∙ ap (λ (x : List Token). decl_tokens 0 w.variables ++ x) e
          ∙ sym (append_assoc (decl_tokens 0 w.variables) (phase_tokens (length w.variables) p) (t ∷ []))
          ∙ ap (λ (x : List Token). (x ++ phase_tokens (length w.variables) p) ++ t ∷ []) (sym (append_nothing (decl_tokens 0 w.variables)))
          ∙ ap (λ (x : List Token). ((decl_tokens 0 w.variables ++ x) ++ phase_tokens (length w.variables) p) ++ t ∷ []) (sym none),
    )

-- One more statement.

action_good : (w : Written) (p : Phase) (t : Token) (a : Action) → WrittenGood w → IsStmt (length w.variables) (200 - length w.blocks) a
    → stmt_tokens a ≡ phase_tokens (length w.variables) p ++ t ∷ []
    → StepGood w p t (with_action w a)
action_good w p t a g h e = (
  ((g.0, blocks_last (length w.variables) w.blocks w.actions a g.1 h), tt),
  append_nothing _
      ∙ ap (λ (x : List Token). decl_tokens 0 w.variables ++ x) (blocks_last_tokens w.blocks w.actions a ∙ ap (λ (x : List Token). blocks_tokens w.blocks w.actions ++ x) e)
      ∙ simp append_assoc,
)

one_less : (w : Written) (e : Node) → length w.blocks < 199 → IsExpr (length w.variables) (199 - length w.blocks) e
    → IsExpr (length w.variables) ((200 - length w.blocks) - 1) e
one_less w e h i =
    let same : 199 - length w.blocks ≡ (200 - length w.blocks) - 1 = omega arith in
    subst (λ (d : ℕ). IsExpr (length w.variables) d e) same i

-- The beginning of a statement's expression.

begun_good : (w : Written) (p : Phase) (t : Token) (u : Purpose) (b : Bool) → nat_lt (length w.blocks) 199 ≡ b → WrittenGood w
    → (length w.blocks < 199 → PurposeGood w u) → room_of w u ≡ 199 - length w.blocks
    → purpose_tokens (length w.variables) u ≡ phase_tokens (length w.variables) p ++ t ∷ []
    → StepGood w p t (if b then state w (reading u (at_atom [] (fresh (199 - length w.blocks)))) else None)
begun_good w p t u false s g h r e = tt
begun_good w p t u true s g h r e =
    let small : length w.blocks < 199 = below_is (length w.blocks) 199 s in
    let some : 1 ≤ 199 - length w.blocks = omega arith in (
      (g, (h small, subst (λ (d : ℕ). ReadingGood (known u (length w.variables)) d (at_atom [] (fresh (199 - length w.blocks)))) (sym r) (fresh_good (known u (length w.variables)) (199 - length w.blocks) some))),
      phase_only w p (reading u (at_atom [] (fresh (199 - length w.blocks)))) t (append_nothing (purpose_tokens (length w.variables) u) ∙ e),
    )

named_good : (w : Written) (p : Phase) (x : ℕ) (b : Bool) → nat_lt x (length w.variables) ≡ b → WrittenGood w → phase_tokens (length w.variables) p ≡ []
    → StepGood w p (token.Name x) (if b then state w (assigning x) else None)
named_good w p x false s g e = tt
named_good w p x true s g e =
    ((g, below_is x (length w.variables) s), phase_only w p (assigning x) (token.Name x) (ap (λ (ts : List Token). ts ++ token.Name x ∷ []) (sym e)))

named_new_good : (w : Written) (x : ℕ) (b : Bool) → nat_eq x (length w.variables) ≡ b → WrittenGood w → NoneYet w
    → StepGood w declaring (token.Name x) (if b then state w declared else None)
named_new_good w x false s g h = tt
named_new_good w x true s g h =
    ((g, h), phase_only w declaring declared (token.Name x) (ap (λ (n : ℕ). token.Int ∷ token.Name n ∷ []) (sym (same_is x (length w.variables) s))))

-- The end of a block.

left_good : (vs : List (Option Node)) (bs : List Block) (as' : List Action) (p : Phase)
    → WrittenGood (record { variables = vs; blocks = bs; actions = as' }) → phase_tokens (length vs) p ≡ []
    → StepGood (record { variables = vs; blocks = bs; actions = as' }) p token.CloseBrace (left_block vs bs as')
left_good vs [] as' p g e =
    ((g, refl), phase_only (record { variables = vs; blocks = []; actions = as' }) p over token.CloseBrace (ap (λ (ts : List Token). ts ++ token.CloseBrace ∷ []) (sym e)))
left_good vs (b ∷ bs) as' p g e =
    let w : Written = record { variables = vs; blocks = bs; actions = b.before } in
    let some : 1 ≤ 200 - length bs = omega (arith, g.1.1) in
    let same : 200 - length (b ∷ bs) ≡ (200 - length bs) - 1 = omega arith in
    let body : AreStmts (length vs) ((200 - length bs) - 1) (actions_of as') = subst (λ (d : ℕ). AreStmts (length vs) d (actions_of as')) same g.1.3 in (
      ((g.0, blocks_last (length vs) bs b.before (repeat b.condition (actions_of as')) g.1.0 (some, one_less w b.condition g.1.1 g.1.2, body)), tt),
      append_nothing _
          ∙ ap (λ (x : List Token). decl_tokens 0 vs ++ x) (blocks_last_tokens bs b.before (repeat b.condition (actions_of as')))
          ∙ ap (λ (x : List Token). decl_tokens 0 vs ++ (blocks_tokens bs b.before ++ token.While ∷ token.OpenParenthesis ∷ x))
          (sym (append_assoc (expr_tokens b.condition) (token.CloseParenthesis ∷ token.OpenBrace ∷ stmts_tokens (actions_of as')) (token.CloseBrace ∷ [])))
          ∙ ap (λ (x : List Token). decl_tokens 0 vs ++ x)
          (sym (append_assoc (blocks_tokens bs b.before) (token.While ∷ token.OpenParenthesis ∷ (expr_tokens b.condition ++ token.CloseParenthesis ∷ token.OpenBrace ∷ stmts_tokens (actions_of as'))) (token.CloseBrace ∷ [])))
          ∙ sym (append_assoc (decl_tokens 0 vs) (blocks_tokens (b ∷ bs) as') (token.CloseBrace ∷ []))
          ∙ ap (λ (x : List Token). x ++ token.CloseBrace ∷ []) (sym (append_nothing (decl_tokens 0 vs ++ blocks_tokens (b ∷ bs) as')))
          ∙ ap (λ (x : List Token). ((decl_tokens 0 vs ++ blocks_tokens (b ∷ bs) as') ++ x) ++ token.CloseBrace ∷ []) (sym e),
    )

-- The steps.

abbrev Empty : Written → Phase → Type 0
Empty w p = phase_tokens (length w.variables) p ≡ []

phase_at : (w : Written) (p q : Phase) (t : Token) → Empty w p → phase_tokens (length w.variables) q ≡ t ∷ [] → state_tokens w q ≡ state_tokens w p ++ t ∷ []
phase_at w p q t e h = phase_only w p q t (h ∙ ap (λ (ts : List Token). ts ++ t ∷ []) (sym e))

statement_good : (w : Written) (p : Phase) (t : Token) → WrittenGood w → Empty w p → StepGood w p t (statement_step w t)
statement_good w p (token.Name x) g e = named_good w p x (nat_lt x (length w.variables)) refl g e
statement_good w p token.While g e = ((g, tt), phase_at w p looping token.While e refl)
statement_good w p token.Putchar g e = ((g, tt), phase_at w p printing token.Putchar e refl)
statement_good w p token.Return g e =
    begun_good w p token.Return purpose.Given (nat_lt (length w.blocks) 199) refl g (λ h. h) refl (ap (λ (ts : List Token). ts ++ token.Return ∷ []) (sym e))
statement_good w p token.CloseBrace g e = left_good w.variables w.blocks w.actions p g e
statement_good w p _ g e = tt

declaration_good : (w : Written) (t : Token) → WrittenGood w → NoneYet w → StepGood w declarations t (declaration_step w t)
declaration_good w token.Int g h = ((g, h), phase_at w declarations declaring token.Int refl refl)
declaration_good w (token.Name x) g h = statement_good w declarations (token.Name x) g refl
declaration_good w token.While g h = statement_good w declarations token.While g refl
declaration_good w token.Putchar g h = statement_good w declarations token.Putchar g refl
declaration_good w token.Return g h = statement_good w declarations token.Return g refl
declaration_good w token.CloseBrace g h = statement_good w declarations token.CloseBrace g refl
declaration_good w _ g h = tt

declaring_good : (w : Written) (t : Token) → WrittenGood w → NoneYet w → StepGood w declaring t (declaring_step w t)
declaring_good w (token.Name x) g h = named_new_good w x (nat_eq x (length w.variables)) refl g h
declaring_good w _ g h = tt

declared_good : (w : Written) (t : Token) → WrittenGood w → NoneYet w → StepGood w declared t (declared_step w t)
declared_good w token.Semicolon g h = variable_good w declared token.Semicolon None g h tt refl
declared_good w token.Assign g h =
    let some : 1 ≤ 200 = omega arith in
    ((g, (h, fresh_good (length w.variables + 1) 200 some)), phase_only w declared (reading purpose.Initial (at_atom [] (fresh 200))) token.Assign refl)
declared_good w _ g h = tt

assigning_good : (w : Written) (x : ℕ) (t : Token) → WrittenGood w → x < length w.variables → StepGood w (assigning x) t (assigning_step w x t)
assigning_good w x token.Assign g h =
    begun_good w (assigning x) token.Assign (purpose.Assigned x) (nat_lt (length w.blocks) 199) refl g (λ s. (s, h)) refl refl
assigning_good w x _ g h = tt

looping_good : (w : Written) (t : Token) → WrittenGood w → StepGood w looping t (looping_step w t)
looping_good w token.OpenParenthesis g = begun_good w looping token.OpenParenthesis purpose.Condition (nat_lt (length w.blocks) 199) refl g (λ h. h) refl refl
looping_good w _ g = tt

printing_good : (w : Written) (t : Token) → WrittenGood w → StepGood w printing t (printing_step w t)
printing_good w token.OpenParenthesis g = begun_good w printing token.OpenParenthesis purpose.Shown (nat_lt (length w.blocks) 199) refl g (λ h. h) refl refl
printing_good w _ g = tt

entering_good : (w : Written) (c : Node) (t : Token) → WrittenGood w → PhaseGood w (entering c) → StepGood w (entering c) t (entering_step w c t)
entering_good w c token.OpenBrace g h = (
  ((g.0, (g.1, h.0, h.1, tt)), tt),
  append_nothing _
      ∙ sym (append_assoc (decl_tokens 0 w.variables) (blocks_tokens w.blocks w.actions) (token.While ∷ token.OpenParenthesis ∷ (expr_tokens c ++ token.CloseParenthesis ∷ token.OpenBrace ∷ [])))
      ∙ ap (λ (x : List Token). written_tokens w ++ token.While ∷ token.OpenParenthesis ∷ x) (sym (append_assoc (expr_tokens c) (token.CloseParenthesis ∷ []) (token.OpenBrace ∷ [])))
      ∙ sym (append_assoc (written_tokens w) (phase_tokens (length w.variables) (entering c)) (token.OpenBrace ∷ [])),
)
entering_good w c _ g h = tt

enough : (w : Written) → length w.blocks < 199 → 1 ≤ 200 - length w.blocks
enough w h = omega arith

printed_good : (w : Written) (e : Node) (t : Token) → WrittenGood w → PhaseGood w (printed e) → StepGood w (printed e) t (printed_step w e t)
printed_good w e token.Semicolon g h =
    action_good w (printed e) token.Semicolon (putchar e) g (enough w h.0, one_less w e h.0 h.1)
    (ap (λ (x : List Token). token.Putchar ∷ token.OpenParenthesis ∷ x) (sym (append_assoc (expr_tokens e) (token.CloseParenthesis ∷ []) (token.Semicolon ∷ []))))
printed_good w e _ g h = tt

-- the token behind an expression e, which r has in it
abbrev Ended : Written → Purpose → Reading → Node → Type 0
Ended w u r e = WrittenGood w × PurposeGood w u × IsExpr (known u (length w.variables)) (room_of w u) e × (reading_tokens r ≡ expr_tokens e)

semicolon_good : (w : Written) (u : Purpose) (r : Reading) (e : Node) → Ended w u r e → StepGood w (reading u r) token.Semicolon (semicolon_step w u e)
semicolon_good w purpose.Initial r e h =
    variable_good w (reading purpose.Initial r) token.Semicolon (Some e) h.0 h.1 h.2
    (ap (λ (x : List Token). token.Int ∷ token.Name (length w.variables) ∷ token.Assign ∷ (x ++ token.Semicolon ∷ [])) (sym h.3))
semicolon_good w (purpose.Assigned x) r e h =
    action_good w (reading (purpose.Assigned x) r) token.Semicolon (assign x e) h.0 (h.1.1, enough w h.1.0, one_less w e h.1.0 h.2)
    (ap (λ (y : List Token). token.Name x ∷ token.Assign ∷ (y ++ token.Semicolon ∷ [])) (sym h.3))
semicolon_good w purpose.Condition r e h = tt
semicolon_good w purpose.Shown r e h = tt
semicolon_good w purpose.Given r e h =
    action_good w (reading purpose.Given r) token.Semicolon (give e) h.0 (enough w h.1, one_less w e h.1 h.2)
    (ap (λ (y : List Token). token.Return ∷ (y ++ token.Semicolon ∷ [])) (sym h.3))

parenthesis_good : (w : Written) (u : Purpose) (r : Reading) (e : Node) → Ended w u r e → StepGood w (reading u r) token.CloseParenthesis (parenthesis_step w u e)
parenthesis_good w purpose.Initial r e h = tt
parenthesis_good w (purpose.Assigned x) r e h = tt
parenthesis_good w purpose.Condition r e h = (
  (h.0, (h.1, h.2)),
  phase_only w (reading purpose.Condition r) (entering e) token.CloseParenthesis
      (ap (λ (y : List Token). token.While ∷ token.OpenParenthesis ∷ (y ++ token.CloseParenthesis ∷ [])) (sym h.3)),
)
parenthesis_good w purpose.Shown r e h = (
  (h.0, (h.1, h.2)),
  phase_only w (reading purpose.Shown r) (printed e) token.CloseParenthesis
      (ap (λ (y : List Token). token.Putchar ∷ token.OpenParenthesis ∷ (y ++ token.CloseParenthesis ∷ [])) (sym h.3)),
)
parenthesis_good w purpose.Given r e h = tt

end_good : (w : Written) (u : Purpose) (r : Reading) (e : Node) (t : Token) → Ended w u r e → StepGood w (reading u r) t (end_step w u e t)
end_good w u r e token.Semicolon h = semicolon_good w u r e h
end_good w u r e token.CloseParenthesis h = parenthesis_good w u r e h
end_good w u r e _ h = tt

outcome_good : (w : Written) (u : Purpose) (r : Reading) (t : Token) (o : Outcome) → WrittenGood w → PurposeGood w u
    → StepIs (known u (length w.variables)) (room_of w u) r t o → StepGood w (reading u r) t (outcome_step w u t o)
outcome_good w u r t (goes s) g h k = (
  (g, (h, k.0)),
  phase_only w (reading u r) (reading u s) t
      (ap (λ (x : List Token). purpose_tokens (length w.variables) u ++ x) k.1 ∙ sym (append_assoc (purpose_tokens (length w.variables) u) (reading_tokens r) (t ∷ []))),
)
outcome_good w u r t (ends e) g h k = end_good w u r e t (g, h, k.0, k.1)
outcome_good w u r t wrong g h k = tt

step_good : (w : Written) (p : Phase) (t : Token) → WrittenGood w → PhaseGood w p → StepGood w p t (step w p t)
step_good w declarations t g h = declaration_good w t g h
step_good w statements t g h = statement_good w statements t g refl
step_good w declaring t g h = declaring_good w t g h
step_good w declared t g h = declared_good w t g h
step_good w (assigning x) t g h = assigning_good w x t g h
step_good w looping t g h = looping_good w t g
step_good w (entering c) t g h = entering_good w c t g h
step_good w printing t g h = printing_good w t g
step_good w (printed e) t g h = printed_good w e t g h
step_good w (reading u r) t g h =
    outcome_good w u r t (read_step r (part_of (known u (length w.variables)) t)) g h.0 (read_is (known u (length w.variables)) (room_of w u) r t h.1)
step_good w over t g h = tt

-- The run.

abbrev RunGood : List Token → State → Option State → Type 0
RunGood ts s None = Unit {0}
RunGood ts s (Some r) = StateGood r.written r.phase × (state_tokens r.written r.phase ≡ state_tokens s.written s.phase ++ ts)

run_behind : (ts : List Token) (t : Token) (s r : State) (o : Option State) → state_tokens r.written r.phase ≡ state_tokens s.written s.phase ++ t ∷ []
    → RunGood ts r o → RunGood (t ∷ ts) s o
run_behind ts t s r None e g = tt
run_behind ts t s r (Some q) e g =
    (g.0, g.1 ∙ ap (λ (x : List Token). x ++ ts) e ∙ append_one (state_tokens s.written s.phase) t ts)

run_on : (ts : List Token) (t : Token) (s : State) (o : Option State) → ((r : State) → StateGood r.written r.phase → RunGood ts r (run ts r))
    → StepGood s.written s.phase t o → RunGood (t ∷ ts) s (then_run o (run ts))
run_on ts t s None go h = tt
run_on ts t s (Some r) go h = run_behind ts t s r (run ts r) h.1 (go r h.0)

run_good : (ts : List Token) (s : State) → StateGood s.written s.phase → RunGood ts s (run ts s)
run_good [] s g = (g, sym (append_nothing (state_tokens s.written s.phase)))
run_good (t ∷ ts) s g = run_on ts t s (step s.written s.phase t) (run_good ts) (step_good s.written s.phase t g.0 g.1)

-- The program.

pub record IsProgram (ts : List Token) (p : Program) : Type 0 where
  pub tokens : unit_tokens p ≡ ts
  pub declared : AreDecls 200 0 p.declarations
  pub stated : AreStmts (length p.declarations) 200 p.actions

abbrev pub Programs : List Token → Option Program → Type 0
Programs ts None = Unit {0}
Programs ts (Some p) = IsProgram ts p

abbrev head : List Token → List Token
head ts = token.Int ∷ token.Main ∷ token.OpenParenthesis ∷ token.Void ∷ token.CloseParenthesis ∷ token.OpenBrace ∷ ts

ended_program : (vs : List (Option Node)) (bs : List Block) (as' : List Action) (ts : List Token) → bs ≡ []
    → WrittenGood (record { variables = vs; blocks = bs; actions = as' })
    → (decl_tokens 0 vs ++ blocks_tokens bs as') ++ token.CloseBrace ∷ [] ≡ ts
    → IsProgram (head ts) (record { declarations = vs; actions = actions_of as' })
ended_program vs [] as' ts e g h =
    record { tokens = ap head (sym (append_assoc (decl_tokens 0 vs) (stmts_tokens (actions_of as')) (token.CloseBrace ∷ [])) ∙ h); declared = g.0; stated = g.1 }
ended_program vs (b ∷ bs) as' ts e g h = cc

ended_at : (w : Written) (p : Phase) (ts : List Token) → StateGood w p → state_tokens w p ≡ ts → Programs (head ts) (program_at w p)
ended_at w over ts g h = ended_program w.variables w.blocks w.actions ts g.1 g.0 h
ended_at w _ ts g h = tt

ended_in : (ts : List Token) (o : Option State) → RunGood ts beginning o → Programs (head ts) (program_in o)
ended_in ts None g = tt
ended_in ts (Some s) g = ended_at s.written s.phase ts g.0 g.1

abbrev BodyIs : List Token → Option (List Token) → Type 0
BodyIs ts None = Unit {0}
BodyIs ts (Some inner) = head inner ≡ ts

body_is : (ts : List Token) → BodyIs ts (body_of ts)
body_is (token.Int ∷ token.Main ∷ token.OpenParenthesis ∷ token.Void ∷ token.CloseParenthesis ∷ token.OpenBrace ∷ ts) = refl
body_is _ = tt

program_of_body : (ts : List Token) (o : Option (List Token)) → BodyIs ts o → Programs ts (program_from o)
program_of_body ts None h = tt
program_of_body ts (Some inner) h =
    subst (λ (x : List Token). Programs x (program_in (run inner beginning))) h
    (ended_in inner (run inner beginning) (run_good inner beginning ((tt, tt), (refl, refl))))

-- what is read is a program with just these tokens
pub sound : (ts : List Token) → Programs ts (read_program ts)
sound ts = program_of_body ts (body_of ts) (body_is ts)
