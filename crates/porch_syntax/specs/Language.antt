-- Which texts are programs, and which tree each of them has.
use Rattle.std.specs.Prelude.{ℕ, ◌≡◌, ◌≢◌, ◌≤◌, ◌<◌, ◌+◌, ◌-◌, ◌^◌, max, List, [], ◌∷◌, ◌++◌, length, IsTrue, Option, Some, None, ⊤}
use Rattle.porch_syntax.specs.declared.token.Token.{Token}
use Rattle.porch_syntax.specs.declared.token.Token.TheVariants as token
use Rattle.porch_syntax.specs.declared.tree.Sign.{Sign}
use Rattle.porch_syntax.specs.declared.tree.Sign.TheVariants as sign
use Rattle.porch_syntax.specs.Tree.{Node, variable, whole, character, nested, product, sum, less, Nodes, no_nodes, node, Terms, no_terms, term, Action, assign, repeat, putchar, give, Actions, no_actions, action, Program}
use Rattle.porch_syntax.specs.Token.{is_name, reserved, Spells}

-- Tokens of a tree, each alternative of the grammar as it is written.

abbrev pub sign_token : Sign → Token
sign_token sign.Plus = token.Plus
sign_token sign.Minus = token.Minus

abbrev mutual
  pub expr_tokens : Node → List Token
  expr_tokens (variable x) = token.Name x ∷ []
  expr_tokens (whole z) = token.Whole z ∷ []
  expr_tokens (character c) = token.Character c ∷ []
  expr_tokens (nested e) = token.OpenParenthesis ∷ (expr_tokens e ++ token.CloseParenthesis ∷ [])
  expr_tokens (product e es) = expr_tokens e ++ factor_tokens es
  expr_tokens (sum e ts) = expr_tokens e ++ term_tokens ts
  expr_tokens (less a b) = expr_tokens a ++ token.Less ∷ expr_tokens b

  pub factor_tokens : Nodes → List Token
  factor_tokens no_nodes = []
  factor_tokens (node e es) = token.Star ∷ (expr_tokens e ++ factor_tokens es)

  pub term_tokens : Terms → List Token
  term_tokens no_terms = []
  term_tokens (term s e ts) = sign_token s ∷ (expr_tokens e ++ term_tokens ts)

abbrev mutual
  pub stmt_tokens : Action → List Token
  stmt_tokens (assign x e) = token.Name x ∷ token.Assign ∷ (expr_tokens e ++ token.Semicolon ∷ [])
  stmt_tokens (repeat e body) =
      token.While ∷ token.OpenParenthesis ∷ (expr_tokens e ++ token.CloseParenthesis ∷ token.OpenBrace ∷ (stmts_tokens body ++ token.CloseBrace ∷ []))
  stmt_tokens (putchar e) = token.Putchar ∷ token.OpenParenthesis ∷ (expr_tokens e ++ token.CloseParenthesis ∷ token.Semicolon ∷ [])
  stmt_tokens (give e) = token.Return ∷ (expr_tokens e ++ token.Semicolon ∷ [])

  pub stmts_tokens : Actions → List Token
  stmts_tokens no_actions = []
  stmts_tokens (action a more) = stmt_tokens a ++ stmts_tokens more

-- the declarations from number x on
abbrev pub decl_tokens : ℕ → List (Option Node) → List Token
decl_tokens x [] = []
decl_tokens x (None ∷ more) = token.Int ∷ token.Name x ∷ token.Semicolon ∷ decl_tokens (x + 1) more
decl_tokens x ((Some e) ∷ more) = token.Int ∷ token.Name x ∷ token.Assign ∷ (expr_tokens e ++ token.Semicolon ∷ decl_tokens (x + 1) more)

abbrev pub unit_tokens : Program → List Token
unit_tokens p =
    token.Int ∷ token.Main ∷ token.OpenParenthesis ∷ token.Void ∷ token.CloseParenthesis ∷ token.OpenBrace
    ∷ (decl_tokens 0 p.declarations ++ (stmts_tokens p.actions ++ token.CloseBrace ∷ []))

-- How tightly an expression binds: a name, a constant and parentheses 3, a product 2, a sum 1, a comparison 0.
abbrev pub binding_of : Node → ℕ
binding_of (variable x) = 3
binding_of (whole z) = 3
binding_of (character c) = 3
binding_of (nested e) = 3
binding_of (product e es) = 2
binding_of (sum e ts) = 1
binding_of (less a b) = 0

-- Each part binds more tightly than the operator beside it. A product and a sum have an operator.
abbrev mutual
  pub IsGrouped : Node → Type 0
  IsGrouped (variable x) = ⊤
  IsGrouped (whole z) = ⊤
  IsGrouped (character c) = ⊤
  IsGrouped (nested e) = IsGrouped e
  IsGrouped (product e es) = (2 < binding_of e) × IsGrouped e × (es ≢ no_nodes) × AreFactors es
  IsGrouped (sum e ts) = (1 < binding_of e) × IsGrouped e × (ts ≢ no_terms) × AreTerms ts
  IsGrouped (less a b) = (0 < binding_of a) × IsGrouped a × (0 < binding_of b) × IsGrouped b

  pub AreFactors : Nodes → Type 0
  AreFactors no_nodes = ⊤
  AreFactors (node e es) = (2 < binding_of e) × IsGrouped e × AreFactors es

  pub AreTerms : Terms → Type 0
  AreTerms no_terms = ⊤
  AreTerms (term s e ts) = (1 < binding_of e) × IsGrouped e × AreTerms ts

-- Each variable is one of the first n.
abbrev mutual
  pub IsWithin : ℕ → Node → Type 0
  IsWithin n (variable x) = x < n
  IsWithin n (whole z) = ⊤
  IsWithin n (character c) = ⊤
  IsWithin n (nested e) = IsWithin n e
  IsWithin n (product e es) = IsWithin n e × AreWithin n es
  IsWithin n (sum e ts) = IsWithin n e × TermsAreWithin n ts
  IsWithin n (less a b) = IsWithin n a × IsWithin n b

  pub AreWithin : ℕ → Nodes → Type 0
  AreWithin n no_nodes = ⊤
  AreWithin n (node e es) = IsWithin n e × AreWithin n es

  pub TermsAreWithin : ℕ → Terms → Type 0
  TermsAreWithin n no_terms = ⊤
  TermsAreWithin n (term s e ts) = IsWithin n e × TermsAreWithin n ts

-- How many uses of expr lie within one another inside an expression, which is none itself here.
abbrev mutual
  pub depth_of : Node → ℕ
  depth_of (variable x) = 0
  depth_of (whole z) = 0
  depth_of (character c) = 0
  depth_of (nested e) = 1 + depth_of e
  depth_of (product e es) = max (depth_of e) (factors_depth es)
  depth_of (sum e ts) = max (depth_of e) (terms_depth ts)
  depth_of (less a b) = max (depth_of a) (depth_of b)

  pub factors_depth : Nodes → ℕ
  factors_depth no_nodes = 0
  factors_depth (node e es) = max (depth_of e) (factors_depth es)

  pub terms_depth : Terms → ℕ
  terms_depth no_terms = 0
  terms_depth (term s e ts) = max (depth_of e) (terms_depth ts)

-- An expression of the language, under n variables and with at most d uses of stmt and expr within one another.
pub record IsExpr (n d : ℕ) (e : Node) : Type 0 where
  pub grouped : IsGrouped e
  pub within : IsWithin n e
  pub shallow : 1 + depth_of e ≤ d

-- Statements likewise; each is one use around its parts.
abbrev mutual
  pub IsStmt : ℕ → ℕ → Action → Type 0
  IsStmt n d (assign x e) = (x < n) × (1 ≤ d) × IsExpr n (d - 1) e
  IsStmt n d (repeat e body) = (1 ≤ d) × IsExpr n (d - 1) e × AreStmts n (d - 1) body
  IsStmt n d (putchar e) = (1 ≤ d) × IsExpr n (d - 1) e
  IsStmt n d (give e) = (1 ≤ d) × IsExpr n (d - 1) e

  pub AreStmts : ℕ → ℕ → Actions → Type 0
  AreStmts n d no_actions = ⊤
  AreStmts n d (action a more) = IsStmt n d a × AreStmts n d more

-- the declarations from number x on: a variable is declared from behind its name on, so its initialiser may read it
abbrev pub AreDecls : ℕ → ℕ → List (Option Node) → Type 0
AreDecls d x [] = ⊤
AreDecls d x (None ∷ more) = AreDecls d (x + 1) more
AreDecls d x ((Some e) ∷ more) = IsExpr (x + 1) d e × AreDecls d (x + 1) more

-- no name is reserved, and none stands twice
abbrev pub IsFresh : List ℕ → List (List ℕ) → Type 0
IsFresh name [] = ⊤
IsFresh name (other ∷ others) = (name ≢ other) × IsFresh name others

abbrev pub AreNames : List (List ℕ) → Type 0
AreNames [] = ⊤
AreNames (name ∷ names) = IsTrue (is_name name) × IsFresh name reserved × IsFresh name names × AreNames names

-- The text is this program: at most 1,048,576 bytes, which spell the program's tokens.
pub record IsSource (text : List ℕ) (p : Program) : Type 0 where
  pub small : length text ≤ 2 ^ 20
  -- the declared names in order
  pub names : List (List ℕ)
  pub named : AreNames names
  pub counted : length names ≡ length p.declarations
  pub spelled : Spells names text (unit_tokens p)
  pub declared : AreDecls 200 0 p.declarations
  pub stated : AreStmts (length p.declarations) 200 p.actions
