-- The names of a program stand in order of first occurrence.
use Rattle.std.proofs.Common.{◌≡◌, ℕ, ◌+◌, ◌-◌, ◌<◌, ◌⊎◌, inl, inr, List, [], ◌∷◌, ◌++◌, length, Option, Some, None, refl, sym, subst, ◌∙◌, append_assoc, arith}
use Rattle.porch_syntax.specs.declared.token.Token.{Token}
use Rattle.porch_syntax.specs.declared.token.Token.TheVariants as token
use Rattle.porch_syntax.specs.declared.tree.Sign.{Sign}
use Rattle.porch_syntax.specs.declared.tree.Sign.TheVariants as sign
use Rattle.porch_syntax.specs.Tree.{Node, variable, whole, character, nested, product, sum, less, Nodes, no_nodes, node, Terms, no_terms, term, Action, assign, repeat, putchar, give, Actions, no_actions, action, Program}
use Rattle.porch_syntax.specs.Language.{sign_token, expr_tokens, factor_tokens, term_tokens, stmt_tokens, stmts_tokens, decl_tokens, unit_tokens, IsWithin, AreWithin, TermsAreWithin, IsStmt, AreStmts, AreDecls}

-- behind k names, these tokens bring the names up to m
abbrev pub Numbered : ℕ → ℕ → List Token → Type 0
Numbered k m [] = k ≡ m
Numbered k m (token.Name x ∷ ts) = ((x < k) × Numbered k m ts) ⊎ ((x ≡ k) × Numbered (k + 1) m ts)
Numbered k m (t ∷ ts) = Numbered k m ts

-- tokens that bring no new name
abbrev Keeps : ℕ → List Token → Type 0
Keeps n ts = (m : ℕ) (rest : List Token) → Numbered n m rest → Numbered n m (ts ++ rest)

both : (n : ℕ) (as' bs : List Token) → Keeps n as' → Keeps n bs → Keeps n (as' ++ bs)
both n as' bs f g m rest h = subst (λ (x : List Token). Numbered n m x) (sym (append_assoc as' bs rest)) (f m (bs ++ rest) (g m rest h))

signed : (n : ℕ) (s : Sign) (ts : List Token) → Keeps n ts → Keeps n (sign_token s ∷ ts)
signed n sign.Plus ts f = f
signed n sign.Minus ts f = f

none : (n : ℕ) → Keeps n []
none n m rest h = h

abbrev mutual
  expr_keeps : (n : ℕ) (e : Node) → IsWithin n e → Keeps n (expr_tokens e)
  expr_keeps n (variable x) h = λ m rest r. inl (h, r)
  expr_keeps n (whole z) h = λ m rest r. r
  expr_keeps n (character c) h = λ m rest r. r
  expr_keeps n (nested e) h = both n (expr_tokens e) (token.CloseParenthesis ∷ []) (expr_keeps n e h) (none n)
  expr_keeps n (product e es) h = both n (expr_tokens e) (factor_tokens es) (expr_keeps n e h.0) (factors_keep n es h.1)
  expr_keeps n (sum e ts) h = both n (expr_tokens e) (term_tokens ts) (expr_keeps n e h.0) (terms_keep n ts h.1)
  expr_keeps n (less a b) h = both n (expr_tokens a) (token.Less ∷ expr_tokens b) (expr_keeps n a h.0) (expr_keeps n b h.1)

  factors_keep : (n : ℕ) (es : Nodes) → AreWithin n es → Keeps n (factor_tokens es)
  factors_keep n no_nodes h = none n
  factors_keep n (node e es) h = both n (expr_tokens e) (factor_tokens es) (expr_keeps n e h.0) (factors_keep n es h.1)

  terms_keep : (n : ℕ) (ts : Terms) → TermsAreWithin n ts → Keeps n (term_tokens ts)
  terms_keep n no_terms h = none n
  terms_keep n (term s e ts) h = signed n s (expr_tokens e ++ term_tokens ts) (both n (expr_tokens e) (term_tokens ts) (expr_keeps n e h.0) (terms_keep n ts h.1))

abbrev mutual
  stmt_keeps : (n d : ℕ) (a : Action) → IsStmt n d a → Keeps n (stmt_tokens a)
  stmt_keeps n d (assign x e) h = λ m rest r. inl (h.0, both n (expr_tokens e) (token.Semicolon ∷ []) (expr_keeps n e h.2.within) (none n) m rest r)
  stmt_keeps n d (repeat e body) h =
      both n (expr_tokens e) (token.CloseParenthesis ∷ token.OpenBrace ∷ (stmts_tokens body ++ token.CloseBrace ∷ [])) (expr_keeps n e h.1.within)
      (both n (stmts_tokens body) (token.CloseBrace ∷ []) (stmts_keep n (d - 1) body h.2) (none n))
  stmt_keeps n d (putchar e) h = both n (expr_tokens e) (token.CloseParenthesis ∷ token.Semicolon ∷ []) (expr_keeps n e h.1.within) (none n)
  stmt_keeps n d (give e) h = both n (expr_tokens e) (token.Semicolon ∷ []) (expr_keeps n e h.1.within) (none n)

  stmts_keep : (n d : ℕ) (as' : Actions) → AreStmts n d as' → Keeps n (stmts_tokens as')
  stmts_keep n d no_actions h = none n
  stmts_keep n d (action a more) h = both n (stmt_tokens a) (stmts_tokens more) (stmt_keeps n d a h.0) (stmts_keep n d more h.1)

numbered_from : (x y m : ℕ) (ts : List Token) → x ≡ y → Numbered x m ts → Numbered y m ts
numbered_from x y m ts h n = subst (λ (k : ℕ). Numbered k m ts) h n

longer : (x : ℕ) (v : Option Node) (more : List (Option Node)) → x + length (v ∷ more) ≡ (x + 1) + length more
longer x v more = omega arith

decls_number : (vs : List (Option Node)) (d x m : ℕ) → AreDecls d x vs → (rest : List Token) → Numbered (x + length vs) m rest → Numbered x m (decl_tokens x vs ++ rest)
decls_number [] d x m g rest h =
    let same : x + 0 ≡ x = omega arith in
    numbered_from (x + 0) x m rest same h
decls_number (None ∷ more) d x m g rest h =
    let same = longer x None more in
    inr (refl, decls_number more d (x + 1) m g rest (numbered_from _ _ m rest same h))
decls_number ((Some e) ∷ more) d x m g rest h =
    let same = longer x (Some e) more in
    inr (
      refl,
      subst (λ (ts : List Token). Numbered (x + 1) m ts) (sym (append_assoc (expr_tokens e) (token.Semicolon ∷ decl_tokens (x + 1) more) rest))
          (expr_keeps (x + 1) e g.0.within m (token.Semicolon ∷ (decl_tokens (x + 1) more ++ rest)) (decls_number more d (x + 1) m g.1 rest (numbered_from _ _ m rest same h))),
    )

-- the names of a program are those of its declarations
pub program_number : (p : Program) → AreDecls 200 0 p.declarations → AreStmts (length p.declarations) 200 p.actions → Numbered 0 (length p.declarations) (unit_tokens p)
program_number p d s =
    let same : length p.declarations ≡ 0 + length p.declarations = omega arith in
    decls_number p.declarations 200 0 (length p.declarations) d (stmts_tokens p.actions ++ token.CloseBrace ∷ [])
    (numbered_from _ _ (length p.declarations) (stmts_tokens p.actions ++ token.CloseBrace ∷ []) same
    (stmts_keep (length p.declarations) 200 p.actions s (length p.declarations) (token.CloseBrace ∷ []) refl))

-- there is one such number
pub one_number : (ts : List Token) (k m m' : ℕ) → Numbered k m ts → Numbered k m' ts → m ≡ m'
one_number [] k m m' g h = sym g ∙ h
one_number (token.Name x ∷ ts) k m m' (inl g) (inl h) = one_number ts k m m' g.1 h.1
one_number (token.Name x ∷ ts) k m m' (inl g) (inr h) = absurd (omega (arith, g.0, h.0))
one_number (token.Name x ∷ ts) k m m' (inr g) (inl h) = absurd (omega (arith, g.0, h.0))
one_number (token.Name x ∷ ts) k m m' (inr g) (inr h) = one_number ts (k + 1) m m' g.1 h.1
one_number (t ∷ ts) k m m' g h = one_number ts k m m' g h
