-- The tree of a text of the language is one that is lowered.
use Rattle.std.proofs.Common.{ℕ, ◌+◌, ◌-◌, ◌^◌, ◌<◌, ◌≤◌, List, [], ◌∷◌, ◌++◌, length, Option, Some, None, pos, ap, arith, rules, length-append}
use Rattle.std.specs.Prelude.{⊤, IsTrue}
use Rattle.std.proofs.lemmas.Bool.Decides.{nat_tests}
use Rattle.porch_types.specs.declared.shapes.Kind.TheVariants.{Int}
use Rattle.porch_values.specs.Integers.{in_range}
use Rattle.porch_syntax.specs.declared.token.Token.{Token}
use Rattle.porch_syntax.specs.declared.token.Token.TheVariants as token
use Rattle.porch_syntax.specs.Tree.{Node, variable, whole, character, nested, product, sum, less, Nodes, no_nodes, node, Terms, no_terms, term, Action, assign, repeat, putchar, give, Actions, no_actions, action}
use Rattle.porch_syntax.specs.Token.{IsSpelling, is_whole, Spells}
use Rattle.porch_syntax.specs.Language.{expr_tokens, factor_tokens, term_tokens, stmt_tokens, stmts_tokens, decl_tokens, unit_tokens, IsWithin, AreWithin, TermsAreWithin, IsStmt, AreStmts, AreDecls}
use Rattle.porch_lower.specs.Lowered.{IsFit, FactorsFit, TermsFit, ActionFits, ActionsFit, DeclarationsFit, SourcesAreLowerable}
use Rattle.porch_lower.proofs.Few.{main_few, main_short, declared_few}

-- each token takes a byte
one_byte : (cs rest : List ℕ) → IsTrue (is_whole cs rest) → 1 ≤ length cs
one_byte [] rest h = absurd (cc)
one_byte (c ∷ cs) rest h = omega arith

tokens_few : (names : List (List ℕ)) (text : List ℕ) (ts : List Token) → Spells names text ts → length ts ≤ length text
tokens_few names text [] h = omega arith
tokens_few names text (t ∷ ts) h =
    let one = one_byte h.1 h.2 h.6 in
    let more = tokens_few names h.2 ts h.7 in
    let whole' = simp length-append at (ap length h.3) in
    omega (arith, one, more, whole')

-- the constants among tokens are ints
abbrev IsInt : Token → Type 0
IsInt (token.Whole z) = IsTrue (in_range Int 32 z)
IsInt (token.Character c) = IsTrue (in_range Int 32 (pos c))
IsInt _ = ⊤

abbrev AreInts : List Token → Type 0
AreInts [] = ⊤
AreInts (t ∷ ts) = IsInt t × AreInts ts

small_int : (n : ℕ) → n < 2 ^ 31 → IsTrue (in_range Int 32 (pos n))
small_int n h = search rules

token_int : (names : List (List ℕ)) (t : Token) (cs : List ℕ) → IsSpelling names t cs → IsInt t
token_int names token.Int cs h = tt
token_int names token.Main cs h = tt
token_int names token.Void cs h = tt
token_int names token.While cs h = tt
token_int names token.Return cs h = tt
token_int names token.Putchar cs h = tt
token_int names (token.Name x) cs h = tt
token_int names (token.Whole z) cs h = rw h.2 (small_int _ h.1)
token_int names (token.Character c) cs h = small_int c (let k = h.1 in grind (arith, nat_tests, k))
token_int names token.OpenParenthesis cs h = tt
token_int names token.CloseParenthesis cs h = tt
token_int names token.OpenBrace cs h = tt
token_int names token.CloseBrace cs h = tt
token_int names token.Semicolon cs h = tt
token_int names token.Assign cs h = tt
token_int names token.Less cs h = tt
token_int names token.Plus cs h = tt
token_int names token.Minus cs h = tt
token_int names token.Star cs h = tt

spelled_ints : (names : List (List ℕ)) (text : List ℕ) (ts : List Token) → Spells names text ts → AreInts ts
spelled_ints names text [] h = tt
spelled_ints names text (t ∷ ts) h = (token_int names t h.1 h.5, spelled_ints names h.2 ts h.7)

front : (xs ys : List Token) → AreInts (xs ++ ys) → AreInts xs
front [] ys h = tt
front (x ∷ xs) ys h = (h.0, front xs ys h.1)

back : (xs ys : List Token) → AreInts (xs ++ ys) → AreInts ys
back [] ys h = h
back (x ∷ xs) ys h = back xs ys h.1

-- variables that are declared, and constants that are ints
mutual
  expr_fits : (k m : ℕ) (e : Node) → k ≤ m → IsWithin k e → AreInts (expr_tokens e) → IsFit m e
  expr_fits k m (variable x) le h i = omega (arith, le, h)
  expr_fits k m (whole z) le h i = i.0
  expr_fits k m (character c) le h i = i.0
  expr_fits k m (nested e) le h i = expr_fits k m e le h (front (expr_tokens e) (token.CloseParenthesis ∷ []) i.1)
  expr_fits k m (product e es) le h i = (expr_fits k m e le h.0 (front (expr_tokens e) (factor_tokens es) i), factors_fit k m es le h.1 (back (expr_tokens e) (factor_tokens es) i))
  expr_fits k m (sum e ts) le h i = (expr_fits k m e le h.0 (front (expr_tokens e) (term_tokens ts) i), terms_fit k m ts le h.1 (back (expr_tokens e) (term_tokens ts) i))
  expr_fits k m (less a b) le h i = (expr_fits k m a le h.0 (front (expr_tokens a) (token.Less ∷ expr_tokens b) i), expr_fits k m b le h.1 (back (expr_tokens a) (token.Less ∷ expr_tokens b) i).1)

  factors_fit : (k m : ℕ) (es : Nodes) → k ≤ m → AreWithin k es → AreInts (factor_tokens es) → FactorsFit m es
  factors_fit k m no_nodes le h i = tt
  factors_fit k m (node e es) le h i = (expr_fits k m e le h.0 (front (expr_tokens e) (factor_tokens es) i.1), factors_fit k m es le h.1 (back (expr_tokens e) (factor_tokens es) i.1))

  terms_fit : (k m : ℕ) (ts : Terms) → k ≤ m → TermsAreWithin k ts → AreInts (term_tokens ts) → TermsFit m ts
  terms_fit k m no_terms le h i = tt
  terms_fit k m (term s e ts) le h i = (expr_fits k m e le h.0 (front (expr_tokens e) (term_tokens ts) i.1), terms_fit k m ts le h.1 (back (expr_tokens e) (term_tokens ts) i.1))

mutual
  action_fits : (m d : ℕ) (a : Action) → IsStmt m d a → AreInts (stmt_tokens a) → ActionFits m a
  action_fits m d (assign x e) h i = (h.0, expr_fits m m e (omega arith) h.2.within (front (expr_tokens e) (token.Semicolon ∷ []) i.1.1))
  action_fits m d (repeat e body) h i =
      let rest = token.CloseParenthesis ∷ token.OpenBrace ∷ (stmts_tokens body ++ token.CloseBrace ∷ []) in
      let inner : AreInts rest = back (expr_tokens e) rest i.1.1 in
      (expr_fits m m e (omega arith) h.1.within (front (expr_tokens e) rest i.1.1), actions_fit m (d - 1) body h.2 (front (stmts_tokens body) (token.CloseBrace ∷ []) inner.1.1))
  action_fits m d (putchar e) h i = expr_fits m m e (omega arith) h.1.within (front (expr_tokens e) (token.CloseParenthesis ∷ token.Semicolon ∷ []) i.1.1)
  action_fits m d (give e) h i = expr_fits m m e (omega arith) h.1.within (front (expr_tokens e) (token.Semicolon ∷ []) i.1)

  actions_fit : (m d : ℕ) (as' : Actions) → AreStmts m d as' → AreInts (stmts_tokens as') → ActionsFit m as'
  actions_fit m d no_actions h i = tt
  actions_fit m d (action a more) h i = (action_fits m d a h.0 (front (stmt_tokens a) (stmts_tokens more) i), actions_fit m d more h.1 (back (stmt_tokens a) (stmts_tokens more) i))

declarations_fit : (m d x : ℕ) (ds : List (Option Node)) → x + length ds ≤ m → AreDecls d x ds → AreInts (decl_tokens x ds) → DeclarationsFit m ds
declarations_fit m d x [] le h i = tt
declarations_fit m d x (None ∷ ds) le h i = declarations_fit m d (x + 1) ds (omega (arith, le)) h i.1.1.1
declarations_fit m d x ((Some e) ∷ ds) le h i =
    let rest = token.Semicolon ∷ decl_tokens (x + 1) ds in
    (expr_fits (x + 1) m e (omega (arith, le)) h.0.within (front (expr_tokens e) rest i.1.1.1), declarations_fit m d (x + 1) ds (omega (arith, le)) h.1 (back (expr_tokens e) rest i.1.1.1).1)

pub sources : SourcesAreLowerable
sources text p s =
    let ds = decl_tokens 0 p.declarations in
    let rest = stmts_tokens p.actions ++ token.CloseBrace ∷ [] in
    let ints : AreInts (ds ++ rest) = (spelled_ints s.names text (unit_tokens p) s.spelled).1.1.1.1.1.1 in
    let size = tokens_few s.names text (unit_tokens p) s.spelled in
    let temporaries = main_few p in
    let variables = declared_few p in
    let commands = main_short p in
    let small = s.small in
    record {
      declared = declarations_fit (length p.declarations) 200 0 p.declarations (omega arith) s.declared (front ds rest ints);
      stated = actions_fit (length p.declarations) 200 p.actions s.stated (front (stmts_tokens p.actions) (token.CloseBrace ∷ []) (back ds rest ints));
      few = omega (arith, size, temporaries, variables, small);
      short = omega (arith, size, commands, small);
    }
