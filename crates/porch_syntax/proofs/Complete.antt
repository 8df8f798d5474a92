-- Each program of the language is read from its tokens.
use Rattle.std.proofs.Common.{◌≡◌, ◌≢◌, ℕ, ◌+◌, ◌-◌, ◌<◌, ◌≤◌, true, nat_lt, nat_eq, if◌then◌else◌, List, [], ◌∷◌, ◌++◌, length, Option, Some, None, refl, sym, ap, subst, ◌∙◌, append_assoc, length-append, arith}
use Rattle.porch_syntax.specs.declared.token.Token.{Token}
use Rattle.porch_syntax.specs.declared.token.Token.TheVariants as token
use Rattle.porch_syntax.specs.declared.tree.Sign.{Sign}
use Rattle.porch_syntax.specs.declared.tree.Sign.TheVariants as sign
use Rattle.porch_syntax.specs.declared.expression.Atom.TheVariants as atom
use Rattle.porch_syntax.specs.declared.expression.Part.TheVariants as part
use Rattle.porch_syntax.specs.declared.statement.Purpose.{Purpose}
use Rattle.porch_syntax.specs.declared.statement.Purpose.TheVariants as purpose
use Rattle.porch_syntax.specs.Tree.{Node, variable, whole, character, nested, product, sum, less, Nodes, no_nodes, node, Terms as TermsOf, no_terms, term, Action, assign, repeat, putchar, give, Actions, no_actions, action, Program, terms_of}
use Rattle.porch_syntax.specs.Language.{sign_token, expr_tokens, factor_tokens, term_tokens, stmt_tokens, stmts_tokens, decl_tokens, unit_tokens, binding_of, IsGrouped, AreFactors, AreTerms, IsWithin, AreWithin, TermsAreWithin, depth_of, factors_depth, terms_depth, IsExpr, IsStmt, AreStmts, AreDecls}
use Rattle.porch_syntax.specs.inside.Reading.{Factors, Terms, Front, Frame, Reading, at_atom, behind_atom, goes, wrong, with_factor, product_at, product_of, with_term, sum_of, value_of, fresh, read_step}
use Rattle.porch_syntax.specs.inside.Program.{Written, declarations, statements, declared, assigning, reading, State, known, state, semicolon_step, parenthesis_step, outcome_step, then_run, run, beginning, program_in, read_program}
use Rattle.porch_syntax.proofs.Lists.{nodes_list, nodes_back, terms_list, terms_back, actions_list, actions_back, append_nothing, append_one}

lt_true : (x n : ℕ) → x < n → nat_lt x n ≡ true
lt_true x n h = search arith

eq_true : (x : ℕ) → nat_eq x x ≡ true
eq_true x = search arith

module _ (w : Written) (u : Purpose) where
  -- the run from inside an expression
  abbrev from : List Token → Reading → Option State
  from ts r = run ts (record { written = w; phase = reading u r })

  -- what each expression that binds so tightly is read as
  record Reads (e : Node) : Type 0 where
    atom : 2 < binding_of e → (ts : List Token) (fs : List Frame) (f : Frame) → 1 + depth_of e ≤ f.front.room
        → from (expr_tokens e ++ ts) (at_atom fs f) ≡ from ts (behind_atom fs f.front (with_factor f.factors e))
    product : 1 < binding_of e → (ts : List Token) (fs : List Frame) (f : Front) → 1 + depth_of e ≤ f.room
        → (v : Factors) × (product_of v ≡ e)
        × (from (expr_tokens e ++ ts) (at_atom fs (record { front = f; factors = None })) ≡ from ts (behind_atom fs f v))
    sum : 0 < binding_of e → (ts : List Token) (fs : List Frame) (room : ℕ) (left : Option Node) → 1 + depth_of e ≤ room
        → (t : Option Terms) × (v : Factors) × (sum_of t (product_of v) ≡ e)
        × (from (expr_tokens e ++ ts) (at_atom fs (record { front = record { room = room; left = left; terms = None }; factors = None }))
        ≡ from ts (behind_atom fs (record { room = room; left = left; terms = t }) v))
    any : (ts : List Token) (fs : List Frame) (room : ℕ) → 1 + depth_of e ≤ room
        → (f : Front) × (v : Factors) × (value_of f v ≡ e)
        × (from (expr_tokens e ++ ts) (at_atom fs (fresh room)) ≡ from ts (behind_atom fs f v))

  abbrev Any : Node → Type 0
  Any e = (ts : List Token) (fs : List Frame) (room : ℕ) → 1 + depth_of e ≤ room
      → (f : Front) × (v : Factors) × (value_of f v ≡ e)
      × (from (expr_tokens e ++ ts) (at_atom fs (fresh room)) ≡ from ts (behind_atom fs f v))

  abbrev Sums : Node → Type 0
  Sums e = (ts : List Token) (fs : List Frame) (room : ℕ) (left : Option Node) → 1 + depth_of e ≤ room
      → (t : Option Terms) × (v : Factors) × (sum_of t (product_of v) ≡ e)
      × (from (expr_tokens e ++ ts) (at_atom fs (record { front = record { room = room; left = left; terms = None }; factors = None }))
      ≡ from ts (behind_atom fs (record { room = room; left = left; terms = t }) v))

  abbrev Products : Node → Type 0
  Products e = (ts : List Token) (fs : List Frame) (f : Front) → 1 + depth_of e ≤ f.room
      → (v : Factors) × (product_of v ≡ e)
      × (from (expr_tokens e ++ ts) (at_atom fs (record { front = f; factors = None })) ≡ from ts (behind_atom fs f v))

  abbrev Atoms : Node → Type 0
  Atoms e = (ts : List Token) (fs : List Frame) (f : Frame) → 1 + depth_of e ≤ f.front.room
      → from (expr_tokens e ++ ts) (at_atom fs f) ≡ from ts (behind_atom fs f.front (with_factor f.factors e))

  any_of_sum : (e : Node) → Sums e → Any e
  any_of_sum e s ts fs room h =
      let r = s ts fs room None h in
      (record { room = room; left = None; terms = r.0 }, r.1, r.2, r.3)

  sum_of_product : (e : Node) → Products e → Sums e
  sum_of_product e p ts fs room left h =
      let r = p ts fs (record { room = room; left = left; terms = None }) h in
      (None, r.0, r.1, r.2)

  product_of_atom : (e : Node) → Atoms e → Products e
  product_of_atom e a ts fs f h =
      (record { first = e; more = [] }, refl, a ts fs (record { front = f; factors = None }) h)

  of_atom : (e : Node) → Atoms e → Reads e
  of_atom e a = record {
    atom = λ _. a;
    product = λ _. product_of_atom e a;
    sum = λ _. sum_of_product e (product_of_atom e a);
    any = any_of_sum e (sum_of_product e (product_of_atom e a));
  }

  of_product : (e : Node) → binding_of e ≡ 2 → Products e → Reads e
  of_product e b p = record {
    atom = λ h. absurd (omega arith);
    product = λ _. p;
    sum = λ _. sum_of_product e p;
    any = any_of_sum e (sum_of_product e p);
  }

  of_sum : (e : Node) → binding_of e ≡ 1 → Sums e → Reads e
  of_sum e b s = record {
    atom = λ h. absurd (omega arith);
    product = λ h. absurd (omega arith);
    sum = λ _. s;
    any = any_of_sum e s;
  }

  of_any : (e : Node) → binding_of e ≡ 0 → Any e → Reads e
  of_any e b a = record {
    atom = λ h. absurd (omega arith);
    product = λ h. absurd (omega arith);
    sum = λ h. absurd (omega arith);
    any = a;
  }

  variable_read : (x : ℕ) → x < known u (length w.variables) → Atoms (variable x)
  variable_read x h ts fs f d =
      ap (λ (b : _). then_run (outcome_step w u (token.Name x) (read_step (at_atom fs f) (if b then part.Atom (atom.Variable x) else part.Other))) (run ts))
      (lt_true x _ h)

  sign_read : (s : Sign) (ts : List Token) (fs : List Frame) (f : Front) (v : Factors)
      → from (sign_token s ∷ ts) (behind_atom fs f v)
      ≡ from ts (at_atom fs (record { front = record { room = f.room; left = f.left; terms = Some (with_term f.terms (product_of v) s) }; factors = None }))
  sign_read sign.Plus ts fs f v = refl
  sign_read sign.Minus ts fs f v = refl

  nested_read : (e : Node) → Reads e → Atoms (nested e)
  nested_read e r ts fs f d =
      let inner = r.any (token.CloseParenthesis ∷ ts) (f ∷ fs) (f.front.room - 1) (omega arith) in
      ap (λ (x : List Token). from (token.OpenParenthesis ∷ x) (at_atom fs f)) (append_one (expr_tokens e) token.CloseParenthesis ts)
      ∙ ap (λ (b : _). then_run (outcome_step w u token.OpenParenthesis (if b then goes (at_atom (f ∷ fs) (fresh (f.front.room - 1))) else wrong)) (run (expr_tokens e ++ token.CloseParenthesis ∷ ts)))
      (lt_true 1 f.front.room (omega arith))
      ∙ inner.3
      ∙ ap (λ (x : Node). from ts (behind_atom fs f.front (with_factor f.factors (nested x)))) inner.2

  abbrev grown : Factors → List Node → Factors
  grown v es = record { first = v.first; more = v.more ++ es }

  abbrev FactorsRead : Nodes → Type 0
  FactorsRead es = (ts : List Token) (fs : List Frame) (f : Front) (v : Factors) → 1 + factors_depth es ≤ f.room
      → from (factor_tokens es ++ ts) (behind_atom fs f v) ≡ from ts (behind_atom fs f (grown v (nodes_list es)))

  no_factors : FactorsRead no_nodes
  no_factors ts fs f v d =
      ap (λ (xs : List Node). from ts (behind_atom fs f (record { first = v.first; more = xs }))) (sym (append_nothing v.more))

  more_factors : (e : Node) (es : Nodes) → 2 < binding_of e → Reads e → FactorsRead es → FactorsRead (node e es)
  more_factors e es b r go ts fs f v d =
      let one : 1 + depth_of e ≤ f.room = omega arith in
      let rest : 1 + factors_depth es ≤ f.room = omega arith in
      ap (λ (x : List Token). from (token.Star ∷ x) (behind_atom fs f v)) (append_assoc (expr_tokens e) (factor_tokens es) ts)
      ∙ r.atom b (factor_tokens es ++ ts) fs (record { front = f; factors = Some v }) one
      ∙ go ts fs f (record { first = v.first; more = v.more ++ e ∷ [] }) rest
      ∙ ap (λ (xs : List Node). from ts (behind_atom fs f (record { first = v.first; more = xs }))) (append_one v.more e (nodes_list es))

  product_back : (e : Node) (es : Nodes) → es ≢ no_nodes → product_at e (nodes_list es) ≡ product e es
  product_back e no_nodes h = absurd (h refl)
  product_back e (node x xs) h = ap (λ (ys : Nodes). product e (node x ys)) (nodes_back xs)

  product_read : (e : Node) (es : Nodes) → 2 < binding_of e → es ≢ no_nodes → Reads e → FactorsRead es → Products (product e es)
  product_read e es b some r go ts fs f d =
      let one : 1 + depth_of e ≤ f.room = omega arith in
      let rest : 1 + factors_depth es ≤ f.room = omega arith in (
        record { first = e; more = nodes_list es },
        product_back e es some,
        ap (λ (x : List Token). from x (at_atom fs (record { front = f; factors = None }))) (append_assoc (expr_tokens e) (factor_tokens es) ts)
            ∙ r.atom b (factor_tokens es ++ ts) fs (record { front = f; factors = None }) one
            ∙ go ts fs f (record { first = e; more = [] }) rest,
      )

  abbrev TermsRead : TermsOf → Type 0
  TermsRead ts = (rest : List Token) (fs : List Frame) (room : ℕ) (left : Option Node) (t : Terms) (v : Factors) → 1 + terms_depth ts ≤ room
      → (t' : Terms) × (v' : Factors)
      × (sum_of (Some t') (product_of v') ≡ sum t.first (terms_of ((t.more ++ (t.sign, product_of v) ∷ []) ++ terms_list ts)))
      × (from (term_tokens ts ++ rest) (behind_atom fs (record { room = room; left = left; terms = Some t }) v)
      ≡ from rest (behind_atom fs (record { room = room; left = left; terms = Some t' }) v'))

  no_terms_read : TermsRead no_terms
  no_terms_read rest fs room left t v d =
      (t, v, ap (λ (xs : List (Sign × Node)). sum t.first (terms_of xs)) (sym (append_nothing (t.more ++ (t.sign, product_of v) ∷ []))), refl)

  more_terms_read : (s : Sign) (e : Node) (ts : TermsOf) → 1 < binding_of e → Reads e → TermsRead ts → TermsRead (term s e ts)
  more_terms_read s e ts b r go rest fs room left t v d =
      let one : 1 + depth_of e ≤ room = omega arith in
      let more : 1 + terms_depth ts ≤ room = omega arith in
      let next : Terms = record { first = t.first; more = t.more ++ (t.sign, product_of v) ∷ []; sign = s } in
      let p = r.product b (term_tokens ts ++ rest) fs (record { room = room; left = left; terms = Some next }) one in
      let q = go rest fs room left next p.0 more in (
        q.0,
        q.1,
        q.2 ∙ ap (λ (xs : List (Sign × Node)). sum t.first (terms_of xs))
            (ap (λ (x : Node). ((t.more ++ (t.sign, product_of v) ∷ []) ++ (s, x) ∷ []) ++ terms_list ts) p.1
            ∙ append_one (t.more ++ (t.sign, product_of v) ∷ []) (s, e) (terms_list ts)),
        ap (λ (x : List Token). from (sign_token s ∷ x) (behind_atom fs (record { room = room; left = left; terms = Some t }) v))
            (append_assoc (expr_tokens e) (term_tokens ts) rest)
            ∙ sign_read s (expr_tokens e ++ (term_tokens ts ++ rest)) fs (record { room = room; left = left; terms = Some t }) v
            ∙ p.2 ∙ q.3,
      )

  sum_read : (e : Node) (s : Sign) (e2 : Node) (ts : TermsOf) → 1 < binding_of e → 1 < binding_of e2 → Reads e → Reads e2 → TermsRead ts
      → Sums (sum e (term s e2 ts))
  sum_read e s e2 ts b b2 r r2 go rest fs room left d =
      let zeroth : 1 + depth_of e ≤ room = omega arith in
      let one : 1 + depth_of e2 ≤ room = omega arith in
      let more : 1 + terms_depth ts ≤ room = omega arith in
      let p = r.product b (sign_token s ∷ (expr_tokens e2 ++ (term_tokens ts ++ rest))) fs (record { room = room; left = left; terms = None }) zeroth in
      let next : Terms = record { first = product_of p.0; more = []; sign = s } in
      let p2 = r2.product b2 (term_tokens ts ++ rest) fs (record { room = room; left = left; terms = Some next }) one in
      let q = go rest fs room left next p2.0 more in (
        Some q.0,
        q.1,
        q.2 ∙ ap (λ (x : Node). sum x (term s (product_of p2.0) (terms_of (terms_list ts)))) p.1
            ∙ ap (λ (x : Node). sum e (term s x (terms_of (terms_list ts)))) p2.1
            ∙ ap (λ (xs : TermsOf). sum e (term s e2 xs)) (terms_back ts),
        ap (λ (x : List Token). from x (at_atom fs (record { front = record { room = room; left = left; terms = None }; factors = None })))
            (append_assoc (expr_tokens e) (sign_token s ∷ (expr_tokens e2 ++ term_tokens ts)) rest
            ∙ ap (λ (x : List Token). expr_tokens e ++ (sign_token s ∷ x)) (append_assoc (expr_tokens e2) (term_tokens ts) rest))
            ∙ p.2
            ∙ sign_read s (expr_tokens e2 ++ (term_tokens ts ++ rest)) fs (record { room = room; left = left; terms = None }) p.0
            ∙ p2.2 ∙ q.3,
      )

  abbrev SumMore : TermsOf → Type 0
  SumMore no_terms = Unit {0}
  SumMore (term s e ts) = (1 < binding_of e) × Reads e × TermsRead ts

  sum_at : (e : Node) (ts : TermsOf) → 1 < binding_of e → ts ≢ no_terms → Reads e → SumMore ts → Sums (sum e ts)
  sum_at e no_terms b h r go = absurd (h refl)
  sum_at e (term s e2 more) b h r go = sum_read e s e2 more b go.0 r go.1 go.2

  less_read : (a b : Node) → 0 < binding_of a → 0 < binding_of b → Reads a → Reads b → Any (less a b)
  less_read a b ba bb ra rb ts fs room d =
      let da : 1 + depth_of a ≤ room = omega arith in
      let db : 1 + depth_of b ≤ room = omega arith in
      let p = ra.sum ba (token.Less ∷ (expr_tokens b ++ ts)) fs room None da in
      let q = rb.sum bb ts fs room (Some (sum_of p.0 (product_of p.1))) db in (
        record { room = room; left = Some (sum_of p.0 (product_of p.1)); terms = q.0 },
        q.1,
        ap (λ (x : Node). less x (sum_of q.0 (product_of q.1))) p.2 ∙ ap (less a) q.2,
        ap (λ (x : List Token). from x (at_atom fs (fresh room))) (append_assoc (expr_tokens a) (token.Less ∷ expr_tokens b) ts)
            ∙ p.3 ∙ q.3,
      )

  abbrev mutual
    reads : (e : Node) → IsGrouped e → IsWithin (known u (length w.variables)) e → Reads e
    reads (variable x) g h = of_atom (variable x) (variable_read x h)
    reads (whole z) g h = of_atom (whole z) (λ ts fs f d. refl)
    reads (character c) g h = of_atom (character c) (λ ts fs f d. refl)
    reads (nested e) g h = of_atom (nested e) (nested_read e (reads e g h))
    reads (product e es) g h =
        of_product (product e es) refl (product_read e es g.0 g.2 (reads e g.1 h.0) (factors_read es g.3 h.1))
    reads (sum e ts) g h = of_sum (sum e ts) refl (sum_at e ts g.0 g.2 (reads e g.1 h.0) (sum_more ts g.3 h.1))
    reads (less a b) g h = of_any (less a b) refl (less_read a b g.0 g.2 (reads a g.1 h.0) (reads b g.3 h.1))

    factors_read : (es : Nodes) → AreFactors es → AreWithin (known u (length w.variables)) es → FactorsRead es
    factors_read no_nodes g h = no_factors
    factors_read (node e es) g h = more_factors e es g.0 (reads e g.1 h.0) (factors_read es g.2 h.1)

    sum_more : (ts : TermsOf) → AreTerms ts → TermsAreWithin (known u (length w.variables)) ts → SumMore ts
    sum_more no_terms g h = tt
    sum_more (term s e ts) g h = (g.0, reads e g.1 h.0, terms_read_all ts g.2 h.1)

    terms_read_all : (ts : TermsOf) → AreTerms ts → TermsAreWithin (known u (length w.variables)) ts → TermsRead ts
    terms_read_all no_terms g h = no_terms_read
    terms_read_all (term s e ts) g h = more_terms_read s e ts g.0 (reads e g.1 h.0) (terms_read_all ts g.2 h.1)

  -- an expression and the `;` or `)` behind it
  to_semicolon : (e : Node) (room : ℕ) → IsExpr (known u (length w.variables)) room e → (ts : List Token)
      → from (expr_tokens e ++ token.Semicolon ∷ ts) (at_atom [] (fresh room)) ≡ then_run (semicolon_step w u e) (run ts)
  to_semicolon e room i ts =
      let r = (reads e i.grouped i.within).any (token.Semicolon ∷ ts) [] room i.shallow in
      r.3 ∙ ap (λ (x : Node). then_run (semicolon_step w u x) (run ts)) r.2

  to_parenthesis : (e : Node) (room : ℕ) → IsExpr (known u (length w.variables)) room e → (ts : List Token)
      → from (expr_tokens e ++ token.CloseParenthesis ∷ ts) (at_atom [] (fresh room)) ≡ then_run (parenthesis_step w u e) (run ts)
  to_parenthesis e room i ts =
      let r = (reads e i.grouped i.within).any (token.CloseParenthesis ∷ ts) [] room i.shallow in
      r.3 ∙ ap (λ (x : Node). then_run (parenthesis_step w u x) (run ts)) r.2

-- the run at whole statements
abbrev stated : Written → List Token → Option State
stated w ts = run ts (record { written = w; phase = statements })

abbrev with_actions : Written → List Action → Written
with_actions w as' = record { variables = w.variables; blocks = w.blocks; actions = w.actions ++ as' }

-- Where the room is enough, an expression begins.
begun_room : (w : Written) (u : Purpose) (d n : ℕ) (e : Node) → d + length w.blocks ≡ 200 → 1 ≤ d → IsExpr n (d - 1) e
    → (t : Token) (ts : List Token)
    → then_run (if nat_lt (length w.blocks) 199 then state w (reading u (at_atom [] (fresh (199 - length w.blocks)))) else None) (run ts)
    ≡ run ts (record { written = w; phase = reading u (at_atom [] (fresh (d - 1))) })
begun_room w u d n e s h i t ts =
    let small : length w.blocks < 199 = omega (arith, i.shallow) in
    let same : 199 - length w.blocks ≡ d - 1 = omega arith in
    ap (λ (b : _). then_run (if b then state w (reading u (at_atom [] (fresh (199 - length w.blocks)))) else None) (run ts)) (lt_true (length w.blocks) 199 small)
    ∙ ap (λ (r : ℕ). run ts (record { written = w; phase = reading u (at_atom [] (fresh r)) })) same

named_room : (w : Written) (x : ℕ) (ts : List Token) → x < length w.variables
    → then_run (if nat_lt x (length w.variables) then state w (assigning x) else None) (run ts) ≡ run ts (record { written = w; phase = assigning x })
named_room w x ts h = ap (λ (b : _). then_run (if b then state w (assigning x) else None) (run ts)) (lt_true x (length w.variables) h)

abbrev StmtRead : Action → Type 0
StmtRead a = (w : Written) (d : ℕ) → d + length w.blocks ≡ 200 → IsStmt (length w.variables) d a → (ts : List Token)
    → stated w (stmt_tokens a ++ ts) ≡ stated (with_actions w (a ∷ [])) ts

abbrev StmtsRead : Actions → Type 0
StmtsRead as' = (w : Written) (d : ℕ) → d + length w.blocks ≡ 200 → AreStmts (length w.variables) d as' → (ts : List Token)
    → stated w (stmts_tokens as' ++ ts) ≡ stated (with_actions w (actions_list as')) ts

assign_read : (x : ℕ) (e : Node) → StmtRead (assign x e)
assign_read x e w d s i ts =
    named_room w x (token.Assign ∷ ((expr_tokens e ++ token.Semicolon ∷ []) ++ ts)) i.0
    ∙ begun_room w (purpose.Assigned x) d (length w.variables) e s i.1 i.2 token.Assign ((expr_tokens e ++ token.Semicolon ∷ []) ++ ts)
    ∙ ap (λ (xs : List Token). run xs (record { written = w; phase = reading (purpose.Assigned x) (at_atom [] (fresh (d - 1))) })) (append_one (expr_tokens e) token.Semicolon ts)
    ∙ to_semicolon w (purpose.Assigned x) e (d - 1) i.2 ts

give_read : (e : Node) → StmtRead (give e)
give_read e w d s i ts =
    begun_room w purpose.Given d (length w.variables) e s i.0 i.1 token.Return ((expr_tokens e ++ token.Semicolon ∷ []) ++ ts)
    ∙ ap (λ (xs : List Token). run xs (record { written = w; phase = reading purpose.Given (at_atom [] (fresh (d - 1))) })) (append_one (expr_tokens e) token.Semicolon ts)
    ∙ to_semicolon w purpose.Given e (d - 1) i.1 ts

putchar_read : (e : Node) → StmtRead (putchar e)
putchar_read e w d s i ts =
    begun_room w purpose.Shown d (length w.variables) e s i.0 i.1 token.OpenParenthesis ((expr_tokens e ++ token.CloseParenthesis ∷ token.Semicolon ∷ []) ++ ts)
    ∙ ap (λ (xs : List Token). run xs (record { written = w; phase = reading purpose.Shown (at_atom [] (fresh (d - 1))) })) (append_assoc (expr_tokens e) (token.CloseParenthesis ∷ token.Semicolon ∷ []) ts)
    ∙ to_parenthesis w purpose.Shown e (d - 1) i.1 (token.Semicolon ∷ ts)

repeat_read : (e : Node) (body : Actions) → StmtsRead body → StmtRead (repeat e body)
repeat_read e body go w d s i ts =
    let inner : Written = record { variables = w.variables; blocks = record { condition = e; before = w.actions } ∷ w.blocks; actions = [] } in
    let deeper : (d - 1) + length inner.blocks ≡ 200 = omega (arith, i.0) in
    let tail : List Token = token.OpenBrace ∷ (stmts_tokens body ++ token.CloseBrace ∷ []) in
    begun_room w purpose.Condition d (length w.variables) e s i.0 i.1 token.OpenParenthesis ((expr_tokens e ++ token.CloseParenthesis ∷ tail) ++ ts)
    ∙ ap (λ (xs : List Token). run xs (record { written = w; phase = reading purpose.Condition (at_atom [] (fresh (d - 1))) })) (append_assoc (expr_tokens e) (token.CloseParenthesis ∷ tail) ts)
    ∙ to_parenthesis w purpose.Condition e (d - 1) i.1 (tail ++ ts)
    ∙ ap (stated inner) (append_one (stmts_tokens body) token.CloseBrace ts)
    ∙ go inner (d - 1) deeper i.2 (token.CloseBrace ∷ ts)
    ∙ ap (λ (as' : Actions). stated (with_actions w (repeat e as' ∷ [])) ts) (actions_back body)

no_stmts_read : StmtsRead no_actions
no_stmts_read w d s i ts =
    ap (λ (xs : List Action). stated (record { variables = w.variables; blocks = w.blocks; actions = xs }) ts) (sym (append_nothing w.actions))

more_stmts_read : (a : Action) (more : Actions) → StmtRead a → StmtsRead more → StmtsRead (action a more)
more_stmts_read a more one go w d s i ts =
    ap (stated w) (append_assoc (stmt_tokens a) (stmts_tokens more) ts)
    ∙ one w d s i.0 (stmts_tokens more ++ ts)
    ∙ go (with_actions w (a ∷ [])) d s i.1 ts
    ∙ ap (λ (xs : List Action). stated (record { variables = w.variables; blocks = w.blocks; actions = xs }) ts) (append_one w.actions a (actions_list more))

abbrev mutual
  stmt_read : (a : Action) → StmtRead a
  stmt_read (assign x e) = assign_read x e
  stmt_read (repeat e body) = repeat_read e body (stmts_read body)
  stmt_read (putchar e) = putchar_read e
  stmt_read (give e) = give_read e

  stmts_read : (as' : Actions) → StmtsRead as'
  stmts_read no_actions = no_stmts_read
  stmts_read (action a more) = more_stmts_read a more (stmt_read a) (stmts_read more)

-- the run at declarations
abbrev declared_at : Written → List Token → Option State
declared_at w ts = run ts (record { written = w; phase = declarations })

abbrev with_variables : Written → List (Option Node) → Written
with_variables w vs = record { variables = w.variables ++ vs; blocks = w.blocks; actions = w.actions }

named_new_room : (w : Written) (x : ℕ) (ts : List Token) → x ≡ length w.variables
    → then_run (if nat_eq x (length w.variables) then state w declared else None) (run ts) ≡ run ts (record { written = w; phase = declared })
named_new_room w x ts h =
    ap (λ (b : _). then_run (if b then state w declared else None) (run ts)) (ap (λ (y : ℕ). nat_eq y (length w.variables)) h ∙ eq_true (length w.variables))

next_length : (w : Written) (x : ℕ) (v : Option Node) → x ≡ length w.variables → x + 1 ≡ length (w.variables ++ v ∷ [])
next_length w x v h = simp length-append (omega arith)

decls_read : (vs : List (Option Node)) (w : Written) (x : ℕ) → x ≡ length w.variables → AreDecls 200 x vs → (ts : List Token)
    → declared_at w (decl_tokens x vs ++ ts) ≡ declared_at (with_variables w vs) ts
decls_read [] w x h i ts =
    ap (λ (xs : List (Option Node)). declared_at (record { variables = xs; blocks = w.blocks; actions = w.actions }) ts) (sym (append_nothing w.variables))
decls_read (None ∷ more) w x h i ts =
    named_new_room w x (token.Semicolon ∷ (decl_tokens (x + 1) more ++ ts)) h
    ∙ decls_read more (with_variables w (None ∷ [])) (x + 1) (next_length w x None h) i ts
    ∙ ap (λ (xs : List (Option Node)). declared_at (record { variables = xs; blocks = w.blocks; actions = w.actions }) ts) (append_one w.variables None more)
decls_read ((Some e) ∷ more) w x h i ts =
    let within : IsExpr (length w.variables + 1) 200 e = subst (λ (y : ℕ). IsExpr (y + 1) 200 e) h i.0 in
    named_new_room w x (token.Assign ∷ ((expr_tokens e ++ token.Semicolon ∷ decl_tokens (x + 1) more) ++ ts)) h
    ∙ ap (λ (xs : List Token). run xs (record { written = w; phase = reading purpose.Initial (at_atom [] (fresh 200)) })) (append_assoc (expr_tokens e) (token.Semicolon ∷ decl_tokens (x + 1) more) ts)
    ∙ to_semicolon w purpose.Initial e 200 within (decl_tokens (x + 1) more ++ ts)
    ∙ decls_read more (with_variables w (Some e ∷ [])) (x + 1) (next_length w x (Some e) h) i.1 ts
    ∙ ap (λ (xs : List (Option Node)). declared_at (record { variables = xs; blocks = w.blocks; actions = w.actions }) ts) (append_one w.variables (Some e) more)

-- The statements begin where no declaration comes.
turned : (as' : Actions) (w : Written) → declared_at w (stmts_tokens as' ++ token.CloseBrace ∷ []) ≡ stated w (stmts_tokens as' ++ token.CloseBrace ∷ [])
turned no_actions w = refl
turned (action (assign x e) more) w = refl
turned (action (repeat e body) more) w = refl
turned (action (putchar e) more) w = refl
turned (action (give e) more) w = refl

pub complete : (p : Program) → AreDecls 200 0 p.declarations → AreStmts (length p.declarations) 200 p.actions → read_program (unit_tokens p) ≡ Some p
complete p d s =
    let w : Written = record { variables = p.declarations; blocks = []; actions = [] } in
    ap program_in
    (decls_read p.declarations beginning.written 0 refl d (stmts_tokens p.actions ++ token.CloseBrace ∷ [])
    ∙ turned p.actions w
    ∙ stmts_read p.actions w 200 refl s (token.CloseBrace ∷ []))
    ∙ ap (λ (as' : Actions). Some (record { declarations = p.declarations; actions = as' })) (actions_back p.actions)
