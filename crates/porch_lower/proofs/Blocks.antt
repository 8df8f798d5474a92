-- The commands of lists of statements and declarations, part by part.
use Rattle.std.proofs.Common.{◌≡◌, ℕ, ◌+◌, ◌<◌, List, [], ◌∷◌, ◌++◌, length, drop, get_or, Option, Some, None, refl, sym, ap, ◌∙◌, arith, append_assoc, length-append}
use Rattle.std.specs.Option.{option_map}
use Rattle.porch_syntax.specs.declared.tree.Expr.{Expr}
use Rattle.porch_syntax.specs.declared.tree.Stmt.{Stmt}
use Rattle.porch_syntax.specs.Tree.{Node, node_of, action_of}
use Rattle.porch_flat.specs.declared.flat.Command.{Command}
use Rattle.porch_lower.specs.Code.{into_code, action_code, actions_code, declarations_code}
use Rattle.porch_lower.proofs.Expressions.{from_here}
use Rattle.porch_lower.proofs.Counts.{block, declared}

-- one more statement
pub statement_done : (whole commands after : List Command) (m i : ℕ) (ss : List Stmt) (s : Stmt)
    → commands ++ actions_code m (length commands) (block (drop i ss)) ≡ whole
    → i < length ss → s ≡ get_or ss i s
    → after ≡ commands ++ action_code m (length commands) (action_of s)
    → after ++ actions_code m (length after) (block (drop (i + 1) ss)) ≡ whole
statement_done whole commands after m i ss s w lt is a =
    let here = ap (λ (xs : List Stmt). commands ++ actions_code m (length commands) (block xs)) (from_here ss i s lt is) in
    rw (a, length-append)
    (append_assoc commands (action_code m (length commands) (action_of s)) (actions_code m (length commands + length (action_code m (length commands) (action_of s))) (block (drop (i + 1) ss))) ∙ sym here ∙ w)

-- the next statement's commands are as few as all of them
pub statement_short : (most : ℕ) (whole commands : List Command) (m i : ℕ) (ss : List Stmt) (s : Stmt)
    → commands ++ actions_code m (length commands) (block (drop i ss)) ≡ whole
    → i < length ss → s ≡ get_or ss i s → length whole < most
    → length commands + length (action_code m (length commands) (action_of s)) < most
statement_short most whole commands m i ss s w lt is short =
    let after = commands ++ action_code m (length commands) (action_of s) in
    let all = statement_done whole commands after m i ss s w lt is refl in
    let long = simp length-append at (ap length all) in
    omega (arith, long, short)

-- one more declaration
one_declaration : (m x : ℕ) (d : Option Node) (ds : List (Option Node)) → declarations_code m x (d ∷ ds) ≡ declarations_code m x (d ∷ []) ++ declarations_code m (x + 1) ds
one_declaration m x None ds = refl
one_declaration m x (Some n) ds = sym (append_assoc (into_code n x m) [] (declarations_code m (x + 1) ds))

pub declaration_done : (whole commands after : List Command) (m i : ℕ) (ds : List (Option Expr)) (d : Option Expr)
    → commands ++ declarations_code m i (declared (drop i ds)) ≡ whole
    → i < length ds → d ≡ get_or ds i d
    → after ≡ commands ++ declarations_code m i (option_map node_of d ∷ [])
    → after ++ declarations_code m (i + 1) (declared (drop (i + 1) ds)) ≡ whole
declaration_done whole commands after m i ds d w lt is a =
    let here = ap (λ (xs : List (Option Expr)). commands ++ declarations_code m i (declared xs)) (from_here ds i d lt is) in
    let one = ap (λ (z : List Command). commands ++ z) (one_declaration m i (option_map node_of d) (declared (drop (i + 1) ds))) in
    rw a (append_assoc commands (declarations_code m i (option_map node_of d ∷ [])) (declarations_code m (i + 1) (declared (drop (i + 1) ds))) ∙ sym one ∙ sym here ∙ w)
