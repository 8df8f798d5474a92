-- Temporaries, commands and variables are few where tokens are.
use Rattle.std.proofs.Common.{◌≡◌, ℕ, ◌+◌, ◌*◌, ◌≤◌, List, [], ◌∷◌, length, Option, Some, None, Bool, true, false, refl, arith, length-append}
use Rattle.std.proofs.lemmas.List.{length-replicate}
use Rattle.std.proofs.lemmas.List.Elements.{All-replicate}
use Rattle.porch_syntax.specs.Tree.{Node, variable, whole, character, nested, product, sum, less, Nodes, no_nodes, node, Terms, no_terms, term, Action, assign, repeat, putchar, give, Actions, no_actions, action, Program}
use Rattle.porch_syntax.specs.Language.{expr_tokens, factor_tokens, term_tokens, stmt_tokens, stmts_tokens, decl_tokens, unit_tokens}
use Rattle.porch_flat.specs.declared.flat.Operand.{Operand}
use Rattle.porch_flat.specs.declared.flat.Command.{Command}
use Rattle.porch_flat.specs.Valid.{int_type}
use Rattle.porch_lower.specs.Code.{is_atom, atom_of, commands_or, left_commands, into_code, factors_code, terms_code, operand_code, action_code, actions_code, declarations_code, main_code, temps_of, factors_temps, terms_temps, action_temps, actions_temps, declarations_temps, main_temps}
use Rattle.porch_lower.specs.inside.Programs.{main_function, flat_of}
use Rattle.porch_lower.specs.Lowered.{IsLowered}

-- at most two temporaries a token
mutual
  expr_few : (e : Node) → temps_of e ≤ 2 * length (expr_tokens e)
  expr_few (variable x) = omega arith
  expr_few (whole z) = omega arith
  expr_few (character c) = omega arith
  expr_few (nested e) = let k = expr_few e in simp length-append (omega (arith, k))
  expr_few (product e no_nodes) = let k = expr_few e in simp length-append (omega (arith, k))
  expr_few (product e (node f fs)) = let k = expr_few e in let l = expr_few f in let m = factors_few fs in simp length-append (omega (arith, k, l, m))
  expr_few (sum e no_terms) = let k = expr_few e in simp length-append (omega (arith, k))
  expr_few (sum e (term s f fs)) = let k = expr_few e in let l = expr_few f in let m = terms_few fs in simp length-append (omega (arith, k, l, m))
  expr_few (less a b) = let k = expr_few a in let l = expr_few b in simp length-append (omega (arith, k, l))

  factors_few : (fs : Nodes) → factors_temps fs ≤ 2 * length (factor_tokens fs)
  factors_few no_nodes = omega arith
  factors_few (node e es) = let k = expr_few e in let l = factors_few es in simp length-append (omega (arith, k, l))

  terms_few : (ts : Terms) → terms_temps ts ≤ 2 * length (term_tokens ts)
  terms_few no_terms = omega arith
  terms_few (term s e ts) = let k = expr_few e in let l = terms_few ts in simp length-append (omega (arith, k, l))

mutual
  action_few : (a : Action) → action_temps a ≤ 2 * length (stmt_tokens a)
  action_few (assign x e) = let k = expr_few e in simp length-append (omega (arith, k))
  action_few (repeat e body) = let k = expr_few e in let l = actions_few body in simp length-append (omega (arith, k, l))
  action_few (putchar e) = let k = expr_few e in simp length-append (omega (arith, k))
  action_few (give e) = let k = expr_few e in simp length-append (omega (arith, k))

  actions_few : (as' : Actions) → actions_temps as' ≤ 2 * length (stmts_tokens as')
  actions_few no_actions = omega arith
  actions_few (action a more) = let k = action_few a in let l = actions_few more in simp length-append (omega (arith, k, l))

declarations_few : (x : ℕ) (ds : List (Option Node)) → declarations_temps ds ≤ 2 * length (decl_tokens x ds)
declarations_few x [] = omega arith
declarations_few x (None ∷ ds) = let l = declarations_few (x + 1) ds in omega (arith, l)
declarations_few x ((Some e) ∷ ds) = let k = expr_few e in let l = declarations_few (x + 1) ds in simp length-append (omega (arith, k, l))

pub main_few : (p : Program) → main_temps p ≤ 2 * length (unit_tokens p)
main_few p = let k = declarations_few 0 p.declarations in let l = actions_few p.actions in simp length-append (omega (arith, k, l))

pub lowered : (p : Program) → IsLowered p (flat_of p)
lowered p = record {
  types_are = refl;
  globals_are = refl;
  main = main_function p;
  only = refl;
  named = refl;
  result_is = refl;
  params_are = refl;
  ints = All-replicate (λ ty. ty ≡ int_type) (length p.declarations + main_temps p) int_type refl;
  temporaries = main_temps p;
  counted = length-replicate (length p.declarations + main_temps p) int_type;
  bounded = let k = main_few p in omega (arith, k);
}

-- at most one command a token
some_short : (o : Option Operand) (cs : List Command) → length (commands_or o cs) ≤ length cs
some_short None cs = omega arith
some_short (Some o) cs = omega arith

left_short : (b : Bool) (o : Option Operand) (cs : List Command) → length (left_commands b o cs) ≤ length cs
left_short true o cs = some_short o cs
left_short false o cs = omega arith

mutual
  into_short : (e : Node) (d t : ℕ) → length (into_code e d t) ≤ length (expr_tokens e)
  into_short (variable x) d t = omega arith
  into_short (whole z) d t = omega arith
  into_short (character c) d t = omega arith
  into_short (nested e) d t = let k = into_short e d t in simp length-append (omega (arith, k))
  into_short (product e no_nodes) d t = let k = into_short e d t in simp length-append (omega (arith, k))
  into_short (product e (node f fs)) d t =
      let k = into_short e t (t + 2) in
      let k' = left_short (is_atom f) (atom_of e) (into_code e t (t + 2)) in
      let l = into_short f (t + 1) (t + 2) in
      let l' = some_short (atom_of f) (into_code f (t + 1) (t + 2)) in
      let m = factors_short fs d t in
      simp length-append (omega (arith, k, k', l, l', m))
  into_short (sum e no_terms) d t = let k = into_short e d t in simp length-append (omega (arith, k))
  into_short (sum e (term s f fs)) d t =
      let k = into_short e t (t + 2) in
      let k' = left_short (is_atom f) (atom_of e) (into_code e t (t + 2)) in
      let l = into_short f (t + 1) (t + 2) in
      let l' = some_short (atom_of f) (into_code f (t + 1) (t + 2)) in
      let m = terms_short fs d t in
      simp length-append (omega (arith, k, k', l, l', m))
  into_short (less a b) d t =
      let k = into_short a t (t + 2) in
      let k' = left_short (is_atom b) (atom_of a) (into_code a t (t + 2)) in
      let l = into_short b (t + 1) (t + 2) in
      let l' = some_short (atom_of b) (into_code b (t + 1) (t + 2)) in
      simp length-append (omega (arith, k, k', l, l'))

  factors_short : (fs : Nodes) (d t : ℕ) → length (factors_code fs d t) ≤ length (factor_tokens fs)
  factors_short no_nodes d t = omega arith
  factors_short (node f fs) d t =
      let l = into_short f (t + 1) (t + 2) in
      let l' = some_short (atom_of f) (into_code f (t + 1) (t + 2)) in
      let m = factors_short fs d t in
      simp length-append (omega (arith, l, l', m))

  terms_short : (ts : Terms) (d t : ℕ) → length (terms_code ts d t) ≤ length (term_tokens ts)
  terms_short no_terms d t = omega arith
  terms_short (term s f fs) d t =
      let l = into_short f (t + 1) (t + 2) in
      let l' = some_short (atom_of f) (into_code f (t + 1) (t + 2)) in
      let m = terms_short fs d t in
      simp length-append (omega (arith, l, l', m))

operand_short : (e : Node) (m : ℕ) → length (operand_code e m) ≤ length (expr_tokens e)
operand_short e m = let l = into_short e m (m + 1) in let l' = some_short (atom_of e) (into_code e m (m + 1)) in omega (arith, l, l')

mutual
  action_short : (m p : ℕ) (a : Action) → length (action_code m p a) ≤ length (stmt_tokens a)
  action_short m p (assign x e) = let k = into_short e x m in simp length-append (omega (arith, k))
  action_short m p (repeat e body) = let k = operand_short e m in let l = actions_short m (p + 3) body in simp length-append (omega (arith, k, l))
  action_short m p (putchar e) = let k = operand_short e m in simp length-append (omega (arith, k))
  action_short m p (give e) = let k = operand_short e m in simp length-append (omega (arith, k))

  actions_short : (m p : ℕ) (as' : Actions) → length (actions_code m p as') ≤ length (stmts_tokens as')
  actions_short m p no_actions = omega arith
  actions_short m p (action a more) = let k = action_short m p a in let l = actions_short m (p + length (action_code m p a)) more in simp length-append (omega (arith, k, l))

declarations_short : (m x : ℕ) (ds : List (Option Node)) → length (declarations_code m x ds) ≤ length (decl_tokens x ds)
declarations_short m x [] = omega arith
declarations_short m x (None ∷ ds) = let l = declarations_short m (x + 1) ds in omega (arith, l)
declarations_short m x ((Some e) ∷ ds) = let k = into_short e x m in let l = declarations_short m (x + 1) ds in simp length-append (omega (arith, k, l))

pub main_short : (p : Program) → length (main_code p) ≤ length (unit_tokens p)
main_short p =
    let m = length p.declarations in
    let k = declarations_short m 0 p.declarations in
    let l = actions_short m (length (declarations_code m 0 p.declarations)) p.actions in
    simp length-append (omega (arith, k, l))

variables_few : (x : ℕ) (ds : List (Option Node)) → length ds ≤ length (decl_tokens x ds)
variables_few x [] = omega arith
variables_few x (None ∷ ds) = let l = variables_few (x + 1) ds in omega (arith, l)
variables_few x ((Some e) ∷ ds) = let l = variables_few (x + 1) ds in simp length-append (omega (arith, l))

pub declared_few : (p : Program) → length p.declarations ≤ length (unit_tokens p)
declared_few p = let k = variables_few 0 p.declarations in simp length-append (omega (arith, k))
