-- The temporaries of lists, part by part.
use Rattle.std.proofs.Common.{◌≡◌, ℕ, max, ◌+◌, ◌<◌, ◌≤◌, List, [], ◌∷◌, length, map, drop, get_or, Option, Some, None, refl, ap, ◌∙◌, arith}
use Rattle.std.specs.Option.{option_map}
use Rattle.porch_syntax.specs.declared.tree.Sign.{Sign}
use Rattle.porch_syntax.specs.declared.tree.Expr.{Expr}
use Rattle.porch_syntax.specs.declared.tree.Expr.TheVariants.{Product, Sum}
use Rattle.porch_syntax.specs.declared.tree.Stmt.{Stmt}
use Rattle.porch_syntax.specs.Tree.{Node, product, sum, node_of, action_of, Actions, actions_of}
use Rattle.porch_lower.specs.Code.{temps_of, factors_temps, terms_temps, action_temps, actions_temps, declarations_temps}
use Rattle.porch_lower.proofs.Views.{node_of-Product, node_of-Sum}
use Rattle.porch_lower.proofs.Expressions.{row, term_row, from_here}

-- the tree's statements and declarations as plain data
abbrev pub block : List Stmt → Actions
block ss = actions_of (map action_of ss)

abbrev pub declared : List (Option Expr) → List (Option Node)
declared ds = map (option_map node_of) ds

one_factor : (more : List Expr) (n : Node) → length more < 1 → temps_of (product n (row more)) ≡ temps_of n
one_factor [] n h = refl
one_factor (x ∷ xs) n h = absurd (omega (arith, h))

more_factors : (more : List Expr) (n : Node) → 1 ≤ length more → temps_of (product n (row more)) ≡ max (temps_of n) (factors_temps (row more)) + 2
more_factors [] n h = absurd (omega (arith, h))
more_factors (x ∷ xs) n h = refl

one_term : (more : List (Sign × Expr)) (n : Node) → length more < 1 → temps_of (sum n (term_row more)) ≡ temps_of n
one_term [] n h = refl
one_term (x ∷ xs) n h = absurd (omega (arith, h))

more_terms : (more : List (Sign × Expr)) (n : Node) → 1 ≤ length more → temps_of (sum n (term_row more)) ≡ max (temps_of n) (terms_temps (term_row more)) + 2
more_terms [] n h = absurd (omega (arith, h))
more_terms (x ∷ xs) n h = refl

pub product_alone : (e first : Expr) (more : List Expr) → e ≡ Product first more → length more < 1 → temps_of (node_of e) ≡ temps_of (node_of first)
product_alone e first more h s = ap temps_of (node_of-Product e first more h) ∙ one_factor more (node_of first) s

pub product_row : (e first : Expr) (more : List Expr) → e ≡ Product first more → 1 ≤ length more → temps_of (node_of e) ≡ max (temps_of (node_of first)) (factors_temps (row more)) + 2
product_row e first more h s = ap temps_of (node_of-Product e first more h) ∙ more_factors more (node_of first) s

pub sum_alone : (e first : Expr) (more : List (Sign × Expr)) → e ≡ Sum first more → length more < 1 → temps_of (node_of e) ≡ temps_of (node_of first)
sum_alone e first more h s = ap temps_of (node_of-Sum e first more h) ∙ one_term more (node_of first) s

pub sum_row : (e first : Expr) (more : List (Sign × Expr)) → e ≡ Sum first more → 1 ≤ length more → temps_of (node_of e) ≡ max (temps_of (node_of first)) (terms_temps (term_row more)) + 2
sum_row e first more h s = ap temps_of (node_of-Sum e first more h) ∙ more_terms more (node_of first) s

-- those of what is left are the greater of its first part's and the rest's
pub actions_here : (ss : List Stmt) (i : ℕ) (s : Stmt) → i < length ss → s ≡ get_or ss i s → actions_temps (block (drop i ss)) ≡ max (action_temps (action_of s)) (actions_temps (block (drop (i + 1) ss)))
actions_here ss i s lt is = ap (λ (xs : List Stmt). actions_temps (block xs)) (from_here ss i s lt is)

one_declaration : (d : Option Node) (ds : List (Option Node)) → declarations_temps (d ∷ ds) ≡ max (declarations_temps (d ∷ [])) (declarations_temps ds)
one_declaration None ds = omega arith
one_declaration (Some n) ds = omega arith

pub declarations_here : (ds : List (Option Expr)) (i : ℕ) (d : Option Expr) → i < length ds → d ≡ get_or ds i d
    → declarations_temps (declared (drop i ds)) ≡ max (declarations_temps (option_map node_of d ∷ [])) (declarations_temps (declared (drop (i + 1) ds)))
declarations_here ds i d lt is = ap (λ (xs : List (Option Expr)). declarations_temps (declared xs)) (from_here ds i d lt is) ∙ one_declaration (option_map node_of d) (declared (drop (i + 1) ds))
