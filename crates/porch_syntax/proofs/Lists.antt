-- The lists of a tree, as std's lists and back.
use Rattle.std.proofs.Common.{◌≡◌, List, [], ◌∷◌, ◌++◌, refl, ap, append_assoc}
use Rattle.porch_syntax.specs.declared.tree.Sign.{Sign}
use Rattle.porch_syntax.specs.Tree.{Node, Nodes, no_nodes, node, Terms, no_terms, term, Action, Actions, no_actions, action, nodes_of, terms_of, actions_of}

abbrev pub nodes_list : Nodes → List Node
nodes_list no_nodes = []
nodes_list (node e es) = e ∷ nodes_list es

pub nodes_back : (es : Nodes) → nodes_of (nodes_list es) ≡ es
nodes_back no_nodes = refl
nodes_back (node e es) = ap (node e) (nodes_back es)

abbrev pub terms_list : Terms → List (Sign × Node)
terms_list no_terms = []
terms_list (term s e ts) = (s, e) ∷ terms_list ts

pub terms_back : (ts : Terms) → terms_of (terms_list ts) ≡ ts
terms_back no_terms = refl
terms_back (term s e ts) = ap (term s e) (terms_back ts)

abbrev pub actions_list : Actions → List Action
actions_list no_actions = []
actions_list (action a more) = a ∷ actions_list more

pub actions_back : (as' : Actions) → actions_of (actions_list as') ≡ as'
actions_back no_actions = refl
actions_back (action a more) = ap (action a) (actions_back more)

pub append_nothing : {A : Type 0} (xs : List A) → xs ++ [] ≡ xs
append_nothing [] = refl
append_nothing (x ∷ xs) = ap (λ ys. x ∷ ys) (append_nothing xs)

-- xs, then x, then ys
pub append_one : {A : Type 0} (xs : List A) (x : A) (ys : List A) → (xs ++ x ∷ []) ++ ys ≡ xs ++ x ∷ ys
append_one xs x ys = append_assoc xs (x ∷ []) ys
