-- The plain data of the kinds of expression that have parts.
use Rattle.std.proofs.Common.{◌≡◌, List, map, sym, ap, ◌∙◌}
use Rattle.porch_syntax.specs.declared.tree.Sign.{Sign}
use Rattle.porch_syntax.specs.declared.tree.Expr.{Expr, fold-roll-Expr}
use Rattle.porch_syntax.specs.declared.tree.Expr.TheVariants.{Product, Sum, Less, rolls-Product, rolls-Sum, rolls-Less}
use Rattle.porch_syntax.specs.Tree.{Node, product, sum, less, node_of, node_step, nodes_of, terms_of}

pub node_of-Product : (e first : Expr) (more : List Expr) → e ≡ Product first more → node_of e ≡ product (node_of first) (nodes_of (map node_of more))
node_of-Product e first more h = ap node_of (h ∙ sym (rolls-Product first more)) ∙ fold-roll-Expr Node node_step _

pub node_of-Sum : (e first : Expr) (more : List (Sign × Expr)) → e ≡ Sum first more → node_of e ≡ sum (node_of first) (terms_of (map (λ t. (t.0, node_of t.1)) more))
node_of-Sum e first more h = ap node_of (h ∙ sym (rolls-Sum first more)) ∙ fold-roll-Expr Node node_step _

pub node_of-Less : (e a b : Expr) → e ≡ Less a b → node_of e ≡ less (node_of a) (node_of b)
node_of-Less e a b h = ap node_of (h ∙ sym (rolls-Less a b)) ∙ fold-roll-Expr Node node_step _
