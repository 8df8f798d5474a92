-- A row of factors or terms behind its left operand, which is any operand at first, and then a temporary.
use Rattle.std.specs.Prelude.{ℕ, ◌+◌, List, [], ◌∷◌, ◌++◌}
use Rattle.porch_syntax.specs.Tree.{Nodes, no_nodes, node, Terms, no_terms, term}
use Rattle.porch_flat.specs.declared.flat.Operand.{Operand}
use Rattle.porch_flat.specs.declared.flat.Command.{Command}
use Rattle.porch_flat.specs.declared.flat.Command.TheVariants as command
use Rattle.porch_lower.specs.Code.{atom_of, operand_in, commands_or, by_sign, factor_place, term_place, into_code, factors_code, terms_code}

abbrev pub factors_from : Operand → Nodes → ℕ → ℕ → List Command
factors_from left no_nodes d t = []
factors_from left (node f fs) d t =
    commands_or (atom_of f) (into_code f (t + 1) (t + 2)) ++ command.Mul (factor_place fs d t) left (operand_in f (t + 1)) ∷ factors_code fs d t

abbrev pub terms_from : Operand → Terms → ℕ → ℕ → List Command
terms_from left no_terms d t = []
terms_from left (term s f ts) d t =
    commands_or (atom_of f) (into_code f (t + 1) (t + 2)) ++ by_sign s (term_place ts d t) left (operand_in f (t + 1)) ∷ terms_code ts d t
