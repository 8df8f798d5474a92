-- There are as many open blocks as the code's list has.
use Rattle.std.proofs.Common.{◌≡◌, ◌+◌, List, [], ◌∷◌, length, fold, arith}
use Rattle.std.proofs.lemmas.List.{length-map}
use Rattle.porch_syntax.specs.declared.statement.Block as block_type
use Rattle.std.specs.Option.{option_map}
use Rattle.porch_syntax.specs.declared.statement.Written as written_type
use Rattle.porch_syntax.specs.Tree.{node_of}
use Rattle.porch_syntax.specs.inside.Program.{Block, block_of, blocks_of, written_of}

above_length : (xs : List block_type.Block) (acc : List Block) → length (fold (λ above b. block_of b ∷ above) acc xs) ≡ length acc + length xs
above_length [] acc = omega arith
above_length (x ∷ xs) acc = let h = above_length xs (block_of x ∷ acc) in omega (arith, h)

pub blocks_length : (xs : List block_type.Block) → length (blocks_of xs) ≡ length xs
blocks_length xs = let h = above_length xs [] in omega (arith, h)

pub variables_length : (w : written_type.Written) → length (written_of w).variables ≡ length w.variables
variables_length w = length-map w.variables (option_map node_of)
