-- A type can begin with the first token of a base, and not with that of a plain expression.
use Rattle.std.proofs.Common.{◌≡◌, ℕ, Bool, true, false, List, [], ◌∷◌}
use Rattle.porch_tree.specs.Mirror.{Expr}
use Rattle.porch_tree.specs.Pieces.{Spelled}
use Rattle.porch_tree.specs.Names.{first_name}
use Rattle.porch_parts.specs.Starts.{Starts, BasesStart, PlainsStart}
use Rattle.porch_parts.proofs.Firsts.{IsStart, begun, plain_starts, base_starts}

as_told : (types : List (List ℕ)) (b : Bool) (ts : List Spelled) → IsStart types b ts → Starts types b ts
as_told types b [] h = absurd h
as_told types b (t ∷ ts) h = h

pub bases_start : BasesStart
bases_start types i b w y d ps ts h = as_told types true ts (base_starts types i b d ps ts w y h)

pub plains_start : PlainsStart
plains_start types i e p d ps ts h = as_told types false ts (plain_starts types (first_name e) ts p (begun i e d ps ts h))
