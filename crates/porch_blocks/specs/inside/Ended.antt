-- How one frame ends, of those that end with the statement in them.
use Rattle.std.specs.Prelude.{Bool, false, List, [], ◌∷◌}
use Rattle.porch_tree.specs.Mirror.{Stmt}
use Rattle.porch_unit.specs.Units.{Frame, is_ended, built, Closed}

-- whether the innermost frame ends with the statement in it
abbrev pub ends : (is_else : Bool) → List Frame → Bool
ends o [] = false
ends o (f ∷ fs) = is_ended o f

-- what stands when the innermost frame has ended with it
abbrev pub ended_one : List Frame → Stmt → Closed
ended_one [] s = record { frames = []; value = s }
ended_one (f ∷ fs) s = record { frames = fs; value = built f s }
