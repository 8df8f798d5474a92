use Rattle.std.proofs.Common.{◌≡◌, ℕ, Bool, List, length}
use Rattle.porch_walk.specs.Walk.{names_type, behind}
use Rattle.porch_walk.specs.inside.Steps.{upward, heard_as}
use Rattle.porch_walk.proofs.advance.advance.Given as goal

-- what was left out changes nothing
abbrev pub invariant-loop-symbol : goal.invariant-loop-symbol
invariant-loop-symbol l =
    (types : List (List ℕ)) (fresh : List ℕ) (i : Bool) (bs : List ℕ) → names_type types bs ≡ l.known
    → behind types fresh i (upward l.initial.pending.items) (heard_as l.word bs) ≡ behind types fresh i (upward l.pending.items) (heard_as l.word bs)

abbrev pub decreases-loop-symbol : goal.decreases-loop-symbol
decreases-loop-symbol l = length (upward l.pending.items)
