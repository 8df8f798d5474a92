-- The last parts make the type so far.
use Rattle.std.proofs.Common.{◌≡◌, ◌≤◌, length, map, drop, Ok}
use Rattle.porch_check.specs.Declarations.{type_of_parts}
use Rattle.porch_scopes.specs.Known.{scopes_of}
use Rattle.porch_declarators.specs.Views.{as_part}
use Rattle.porch_declarators.proofs.types.type_of_parts.Given as goal

abbrev pub invariant-loop-left : goal.invariant-loop-left
invariant-loop-left l = record {
  within : l.left ≤ length l.parts;
  typed : type_of_parts (drop l.left (map as_part l.parts)) l.fn.base (scopes_of l.initial.scopes) ≡ Ok (l.shape, scopes_of l.scopes);
  outer : (scopes_of l.scopes).outer ≡ (scopes_of l.initial.scopes).outer;
}

abbrev pub decreases-loop-left : goal.decreases-loop-left
decreases-loop-left l = l.left
