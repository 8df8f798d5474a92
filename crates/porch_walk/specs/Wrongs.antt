-- What the code answers, as the walk tells it.
use Rattle.std.specs.Prelude.{Option, Some, None}
use Rattle.porch_tree.specs.Grammar.{Fault, syntax_fault, outside}
use Rattle.porch_walk.specs.declared.wrong.WalkFault.{WalkFault}
use Rattle.porch_walk.specs.declared.wrong.WalkFault.TheVariants.{Syntax, Outside}
use Rattle.porch_walk.specs.declared.wrong.WrongToken.{WrongToken}
use Rattle.porch_walk.specs.Walk.{Wrong, wrong_at}

abbrev pub fault_of : WalkFault → Fault
fault_of Syntax = syntax_fault
fault_of Outside = outside

abbrev pub wrong_of : Option WrongToken → Option Wrong
wrong_of None = None
wrong_of (Some w) = wrong_at w.token (fault_of w.fault)
