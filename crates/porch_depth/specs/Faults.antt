-- What the code answers.
use Rattle.std.specs.Prelude.{Option, Some, None}
use Rattle.porch_tree.specs.Grammar.{Fault, syntax_fault, nesting, outside}
use Rattle.porch_walk.specs.Walk.{Wrong, wrong_at}
use Rattle.porch_depth.specs.declared.fault.GrammarFault.{GrammarFault}
use Rattle.porch_depth.specs.declared.fault.GrammarFault.TheVariants.{Syntax, Nesting, Outside}
use Rattle.porch_depth.specs.declared.fault.FaultyToken.{FaultyToken}

abbrev pub fault_of : GrammarFault → Fault
fault_of Syntax = syntax_fault
fault_of Nesting = nesting
fault_of Outside = outside

abbrev pub found_of : Option FaultyToken → Option Wrong
found_of None = None
found_of (Some f) = wrong_at f.token (fault_of f.fault)
