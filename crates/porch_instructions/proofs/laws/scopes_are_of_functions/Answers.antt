use Rattle.porch_instructions.proofs.Resolving.{cells_are_variables, sources_are_operands, pointees_are_types}
use Rattle.porch_instructions.proofs.laws.scopes_are_of_functions.Goals as goal

pub returns-clause-cells : goal.returns-clause-cells
returns-clause-cells c = cells_are_variables

pub returns-clause-sources : goal.returns-clause-sources
returns-clause-sources c = sources_are_operands

pub returns-clause-pointees : goal.returns-clause-pointees
returns-clause-pointees c = pointees_are_types
