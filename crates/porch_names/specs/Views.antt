-- What the code's names and parameters are in the definitions.
use Rattle.std.specs.Option.{option_map}
use Rattle.porch_tree.specs.Mirror.{Name}
use Rattle.porch_check.specs.Declarations.{Parameter}
use Rattle.porch_names.specs.declared.name.Name as code_name
use Rattle.porch_names.specs.declared.parameters.Parameter as code_parameter

abbrev pub as_name : code_name.Name → Name
as_name n = record { at = n.at; bytes = n.bytes.now }

abbrev pub as_parameter : code_parameter.Parameter → Parameter
as_parameter p = record { at = p.at; name = option_map as_name p.name; shape = p.shape }
