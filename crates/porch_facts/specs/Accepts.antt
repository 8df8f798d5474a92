-- Which constants may stand as an operand.
use Rattle.std.specs.Prelude.{true}
use Rattle.porch_lowering.specs.Values.{Accepts, no_constant, constant_in}
use Rattle.porch_facts.specs.declared.operands.Accepts as code_accepts
use Rattle.porch_facts.specs.declared.operands.Accepts.TheVariants as variant

abbrev pub accepts_of : code_accepts.Accepts → Accepts
accepts_of variant.Nothing = no_constant
accepts_of (variant.In kind) = constant_in kind
accepts_of variant.All = λ z. true
