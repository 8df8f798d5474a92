-- Functions of the program, as calls ask for them.
use Rattle.std.specs.Prelude.{◌≡◌, Bool, true, false, Option, Some, None}
use Rattle.porch_check.specs.Shapes.{Shape, function}
use Rattle.porch_calls.specs.declared.program.Signature as code_signature

abbrev pub is_function : Shape → Bool
is_function (function result params) = true
is_function x = false

-- what a function of a type gives and takes; there is none where the type is no function's
abbrev pub IsSignatureOf : Shape → Option code_signature.Signature → Type 0
IsSignatureOf x None = is_function x ≡ false
IsSignatureOf x (Some s) = x ≡ function s.gives s.params.items
