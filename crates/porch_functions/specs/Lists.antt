-- Parameter lists that stand directly round a name.
use Rattle.std.specs.Prelude.{◌≡◌, ℕ, Bool, true, false, List, [], ◌∷◌, map, Option, Some, None}
use Rattle.porch_check.specs.Declarations.{Part, listed}
use Rattle.porch_scopes.specs.Views.{scope_of}
use Rattle.porch_names.specs.Views.{as_parameter}
use Rattle.porch_functions.specs.declared.heads.ParameterList as code_list

-- what stands nearest to the name is a list
abbrev pub begins_with_list : List Part → Bool
begins_with_list (listed at ps scope ∷ parts) = true
begins_with_list parts = false

abbrev pub IsListOf : Option code_list.ParameterList → List Part → Type 0
IsListOf None parts = begins_with_list parts ≡ false
IsListOf (Some l) parts =
    (at : ℕ) × ((rest : List Part) × (parts ≡ listed at (map as_parameter l.params.items) (scope_of l.scope) ∷ rest))
