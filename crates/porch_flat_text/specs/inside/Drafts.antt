-- What a line makes of a program that is read so far.
use Rattle.std.specs.Prelude.{◌≡◌, ℕ, ◌^◌, nat_lt, Bool, true, false, ◌&&◌, if◌then◌else◌, List, [], ◌∷◌, ◌++◌, length, Option, Some, None}
use Rattle.std.specs.Option.{is_none}
use Rattle.std.specs.Str.{bytes_eq}
use Rattle.porch_types.specs.Adding.{add_fault}
use Rattle.porch_types.specs.declared.types.TypeFault.{TypeFault}
use Rattle.porch_types.specs.declared.shapes.Ty.{Ty}
use Rattle.porch_types.specs.declared.shapes.Ty.TheVariants.{Pointer, Array, Struct}
use Rattle.porch_types.specs.Leaves.{kind_types}
use Rattle.porch_flat.specs.declared.flat.GlobalObject.{GlobalObject}
use Rattle.porch_flat.specs.declared.flat.Init.{Init}
use Rattle.porch_flat.specs.declared.flat.Init.TheVariants.{Value, Address}
use Rattle.porch_flat.specs.declared.whole.Command.{Command}
use Rattle.porch_flat.specs.declared.whole.Function.{Function}
use Rattle.porch_flat.specs.declared.whole.Flat.{Flat}
use Rattle.porch_flat.specs.whole.Flats.{is_function_name, is_said}
use Rattle.porch_flat.specs.whole.Lines.{function_line}
use Rattle.porch_flat_line.specs.declared.word.Word.{Word}
use Rattle.porch_flat_line.specs.declared.word.Word.TheVariants as word
use Rattle.porch_flat_text.specs.declared.draft.Draft.{Draft}
use Rattle.porch_flat_text.specs.declared.draft.Phase.{Phase}
use Rattle.porch_flat_text.specs.declared.draft.Phase.TheVariants as phase
use Rattle.porch_flat_line.specs.Text.{number, row, row_text, type_row, init_row, line_text, command_row, first_head, second_head}
use Rattle.porch_flat_text.specs.inside.FoundWords.{word_from}
use Rattle.porch_flat_text.specs.inside.Numbers.{number_in, constant_in, result_type_in}
use Rattle.porch_flat_text.specs.inside.Cuts.{word_part, inner_part, first, rest, each_in}
use Rattle.porch_flat_text.specs.inside.Commands.{command_from}

abbrev pub empty_global : GlobalObject
empty_global = record { ty = 0; inits = [] }

abbrev pub empty_function : Function
empty_function = record { name = []; result = None; params = 0; vars = []; commands = [] }

abbrev pub empty_draft : Draft
empty_draft = record { phase = phase.Start; types = kind_types; globals = []; global = empty_global; functions = []; function = empty_function }

-- the globals, with the one that goes on
abbrev pub globals_of : Phase → List GlobalObject → GlobalObject → List GlobalObject
globals_of phase.Globals globals global = globals ++ global ∷ []
globals_of p globals global = globals

-- the functions, with the one that goes on
abbrev pub functions_of : Phase → List Function → Function → List Function
functions_of phase.Variables functions function = functions ++ function ∷ []
functions_of phase.Commands functions function = functions ++ function ∷ []
functions_of p functions function = functions

-- the program, were the text to end here as soon as it can
abbrev pub flat_of : Draft → Flat
flat_of d = record { types = d.types; globals = globals_of d.phase d.globals d.global; functions = functions_of d.phase d.functions d.function }

-- a line is taken where it is written so and its condition holds
abbrev pub taken_if : {X : Type 0} → Bool → List ℕ → List ℕ → X → Option X
taken_if condition line text x = if condition && bytes_eq text line then Some x else None

-- what a call leaves, where the line is taken
abbrev pub Taken : Option Draft → Bool → Draft → Type 0
Taken None taken new = taken ≡ false
Taken (Some d) taken new = (taken ≡ true) × (new ≡ d)

abbrev pub type_from : Word → List ℕ → Ty
type_from word.Array inner = Array (number_in (first (rest inner))) (number_in (first (rest (rest inner))))
type_from word.Struct inner = Struct (each_in number_in (length (rest inner)) (rest inner))
type_from w inner = Pointer (number_in (first (rest inner)))

-- what adding a type leaves
abbrev pub Added : Option TypeFault → Bool → List Ty → List Ty → Type 0
Added None added types new = (added ≡ true) × (new ≡ types)
Added (Some fault) added types new = added ≡ false

abbrev pub with_type : Draft → Word → List ℕ → List ℕ → Option Draft
with_type d w inner line =
    let ty = type_from w inner in
    taken_if (nat_lt (length d.types) (2 ^ 31) && is_none (add_fault d.types ty)) line (row_text (type_row (length d.types) ty))
    (record d { types = d.types ++ ty ∷ [] })

abbrev pub with_global : Draft → List ℕ → List ℕ → Option Draft
with_global d inner line =
    let globals = globals_of d.phase d.globals d.global in
    let ty = number_in (first (rest inner)) in
    taken_if (nat_lt (length globals) (2 ^ 32)) line (row_text (row word.Global (number (length globals) ∷ number ty ∷ [])))
    (record d { phase = phase.Globals; globals = globals; global = record { ty = ty; inits = [] } })

abbrev pub init_from : Word → List ℕ → Init
init_from word.Init inner = Value (number_in (first (rest inner))) (constant_in (first (rest (rest inner))))
init_from w inner =
    Address (number_in (first (rest inner))) (number_in (first (rest (rest inner)))) (number_in (first (rest (rest (rest inner)))))

abbrev pub with_init : Draft → Word → List ℕ → List ℕ → Option Draft
with_init d w inner line =
    let init = init_from w inner in
    taken_if (is_said init) line (row_text (init_row (length d.globals) init))
    (record d { global = record { ty = d.global.ty; inits = d.global.inits ++ init ∷ [] } })

abbrev pub function_from : List ℕ → Function
function_from inner =
    record { name = first (rest inner); result = result_type_in (first (rest (rest inner))); params = number_in (first (rest (rest (rest inner)))); vars = []; commands = [] }

abbrev pub with_function : Draft → List ℕ → List ℕ → Option Draft
with_function d inner line =
    let function = function_from inner in
    taken_if (nat_lt (length d.functions) (2 ^ 32) && is_function_name function.name) line (line_text (function_line (length d.functions) function))
    (record d { phase = phase.Variables; globals = globals_of d.phase d.globals d.global; global = empty_global; function = function })

abbrev pub with_variable : Draft → List ℕ → List ℕ → Option Draft
with_variable d inner line =
    let ty = number_in (first (rest inner)) in
    let f = d.function in
    taken_if (nat_lt (length f.vars) (2 ^ 32)) line (row_text (row word.Var (number (length f.vars) ∷ number ty ∷ [])))
    (record d { function = record { name = f.name; result = f.result; params = f.params; vars = f.vars ++ ty ∷ []; commands = f.commands } })

abbrev pub with_begin : Draft → List ℕ → Option Draft
with_begin d line =
    let f = d.function in
    taken_if true line (row_text (row word.Begin []))
    (record d { phase = phase.Commands; function = record { name = f.name; result = f.result; params = f.params; vars = f.vars; commands = [] } })

abbrev pub with_some_command : Draft → Option Command → List ℕ → Option Draft
with_some_command d None line = None
with_some_command d (Some c) line =
    let f = d.function in
    taken_if true line (row_text (command_row c))
    (record d { function = record { name = f.name; result = f.result; params = f.params; vars = f.vars; commands = f.commands ++ c ∷ [] } })

abbrev pub with_command : Draft → Word → List ℕ → List ℕ → Option Draft
with_command d w inner line = with_some_command d (command_from w inner) line

abbrev pub with_end : Draft → List ℕ → Option Draft
with_end d line =
    taken_if true line (row_text (row word.End []))
    (record d { phase = phase.Functions; functions = d.functions ++ d.function ∷ []; function = empty_function })

-- which lines may stand where
abbrev pub is_type_word : Word → Bool
is_type_word word.Pointer = true
is_type_word word.Array = true
is_type_word word.Struct = true
is_type_word w = false

abbrev pub is_init_word : Word → Bool
is_init_word word.Init = true
is_init_word word.InitA = true
is_init_word w = false

abbrev pub is_word : Word → Word → Bool
is_word word.Global word.Global = true
is_word word.Function word.Function = true
is_word word.Var word.Var = true
is_word word.Begin word.Begin = true
is_word word.End word.End = true
is_word v w = false

abbrev pub next_in : Draft → Phase → Word → List ℕ → List ℕ → Option Draft
next_in d phase.Start w inner line = None
next_in d phase.Second w inner line = None
next_in d phase.Types w inner line =
    if is_type_word w then with_type d w inner line
    else if is_word w word.Global then with_global d inner line
    else if is_word w word.Function then with_function d inner line
    else None
next_in d phase.Globals w inner line =
    if is_init_word w then with_init d w inner line
    else if is_word w word.Global then with_global d inner line
    else if is_word w word.Function then with_function d inner line
    else None
next_in d phase.Functions w inner line = if is_word w word.Function then with_function d inner line else None
next_in d phase.Variables w inner line =
    if is_word w word.Var then with_variable d inner line
    else if is_word w word.Begin then with_begin d line
    else None
next_in d phase.Commands w inner line =
    if is_word w word.End then with_end d line
    else with_command d w inner line

abbrev pub next_by : Draft → Option Word → List ℕ → List ℕ → Option Draft
next_by d None inner line = None
next_by d (Some w) inner line = next_in d d.phase w inner line

abbrev pub next_form : Draft → List ℕ → Option Draft
next_form d line = next_by d (word_from (word_part line)) (inner_part line) line

abbrev pub next_at : Phase → Draft → List ℕ → Option Draft
next_at phase.Start d line = taken_if true line first_head (record d { phase = phase.Second })
next_at phase.Second d line = taken_if true line second_head (record d { phase = phase.Types })
next_at p d line = next_form d line

abbrev pub next : Draft → List ℕ → Option Draft
next d line = next_at d.phase d line

-- a text may end here
abbrev pub is_whole : Phase → Bool
is_whole phase.Types = true
is_whole phase.Globals = true
is_whole phase.Functions = true
is_whole p = false

-- what these lines make of it
abbrev pub run_on : Option Draft → (Draft → Option Draft) → Option Draft
run_on None go = None
run_on (Some d) go = go d

abbrev pub run : Draft → List (List ℕ) → Option Draft
run d [] = Some d
run d (line ∷ lines) = run_on (next d line) (λ e. run e lines)
