-- Types of variables, of leaves and of the places where operands stand; where labels stand.
use Rattle.std.specs.Prelude.{ℕ, ◌==◌, nat_lt, Bool, false, if◌then◌else◌, List, [], ◌∷◌, length, take, position, slice_get, codes, option_and_then, Option, Some, None}
use Rattle.std.specs.Str.{bytes_eq}
use Rattle.porch_types.specs.declared.shapes.Ty.{Ty}
use Rattle.porch_types.specs.declared.shapes.Ty.TheVariants.{Pointer}
use Rattle.porch_types.specs.LeafTypes.{leaf_type as type_of_leaf}
use Rattle.porch_values.specs.declared.acts.Op.{Op}
use Rattle.porch_values.specs.Integers.{is_shift}
use Rattle.porch_flat.specs.declared.flat.GlobalObject.{GlobalObject}
use Rattle.porch_flat.specs.declared.flat.Operand.{Operand}
use Rattle.porch_flat.specs.declared.flat.Operand.TheVariants.{Var, Constant}
use Rattle.porch_flat.specs.declared.whole.Command.{Command}
use Rattle.porch_flat.specs.declared.whole.Display.{Display}
use Rattle.porch_flat.specs.declared.whole.Display.TheVariants as display
use Rattle.porch_flat.specs.declared.whole.Function.{Function}
use Rattle.porch_flat.specs.declared.whole.Flat.{Flat}
use Rattle.porch_flat.specs.whole.Form.{Form, form_of, Within, variable, global, pointee, move, operator, complement, comparison, step, store, allocate, show, branch, call, return, label_of}

-- the numbers of these kinds' types
abbrev pub INT : ℕ
INT = 4

abbrev pub UINT : ℕ
UINT = 5

abbrev pub LONG : ℕ
LONG = 6

abbrev pub CHAR : ℕ
CHAR = 0

-- where the first label of a number stands
abbrev pub is_number : ℕ → Option ℕ → Bool
is_number n None = false
is_number n (Some m) = n == m

abbrev pub place_of_label : List Command → ℕ → Option ℕ
place_of_label commands n = position (λ c. is_number n (label_of (form_of c))) commands

-- the number of main, which is the first function of that name
abbrev pub main_of : Flat → Option ℕ
main_of flat = position (λ f. bytes_eq (codes "main") f.name) flat.functions

abbrev pub commands_of : Option Function → List Command
commands_of None = []
commands_of (Some f) = f.commands

abbrev pub vars_of : Option Function → List ℕ
vars_of None = []
vars_of (Some f) = f.vars

-- the command at a place of a function
abbrev pub command_at : Flat → (function place : ℕ) → Option Command
command_at flat function place = slice_get (commands_of (slice_get flat.functions function)) place

-- the types of a function's parameters
abbrev pub params_of : Option Function → List ℕ
params_of None = []
params_of (Some f) = take f.params f.vars

abbrev pub result_of : Option Function → Option ℕ
result_of None = None
result_of (Some f) = f.result

-- the type of a number
abbrev pub type_at : Flat → Option ℕ → Option Ty
type_at flat ty = option_and_then (slice_get flat.types) ty

-- what a pointer type points to
abbrev pub pointed : Option Ty → Option ℕ
pointed (Some (Pointer to)) = Some to
pointed ty = None

-- the type of a variable
abbrev pub type_of_var : Function → ℕ → Option ℕ
type_of_var f v = slice_get f.vars v

-- the type that a variable points to
abbrev pub pointee_of_var : Flat → Function → ℕ → Option ℕ
pointee_of_var flat f v = pointed (type_at flat (type_of_var f v))

abbrev pub global_type : Option GlobalObject → Option ℕ
global_type None = None
global_type (Some g) = Some g.ty

-- the type of what a leaf is counted in
abbrev pub type_within : Flat → Function → Within → Option ℕ
type_within flat f (variable w) = type_of_var f w
type_within flat f (global g) = global_type (slice_get flat.globals g)
type_within flat f (pointee p) = pointee_of_var flat f p

-- the type of an operand that decides it itself: a variable's own, and of a constant the one given
abbrev pub own_type : Function → ℕ → Operand → Option ℕ
own_type f ty (Var v) = type_of_var f v
own_type f ty (Constant z) = Some ty

-- the type in which two operands are compared: that of a variable, and int for two constants
abbrev pub compared_type : Function → (left right : Operand) → Option ℕ
compared_type f (Var v) right = type_of_var f v
compared_type f (Constant z) right = own_type f INT right

-- an operand, and the type that its place asks for
pub record Place : Type 0 where
  pub operand : Operand
  pub ty : Option ℕ

abbrev pub place : Operand → Option ℕ → Place
place o ty = record { operand = o; ty = ty }

-- the right operand of an operator: a shift's count decides its own type
abbrev pub right_type : Function → Op → ℕ → Operand → Option ℕ
right_type f op v o = if is_shift op then own_type f INT o else type_of_var f v

abbrev pub shown_type : Function → Display → Operand → Option ℕ
shown_type f display.Char o = Some INT
shown_type f display.Dec o = own_type f LONG o
shown_type f display.Hex o = Some UINT

-- arguments, each with the type of its parameter, and none past the parameters
abbrev pub argument_places : List Operand → List ℕ → List Place
argument_places [] types = []
argument_places (o ∷ os) [] = place o None ∷ argument_places os []
argument_places (o ∷ os) (ty ∷ types) = place o (Some ty) ∷ argument_places os types

abbrev pub returned_places : Option Operand → Option ℕ → List Place
returned_places None ty = []
returned_places (Some o) ty = place o ty ∷ []

-- the places of a form's operands, in the order of the text
abbrev pub places_of : Flat → Function → Form → List Place
places_of flat f (move v o) = place o (type_of_var f v) ∷ []
places_of flat f (operator op v a b) = place a (type_of_var f v) ∷ place b (right_type f op v b) ∷ []
places_of flat f (complement v o) = place o (type_of_var f v) ∷ []
places_of flat f (comparison c v a b) = place a (compared_type f a b) ∷ place b (compared_type f a b) ∷ []
places_of flat f (step way v p o) = place o (own_type f LONG o) ∷ []
places_of flat f (store p o) = place o (pointee_of_var flat f p) ∷ []
places_of flat f (allocate zeroed v o) = place o (own_type f LONG o) ∷ []
places_of flat f (show how v o) = place o (shown_type f how o) ∷ []
places_of flat f (branch o n) = place o (Some INT) ∷ []
places_of flat f (call r g os) = argument_places os (params_of (slice_get flat.functions g))
places_of flat f (return o) = returned_places o f.result
places_of flat f form = []

-- the type that the place of an operand asks for, by the operand's number in its command
abbrev pub place_type : Flat → Function → Command → ℕ → Option ℕ
place_type flat f c i = option_and_then (λ p. p.ty) (slice_get (places_of flat f (form_of c)) i)

-- the type of a leaf, which is an integer or a pointer
abbrev pub leaf_type : List Ty → ℕ → ℕ → Option ℕ
leaf_type types ty leaf = if nat_lt ty (length types) then Some (type_of_leaf types ty leaf) else None
