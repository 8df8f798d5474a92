-- Names, calls of the program's functions, and the library: formats of printf, and allocations.
use Rattle.std.specs.Prelude.{ℕ, suc, ◌+◌, ◌==◌, pos, nat_eq, Bool, true, false, not, ◌&&◌, if◌then◌else◌, List, [], ◌∷◌, length, Option, Some, None, Result, Ok}
use Rattle.std.specs.Option.{option_map}
use Rattle.std.specs.List.{list_any}
use Rattle.std.specs.Str.{bytes_eq}
use Rattle.porch_lex.specs.declared.refusal.Refusal.{Refusal}
use Rattle.porch_lex.specs.declared.refusal.Rule.TheVariants.{Unknown, Mismatch, SizeofPlace, StringValue, Format}
use Rattle.porch_types.specs.declared.shapes.Kind.{Kind}
use Rattle.porch_types.specs.declared.shapes.Kind.TheVariants.{Int, UInt, Long, ULong, Char}
use Rattle.porch_types.specs.Kinds.{kind_number, int_type}
use Rattle.porch_tree.specs.declared.tree.Prefix.TheVariants.{Pointee, Sizeof}
use Rattle.porch_tree.specs.declared.tree.Infix.{Infix}
use Rattle.porch_tree.specs.declared.tree.Infix.TheVariants.{Mul}
use Rattle.porch_tree.specs.Mirror.{Name, Expr, prefixed, nested, size_of, Exprs, no_exprs, with_expr, Operands, no_operands, with_operand, call, Suffixes, with_suffix}
use Rattle.porch_typed.specs.declared.typed.Conversion.{Conversion}
use Rattle.porch_typed.specs.declared.typed.Conversion.TheVariants as shown_as
use Rattle.porch_typed.specs.Typed.{shown_kind}
use Rattle.porch_typed.specs.Mirror.{Expression, constant, conversion, discard, put_character, put_text, put_literal, print, allocate, release, checkpoint, Expressions, no_expressions, with_expression, Prints, no_prints, with_print}
use Rattle.porch_typed.specs.Mirror as tree
use Rattle.porch_check.specs.Refusals.{refuse, and_then, found_or}
use Rattle.porch_check.specs.Shapes.{Shape, pointer, Shapes, shape_of}
use Rattle.porch_check.specs.Shapes as shape
use Rattle.porch_check.specs.Scopes.{Library, of_printf, of_puts, of_putchar, of_malloc, of_calloc, of_free, of_checkpoint, Meaning, Scopes, of_name, with_shape}
use Rattle.porch_check.specs.Scopes as scope
use Rattle.porch_check.specs.Operands.{Value, integer, address, no_address, nothing, Typed, typed_as, Form, operand, place, literal, size, sized, callee, library_callee, Context, plain, called, shown, as_size, as_allocation, Typing, go_on, value_at, value_of, promoted, is_null, fitted}

-- Names.

abbrev pub is_called : Context → Bool
is_called called = true
is_called c = false

abbrev pub is_shown : Context → Bool
is_shown shown = true
is_shown c = false

abbrev pub null_form : Form
null_form = operand (typed_as (constant Int (pos 0)) no_address)

-- A function of the program is called, and has a body somewhere in the text.
abbrev pub function_form : (bodies : List (List ℕ)) → Name → Context → Result Form Refusal
function_form bodies n called = if list_any (bytes_eq n.bytes) bodies then Ok (callee n) else refuse Unknown n.at
function_form bodies n c = refuse Mismatch n.at

abbrev pub name_form : (bodies : List (List ℕ)) → Name → Context → Meaning → Result Form Refusal
name_form bodies n c (scope.variable k x) = Ok (place (tree.variable k) x)
name_form bodies n c (scope.global k x) = Ok (place (tree.global k) x)
name_form bodies n c (scope.type_name x) = refuse Mismatch n.at
name_form bodies n c (scope.enumerator z) = Ok (operand (typed_as (constant Int z) (integer Int)))
name_form bodies n c scope.function = function_form bodies n c
name_form bodies n c (scope.library l) = if is_called c then Ok (library_callee l) else refuse Mismatch n.at
name_form bodies n c scope.null = Ok null_form

-- a literal stands as an argument of printf or puts
abbrev pub literal_form : (at : ℕ) → List ℕ → Context → Result Form Refusal
literal_form at bs c = if is_shown c then Ok (literal bs) else refuse StringValue at

-- Sizes: `sizeof(T)`, `sizeof *p` and `sizeof(*p)`, alone or with a count, where an allocation takes one.

abbrev pub allows_size : Context → Bool
allows_size as_size = true
allows_size as_allocation = true
allows_size c = false

abbrev pub is_pointee : Expr → Bool
is_pointee (prefixed at Pointee e) = true
is_pointee e = false

abbrev pub is_size_of : Expr → Bool
is_size_of (nested at e) = is_pointee e
is_size_of e = is_pointee e

abbrev pub is_size : Expr → Bool
is_size (size_of at t) = true
is_size (prefixed at Sizeof e) = is_size_of e
is_size e = false

abbrev pub size_form : (at : ℕ) → Context → (shape : ℕ) → Result Form Refusal
size_form at c x = if allows_size c then Ok (size x) else refuse SizeofPlace at

abbrev pub size_of_place : (at : ℕ) → Context → Form → Result Form Refusal
size_of_place at c (place p x) = size_form at c x
size_of_place at c f = refuse SizeofPlace at

-- of an expression
abbrev pub size_of_form : (at : ℕ) → Context → Expr → Form → Result Form Refusal
size_of_form at c e f = if is_size_of e then size_of_place at c f else refuse SizeofPlace at

abbrev pub is_product : Infix → Bool
is_product Mul = true
is_product o = false

abbrev pub is_allocation : Context → Bool
is_allocation as_allocation = true
is_allocation c = false

-- In the argument of malloc the last operand of a product may be a size,
abbrev pub last_context : Context → Infix → Expr → Operands → Context
last_context c o e no_operands = if is_allocation c && is_product o && is_size e then as_size else plain
last_context c o e os = plain

-- or else the first of two.
abbrev pub first_context : Context → Expr → Operands → Context
first_context c e (with_operand o x no_operands) =
    if is_allocation c && is_product o && is_size e && not (is_size x) then as_size else plain
first_context c e os = plain

-- Calls.

pub record Argument : Type 0 where
  pub at : ℕ
  pub form : Form

abbrev pub context_before : Suffixes → Context
context_before (with_suffix (call es) ss) = called
context_before ss = plain

abbrev pub count_of_exprs : Exprs → ℕ
count_of_exprs no_exprs = 0
count_of_exprs (with_expr e es) = suc (count_of_exprs es)

-- where the argument of a number stands, of so many
abbrev pub library_context : Library → (count number : ℕ) → Context
library_context of_printf n k = shown
library_context of_puts n k = shown
library_context of_malloc n k = if n == 1 then as_allocation else plain
library_context of_calloc n k = if n == 2 && k == 1 then as_size else plain
library_context l n k = plain

abbrev pub argument_context : Form → (count number : ℕ) → Context
argument_context (library_callee l) n k = library_context l n k
argument_context f n k = plain

-- the values of arguments
abbrev pub argument_values : List Argument → Scopes → Typing (List (ℕ × Typed))
argument_values [] s = Ok ([], s)
argument_values (a ∷ args) s = go_on (value_of a.at a.form s) (λ x s. go_on (argument_values args s) (λ xs s. Ok ((a.at, x) ∷ xs, s)))

abbrev pub fitted_all : List ℕ → List (ℕ × Typed) → Scopes → Result Expressions Refusal
fitted_all (t ∷ ts) (x ∷ xs) s =
    and_then (fitted x.0 t x.1 s) (λ e. and_then (fitted_all ts xs s) (λ es. Ok (with_expression e es)))
fitted_all ts xs s = Ok no_expressions

abbrev pub number_of : List ℕ → List (List ℕ) → ℕ
number_of x [] = 0
number_of x (n ∷ ns) = if bytes_eq x n then 0 else suc (number_of x ns)

-- `f(..)` of a function's type: one argument for each parameter
abbrev pub call_of : (number at : ℕ) → Shape → List Argument → Scopes → Typing Form
call_of k at (shape.function result params) args s =
    go_on (argument_values args s) (λ xs s.
    if nat_eq (length params) (length xs)
    then and_then (fitted_all params xs s) (λ es. Ok (operand (typed_as (tree.call k es) (value_at s.shapes result)), s))
    else refuse Mismatch at)
call_of k at x args s = refuse Mismatch at

abbrev pub program_call : (bodies : List (List ℕ)) → (at : ℕ) → Name → List Argument → Scopes → Typing Form
program_call bodies at n args s =
    found_or (of_name n.bytes s.declared) Unknown n.at (λ x.
    call_of (number_of n.bytes bodies) at (shape_of s.shapes x) args s)

-- Formats of printf.

pub data Directive : Type 0 where
  byte : ℕ → Directive
  number : Conversion → Directive
  text : Directive

-- inside of a format: in its text, behind `%`, and behind `%l`
pub data Mode : Type 0 where
  in_text : Mode
  behind_percent : Mode
  behind_l : Mode

-- what a byte of a format completes; nothing where one more is needed
pub data Completed : Type 0 where
  one : Directive → Completed
  not_yet : Mode → Completed
  none_such : Completed

abbrev pub completed_in : Mode → (byte : ℕ) → Completed
completed_in in_text c = if c == 37 then not_yet behind_percent else one (byte c)
completed_in behind_percent c =
    if c == 37 then one (byte 37)
    else if c == 99 then one (number shown_as.Character)
    else if c == 100 then one (number shown_as.Decimal)
    else if c == 117 then one (number shown_as.Unsigned)
    else if c == 120 then one (number shown_as.Hexadecimal)
    else if c == 115 then one text
    else if c == 108 then not_yet behind_l
    else none_such
completed_in behind_l c =
    if c == 100 then one (number shown_as.Long)
    else if c == 117 then one (number shown_as.UnsignedLong)
    else none_such

abbrev pub mode_behind : Completed → Mode
mode_behind (not_yet m) = m
mode_behind c = in_text

abbrev pub with_completed : Completed → Option (List Directive) → Option (List Directive)
with_completed (one d) ds = option_map (λ ds. d ∷ ds) ds
with_completed (not_yet m) ds = ds
with_completed none_such ds = None

abbrev pub is_in_text : Mode → Bool
is_in_text in_text = true
is_in_text m = false

-- What a format is made of, or none where it has another conversion.
abbrev pub directives : Mode → List ℕ → Option (List Directive)
directives m [] = if is_in_text m then Some [] else None
directives m (c ∷ cs) = let d = completed_in m c in with_completed d (directives (mode_behind d) cs)

abbrev pub is_taken : Directive → Bool
is_taken (byte c) = false
is_taken d = true

abbrev pub count_taken : List Directive → ℕ
count_taken [] = 0
count_taken (d ∷ ds) = (if is_taken d then 1 else 0) + count_taken ds

-- a conversion takes an argument of this promoted kind
abbrev pub takes : Conversion → Kind → Bool
takes shown_as.Character Int = true
takes shown_as.Decimal Int = true
takes shown_as.Unsigned Int = true
takes shown_as.Unsigned UInt = true
takes shown_as.Hexadecimal Int = true
takes shown_as.Hexadecimal UInt = true
takes shown_as.Long Long = true
takes shown_as.UnsignedLong ULong = true
takes how kind = false

abbrev pub is_char_pointer : Scopes → Value → Bool
is_char_pointer s (address n to) = nat_eq to (kind_number Char)
is_char_pointer s v = false

abbrev pub shown_number : Conversion → (at : ℕ) → Typed → Value → Result tree.Print Refusal
shown_number how at x (integer kind) =
    if takes how (promoted kind) then Ok (tree.number how (conversion (shown_kind how) x.tree)) else refuse Format at
shown_number how at x v = refuse Format at

abbrev pub printed_number : Conversion → (at : ℕ) → Form → Scopes → Typing tree.Print
printed_number how at (literal bs) s = refuse Format at
printed_number how at f s = go_on (value_of at f s) (λ x s. and_then (shown_number how at x x.value) (λ p. Ok (p, s)))

abbrev pub printed_text : (at : ℕ) → Form → Scopes → Typing tree.Print
printed_text at (literal bs) s = Ok (tree.literal bs, s)
printed_text at f s =
    go_on (value_of at f s) (λ x s. if is_char_pointer s x.value then Ok (tree.text x.tree, s) else refuse Format at)

abbrev pub with_byte : ℕ → Prints → Prints
with_byte c (with_print (tree.bytes bs) ps) = with_print (tree.bytes (c ∷ bs)) ps
with_byte c ps = with_print (tree.bytes (c ∷ [])) ps

-- What is shown, where there are as many arguments as conversions.
abbrev pub prints_of : List Directive → List Argument → Scopes → Typing Prints
prints_of [] args s = Ok (no_prints, s)
prints_of (byte c ∷ ds) args s = go_on (prints_of ds args s) (λ ps s. Ok (with_byte c ps, s))
prints_of (number how ∷ ds) (a ∷ args) s =
    go_on (printed_number how a.at a.form s) (λ p s. go_on (prints_of ds args s) (λ ps s. Ok (with_print p ps, s)))
prints_of (text ∷ ds) (a ∷ args) s =
    go_on (printed_text a.at a.form s) (λ p s. go_on (prints_of ds args s) (λ ps s. Ok (with_print p ps, s)))
prints_of ds [] s = Ok (no_prints, s)

-- an int that a call of the library gives
abbrev pub int_form : Expression → Form
int_form e = operand (typed_as e (integer Int))

abbrev pub printed : (at : ℕ) → Form → (format : ℕ) → List Argument → Scopes → Typing Form
printed at (literal bs) format args s =
    found_or (directives in_text bs) Format format (λ ds.
    if nat_eq (count_taken ds) (length args)
    then go_on (prints_of ds args s) (λ ps s. Ok (int_form (print ps), s))
    else refuse Format at)
printed at f format args s = refuse Format format

-- Allocations.

abbrev pub allocation : (zeroed : Bool) → (shape : ℕ) → Expression → Scopes → Typing Form
allocation zeroed x e s =
    let r = with_shape (pointer x) s in
    Ok (operand (record { tree = allocate r.0 zeroed e; value = address r.0 x; is_zero = false; is_allocation = true }), r.1)

abbrev pub counted : (zeroed : Bool) → (at shape : ℕ) → Typed → Value → Scopes → Typing Form
counted zeroed at x n (integer kind) s = allocation zeroed x n.tree s
counted zeroed at x n v s = refuse Mismatch at

abbrev pub malloc_form : (at : ℕ) → Form → Scopes → Typing Form
malloc_form at (size x) s = allocation false x (constant Int (pos 1)) s
malloc_form at (sized n x) s = counted false at x n n.value s
malloc_form at f s = refuse Mismatch at

abbrev pub calloc_form : (at : ℕ) → Argument → Form → Scopes → Typing Form
calloc_form at a (size x) s = go_on (value_of a.at a.form s) (λ n s. counted true at x n n.value s)
calloc_form at a f s = refuse Mismatch at

-- Other calls of the library.

abbrev pub puts_form : (at : ℕ) → Form → Scopes → Typing Form
puts_form at (literal bs) s = Ok (int_form (put_literal bs), s)
puts_form at f s =
    go_on (value_of at f s) (λ x s. if is_char_pointer s x.value then Ok (int_form (put_text x.tree), s) else refuse Mismatch at)

abbrev pub released : (at : ℕ) → Typed → Value → Result Form Refusal
released at x (address n to) = Ok (operand (typed_as (release x.tree) nothing))
released at x v = if is_null x then Ok (operand (typed_as (discard x.tree) nothing)) else refuse Mismatch at

abbrev pub library_call : Library → (at : ℕ) → List Argument → Scopes → Typing Form
library_call of_printf at [] s = refuse Format at
library_call of_printf at (a ∷ args) s = printed at a.form a.at args s
library_call of_puts at (a ∷ []) s = puts_form a.at a.form s
library_call of_putchar at (a ∷ []) s =
    go_on (value_of a.at a.form s) (λ x s. and_then (fitted a.at int_type x s) (λ e. Ok (int_form (put_character e), s)))
library_call of_malloc at (a ∷ []) s = malloc_form at a.form s
library_call of_calloc at (a ∷ b ∷ []) s = calloc_form at a b.form s
library_call of_free at (a ∷ []) s = go_on (value_of a.at a.form s) (λ x s. and_then (released a.at x x.value) (λ f. Ok (f, s)))
library_call of_checkpoint at [] s = Ok (operand (typed_as checkpoint nothing), s)
library_call l at args s = refuse Mismatch at

-- only names of functions are called
abbrev pub call_form : (bodies : List (List ℕ)) → (at : ℕ) → Form → List Argument → Scopes → Typing Form
call_form bodies at (callee n) args s = program_call bodies at n args s
call_form bodies at (library_callee l) args s = library_call l at args s
call_form bodies at f args s = refuse Mismatch at
