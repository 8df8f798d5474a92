-- The text of a program is that of its parts.
use Rattle.std.proofs.Common.{◌≡◌, ℕ, zero, suc, Some, arith, slice_get, ◌+◌, List, [], ◌∷◌, ◌++◌, drop, refl, sym, ap, ◌∙◌, append_assoc, append-nil}
use Rattle.std.specs.List.{flat_map}
use Rattle.porch_types.specs.declared.shapes.Ty.{Ty}
use Rattle.porch_flat.specs.declared.flat.GlobalObject.{GlobalObject}
use Rattle.porch_flat.specs.declared.flat.Init.{Init}
use Rattle.porch_flat.specs.declared.whole.Command.{Command}
use Rattle.porch_flat.specs.declared.whole.Function.{Function}
use Rattle.porch_flat.specs.declared.whole.Flat.{Flat}
use Rattle.porch_flat.specs.whole.Lines.{Line, type_lines, init_lines, global_lines, var_lines, command_lines, function_lines, begin_line}
use Rattle.porch_flat_line.specs.declared.word.Word.TheVariants as word
use Rattle.porch_flat_line.specs.Text.{number, row, line_text, row_text, type_row, init_row, command_row, Text, first_head, second_head}
use Rattle.porch_flat_text.specs.inside.Texts.{types_text, inits_text, global_head, globals_text, vars_text, commands_text, begin_text, end_text, head_text, functions_text, flat_text}

texts_append : (xs ys : List Line) → flat_map line_text (xs ++ ys) ≡ flat_map line_text xs ++ flat_map line_text ys
texts_append [] ys = refl
texts_append (x ∷ xs) ys = ap (λ t. line_text x ++ t) (texts_append xs ys) ∙ sym (append_assoc (line_text x) (flat_map line_text xs) (flat_map line_text ys))

types_are : (n : ℕ) (types : List Ty) → flat_map line_text (type_lines n types) ≡ types_text n types
types_are n [] = refl
types_are n (ty ∷ types) = ap (λ t. row_text (type_row n ty) ++ t) (types_are (n + 1) types)

inits_are : (n : ℕ) (g : GlobalObject) (place : ℕ) (inits : List Init) → flat_map line_text (init_lines n g place inits) ≡ inits_text n inits
inits_are n g place [] = refl
inits_are n g place (init ∷ inits) = ap (λ t. row_text (init_row n init) ++ t) (inits_are n g (place + 1) inits)

globals_are : (n : ℕ) (globals : List GlobalObject) → flat_map line_text (global_lines n globals) ≡ globals_text n globals
globals_are n [] = refl
globals_are n (g ∷ globals) =
    ap (λ t. global_head n g.ty ++ t) (texts_append (init_lines n g 0 g.inits) (global_lines (n + 1) globals))
    ∙ ap (λ t. global_head n g.ty ++ (t ++ flat_map line_text (global_lines (n + 1) globals))) (inits_are n g 0 g.inits)
    ∙ ap (λ t. global_head n g.ty ++ (inits_text n g.inits ++ t)) (globals_are (n + 1) globals)
    ∙ sym (append_assoc (global_head n g.ty) (inits_text n g.inits) (globals_text (n + 1) globals))

vars_are : (f : Function) (n : ℕ) (vars : List ℕ) → flat_map line_text (var_lines f n vars) ≡ vars_text n vars
vars_are f n [] = refl
vars_are f n (ty ∷ vars) = ap (λ t. row_text (row word.Var (number n ∷ number ty ∷ [])) ++ t) (vars_are f (n + 1) vars)

commands_are : (f : Function) (place : ℕ) (commands : List Command) → flat_map line_text (command_lines f place commands) ≡ commands_text commands ++ end_text
commands_are f place [] = append-nil end_text
commands_are f place (c ∷ commands) =
    ap (λ t. row_text (command_row c) ++ t) (commands_are f (place + 1) commands) ∙ sym (append_assoc (row_text (command_row c)) (commands_text commands) end_text)

functions_are : (n : ℕ) (functions : List Function) → flat_map line_text (function_lines n functions) ≡ functions_text n functions
functions_are n [] = refl
functions_are n (f ∷ functions) =
    let body = var_lines f 0 f.vars in
    let more = command_lines f 0 f.commands ++ function_lines (n + 1) functions in
    ap (λ t. head_text n f ++ t) (texts_append body (begin_line ∷ more))
    ∙ ap (λ t. head_text n f ++ (t ++ (begin_text ++ flat_map line_text more))) (vars_are f 0 f.vars)
    ∙ ap (λ t. head_text n f ++ (vars_text 0 f.vars ++ (begin_text ++ t)))
    (texts_append (command_lines f 0 f.commands) (function_lines (n + 1) functions)
    ∙ ap (λ t. t ++ flat_map line_text (function_lines (n + 1) functions)) (commands_are f 0 f.commands)
    ∙ ap (λ t. (commands_text f.commands ++ end_text) ++ t) (functions_are (n + 1) functions))
    ∙ simp append_assoc

pub text_is : (flat : Flat) → Text flat ≡ flat_text flat
text_is flat =
    ap (λ t. first_head ++ (second_head ++ t))
    (texts_append (type_lines 8 (drop 8 flat.types)) (global_lines 0 flat.globals ++ function_lines 0 flat.functions)
    ∙ ap (λ t. t ++ flat_map line_text (global_lines 0 flat.globals ++ function_lines 0 flat.functions)) (types_are 8 (drop 8 flat.types))
    ∙ ap (λ t. types_text 8 (drop 8 flat.types) ++ t)
    (texts_append (global_lines 0 flat.globals) (function_lines 0 flat.functions)
    ∙ ap (λ t. t ++ flat_map line_text (function_lines 0 flat.functions)) (globals_are 0 flat.globals)
    ∙ ap (λ t. globals_text 0 flat.globals ++ t) (functions_are 0 flat.functions)))

some_same : {x y : Ty} → Some x ≡ Some y → x ≡ y
some_same e = cc

drop_here : (types : List Ty) (n : ℕ) (ty : Ty) → slice_get types n ≡ Some ty → drop n types ≡ ty ∷ drop (n + 1) types
drop_here [] n ty here = cc
drop_here (t ∷ types) zero ty here = ap (λ x. x ∷ types) (some_same here)
drop_here (t ∷ types) (suc n) ty here = let same : suc (n + 1) ≡ suc n + 1 = omega arith in drop_here types n ty here ∙ ap (λ k. ty ∷ drop k (t ∷ types)) same

-- one more type of the list
pub type_next : (types : List Ty) (n : ℕ) (ty : Ty) → slice_get types n ≡ Some ty → types_text n (drop n types) ≡ row_text (type_row n ty) ++ types_text (n + 1) (drop (n + 1) types)
type_next types n ty here = ap (types_text n) (drop_here types n ty here)

pub text_from : (flat : Flat) (text : List ℕ) → text ≡ flat_text flat → text ≡ Text flat
text_from flat text e = e ∙ sym (text_is flat)

pub type_put : (types : List Ty) (n : ℕ) (ty : Ty) (out more all : List ℕ) → slice_get types n ≡ Some ty → more ≡ out ++ row_text (type_row n ty)
    → out ++ types_text n (drop n types) ≡ all → more ++ types_text (n + 1) (drop (n + 1) types) ≡ all
type_put types n ty out more all here e so_far =
    rw (e, append_assoc) (ap (λ t. out ++ t) (sym (type_next types n ty here)) ∙ so_far)
