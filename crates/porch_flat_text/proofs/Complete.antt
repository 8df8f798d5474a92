-- The lines of a program's text are taken one after another, and make the program.
use Rattle.std.proofs.Common.{◌≡◌, ℕ, ◌+◌, ◌<◌, ◌≤◌, ◌^◌, Bool, true, false, ◌&&◌, cond, not, nat_lt, IsTrue, List, [], ◌∷◌, ◌++◌, map, length, Option, Some, None, refl, sym, ap, subst, ◌∙◌, arith, append_assoc, append-nil, length-append}
use Rattle.std.proofs.lemmas.Bool.{lt-ltb}
use Rattle.std.proofs.lemmas.List.{map-append}
use Rattle.std.proofs.lemmas.Slice.Eq.{bytes_eq-Decides}
use Rattle.std.specs.Str.{bytes_eq}
use Rattle.std.specs.Option.{is_none}
use Rattle.std.specs.List.{list_all, AllByRecursion}
use Rattle.porch_types.specs.Adding.{add_fault}
use Rattle.porch_types.specs.Leaves.{IsTypes}
use Rattle.porch_types.specs.declared.shapes.Ty.{Ty}
use Rattle.porch_types.specs.declared.shapes.Ty.TheVariants.{Whole, Pointer, Array, Struct}
use Rattle.porch_flat.specs.declared.flat.GlobalObject.{GlobalObject}
use Rattle.porch_flat.specs.declared.flat.Init.{Init}
use Rattle.porch_flat.specs.declared.flat.Init.TheVariants.{Value, Address}
use Rattle.porch_flat.specs.declared.whole.Command.{Command}
use Rattle.porch_flat.specs.declared.whole.Command.TheVariants as command
use Rattle.porch_flat.specs.declared.whole.Function.{Function}
use Rattle.porch_flat.specs.whole.Flats.{is_built, is_said, is_function_name, is_name, is_keyword}
use Rattle.porch_flat.specs.whole.Lines.{global_line, function_line, begin_line, end_line, type_lines, init_lines, global_lines, var_lines, command_lines, function_lines}
use Rattle.porch_flat_line.specs.declared.word.Word.{Word}
use Rattle.porch_flat_line.specs.declared.word.Word.TheVariants as word
use Rattle.porch_flat_text.specs.declared.draft.Draft.{Draft}
use Rattle.porch_flat_text.specs.declared.draft.Phase.{Phase}
use Rattle.porch_flat_text.specs.declared.draft.Phase.TheVariants as phase
use Rattle.porch_flat_line.specs.Text.{Argument, number, name, constant, result_type, row, row_text, type_row, init_row, command_row, arguments_text, line_text}
use Rattle.porch_flat_text.specs.Fitting.{TypeFits, RowFits, ArgumentFits}
use Rattle.porch_flat_text.specs.inside.Numbers.{number_in, constant_in, result_type_in}
use Rattle.porch_flat_text.specs.inside.Cuts.{first, rest, each_in, inner_part}
use Rattle.porch_flat_text.specs.inside.Drafts.{globals_of, taken_if, type_from, init_from, function_from, with_type, with_global, with_init, with_function, with_variable, with_some_command, with_command, with_end, is_word, next_in, next_by, next_form, next, run, run_on, is_whole, empty_global, empty_function}
use Rattle.porch_flat_text.specs.inside.Good.{GoodGlobal, GoodFunction}
use Rattle.porch_flat_text.proofs.Written.{word_written, inner_written, word_plain, rest_written}
use Rattle.porch_flat_text.proofs.Decoded.{number_again, constant_again, result_type_again, list_again}
use Rattle.porch_flat_text.proofs.Commands.{at_second, at_third, at_fourth, command_again}
use Rattle.porch_flat_text.proofs.Reading.{run_append}
use Rattle.porch_flat_text.proofs.TypesRun.{adds_next, few_before}
use Rattle.porch_flat_text.proofs.Sound.{draft}

pub then_run : (xs ys : List (List ℕ)) (d e f : Draft) → run d xs ≡ Some e → run e ys ≡ Some f → run d (xs ++ ys) ≡ Some f
then_run xs ys d e f h k = run_append xs ys d ∙ ap (λ o. run_on o (λ g. run g ys)) h ∙ k

pub one_run : (x : List ℕ) (ys : List (List ℕ)) (d e f : Draft) → next d x ≡ Some e → run e ys ≡ Some f → run d (x ∷ ys) ≡ Some f
one_run x ys d e f h k = ap (λ o. run_on o (λ g. run g ys)) h ∙ k

-- a line that is written as it has to be is taken
taken_by : {X : Type 0} (b : Bool) (x : X) → b ≡ true → cond b (Some x) None ≡ Some x
taken_by b x e = rw e refl

both_hold : (a b : Bool) → a ≡ true → b ≡ true → (a && b) ≡ true
both_hold a b h k = rw (h, k) refl

pub taken_so : {X : Type 0} (c : Bool) (line : List ℕ) (x : X) → c ≡ true → taken_if c line line x ≡ Some x
taken_so c line x h = taken_by (c && bytes_eq line line) x (both_hold c (bytes_eq line line) h ((bytes_eq-Decides line line).1 refl))

form_next : (d : Draft) (w : Word) (arguments : List Argument) → AllByRecursion ArgumentFits arguments
    → next_form d (row_text (row w arguments)) ≡ next_in d d.phase w (arguments_text arguments) (row_text (row w arguments))
form_next d w arguments fits =
    let l = row_text (row w arguments) in
    ap (λ o. next_by d o (inner_part l) l) (word_written w arguments)
    ∙ ap (λ s. next_in d d.phase w s l) (inner_written w arguments (word_plain w) fits)

-- types
type_taken : (ts : List Ty) (g : GlobalObject) (f : Function) (w : Word) (inner : List ℕ) (ty : Ty) → type_from w inner ≡ ty → nat_lt (length ts) (2 ^ 31) ≡ true → add_fault ts ty ≡ None
    → with_type (draft phase.Types ts [] g [] f) w inner (row_text (type_row (length ts) ty)) ≡ Some (draft phase.Types (ts ++ ty ∷ []) [] g [] f)
type_taken ts g f w inner ty is few fault =
    let line = row_text (type_row (length ts) ty) in
    let P : Ty → Type 0 = λ t. taken_if (nat_lt (length ts) (2 ^ 31) && is_none (add_fault ts t)) line (row_text (type_row (length ts) t)) (draft phase.Types (ts ++ t ∷ []) [] g [] f) ≡ Some (draft phase.Types (ts ++ ty ∷ []) [] g [] f) in
    subst P (sym is) (taken_so (nat_lt (length ts) (2 ^ 31) && is_none (add_fault ts ty)) line (draft phase.Types (ts ++ ty ∷ []) [] g [] f)
    (both_hold (nat_lt (length ts) (2 ^ 31)) (is_none (add_fault ts ty)) few (ap is_none fault)))

type_one : (ts : List Ty) (g : GlobalObject) (f : Function) (ty : Ty) (n : ℕ) → n ≡ length ts → n < 2 ^ 32 → IsTrue (is_built ty) → TypeFits ty → nat_lt (length ts) (2 ^ 31) ≡ true → add_fault ts ty ≡ None
    → next_form (draft phase.Types ts [] g [] f) (row_text (type_row n ty)) ≡ Some (draft phase.Types (ts ++ ty ∷ []) [] g [] f)
type_one ts g f (Whole kind) n e low built fits few fault = cc
type_one ts g f (Pointer to) n e low built fits few fault =
    let d = draft phase.Types ts [] g [] f in
    form_next d word.Pointer (number n ∷ number to ∷ []) (low, fits.1)
    ∙ ap (λ k. with_type d word.Pointer (arguments_text (number n ∷ number to ∷ [])) (row_text (type_row k (Pointer to)))) e
    ∙ type_taken ts g f word.Pointer (arguments_text (number n ∷ number to ∷ [])) (Pointer to)
    (ap Pointer (at_second number_in (number n) (number to) [] to low fits.1.0 (number_again to fits.1.0))) few fault
type_one ts g f (Array of count) n e low built fits few fault =
    let d = draft phase.Types ts [] g [] f in
    let args = number n ∷ number of ∷ number count ∷ [] in
    let a : number_in (first (rest (arguments_text args))) ≡ of = at_second number_in (number n) (number of) (number count ∷ []) of low fits.1.0 (number_again of fits.1.0) in
    let b : number_in (first (rest (rest (arguments_text args)))) ≡ count = at_third number_in (number n) (number of) (number count) [] count low fits.1.0 fits.1.1.0 (number_again count fits.1.1.0) in
    form_next d word.Array args (low, fits.1)
    ∙ ap (λ k. with_type d word.Array (arguments_text args) (row_text (type_row k (Array of count)))) e
    ∙ type_taken ts g f word.Array (arguments_text args) (Array of count) (ap (λ x. Array x (number_in (first (rest (rest (arguments_text args)))))) a ∙ ap (λ y. Array of y) b) few fault
type_one ts g f (Struct members) n e low built fits few fault =
    let d = draft phase.Types ts [] g [] f in
    let args = number n ∷ map number members in
    form_next d word.Struct args (low, fits.1)
    ∙ ap (λ k. with_type d word.Struct (arguments_text args) (row_text (type_row k (Struct members)))) e
    ∙ type_taken ts g f word.Struct (arguments_text args) (Struct members)
    (ap (λ s. Struct (each_in number_in (length s) s)) (rest_written (number n) (map number members) low) ∙ ap Struct (list_again number_in number number_again members fits.1)) few fault

both_parts : (a b : Bool) → (a && b) ≡ true → (a ≡ true) × (b ≡ true)
both_parts true b h = (refl, h)
both_parts false b h = cc

pub types_run : (more ts : List Ty) (g : GlobalObject) (f : Function) (n : ℕ) → n ≡ length ts → IsTrue (list_all is_built more) → AllByRecursion TypeFits more → IsTypes (ts ++ more)
    → run (draft phase.Types ts [] g [] f) (map line_text (type_lines n more)) ≡ Some (draft phase.Types (ts ++ more) [] g [] f)
types_run [] ts g f n e built fits types = ap (λ xs. Some (draft phase.Types xs [] g [] f)) (sym (append-nil ts))
types_run (ty ∷ more) ts g f n e built fits types =
    let b = both_parts (is_built ty) (list_all is_built more) built in
    let few = few_before ts ty more types in
    let again : IsTypes ((ts ++ ty ∷ []) ++ more) = subst IsTypes (sym (append_assoc ts (ty ∷ []) more)) types in
    let long : n + 1 ≡ length (ts ++ ty ∷ []) = omega (arith, length-append ts (ty ∷ []), e) in
    one_run (row_text (type_row n ty)) (map line_text (type_lines (n + 1) more)) (draft phase.Types ts [] g [] f) (draft phase.Types (ts ++ ty ∷ []) [] g [] f) (draft phase.Types (ts ++ ty ∷ more) [] g [] f)
    (type_one ts g f ty n e (omega (arith, few, e)) b.0 fits.0 (lt-ltb (length ts) (2 ^ 31) few) (adds_next ts ty more types))
    (types_run more (ts ++ ty ∷ []) g f (n + 1) long b.1 fits.1 again ∙ ap (λ xs. Some (draft phase.Types xs [] g [] f)) (append_assoc ts (ty ∷ []) more))

-- a global may begin
abbrev pub is_early : Phase → Bool
is_early phase.Types = true
is_early phase.Globals = true
is_early p = false

global_taken : (p : Phase) (ts : List Ty) (gs : List GlobalObject) (g : GlobalObject) (fs : List Function) (f : Function) (inner : List ℕ) (ty : ℕ) → number_in (first (rest inner)) ≡ ty → nat_lt (length (globals_of p gs g)) (2 ^ 32) ≡ true
    → with_global (draft p ts gs g fs f) inner (row_text (row word.Global (number (length (globals_of p gs g)) ∷ number ty ∷ []))) ≡ Some (draft phase.Globals ts (globals_of p gs g) (record { ty = ty; inits = [] }) fs f)
global_taken p ts gs g fs f inner ty is few =
    let all = globals_of p gs g in
    let line = row_text (row word.Global (number (length all) ∷ number ty ∷ [])) in
    let P : ℕ → Type 0 = λ t. taken_if (nat_lt (length all) (2 ^ 32)) line (row_text (row word.Global (number (length all) ∷ number t ∷ []))) (draft phase.Globals ts all (record { ty = t; inits = [] }) fs f) ≡ Some (draft phase.Globals ts all (record { ty = ty; inits = [] }) fs f) in
    subst P (sym is) (taken_so (nat_lt (length all) (2 ^ 32)) line (draft phase.Globals ts all (record { ty = ty; inits = [] }) fs f) few)

global_one : (p : Phase) (ts : List Ty) (gs : List GlobalObject) (g : GlobalObject) (fs : List Function) (f : Function) (n ty : ℕ) → is_early p ≡ true → n ≡ length (globals_of p gs g) → n < 2 ^ 32 → ty < 2 ^ 32
    → next (draft p ts gs g fs f) (row_text (row word.Global (number n ∷ number ty ∷ []))) ≡ Some (draft phase.Globals ts (globals_of p gs g) (record { ty = ty; inits = [] }) fs f)
global_one phase.Types ts gs g fs f n ty early e low fits =
    let d = draft phase.Types ts gs g fs f in
    let args = number n ∷ number ty ∷ [] in
    form_next d word.Global args (low, (fits, tt))
    ∙ ap (λ k. with_global d (arguments_text args) (row_text (row word.Global (number k ∷ number ty ∷ [])))) e
    ∙ global_taken phase.Types ts gs g fs f (arguments_text args) ty (at_second number_in (number n) (number ty) [] ty low fits (number_again ty fits))
    (lt-ltb (length (globals_of phase.Types gs g)) (2 ^ 32) (omega (arith, low, e)))
global_one phase.Globals ts gs g fs f n ty early e low fits =
    let d = draft phase.Globals ts gs g fs f in
    let args = number n ∷ number ty ∷ [] in
    form_next d word.Global args (low, (fits, tt))
    ∙ ap (λ k. with_global d (arguments_text args) (row_text (row word.Global (number k ∷ number ty ∷ [])))) e
    ∙ global_taken phase.Globals ts gs g fs f (arguments_text args) ty (at_second number_in (number n) (number ty) [] ty low fits (number_again ty fits))
    (lt-ltb (length (globals_of phase.Globals gs g)) (2 ^ 32) (omega (arith, low, e)))
global_one phase.Start ts gs g fs f n ty early e low fits = cc
global_one phase.Second ts gs g fs f n ty early e low fits = cc
global_one phase.Functions ts gs g fs f n ty early e low fits = cc
global_one phase.Variables ts gs g fs f n ty early e low fits = cc
global_one phase.Commands ts gs g fs f n ty early e low fits = cc

-- initial values
address_same : (a b c x y z : ℕ) → a ≡ x → b ≡ y → c ≡ z → Address a b c ≡ Address x y z
address_same a b c x y z e f g = cc

init_taken : (ts : List Ty) (gs : List GlobalObject) (ty : ℕ) (inits : List Init) (fs : List Function) (f : Function) (w : Word) (inner : List ℕ) (init : Init) → init_from w inner ≡ init → is_said init ≡ true
    → with_init (draft phase.Globals ts gs (record { ty = ty; inits = inits }) fs f) w inner (row_text (init_row (length gs) init)) ≡ Some (draft phase.Globals ts gs (record { ty = ty; inits = inits ++ init ∷ [] }) fs f)
init_taken ts gs ty inits fs f w inner init is said =
    let line = row_text (init_row (length gs) init) in
    let P : Init → Type 0 = λ i. taken_if (is_said i) line (row_text (init_row (length gs) i)) (draft phase.Globals ts gs (record { ty = ty; inits = inits ++ i ∷ [] }) fs f) ≡ Some (draft phase.Globals ts gs (record { ty = ty; inits = inits ++ init ∷ [] }) fs f) in
    subst P (sym is) (taken_so (is_said init) line (draft phase.Globals ts gs (record { ty = ty; inits = inits ++ init ∷ [] }) fs f) said)

init_one : (ts : List Ty) (gs : List GlobalObject) (ty : ℕ) (inits : List Init) (fs : List Function) (f : Function) (n : ℕ) (init : Init) → n ≡ length gs → n < 2 ^ 32 → RowFits (init_row 0 init) → is_said init ≡ true
    → next (draft phase.Globals ts gs (record { ty = ty; inits = inits }) fs f) (row_text (init_row n init)) ≡ Some (draft phase.Globals ts gs (record { ty = ty; inits = inits ++ init ∷ [] }) fs f)
init_one ts gs ty inits fs f n (Value leaf z) e low fits said =
    let d = draft phase.Globals ts gs (record { ty = ty; inits = inits }) fs f in
    let args = number n ∷ number leaf ∷ constant z ∷ [] in
    let a : number_in (first (rest (arguments_text args))) ≡ leaf = at_second number_in (number n) (number leaf) (constant z ∷ []) leaf low fits.1.0 (number_again leaf fits.1.0) in
    let b : constant_in (first (rest (rest (arguments_text args)))) ≡ z = at_third constant_in (number n) (number leaf) (constant z) [] z low fits.1.0 fits.1.1.0 (constant_again z fits.1.1.0) in
    form_next d word.Init args (low, fits.1)
    ∙ ap (λ k. with_init d word.Init (arguments_text args) (row_text (init_row k (Value leaf z)))) e
    ∙ init_taken ts gs ty inits fs f word.Init (arguments_text args) (Value leaf z) (ap (λ x. Value x (constant_in (first (rest (rest (arguments_text args)))))) a ∙ ap (λ y. Value leaf y) b) said
init_one ts gs ty inits fs f n (Address leaf other place) e low fits said =
    let d = draft phase.Globals ts gs (record { ty = ty; inits = inits }) fs f in
    let args = number n ∷ number leaf ∷ number other ∷ number place ∷ [] in
    let a : number_in (first (rest (arguments_text args))) ≡ leaf = at_second number_in (number n) (number leaf) (number other ∷ number place ∷ []) leaf low fits.1.0 (number_again leaf fits.1.0) in
    let b : number_in (first (rest (rest (arguments_text args)))) ≡ other = at_third number_in (number n) (number leaf) (number other) (number place ∷ []) other low fits.1.0 fits.1.1.0 (number_again other fits.1.1.0) in
    let c : number_in (first (rest (rest (rest (arguments_text args))))) ≡ place = at_fourth number_in (number n) (number leaf) (number other) (number place) [] place low fits.1.0 fits.1.1.0 fits.1.1.1.0 (number_again place fits.1.1.1.0) in
    form_next d word.InitA args (low, fits.1)
    ∙ ap (λ k. with_init d word.InitA (arguments_text args) (row_text (init_row k (Address leaf other place)))) e
    ∙ init_taken ts gs ty inits fs f word.InitA (arguments_text args) (Address leaf other place) (address_same _ _ _ leaf other place a b c) said

inits_run : (more inits : List Init) (ts : List Ty) (gs : List GlobalObject) (ty : ℕ) (fs : List Function) (f : Function) (n : ℕ) (g : GlobalObject) (place : ℕ) → n ≡ length gs → n < 2 ^ 32
    → AllByRecursion (λ init. RowFits (init_row 0 init)) more → IsTrue (list_all is_said more)
    → run (draft phase.Globals ts gs (record { ty = ty; inits = inits }) fs f) (map line_text (init_lines n g place more)) ≡ Some (draft phase.Globals ts gs (record { ty = ty; inits = inits ++ more }) fs f)
inits_run [] inits ts gs ty fs f n g place e low fits said = ap (λ xs. Some (draft phase.Globals ts gs (record { ty = ty; inits = xs }) fs f)) (sym (append-nil inits))
inits_run (init ∷ more) inits ts gs ty fs f n g place e low fits said =
    let b = both_parts (is_said init) (list_all is_said more) said in
    one_run (row_text (init_row n init)) (map line_text (init_lines n g (place + 1) more)) (draft phase.Globals ts gs (record { ty = ty; inits = inits }) fs f)
    (draft phase.Globals ts gs (record { ty = ty; inits = inits ++ init ∷ [] }) fs f) (draft phase.Globals ts gs (record { ty = ty; inits = inits ++ init ∷ more }) fs f)
    (init_one ts gs ty inits fs f n init e low fits.0 b.0)
    (inits_run more (inits ++ init ∷ []) ts gs ty fs f n g (place + 1) e low fits.1 b.1
    ∙ ap (λ xs. Some (draft phase.Globals ts gs (record { ty = ty; inits = xs }) fs f)) (append_assoc inits (init ∷ []) more))

-- what is reached behind globals
pub record AtGlobals (d : Draft) (lines : List (List ℕ)) (ts : List Ty) (all : List GlobalObject) (f : Function) : Type 0 where
  pub p : Phase
  pub gs : List GlobalObject
  pub g : GlobalObject
  pub made : run d lines ≡ Some (draft p ts gs g [] f)
  pub early : is_early p ≡ true
  pub are : globals_of p gs g ≡ all

pub globals_run : (more : List GlobalObject) (p : Phase) (ts : List Ty) (gs : List GlobalObject) (g : GlobalObject) (f : Function) (n : ℕ) → is_early p ≡ true → n ≡ length (globals_of p gs g) → n + length more ≤ 2 ^ 32
    → AllByRecursion GoodGlobal more → AtGlobals (draft p ts gs g [] f) (map line_text (global_lines n more)) ts (globals_of p gs g ++ more) f
globals_run [] p ts gs g f n early e low good = record { p = p; gs = gs; g = g; made = refl; early = early; are = sym (append-nil (globals_of p gs g)) }
globals_run (new ∷ more) p ts gs g f n early e low good =
    let all = globals_of p gs g in
    let start = draft p ts gs g [] f in
    let begun = draft phase.Globals ts all (record { ty = new.ty; inits = [] }) [] f in
    let filled = draft phase.Globals ts all new [] f in
    let small : n < 2 ^ 32 = omega (arith, low) in
    let long : n + 1 ≡ length (all ++ new ∷ []) = omega (arith, length-append all (new ∷ []), e) in
    let next_ones = globals_run more phase.Globals ts all new f (n + 1) refl long (omega (arith, low)) good.1 in
    let inits = map line_text (init_lines n new 0 new.inits) in
    let others = map line_text (global_lines (n + 1) more) in
    let behind : run begun (inits ++ others) ≡ Some (draft next_ones.p ts next_ones.gs next_ones.g [] f) =
    then_run inits others begun filled (draft next_ones.p ts next_ones.gs next_ones.g [] f) (inits_run new.inits [] ts all new.ty [] f n new 0 e small good.0.fits.inits good.0.said) next_ones.made in
    record {
      p = next_ones.p;
      gs = next_ones.gs;
      g = next_ones.g;
      made = one_run (line_text (global_line n new)) (map line_text (init_lines n new 0 new.inits ++ global_lines (n + 1) more)) start begun (draft next_ones.p ts next_ones.gs next_ones.g [] f)
          (global_one p ts gs g [] f n new.ty early e small good.0.fits.ty)
          (ap (run begun) (map-append line_text (init_lines n new 0 new.inits) (global_lines (n + 1) more)) ∙ behind);
      early = next_ones.early;
      are = next_ones.are ∙ append_assoc all (new ∷ []) more;
    }

-- functions
abbrev function_of : List ℕ → Option ℕ → ℕ → List ℕ → List Command → Function
function_of n r k vs cs = record { name = n; result = r; params = k; vars = vs; commands = cs }

function_same : (a x : List ℕ) (b y : Option ℕ) (c z : ℕ) → a ≡ x → b ≡ y → c ≡ z → function_of a b c [] [] ≡ function_of x y z [] []
function_same a x b y c z e f g = ap (λ n. function_of n b c [] []) e ∙ ap (λ r. function_of x r c [] []) f ∙ ap (λ k. function_of x y k [] []) g

function_taken : (p : Phase) (ts : List Ty) (gs : List GlobalObject) (g : GlobalObject) (fs : List Function) (f new : Function) (inner : List ℕ) → function_from inner ≡ new → nat_lt (length fs) (2 ^ 32) ≡ true → is_function_name new.name ≡ true
    → with_function (draft p ts gs g fs f) inner (line_text (function_line (length fs) new)) ≡ Some (draft phase.Variables ts (globals_of p gs g) empty_global fs new)
function_taken p ts gs g fs f new inner is few named =
    let line = line_text (function_line (length fs) new) in
    let P : Function → Type 0 = λ k. taken_if (nat_lt (length fs) (2 ^ 32) && is_function_name k.name) line (line_text (function_line (length fs) k)) (draft phase.Variables ts (globals_of p gs g) empty_global fs k) ≡ Some (draft phase.Variables ts (globals_of p gs g) empty_global fs new) in
    subst P (sym is) (taken_so (nat_lt (length fs) (2 ^ 32) && is_function_name new.name) line (draft phase.Variables ts (globals_of p gs g) empty_global fs new) (both_hold (nat_lt (length fs) (2 ^ 32)) (is_function_name new.name) few named))

function_read : (n : ℕ) (bytes : List ℕ) (r : Option ℕ) (k : ℕ) → n < 2 ^ 32 → IsTrue (is_name bytes) → ArgumentFits (result_type r) → k < 2 ^ 32
    → function_from (arguments_text (number n ∷ name bytes ∷ result_type r ∷ number k ∷ [])) ≡ function_of bytes r k [] []
function_read n bytes r k low named fits few =
    function_same _ bytes _ r _ k
    (at_second (λ s. s) (number n) (name bytes) (result_type r ∷ number k ∷ []) bytes low named refl)
    (at_third result_type_in (number n) (name bytes) (result_type r) (number k ∷ []) r low named fits (result_type_again r fits))
    (at_fourth number_in (number n) (name bytes) (result_type r) (number k) [] k low named fits few (number_again k few))

-- the next line is that of a function, wherever one may begin
function_begins : (p : Phase) (ts : List Ty) (gs : List GlobalObject) (g : GlobalObject) (fs : List Function) (f : Function) (arguments : List Argument) → is_whole p ≡ true → AllByRecursion ArgumentFits arguments
    → next (draft p ts gs g fs f) (row_text (row word.Function arguments)) ≡ with_function (draft p ts gs g fs f) (arguments_text arguments) (row_text (row word.Function arguments))
function_begins phase.Types ts gs g fs f arguments whole fits = form_next (draft phase.Types ts gs g fs f) word.Function arguments fits
function_begins phase.Globals ts gs g fs f arguments whole fits = form_next (draft phase.Globals ts gs g fs f) word.Function arguments fits
function_begins phase.Functions ts gs g fs f arguments whole fits = form_next (draft phase.Functions ts gs g fs f) word.Function arguments fits
function_begins phase.Start ts gs g fs f arguments whole fits = cc
function_begins phase.Second ts gs g fs f arguments whole fits = cc
function_begins phase.Variables ts gs g fs f arguments whole fits = cc
function_begins phase.Commands ts gs g fs f arguments whole fits = cc

function_one : (p : Phase) (ts : List Ty) (gs : List GlobalObject) (g : GlobalObject) (fs : List Function) (f new : Function) (n : ℕ) → is_whole p ≡ true → n ≡ length fs → n < 2 ^ 32 → GoodFunction new
    → next (draft p ts gs g fs f) (line_text (function_line n new)) ≡ Some (draft phase.Variables ts (globals_of p gs g) empty_global fs (function_of new.name new.result new.params [] []))
function_one p ts gs g fs f new n whole e low good =
    let args = number n ∷ name new.name ∷ result_type new.result ∷ number new.params ∷ [] in
    let head = function_of new.name new.result new.params [] [] in
    let named = (both_parts (is_name new.name) (not (is_keyword new.name)) good.named).0 in
    function_begins p ts gs g fs f args whole (low, (named, (good.fits.result, (good.fits.params, tt))))
    ∙ ap (λ k. with_function (draft p ts gs g fs f) (arguments_text args) (line_text (function_line k head))) e
    ∙ function_taken p ts gs g fs f head (arguments_text args) (function_read n new.name new.result new.params low named good.fits.result good.fits.params)
    (lt-ltb (length fs) (2 ^ 32) (omega (arith, low, e))) good.named

variable_taken : (ts : List Ty) (gs : List GlobalObject) (g : GlobalObject) (fs : List Function) (a : List ℕ) (r : Option ℕ) (k : ℕ) (vars : List ℕ) (inner : List ℕ) (ty : ℕ) → number_in (first (rest inner)) ≡ ty → nat_lt (length vars) (2 ^ 32) ≡ true
    → with_variable (draft phase.Variables ts gs g fs (function_of a r k vars [])) inner (row_text (row word.Var (number (length vars) ∷ number ty ∷ []))) ≡ Some (draft phase.Variables ts gs g fs (function_of a r k (vars ++ ty ∷ []) []))
variable_taken ts gs g fs a r k vars inner ty is few =
    let line = row_text (row word.Var (number (length vars) ∷ number ty ∷ [])) in
    let P : ℕ → Type 0 = λ t. taken_if (nat_lt (length vars) (2 ^ 32)) line (row_text (row word.Var (number (length vars) ∷ number t ∷ []))) (draft phase.Variables ts gs g fs (function_of a r k (vars ++ t ∷ []) [])) ≡ Some (draft phase.Variables ts gs g fs (function_of a r k (vars ++ ty ∷ []) [])) in
    subst P (sym is) (taken_so (nat_lt (length vars) (2 ^ 32)) line (draft phase.Variables ts gs g fs (function_of a r k (vars ++ ty ∷ []) [])) few)

vars_run : (more vars : List ℕ) (ts : List Ty) (gs : List GlobalObject) (g : GlobalObject) (fs : List Function) (a : List ℕ) (r : Option ℕ) (k : ℕ) (f : Function) (n : ℕ) → n ≡ length vars → n + length more ≤ 2 ^ 32 → AllByRecursion (λ ty. ty < 2 ^ 32) more
    → run (draft phase.Variables ts gs g fs (function_of a r k vars [])) (map line_text (var_lines f n more)) ≡ Some (draft phase.Variables ts gs g fs (function_of a r k (vars ++ more) []))
vars_run [] vars ts gs g fs a r k f n e low fits = ap (λ xs. Some (draft phase.Variables ts gs g fs (function_of a r k xs []))) (sym (append-nil vars))
vars_run (ty ∷ more) vars ts gs g fs a r k f n e low fits =
    let args = number n ∷ number ty ∷ [] in
    let d = draft phase.Variables ts gs g fs (function_of a r k vars []) in
    let small : n < 2 ^ 32 = omega (arith, low) in
    let long : n + 1 ≡ length (vars ++ ty ∷ []) = omega (arith, length-append vars (ty ∷ []), e) in
    one_run (row_text (row word.Var args)) (map line_text (var_lines f (n + 1) more)) d
    (draft phase.Variables ts gs g fs (function_of a r k (vars ++ ty ∷ []) [])) (draft phase.Variables ts gs g fs (function_of a r k (vars ++ ty ∷ more) []))
    (form_next d word.Var args (small, (fits.0, tt))
    ∙ ap (λ m. with_variable d (arguments_text args) (row_text (row word.Var (number m ∷ number ty ∷ [])))) e
    ∙ variable_taken ts gs g fs a r k vars (arguments_text args) ty (at_second number_in (number n) (number ty) [] ty small fits.0 (number_again ty fits.0)) (lt-ltb (length vars) (2 ^ 32) (omega (arith, small, e))))
    (vars_run more (vars ++ ty ∷ []) ts gs g fs a r k f (n + 1) long (omega (arith, low)) fits.1
    ∙ ap (λ xs. Some (draft phase.Variables ts gs g fs (function_of a r k xs []))) (append_assoc vars (ty ∷ []) more))

begin_one : (ts : List Ty) (gs : List GlobalObject) (g : GlobalObject) (fs : List Function) (a : List ℕ) (r : Option ℕ) (k : ℕ) (vars : List ℕ)
    → next (draft phase.Variables ts gs g fs (function_of a r k vars [])) (line_text begin_line) ≡ Some (draft phase.Commands ts gs g fs (function_of a r k vars []))
begin_one ts gs g fs a r k vars =
    form_next (draft phase.Variables ts gs g fs (function_of a r k vars [])) word.Begin [] tt
    ∙ taken_so true (line_text begin_line) (draft phase.Commands ts gs g fs (function_of a r k vars [])) refl

end_one : (ts : List Ty) (gs : List GlobalObject) (g : GlobalObject) (fs : List Function) (f : Function)
    → next (draft phase.Commands ts gs g fs f) (line_text end_line) ≡ Some (draft phase.Functions ts gs g (fs ++ f ∷ []) empty_function)
end_one ts gs g fs f =
    form_next (draft phase.Commands ts gs g fs f) word.End [] tt
    ∙ taken_so true (line_text end_line) (draft phase.Functions ts gs g (fs ++ f ∷ []) empty_function) refl

-- the word of a command isn't END
no_end : (c : Command) → is_word (command_row c).word word.End ≡ false
no_end (command.Move x y) = refl
no_end (command.Cast x y) = refl
no_end (command.Add x y z) = refl
no_end (command.Sub x y z) = refl
no_end (command.Mul x y z) = refl
no_end (command.Div x y z) = refl
no_end (command.Rem x y z) = refl
no_end (command.And x y z) = refl
no_end (command.Or x y z) = refl
no_end (command.Xor x y z) = refl
no_end (command.Shl x y z) = refl
no_end (command.Shr x y z) = refl
no_end (command.Not x y) = refl
no_end (command.Lt x y z) = refl
no_end (command.Le x y z) = refl
no_end (command.Eq x y z) = refl
no_end (command.Ne x y z) = refl
no_end (command.Local x y z) = refl
no_end (command.GlobalA x y z) = refl
no_end (command.Member x y z) = refl
no_end (command.Step x y z) = refl
no_end (command.Back x y z) = refl
no_end (command.Diff x y z) = refl
no_end (command.Load x y) = refl
no_end (command.Store x y) = refl
no_end (command.Copy x y) = refl
no_end (command.Kill x) = refl
no_end (command.Alloc x y) = refl
no_end (command.Calloc x y) = refl
no_end (command.Free x) = refl
no_end (command.Char x y) = refl
no_end (command.Dec x y) = refl
no_end (command.Hex x y) = refl
no_end (command.Text x y) = refl
no_end (command.Label x) = refl
no_end (command.Jump x) = refl
no_end (command.If x y) = refl
no_end command.Turn = refl
no_end (command.Table x y) = refl
no_end (command.Saved x y) = refl
no_end command.Checkpoint = refl
no_end (command.Call r f os) = refl
no_end (command.Return o) = refl
no_end (command.Restore vs) = refl
no_end (command.Push vs) = refl

not_end : (b : Bool) (x y : Option Draft) → b ≡ false → cond b x y ≡ y
not_end b x y e = rw e refl

command_one : (ts : List Ty) (gs : List GlobalObject) (g : GlobalObject) (fs : List Function) (a : List ℕ) (r : Option ℕ) (k : ℕ) (vars : List ℕ) (commands : List Command) (c : Command) → RowFits (command_row c)
    → next (draft phase.Commands ts gs g fs (function_of a r k vars commands)) (row_text (command_row c)) ≡ Some (draft phase.Commands ts gs g fs (function_of a r k vars (commands ++ c ∷ [])))
command_one ts gs g fs a r k vars commands c fits =
    let d = draft phase.Commands ts gs g fs (function_of a r k vars commands) in
    let w = (command_row c).word in
    let inner = arguments_text (command_row c).arguments in
    let line = row_text (command_row c) in
    form_next d w (command_row c).arguments fits
    ∙ not_end (is_word w word.End) (with_end d line) (with_command d w inner line) (no_end c)
    ∙ ap (λ o. with_some_command d o line) (command_again c fits)
    ∙ taken_so true line (draft phase.Commands ts gs g fs (function_of a r k vars (commands ++ c ∷ []))) refl

commands_run : (more commands : List Command) (ts : List Ty) (gs : List GlobalObject) (g : GlobalObject) (fs : List Function) (a : List ℕ) (r : Option ℕ) (k : ℕ) (vars : List ℕ) (f : Function) (n : ℕ) → AllByRecursion (λ c. RowFits (command_row c)) more
    → run (draft phase.Commands ts gs g fs (function_of a r k vars commands)) (map line_text (command_lines f n more)) ≡ Some (draft phase.Functions ts gs g (fs ++ function_of a r k vars (commands ++ more) ∷ []) empty_function)
commands_run [] commands ts gs g fs a r k vars f n fits =
    one_run (line_text end_line) [] (draft phase.Commands ts gs g fs (function_of a r k vars commands)) (draft phase.Functions ts gs g (fs ++ function_of a r k vars commands ∷ []) empty_function) _
    (end_one ts gs g fs (function_of a r k vars commands)) (ap (λ xs. Some (draft phase.Functions ts gs g (fs ++ function_of a r k vars xs ∷ []) empty_function)) (sym (append-nil commands)))
commands_run (c ∷ more) commands ts gs g fs a r k vars f n fits =
    one_run (row_text (command_row c)) (map line_text (command_lines f (n + 1) more)) (draft phase.Commands ts gs g fs (function_of a r k vars commands))
    (draft phase.Commands ts gs g fs (function_of a r k vars (commands ++ c ∷ []))) (draft phase.Functions ts gs g (fs ++ function_of a r k vars (commands ++ c ∷ more) ∷ []) empty_function)
    (command_one ts gs g fs a r k vars commands c fits.0)
    (commands_run more (commands ++ c ∷ []) ts gs g fs a r k vars f (n + 1) fits.1
    ∙ ap (λ xs. Some (draft phase.Functions ts gs g (fs ++ function_of a r k vars xs ∷ []) empty_function)) (append_assoc commands (c ∷ []) more))

-- one function, from its first line to END
one_function : (p : Phase) (ts : List Ty) (gs : List GlobalObject) (g : GlobalObject) (fs : List Function) (f new : Function) (n : ℕ) → is_whole p ≡ true → n ≡ length fs → n < 2 ^ 32 → GoodFunction new
    → run (draft p ts gs g fs f) (line_text (function_line n new) ∷ (map line_text (var_lines new 0 new.vars) ++ line_text begin_line ∷ map line_text (command_lines new 0 new.commands)))
    ≡ Some (draft phase.Functions ts (globals_of p gs g) empty_global (fs ++ new ∷ []) empty_function)
one_function p ts gs g fs f new n whole e low good =
    let all = globals_of p gs g in
    let v = draft phase.Variables ts all empty_global fs (function_of new.name new.result new.params [] []) in
    let w = draft phase.Variables ts all empty_global fs (function_of new.name new.result new.params new.vars []) in
    let c = draft phase.Commands ts all empty_global fs (function_of new.name new.result new.params new.vars []) in
    let z = draft phase.Functions ts all empty_global (fs ++ new ∷ []) empty_function in
    let vars = map line_text (var_lines new 0 new.vars) in
    let commands = map line_text (command_lines new 0 new.commands) in
    one_run (line_text (function_line n new)) (vars ++ line_text begin_line ∷ commands) (draft p ts gs g fs f) v z
    (function_one p ts gs g fs f new n whole e low good)
    (then_run vars (line_text begin_line ∷ commands) v w z
    (vars_run new.vars [] ts all empty_global fs new.name new.result new.params new 0 refl (omega (arith, good.fits.count)) good.fits.vars)
    (one_run (line_text begin_line) commands w c z (begin_one ts all empty_global fs new.name new.result new.params new.vars)
    (commands_run new.commands [] ts all empty_global fs new.name new.result new.params new.vars new 0 good.fits.commands)))

-- what is reached behind functions
pub record AtFunctions (d : Draft) (lines : List (List ℕ)) (ts : List Ty) (all : List GlobalObject) (fs : List Function) : Type 0 where
  pub p : Phase
  pub gs : List GlobalObject
  pub g : GlobalObject
  pub f : Function
  pub made : run d lines ≡ Some (draft p ts gs g fs f)
  pub whole : is_whole p ≡ true
  pub are : globals_of p gs g ≡ all

function_lines_are : (n : ℕ) (new : Function) (more : List Function) → map line_text (function_lines n (new ∷ more))
    ≡ (line_text (function_line n new) ∷ (map line_text (var_lines new 0 new.vars) ++ line_text begin_line ∷ map line_text (command_lines new 0 new.commands))) ++ map line_text (function_lines (n + 1) more)
function_lines_are n new more =
    let others = function_lines (n + 1) more in
    ap (λ t. line_text (function_line n new) ∷ t)
    (map-append line_text (var_lines new 0 new.vars) (begin_line ∷ (command_lines new 0 new.commands ++ others))
    ∙ ap (λ t. map line_text (var_lines new 0 new.vars) ++ line_text begin_line ∷ t) (map-append line_text (command_lines new 0 new.commands) others)
    ∙ sym (append_assoc (map line_text (var_lines new 0 new.vars)) (line_text begin_line ∷ map line_text (command_lines new 0 new.commands)) (map line_text others)))

pub functions_run : (more : List Function) (p : Phase) (ts : List Ty) (gs : List GlobalObject) (g : GlobalObject) (fs : List Function) (f : Function) (n : ℕ) → is_whole p ≡ true → n ≡ length fs → n + length more ≤ 2 ^ 32
    → AllByRecursion GoodFunction more → AtFunctions (draft p ts gs g fs f) (map line_text (function_lines n more)) ts (globals_of p gs g) (fs ++ more)
functions_run [] p ts gs g fs f n whole e low good =
    record { p = p; gs = gs; g = g; f = f; made = ap (λ xs. Some (draft p ts gs g xs f)) (sym (append-nil fs)); whole = whole; are = refl }
functions_run (new ∷ more) p ts gs g fs f n whole e low good =
    let all = globals_of p gs g in
    let small : n < 2 ^ 32 = omega (arith, low) in
    let long : n + 1 ≡ length (fs ++ new ∷ []) = omega (arith, length-append fs (new ∷ []), e) in
    let others = functions_run more phase.Functions ts all empty_global (fs ++ new ∷ []) empty_function (n + 1) refl long (omega (arith, low)) good.1 in
    let own = line_text (function_line n new) ∷ (map line_text (var_lines new 0 new.vars) ++ line_text begin_line ∷ map line_text (command_lines new 0 new.commands)) in
    record {
      p = others.p;
      gs = others.gs;
      g = others.g;
      f = others.f;
      made = ap (run (draft p ts gs g fs f)) (function_lines_are n new more)
          ∙ then_run own (map line_text (function_lines (n + 1) more)) (draft p ts gs g fs f) (draft phase.Functions ts all empty_global (fs ++ new ∷ []) empty_function) (draft others.p ts others.gs others.g ((fs ++ new ∷ []) ++ more) others.f)
          (one_function p ts gs g fs f new n whole e small good.0) others.made
          ∙ ap (λ xs. Some (draft others.p ts others.gs others.g xs others.f)) (append_assoc fs (new ∷ []) more);
      whole = others.whole;
      are = others.are;
    }
