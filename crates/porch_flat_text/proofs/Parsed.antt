-- What was read of a text is the beginning of a program's text, and what isn't taken begins none.
use Rattle.std.proofs.Common.{◌≡◌, ◌≢◌, inl, inr, ℕ, ◌+◌, ◌<◌, ◌≤◌, ◌^◌, Bool, true, false, ◌&&◌, not, eqb, lit<, lit≤, IsTrue, List, [], ◌∷◌, ◌++◌, map, drop, length, Option, Some, None, Result, Ok, Err, IfOk, IfErr, refl, sym, ap, subst, ◌∙◌, arith, append_assoc, append-nil, length-append, length-drop, zero-add, codes}
use Rattle.std.proofs.lemmas.Bool.{eqb-true, eqb-false}
use Rattle.std.proofs.lemmas.List.{map-append, take-append-drop}
use Rattle.std.specs.List.{concat, flat_map, list_all, AllByRecursion}
use Rattle.porch_types.specs.Leaves.{IsTypes, kind_types}
use Rattle.porch_types.specs.declared.shapes.Ty.{Ty}
use Rattle.porch_types.specs.declared.shapes.Ty.TheVariants.{Whole, Pointer, Array, Struct}
use Rattle.porch_flat.specs.declared.flat.GlobalObject.{GlobalObject}
use Rattle.porch_flat.specs.declared.flat.Init.{Init}
use Rattle.porch_flat.specs.declared.flat.Init.TheVariants.{Value, Address}
use Rattle.porch_flat.specs.declared.whole.Command.{Command}
use Rattle.porch_flat.specs.declared.whole.Function.{Function}
use Rattle.porch_flat.specs.declared.whole.Flat.{Flat}
use Rattle.porch_flat.specs.whole.Flats.{is_built, is_said, is_function_name, is_name, is_keyword}
use Rattle.porch_flat.specs.whole.Lines.{Line, type_lines, init_lines, global_lines, var_lines, command_lines, function_lines, begin_line, lines_of}
use Rattle.porch_flat_line.specs.declared.word.Word.{Word}
use Rattle.porch_flat_line.specs.declared.word.Word.TheVariants as word
use Rattle.porch_flat_text.specs.declared.draft.Draft.{Draft}
use Rattle.porch_flat_text.specs.declared.draft.Phase.{Phase}
use Rattle.porch_flat_text.specs.declared.draft.Phase.TheVariants as phase
use Rattle.porch_flat_text.specs.declared.parse.FlatFault.{FlatFault}
use Rattle.porch_flat_text.specs.declared.parse.FlatFault.TheVariants.{FlatSyntax, NoMemory}
use Rattle.porch_flat_line.specs.Words.{word_text}
use Rattle.porch_flat_line.specs.Text.{Argument, number, constant, name, result_type, row, row_text, argument_text, arguments_text, further_text, type_row, init_row, command_row, line_text, first_head, second_head, Text}
use Rattle.porch_flat_text.specs.Fitting.{ArgumentFits, RowFits, TypeFits, GlobalFits, FunctionFits, IsSayable}
use Rattle.porch_flat_text.specs.FirstWrong.{IsLine, Begins, IsFirstWrongLine}
use Rattle.porch_flat_text.specs.Parsing.{Gives, IsRefused}
use Rattle.porch_flat_text.specs.inside.Cuts.{line_of}
use Rattle.porch_flat_text.specs.inside.Drafts.{globals_of, functions_of, flat_of, is_whole, next, run, run_on, empty_draft, empty_global, empty_function}
use Rattle.porch_flat_text.specs.inside.Texts.{types_text, globals_text, vars_text, commands_text, begin_text, end_text, head_text, function_text, functions_text, flat_text}
use Rattle.porch_flat_text.specs.inside.Good.{Good, GoodGlobal, GoodFunction, Opened, text_read}
use Rattle.porch_flat_text.specs.inside.Reads.{HasRead, IsStopped, IsParsed, IsCut, IsRefusedBy}
use Rattle.porch_flat_text.proofs.Reading.{all_push, concat_append, run_append, run_push}
use Rattle.porch_flat_text.proofs.Lines.{line_found, line_first, lines_alike}
use Rattle.porch_flat_text.proofs.Parts.{text_is}
use Rattle.porch_flat_text.proofs.Written.{none_of, none_append, argument_none}
use Rattle.porch_flat_text.proofs.Pushed.{functions_pushed}
use Rattle.porch_flat_text.proofs.Sound.{draft, both, step_good}
use Rattle.porch_flat_text.proofs.Complete.{then_run, one_run, taken_so, is_early, types_run, globals_run, functions_run}

-- each form is one line
longer : (c : ℕ) (line : List ℕ) → c ≢ 10 → IsLine line → IsLine (c ∷ line)
longer c [] other is = absurd is
longer c (d ∷ line) other is = (other, is)

not_newline : (c : ℕ) → eqb c 10 ≡ false → c ≢ 10
not_newline c e = eqb-false c 10 e

unlike_by : (c : ℕ) (b : Bool) (cs : List ℕ) → eqb c 10 ≡ b → none_of 10 (c ∷ cs) ≡ true → (c ≢ 10) × (none_of 10 cs ≡ true)
unlike_by c true cs e none = cc
unlike_by c false cs e none = (not_newline c e, rw e at none)

ends_line : (xs : List ℕ) → none_of 10 xs ≡ true → IsLine (xs ++ 10 ∷ [])
ends_line [] none = refl
ends_line (c ∷ cs) none = let p = unlike_by c (eqb c 10) cs refl none in longer c (cs ++ 10 ∷ []) p.0 (ends_line cs p.1)

further_none : (xs : List Argument) → AllByRecursion ArgumentFits xs → none_of 10 (further_text xs) ≡ true
further_none [] fits = refl
further_none (a ∷ xs) fits = none_append 10 (argument_text a) (further_text xs) (argument_none 10 a (lit< tt) fits.0) (further_none xs fits.1)

arguments_none : (xs : List Argument) → AllByRecursion ArgumentFits xs → none_of 10 (arguments_text xs) ≡ true
arguments_none [] fits = refl
arguments_none (a ∷ xs) fits = none_append 10 (argument_text a) (further_text xs) (argument_none 10 a (lit< tt) fits.0) (further_none xs fits.1)

word_none : (w : Word) → none_of 10 (word_text w) ≡ true
word_none word.Pointer = refl
word_none word.Array = refl
word_none word.Struct = refl
word_none word.Global = refl
word_none word.Init = refl
word_none word.InitA = refl
word_none word.Function = refl
word_none word.Var = refl
word_none word.Begin = refl
word_none word.End = refl
word_none word.Move = refl
word_none word.Cast = refl
word_none word.Add = refl
word_none word.Sub = refl
word_none word.Mul = refl
word_none word.Div = refl
word_none word.Rem = refl
word_none word.And = refl
word_none word.Or = refl
word_none word.Xor = refl
word_none word.Shl = refl
word_none word.Shr = refl
word_none word.Not = refl
word_none word.Lt = refl
word_none word.Le = refl
word_none word.Eq = refl
word_none word.Ne = refl
word_none word.Local = refl
word_none word.GlobalA = refl
word_none word.Member = refl
word_none word.Step = refl
word_none word.Back = refl
word_none word.Diff = refl
word_none word.Load = refl
word_none word.Store = refl
word_none word.Copy = refl
word_none word.Kill = refl
word_none word.Alloc = refl
word_none word.Calloc = refl
word_none word.Free = refl
word_none word.Char = refl
word_none word.Dec = refl
word_none word.Hex = refl
word_none word.Text = refl
word_none word.Label = refl
word_none word.Jump = refl
word_none word.If = refl
word_none word.Turn = refl
word_none word.Call = refl
word_none word.Return = refl
word_none word.Checkpoint = refl
word_none word.Restore = refl
word_none word.Table = refl
word_none word.Saved = refl
word_none word.Push = refl

regrouped : (w a : List ℕ) → (w ++ (40 ∷ (a ++ (41 ∷ 59 ∷ [])))) ++ 10 ∷ [] ≡ w ++ (40 ∷ (a ++ (41 ∷ 59 ∷ 10 ∷ [])))
regrouped w a = append_assoc w (40 ∷ (a ++ (41 ∷ 59 ∷ []))) (10 ∷ []) ∙ ap (λ t. w ++ (40 ∷ t)) (append_assoc a (41 ∷ 59 ∷ []) (10 ∷ []))

form_line : (w : Word) (xs : List Argument) → AllByRecursion ArgumentFits xs → IsLine (row_text (row w xs))
form_line w xs fits =
    let a = arguments_text xs in
    subst IsLine (regrouped (word_text w) a)
    (ends_line (word_text w ++ (40 ∷ (a ++ (41 ∷ 59 ∷ []))))
    (none_append 10 (word_text w) (40 ∷ (a ++ (41 ∷ 59 ∷ []))) (word_none w) (none_append 10 a (41 ∷ 59 ∷ []) (arguments_none xs fits) refl)))

head_line : IsLine first_head
head_line = ends_line (codes "/* porch flat text, version 1 */") refl

second_line : IsLine second_head
second_line = ends_line (codes "#include \"porch.h\"") refl

all_append : {X : Type 0} (P : X → Type 0) (xs ys : List X) → AllByRecursion P xs → AllByRecursion P ys → AllByRecursion P (xs ++ ys)
all_append P [] ys all more = more
all_append P (x ∷ xs) ys all more = (all.0, all_append P xs ys all.1 more)

abbrev AreLines : List Line → Type 0
AreLines lines = AllByRecursion (λ l. IsLine (line_text l)) lines

type_line_is : (n : ℕ) (ty : Ty) → n < 2 ^ 32 → IsTrue (is_built ty) → TypeFits ty → IsLine (row_text (type_row n ty))
type_line_is n (Whole kind) low built fits = cc
type_line_is n (Pointer to) low built fits = form_line word.Pointer (number n ∷ number to ∷ []) (low, fits.1)
type_line_is n (Array of count) low built fits = form_line word.Array (number n ∷ number of ∷ number count ∷ []) (low, fits.1)
type_line_is n (Struct members) low built fits = form_line word.Struct (number n ∷ map number members) (low, fits.1)

types_lines : (n : ℕ) (types : List Ty) → n + length types ≤ 2 ^ 32 → IsTrue (list_all is_built types) → AllByRecursion TypeFits types → AreLines (type_lines n types)
types_lines n [] low built fits = tt
types_lines n (ty ∷ types) low built fits =
    let b = both (is_built ty) (list_all is_built types) built in (type_line_is n ty (omega (arith, low)) b.0 fits.0, types_lines (n + 1) types (omega (arith, low)) b.1 fits.1)

init_line_is : (n : ℕ) (init : Init) → n < 2 ^ 32 → RowFits (init_row 0 init) → IsLine (row_text (init_row n init))
init_line_is n (Value leaf z) low fits = form_line word.Init (number n ∷ number leaf ∷ constant z ∷ []) (low, fits.1)
init_line_is n (Address leaf other place) low fits = form_line word.InitA (number n ∷ number leaf ∷ number other ∷ number place ∷ []) (low, fits.1)

inits_lines : (n : ℕ) (g : GlobalObject) (place : ℕ) (inits : List Init) → n < 2 ^ 32 → AllByRecursion (λ init. RowFits (init_row 0 init)) inits → AreLines (init_lines n g place inits)
inits_lines n g place [] low fits = tt
inits_lines n g place (init ∷ inits) low fits = (init_line_is n init low fits.0, inits_lines n g (place + 1) inits low fits.1)

globals_lines : (n : ℕ) (globals : List GlobalObject) → n + length globals ≤ 2 ^ 32 → AllByRecursion GoodGlobal globals → AreLines (global_lines n globals)
globals_lines n [] low good = tt
globals_lines n (g ∷ globals) low good =
    let small : n < 2 ^ 32 = omega (arith, low) in (
      form_line word.Global (number n ∷ number g.ty ∷ []) (small, (good.0.fits.ty, tt)),
      all_append (λ l. IsLine (line_text l)) (init_lines n g 0 g.inits) (global_lines (n + 1) globals) (inits_lines n g 0 g.inits small good.0.fits.inits) (globals_lines (n + 1) globals (omega (arith, low)) good.1),
    )

vars_lines : (f : Function) (n : ℕ) (vars : List ℕ) → n + length vars ≤ 2 ^ 32 → AllByRecursion (λ ty. ty < 2 ^ 32) vars → AreLines (var_lines f n vars)
vars_lines f n [] low fits = tt
vars_lines f n (ty ∷ vars) low fits = (form_line word.Var (number n ∷ number ty ∷ []) (omega (arith, low), (fits.0, tt)), vars_lines f (n + 1) vars (omega (arith, low)) fits.1)

commands_lines : (f : Function) (n : ℕ) (commands : List Command) → AllByRecursion (λ c. RowFits (command_row c)) commands → AreLines (command_lines f n commands)
commands_lines f n [] fits = (form_line word.End [] tt, tt)
commands_lines f n (c ∷ commands) fits = (form_line (command_row c).word (command_row c).arguments fits.0, commands_lines f (n + 1) commands fits.1)

functions_lines : (n : ℕ) (functions : List Function) → n + length functions ≤ 2 ^ 32 → AllByRecursion GoodFunction functions → AreLines (function_lines n functions)
functions_lines n [] low good = tt
functions_lines n (f ∷ functions) low good =
    let small : n < 2 ^ 32 = omega (arith, low) in
    let fits = good.0.fits in
    let P : Line → Type 0 = λ l. IsLine (line_text l) in
    let named = (both (is_name f.name) (not (is_keyword f.name)) good.0.named).0 in (
      form_line word.Function (number n ∷ name f.name ∷ result_type f.result ∷ number f.params ∷ []) (small, (named, (fits.result, (fits.params, tt)))),
      all_append P (var_lines f 0 f.vars) (begin_line ∷ (command_lines f 0 f.commands ++ function_lines (n + 1) functions))
          (vars_lines f 0 f.vars (omega (arith, fits.count)) fits.vars) (
            form_line word.Begin [] tt,
            all_append P (command_lines f 0 f.commands) (function_lines (n + 1) functions) (commands_lines f 0 f.commands fits.commands) (functions_lines (n + 1) functions (omega (arith, low)) good.1),
          ),
    )

good_globals : (gs : List GlobalObject) → AllByRecursion GlobalFits gs → IsTrue (list_all (λ g. list_all is_said g.inits) gs) → AllByRecursion GoodGlobal gs
good_globals [] fits said = tt
good_globals (g ∷ gs) fits said = let b = both (list_all is_said g.inits) (list_all (λ x. list_all is_said x.inits) gs) said in (record { fits = fits.0; said = b.0 }, good_globals gs fits.1 b.1)

good_functions : (fs : List Function) → AllByRecursion FunctionFits fs → IsTrue (list_all (λ f. is_function_name f.name) fs) → AllByRecursion GoodFunction fs
good_functions [] fits named = tt
good_functions (f ∷ fs) fits named = let b = both (is_function_name f.name) (list_all (λ x. is_function_name x.name) fs) named in (record { fits = fits.0; named = b.0 }, good_functions fs fits.1 b.1)

-- the lines of a program's text
abbrev pub texts_of : Flat → List (List ℕ)
texts_of flat = first_head ∷ second_head ∷ map line_text (lines_of flat)

concat_map : (lines : List Line) → concat (map line_text lines) ≡ flat_map line_text lines
concat_map [] = refl
concat_map (l ∷ lines) = ap (λ t. line_text l ++ t) (concat_map lines)

pub texts_make : (flat : Flat) → concat (texts_of flat) ≡ Text flat
texts_make flat = ap (λ t. first_head ++ (second_head ++ t)) (concat_map (lines_of flat))

map_all : (lines : List Line) → AreLines lines → AllByRecursion IsLine (map line_text lines)
map_all [] all = tt
map_all (l ∷ lines) all = (all.0, map_all lines all.1)

types_few : (types : List Ty) → length types ≤ 2 ^ 31 → 8 + length (drop 8 types) ≤ 2 ^ 32
types_few types few = omega (arith, few, length-drop 8 types)

pub texts_lines : (flat : Flat) → IsSayable flat → AllByRecursion IsLine (texts_of flat)
texts_lines flat say =
    let P : Line → Type 0 = λ l. IsLine (line_text l) in (
      head_line,
      (
        second_line,
        map_all (lines_of flat)
            (all_append P (type_lines 8 (drop 8 flat.types)) (global_lines 0 flat.globals ++ function_lines 0 flat.functions)
            (types_lines 8 (drop 8 flat.types) (types_few flat.types say.form.types.few) say.form.built say.types)
            (all_append P (global_lines 0 flat.globals) (function_lines 0 flat.functions)
            (globals_lines 0 flat.globals (omega (arith, say.global_count)) (good_globals flat.globals say.globals say.form.values))
            (functions_lines 0 flat.functions (omega (arith, say.function_count)) (good_functions flat.functions say.functions say.form.names)))),
      ),
    )

-- the lines of a program's text are taken, and make it
early_whole : (p : Phase) → is_early p ≡ true → is_whole p ≡ true
early_whole phase.Types e = refl
early_whole phase.Globals e = refl
early_whole phase.Start e = cc
early_whole phase.Second e = cc
early_whole phase.Functions e = cc
early_whole phase.Variables e = cc
early_whole phase.Commands e = cc

whole_functions : (p : Phase) (fs : List Function) (f : Function) → is_whole p ≡ true → functions_of p fs f ≡ fs
whole_functions phase.Types fs f e = refl
whole_functions phase.Globals fs f e = refl
whole_functions phase.Functions fs f e = refl
whole_functions phase.Start fs f e = cc
whole_functions phase.Second fs f e = cc
whole_functions phase.Variables fs f e = cc
whole_functions phase.Commands fs f e = cc

abbrev program : List Ty → List GlobalObject → List Function → Flat
program ts gs fs = record { types = ts; globals = gs; functions = fs }

program_same : (a x : List Ty) (b y : List GlobalObject) (c z : List Function) → a ≡ x → b ≡ y → c ≡ z → program a b c ≡ program x y z
program_same a x b y c z e f g = ap (λ t. program t b c) e ∙ ap (λ t. program x t c) f ∙ ap (λ t. program x y t) g

pub record Wholly (flat : Flat) : Type 0 where
  pub d : Draft
  pub made : run empty_draft (texts_of flat) ≡ Some d
  pub whole : is_whole d.phase ≡ true
  pub same : flat_of d ≡ flat

pub run_whole : (flat : Flat) → IsSayable flat → Wholly flat
run_whole flat say =
    let more = drop 8 flat.types in
    let all : kind_types ++ more ≡ flat.types = ap (λ t. t ++ more) (sym say.form.types.kinds) ∙ take-append-drop 8 flat.types in
    let d0 = draft phase.Second kind_types [] empty_global [] empty_function in
    let d1 = draft phase.Types kind_types [] empty_global [] empty_function in
    let d2 = draft phase.Types (kind_types ++ more) [] empty_global [] empty_function in
    let types = map line_text (type_lines 8 more) in
    let globals = map line_text (global_lines 0 flat.globals) in
    let functions = map line_text (function_lines 0 flat.functions) in
    let g = globals_run flat.globals phase.Types (kind_types ++ more) [] empty_global empty_function 0 refl refl (omega (arith, say.global_count)) (good_globals flat.globals say.globals say.form.values) in
    let d3 = draft g.p (kind_types ++ more) g.gs g.g [] empty_function in
    let f = functions_run flat.functions g.p (kind_types ++ more) g.gs g.g [] empty_function 0 (early_whole g.p g.early) refl (omega (arith, say.function_count)) (good_functions flat.functions say.functions say.form.names) in
    let d4 = draft f.p (kind_types ++ more) f.gs f.g flat.functions f.f in
    let lines : map line_text (lines_of flat) ≡ types ++ (globals ++ functions) =
    map-append line_text (type_lines 8 more) (global_lines 0 flat.globals ++ function_lines 0 flat.functions) ∙ ap (λ t. types ++ t) (map-append line_text (global_lines 0 flat.globals) (function_lines 0 flat.functions)) in
    let body : run d1 (types ++ (globals ++ functions)) ≡ Some d4 =
    then_run types (globals ++ functions) d1 d2 d4 (types_run more kind_types empty_global empty_function 8 refl say.form.built say.types (subst IsTypes (sym all) say.form.types))
    (then_run globals functions d2 d3 d4 g.made f.made) in
    record {
      d = d4;
      made = one_run first_head (second_head ∷ map line_text (lines_of flat)) empty_draft d0 d4 (taken_so true first_head d0 refl)
          (one_run second_head (map line_text (lines_of flat)) d0 d1 d4 (taken_so true second_head d1 refl) (ap (run d1) lines ∙ body));
      whole = f.whole;
      same = program_same (kind_types ++ more) flat.types (globals_of f.p f.gs f.g) flat.globals (functions_of f.p flat.functions f.f) flat.functions all (f.are ∙ g.are) (whole_functions f.p flat.functions f.f f.whole);
    }

-- what was read is the beginning of a text
good_start : Good empty_draft
good_start = record {
  order = (refl, refl, refl);
  eight = lit≤ tt;
  built = refl;
  type_fits = tt;
  globals = tt;
  global = record { fits = record { ty = lit< tt; inits = tt }; said = refl };
  global_count = lit≤ tt;
  functions = tt;
  function = tt;
  function_count = lit≤ tt;
}

pub record Read (d : Draft) (lines : List (List ℕ)) (e : Draft) : Type 0 where
  pub good : Good e
  pub text : text_read e.phase e ≡ text_read d.phase d ++ concat lines

read_on : (o : Option Draft) (line : List ℕ) (lines : List (List ℕ)) (d e : Draft) → Good d → next d line ≡ o → ((f : Draft) → Good f → run f lines ≡ Some e → Read f lines e)
    → run_on o (λ f. run f lines) ≡ Some e → Read d (line ∷ lines) e
read_on None line lines d e good h further made = cc
read_on (Some f) line lines d e good h further made =
    let s = step_good d line f good h in
    let r = further f s.good made in
    record { good = r.good; text = r.text ∙ ap (λ t. t ++ concat lines) s.text ∙ append_assoc (text_read d.phase d) line (concat lines) }

some_same : (d e : Draft) → Some d ≡ Some e → d ≡ e
some_same d e h = cc

pub read_lines : (lines : List (List ℕ)) (d e : Draft) → Good d → run d lines ≡ Some e → Read d lines e
read_lines [] d e good made = subst (Read d []) (some_same d e made) (record { good = good; text = sym (append-nil (text_read d.phase d)) })
read_lines (line ∷ lines) d e good made = read_on (next d line) line lines d e good refl (λ f g m. read_lines lines f e g m) made

-- the program that was begun
globals_all : (p : Phase) (gs : List GlobalObject) (g : GlobalObject) → AllByRecursion GoodGlobal gs → GoodGlobal g → AllByRecursion GoodGlobal (globals_of p gs g)
globals_all phase.Globals gs g all here = all_push GoodGlobal gs g all here
globals_all p gs g all here = all

functions_all : (p : Phase) (fs : List Function) (f : Function) → AllByRecursion GoodFunction fs → Opened p f → AllByRecursion GoodFunction (functions_of p fs f)
functions_all phase.Variables fs f all here = all_push GoodFunction fs f all here
functions_all phase.Commands fs f all here = all_push GoodFunction fs f all here
functions_all phase.Start fs f all here = all
functions_all phase.Second fs f all here = all
functions_all phase.Types fs f all here = all
functions_all phase.Globals fs f all here = all
functions_all phase.Functions fs f all here = all

both_hold : (a b : Bool) → a ≡ true → b ≡ true → (a && b) ≡ true
both_hold a b h k = rw (h, k) refl

globals_fit : (gs : List GlobalObject) → AllByRecursion GoodGlobal gs → AllByRecursion GlobalFits gs
globals_fit [] good = tt
globals_fit (g ∷ gs) good = (good.0.fits, globals_fit gs good.1)

globals_said : (gs : List GlobalObject) → AllByRecursion GoodGlobal gs → IsTrue (list_all (λ g. list_all is_said g.inits) gs)
globals_said [] good = refl
globals_said (g ∷ gs) good = both_hold (list_all is_said g.inits) (list_all (λ x. list_all is_said x.inits) gs) good.0.said (globals_said gs good.1)

functions_fit : (fs : List Function) → AllByRecursion GoodFunction fs → AllByRecursion FunctionFits fs
functions_fit [] good = tt
functions_fit (f ∷ fs) good = (good.0.fits, functions_fit fs good.1)

functions_named : (fs : List Function) → AllByRecursion GoodFunction fs → IsTrue (list_all (λ f. is_function_name f.name) fs)
functions_named [] good = refl
functions_named (f ∷ fs) good = both_hold (is_function_name f.name) (list_all (λ x. is_function_name x.name) fs) good.0.named (functions_named fs good.1)

sayable : (d : Draft) → Good d → IsTypes d.types → IsSayable (flat_of d)
sayable d good types =
    let gs = globals_all d.phase d.globals d.global good.globals good.global in
    let fs = functions_all d.phase d.functions d.function good.functions good.function in
    record {
      form = record { types = types; built = good.built; names = functions_named (functions_of d.phase d.functions d.function) fs; values = globals_said (globals_of d.phase d.globals d.global) gs };
      types = good.type_fits;
      globals = globals_fit (globals_of d.phase d.globals d.global) gs;
      global_count = good.global_count;
      functions = functions_fit (functions_of d.phase d.functions d.function) fs;
      function_count = good.function_count;
    }

-- the text may end so
pub record Ending (text whole : List ℕ) : Type 0 where
  pub more : List ℕ
  pub all : text ++ more ≡ whole

regroup_five : (h s t g c r : List ℕ) → (h ++ (s ++ (t ++ (g ++ c)))) ++ r ≡ h ++ (s ++ (t ++ (g ++ (c ++ r))))
regroup_five h s t g c r = simp append_assoc

regroup_vars : (a h v r : List ℕ) → (a ++ (h ++ v)) ++ r ≡ a ++ (h ++ (v ++ r))
regroup_vars a h v r = simp append_assoc

regroup_commands : (a h v b c r : List ℕ) → (a ++ (h ++ (v ++ (b ++ c)))) ++ r ≡ a ++ (h ++ (v ++ (b ++ (c ++ r))))
regroup_commands a h v b c r = simp append_assoc

one_more : (fs : List Function) (f : Function) → functions_text 0 fs ++ function_text (length fs) f ≡ functions_text 0 (fs ++ f ∷ [])
one_more fs f = ap (λ n. functions_text 0 fs ++ function_text n f) (sym (zero-add (length fs))) ∙ sym (functions_pushed 0 fs f)

ending : (p : Phase) (ts : List Ty) (gs : List GlobalObject) (g : GlobalObject) (fs : List Function) (f : Function) → Ending (text_read p (draft p ts gs g fs f)) (flat_text (flat_of (draft p ts gs g fs f)))
ending phase.Start ts gs g fs f = record { more = flat_text (flat_of (draft phase.Start ts gs g fs f)); all = refl }
ending phase.Second ts gs g fs f = record { more = second_head ++ (types_text 8 (drop 8 ts) ++ (globals_text 0 gs ++ functions_text 0 fs)); all = refl }
ending phase.Types ts gs g fs f = record { more = []; all = append-nil (text_read phase.Types (draft phase.Types ts gs g fs f)) }
ending phase.Globals ts gs g fs f = record { more = []; all = append-nil (text_read phase.Globals (draft phase.Globals ts gs g fs f)) }
ending phase.Functions ts gs g fs f = record { more = []; all = append-nil (text_read phase.Functions (draft phase.Functions ts gs g fs f)) }
ending phase.Variables ts gs g fs f =
    let h = head_text (length fs) f in
    let v = vars_text 0 f.vars in
    let c = functions_text 0 fs ++ (h ++ v) in
    let r = begin_text ++ (commands_text f.commands ++ end_text) in
    record {
      more = r;
      all = regroup_five first_head second_head (types_text 8 (drop 8 ts)) (globals_text 0 gs) c r
          ∙ ap (λ t. first_head ++ (second_head ++ (types_text 8 (drop 8 ts) ++ (globals_text 0 gs ++ t)))) (regroup_vars (functions_text 0 fs) h v r ∙ one_more fs f);
    }
ending phase.Commands ts gs g fs f =
    let h = head_text (length fs) f in
    let v = vars_text 0 f.vars in
    let k = commands_text f.commands in
    let c = functions_text 0 fs ++ (h ++ (v ++ (begin_text ++ k))) in
    record {
      more = end_text;
      all = regroup_five first_head second_head (types_text 8 (drop 8 ts)) (globals_text 0 gs) c end_text
          ∙ ap (λ t. first_head ++ (second_head ++ (types_text 8 (drop 8 ts) ++ (globals_text 0 gs ++ t)))) (regroup_commands (functions_text 0 fs) h v begin_text k end_text ∙ one_more fs f);
    }

begins : (d : Draft) → Good d → IsTypes d.types → Begins (text_read d.phase d)
begins d good types =
    let e = ending d.phase d.types d.globals d.global d.functions d.function in
    record { program = flat_of d; sayable = sayable d good types; more = e.more; all = e.all ∙ sym (text_is (flat_of d)) }

-- where the program is whole, its text is what was read
whole_text : (p : Phase) (ts : List Ty) (gs : List GlobalObject) (g : GlobalObject) (fs : List Function) (f : Function) → is_whole p ≡ true → text_read p (draft p ts gs g fs f) ≡ flat_text (flat_of (draft p ts gs g fs f))
whole_text phase.Types ts gs g fs f e = refl
whole_text phase.Globals ts gs g fs f e = refl
whole_text phase.Functions ts gs g fs f e = refl
whole_text phase.Start ts gs g fs f e = cc
whole_text phase.Second ts gs g fs f e = cc
whole_text phase.Variables ts gs g fs f e = cc
whole_text phase.Commands ts gs g fs f e = cc

read_so : (text rest : List ℕ) (n : ℕ) (d : Draft) → (h : HasRead text rest n d) → Read empty_draft h.lines d
read_so text rest n d h = read_lines h.lines empty_draft d good_start h.made

empty_rest : (s : List ℕ) → true ≡ eqb (length s) 0 → s ≡ []
empty_rest [] e = refl
empty_rest (c ∷ cs) e = let none : length (c ∷ cs) ≡ 0 = eqb-true (length (c ∷ cs)) 0 (sym e) in absurd (omega arith)

none_some : (d : Draft) → None ≡ Some d → ⊥
none_some d e = cc

pub parsed : (text : List ℕ) (flat : Flat) → IsParsed text flat → (Text flat ≡ text) × IsSayable flat
parsed text flat p =
    let h = p.read.read in
    let d = p.draft in
    let r = read_so text p.read.rest p.line d h in
    let nothing : p.read.rest ≡ [] = empty_rest p.read.rest p.read.all in
    let shown : text ≡ text_read d.phase d = h.split ∙ ap (λ t. concat h.lines ++ t) nothing ∙ append-nil (concat h.lines) ∙ sym r.text in (
      ap Text p.made ∙ text_is (flat_of d) ∙ sym (shown ∙ whole_text d.phase d.types d.globals d.global d.functions d.function p.whole),
      subst IsSayable (sym p.made) (sayable d r.good h.types),
    )

-- no line is refused in the text of a program
refuse : (flat : Flat) (lines : List (List ℕ)) (line more : List ℕ) (d : Draft) → IsSayable flat → AllByRecursion IsLine lines → IsLine line → run empty_draft lines ≡ Some d → next d line ≡ None
    → Text flat ≡ (concat lines ++ line) ++ more → ⊥
refuse flat lines line more d say whole is made refused same =
    let w = run_whole flat say in
    let joined : concat (lines ++ line ∷ []) ≡ concat lines ++ line = concat_append lines (line ∷ []) ∙ ap (λ t. concat lines ++ t) (append-nil line) in
    let c = lines_alike (lines ++ line ∷ []) (texts_of flat) more (all_push IsLine lines line whole is) (texts_lines flat say) (texts_make flat ∙ same ∙ ap (λ t. t ++ more) (sym joined)) in
    let pushed : run empty_draft (lines ++ line ∷ []) ≡ None = run_push lines line empty_draft d made ∙ refused in
    let stopped : run empty_draft ((lines ++ line ∷ []) ++ c.more) ≡ None = run_append (lines ++ line ∷ []) c.more empty_draft ∙ ap (λ o. run_on o (λ e. run e c.more)) pushed in
    let there : run empty_draft ((lines ++ line ∷ []) ++ c.more) ≡ Some w.d = ap (run empty_draft) (sym c.are) ∙ w.made in
    none_some w.d (sym stopped ∙ there)

same_draft : (d e : Draft) → Some d ≡ Some e → d ≡ e
same_draft d e h = cc

no_more : {X : Type 0} (xs : List X) → length xs ≡ 0 → xs ≡ []
no_more [] e = refl
no_more (x ∷ xs) e = absurd (omega arith)

-- each program has one text
pub one_text : (a b : Flat) → IsSayable a → IsSayable b → Text a ≡ Text b → a ≡ b
one_text a b sa sb e =
    let wa = run_whole a sa in
    let wb = run_whole b sb in
    let make : concat (texts_of b) ≡ concat (texts_of a) = texts_make b ∙ sym e ∙ sym (texts_make a) in
    let c = lines_alike (texts_of a) (texts_of b) [] (texts_lines a sa) (texts_lines b sb) (make ∙ sym (append-nil (concat (texts_of a)))) in
    let k = lines_alike (texts_of b) (texts_of a) [] (texts_lines b sb) (texts_lines a sa) (sym make ∙ sym (append-nil (concat (texts_of b)))) in
    let long : length (texts_of b) ≡ length (texts_of a) + length c.more = ap length c.are ∙ length-append (texts_of a) c.more in
    let longer_too : length (texts_of a) ≡ length (texts_of b) + length k.more = ap length k.are ∙ length-append (texts_of b) k.more in
    let none : length c.more ≡ 0 = omega (arith, long, longer_too) in
    let same : texts_of b ≡ texts_of a = c.are ∙ ap (λ m. texts_of a ++ m) (no_more c.more none) ∙ append-nil (texts_of a) in
    let drafts : wa.d ≡ wb.d = same_draft wa.d wb.d (sym wa.made ∙ ap (run empty_draft) (sym same) ∙ wb.made) in
    sym wa.same ∙ ap flat_of drafts ∙ wb.same

all_behind : {X : Type 0} (P : X → Type 0) (xs ys : List X) → AllByRecursion P (xs ++ ys) → AllByRecursion P ys
all_behind P [] ys all = all
all_behind P (x ∷ xs) ys all = all_behind P xs ys all.1

some_line : (found : List ℕ × List ℕ) → None ≡ Some found → ⊥
some_line found e = cc

true_false : true ≡ false → ⊥
true_false e = cc

cut_by : (flat : Flat) (lines more : List (List ℕ)) (rest : List ℕ) (ended : Bool) (d : Draft) → IsSayable flat → run empty_draft lines ≡ Some d → line_of rest ≡ None → ended ≡ eqb (length rest) 0 → (ended && is_whole d.phase) ≡ false
    → texts_of flat ≡ lines ++ more → AllByRecursion IsLine more → rest ≡ concat more → ⊥
cut_by flat lines [] rest ended d say made none all cut are each behind =
    let w = run_whole flat say in
    let here : lines ≡ texts_of flat = sym (append-nil lines) ∙ sym are in
    let same : w.d ≡ d = same_draft w.d d (sym w.made ∙ ap (run empty_draft) (sym here) ∙ made) in
    let whole : is_whole d.phase ≡ true = ap (λ e. is_whole e.phase) (sym same) ∙ w.whole in
    let over : ended ≡ true = all ∙ ap (λ s. eqb (length s) 0) behind in
    let both_so : (ended && is_whole d.phase) ≡ true = both_hold ended (is_whole d.phase) over whole in
    true_false (sym both_so ∙ cut)
cut_by flat lines (line ∷ more) rest ended d say made none all cut are each behind =
    some_line (line, concat more) (sym none ∙ ap line_of behind ∙ line_first line (concat more) each.0)

cut_off : (text : List ℕ) (n : ℕ) (flat : Flat) → IsCut text n → IsSayable flat → Text flat ≡ text → ⊥
cut_off text n flat c say same =
    let h = c.read.read in
    let a = lines_alike h.lines (texts_of flat) c.read.rest h.whole (texts_lines flat say) (texts_make flat ∙ same ∙ h.split) in
    cut_by flat h.lines a.more c.read.rest c.ended c.draft say h.made c.read.none c.read.all c.cut a.are
    (all_behind IsLine h.lines a.more (subst (AllByRecursion IsLine) a.are (texts_lines flat say))) a.behind

stopped_off : (text : List ℕ) (n : ℕ) (flat : Flat) → IsStopped text n → IsSayable flat → Text flat ≡ text → ⊥
stopped_off text n flat s say same =
    let h = s.read in
    let l = line_found s.rest s.line s.more s.found in
    refuse flat h.lines s.line s.more s.draft say h.whole l.0 h.made s.refused
    (same ∙ h.split ∙ ap (λ t. concat h.lines ++ t) l.1 ∙ sym (append_assoc (concat h.lines) s.line s.more))

pub only : (text : List ℕ) (r : Result Flat FlatFault) → IfOk r (λ found. IsParsed text found) → IfErr r (λ fault. IsRefusedBy text fault) → (flat : Flat) → IsSayable flat → Text flat ≡ text → Gives flat r
only text (Ok found) ok err flat say same = let p = parsed text found ok in one_text found flat p.1 say (p.0 ∙ sym same)
only text (Err NoMemory) ok err flat say same = tt
only text (Err (FlatSyntax n)) ok (inl stopped) flat say same = stopped_off text n flat stopped say same
only text (Err (FlatSyntax n)) ok (inr cut) flat say same = cut_off text n flat cut say same

pub read_again : (text : List ℕ) (r : Result Flat FlatFault) → IfOk r (λ found. IsParsed text found) → IfOk r (λ flat. (Text flat ≡ text) × IsSayable flat)
read_again text (Ok found) ok = parsed text found ok
read_again text (Err fault) ok = tt

begun_so : (text rest : List ℕ) (n : ℕ) (d : Draft) (h : HasRead text rest n d) → Begins (concat h.lines)
begun_so text rest n d h = let r = read_so text rest n d h in subst Begins r.text (begins d r.good h.types)

abbrev line_or : List ℕ → Option (List ℕ × List ℕ) → List ℕ
line_or other None = other
line_or other (Some p) = p.0

wrong_stopped : (text : List ℕ) (n : ℕ) (s : IsStopped text n) (line more : List ℕ) → IsLine line → s.rest ≡ line ++ more → Begins (concat s.read.lines ++ line) → ⊥
wrong_stopped text n s line more is e b =
    let h = s.read in
    let l = line_found s.rest s.line s.more s.found in
    let found : Some (line, more) ≡ Some (s.line, s.more) = sym (line_first line more is) ∙ ap line_of (sym e) ∙ s.found in
    let same : line ≡ s.line = ap (line_or []) found in
    refuse b.program h.lines s.line b.more s.draft b.sayable h.whole l.0 h.made s.refused (sym b.all ∙ ap (λ t. (concat h.lines ++ t) ++ b.more) same)

stopped_wrong : (text : List ℕ) (n : ℕ) → IsStopped text n → IsFirstWrongLine text n
stopped_wrong text n s =
    let h = s.read in
    record { lines = h.lines; rest = s.rest; split = h.split; whole = h.whole; number = h.number; before = begun_so text s.rest n s.draft h; wrong = wrong_stopped text n s }

cut_wrong : (text : List ℕ) (n : ℕ) → IsCut text n → IsFirstWrongLine text n
cut_wrong text n c =
    let h = c.read.read in
    record {
      lines = h.lines;
      rest = c.read.rest;
      split = h.split;
      whole = h.whole;
      number = h.number;
      before = begun_so text c.read.rest n c.draft h;
      wrong = λ line more is e b. some_line (line, more) (sym c.read.none ∙ ap line_of e ∙ line_first line more is);
    }

refused_so : (text : List ℕ) (fault : FlatFault) → IsRefusedBy text fault → IsRefused text fault
refused_so text NoMemory r = tt
refused_so text (FlatSyntax n) (inl stopped) = stopped_wrong text n stopped
refused_so text (FlatSyntax n) (inr cut) = cut_wrong text n cut

pub refused : (text : List ℕ) (r : Result Flat FlatFault) → IfErr r (λ fault. IsRefusedBy text fault) → IfErr r (λ fault. IsRefused text fault)
refused text (Ok found) err = tt
refused text (Err fault) err = refused_so text fault err
