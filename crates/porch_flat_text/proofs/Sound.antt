-- A line that is taken makes a longer text of a good draft, and a good draft.
use Rattle.std.proofs.Common.{◌≡◌, ℕ, ◌+◌, ◌<◌, ◌≤◌, ◌^◌, Bool, true, false, ◌&&◌, cond, lit<, lit≤, IsTrue, List, [], ◌∷◌, ◌++◌, drop, length, Option, Some, None, IfSome, refl, sym, ap, subst, ◌∙◌, arith, append_assoc, append-nil, length-append, length-drop, zero-add, nat_lt}
use Rattle.std.proofs.lemmas.Bool.{ltb-true}
use Rattle.std.proofs.lemmas.List.{drop-append-le}
use Rattle.std.proofs.lemmas.Slice.Eq.{bytes_eq-Decides}
use Rattle.std.specs.Str.{bytes_eq}
use Rattle.std.specs.List.{list_all, AllByRecursion}
use Rattle.porch_types.specs.declared.shapes.Ty.{Ty}
use Rattle.porch_flat.specs.declared.flat.GlobalObject.{GlobalObject}
use Rattle.porch_flat.specs.declared.flat.Init.{Init}
use Rattle.porch_flat.specs.declared.whole.Command.{Command}
use Rattle.porch_flat.specs.declared.whole.Function.{Function}
use Rattle.porch_flat.specs.whole.Flats.{is_built, is_said, is_function_name}
use Rattle.porch_flat_line.specs.declared.word.Word.{Word}
use Rattle.porch_flat_line.specs.declared.word.Word.TheVariants as word
use Rattle.porch_flat_text.specs.declared.draft.Draft.{Draft}
use Rattle.porch_flat_text.specs.declared.draft.Phase.{Phase}
use Rattle.porch_flat_text.specs.declared.draft.Phase.TheVariants as phase
use Rattle.porch_flat_line.specs.Text.{number, row, row_text, type_row, init_row, command_row, first_head, second_head}
use Rattle.porch_flat_text.specs.Fitting.{TypeFits, RowFits, ArgumentFits}
use Rattle.porch_flat_text.specs.inside.Numbers.{number_in}
use Rattle.porch_flat_text.specs.inside.Cuts.{first, rest, word_part, inner_part}
use Rattle.porch_flat_text.specs.inside.Commands.{command_from}
use Rattle.porch_flat_text.specs.inside.FoundWords.{word_from}
use Rattle.porch_flat_text.specs.inside.Drafts.{globals_of, functions_of, taken_if, type_from, init_from, function_from, with_some_command, is_type_word, is_init_word, is_word, next_in, next_by, next_at, next, empty_global, empty_function}
use Rattle.porch_flat_text.specs.inside.Texts.{types_text, inits_text, global_head, global_text, globals_text, vars_text, commands_text, begin_text, end_text, head_text, function_text, functions_text}
use Rattle.porch_flat_text.specs.inside.Good.{Good, GoodGlobal, GoodFunction, text_read}
use Rattle.porch_flat_text.proofs.Reading.{all_push}
use Rattle.porch_flat_text.proofs.Pushed.{types_pushed, globals_pushed, functions_pushed, vars_pushed, inits_pushed, commands_pushed}
use Rattle.porch_flat_text.proofs.Small.{number_fits, constant_fits, result_fits, each_fits, command_fits}

pub record StepGood (d : Draft) (line : List ℕ) (e : Draft) : Type 0 where
  pub good : Good e
  pub text : text_read e.phase e ≡ text_read d.phase d ++ line

guard : {X : Type 0} (b : Bool) (x e : X) → cond b (Some x) None ≡ Some e → (b ≡ true) × (x ≡ e)
guard true x e h = (refl, cc)
guard false x e h = cc

pub both : (a b : Bool) → (a && b) ≡ true → (a ≡ true) × (b ≡ true)
both true b h = (refl, h)
both false b h = cc

pub bytes_same : (xs ys : List ℕ) → bytes_eq xs ys ≡ true → xs ≡ ys
bytes_same xs ys e = (bytes_eq-Decides xs ys).0 e

-- what is taken is written so, and its condition holds
step_if : (d x e : Draft) (c : Bool) (line text : List ℕ) → (c ≡ true → StepGood d text x) → taken_if c line text x ≡ Some e → StepGood d line e
step_if d x e c line text go h =
    let g = guard (c && bytes_eq text line) x e h in
    let p = both c (bytes_eq text line) g.0 in
    let l : text ≡ line = bytes_same text line p.1 in
    subst (λ t. StepGood d t e) l (subst (λ y. StepGood d text y) g.1 (go p.0))

list_all_push : {X : Type 0} (p : X → Bool) (xs : List X) (x : X) → IsTrue (list_all p xs) → IsTrue (p x) → IsTrue (list_all p (xs ++ x ∷ []))
list_all_push p [] x all here = rw here refl
list_all_push p (y ∷ ys) x all here = let b = both (p y) (list_all p ys) all in rw b.0 (list_all_push p ys x b.1 here)

-- regroupings
end_types : (h s t r b : List ℕ) → b ≡ [] → h ++ (s ++ ((t ++ r) ++ b)) ≡ (h ++ (s ++ (t ++ b))) ++ r
end_types h s t r b e = rw e (simp (append_assoc, append-nil))

end_globals : (h s t a more r b : List ℕ) → more ≡ a ++ r → b ≡ [] → h ++ (s ++ (t ++ (more ++ b))) ≡ (h ++ (s ++ (t ++ (a ++ b)))) ++ r
end_globals h s t a more r b m e = rw (m, e) (simp (append_assoc, append-nil))

end_functions : (h s t g c more r : List ℕ) → more ≡ c ++ r → h ++ (s ++ (t ++ (g ++ more))) ≡ (h ++ (s ++ (t ++ (g ++ c)))) ++ r
end_functions h s t g c more r m = rw m (simp append_assoc)

abbrev pub draft : Phase → List Ty → List GlobalObject → GlobalObject → List Function → Function → Draft
draft p ts gs g fs f = record { phase = p; types = ts; globals = gs; global = g; functions = fs; function = f }

some_built : (w : Word) (inner : List ℕ) → IsTrue (is_built (type_from w inner))
some_built word.Array inner = refl
some_built word.Struct inner = refl
some_built w inner = refl

number_sort_fits : (s : List ℕ) → ArgumentFits (number (number_in s))
number_sort_fits s = number_fits s

type_from_fits : (w : Word) (inner : List ℕ) → TypeFits (type_from w inner)
type_from_fits word.Array inner = (lit< tt, (number_fits (first (rest inner)), (number_fits (first (rest (rest inner))), tt)))
type_from_fits word.Struct inner = (lit< tt, each_fits number_in number number_sort_fits (length (rest inner)) (rest inner))
type_from_fits w inner = (lit< tt, (number_fits (first (rest inner)), tt))

none_yet : (ts : List Ty) (gs : List GlobalObject) (fs : List Function) → gs ≡ [] → fs ≡ [] → globals_text 0 gs ++ functions_text 0 fs ≡ []
none_yet ts gs fs g f = rw (g, f) refl

type_step : (ts : List Ty) (gs : List GlobalObject) (g : GlobalObject) (fs : List Function) (f : Function) (w : Word) (inner : List ℕ)
    → Good (draft phase.Types ts gs g fs f)
    → StepGood (draft phase.Types ts gs g fs f) (row_text (type_row (length ts) (type_from w inner))) (draft phase.Types (ts ++ type_from w inner ∷ []) gs g fs f)
type_step ts gs g fs f w inner good =
    let ty = type_from w inner in
    let behind : drop 8 (ts ++ ty ∷ []) ≡ drop 8 ts ++ ty ∷ [] = drop-append-le 8 ts (ty ∷ []) good.eight in
    let count : 8 + length (drop 8 ts) ≡ length ts = omega (arith, length-drop 8 ts, good.eight) in
    let text : types_text 8 (drop 8 (ts ++ ty ∷ [])) ≡ types_text 8 (drop 8 ts) ++ row_text (type_row (length ts) ty) =
    ap (types_text 8) behind ∙ types_pushed 8 (drop 8 ts) ty ∙ ap (λ n. types_text 8 (drop 8 ts) ++ row_text (type_row n ty)) count in
    record {
      good = record {
        order = good.order;
        eight = rw (length-append ts (ty ∷ [])) (omega (arith, good.eight));
        built = subst (λ xs. IsTrue (list_all is_built xs)) (sym behind) (list_all_push is_built (drop 8 ts) ty good.built (some_built w inner));
        type_fits = subst (λ xs. AllByRecursion TypeFits xs) (sym behind) (all_push TypeFits (drop 8 ts) ty good.type_fits (type_from_fits w inner));
        globals = good.globals;
        global = good.global;
        global_count = good.global_count;
        functions = good.functions;
        function = tt;
        function_count = good.function_count;
      };
      text = ap (λ t. first_head ++ (second_head ++ (t ++ (globals_text 0 gs ++ functions_text 0 fs)))) text
          ∙ end_types first_head second_head (types_text 8 (drop 8 ts)) (row_text (type_row (length ts) ty)) (globals_text 0 gs ++ functions_text 0 fs) (none_yet ts gs fs good.order.0 good.order.1);
    }

-- the globals are good, with the one that goes on
globals_good : (p : Phase) (gs : List GlobalObject) (g : GlobalObject) → AllByRecursion GoodGlobal gs → GoodGlobal g → AllByRecursion GoodGlobal (globals_of p gs g)
globals_good phase.Globals gs g all here = all_push GoodGlobal gs g all here
globals_good p gs g all here = all

nothing_said : GoodGlobal empty_global
nothing_said = record { fits = record { ty = lit< tt; inits = tt }; said = refl }

-- a global begins, where none or another one went on
global_step : (p : Phase) (ts : List Ty) (gs : List GlobalObject) (g : GlobalObject) (fs : List Function) (f : Function) (ty : ℕ)
    → text_read p (draft p ts gs g fs f) ≡ first_head ++ (second_head ++ (types_text 8 (drop 8 ts) ++ (globals_text 0 (globals_of p gs g) ++ functions_text 0 fs)))
    → fs ≡ [] → length (functions_of p fs f) ≤ 2 ^ 32 → functions_of p fs f ≡ fs → ty < 2 ^ 32
    → Good (draft p ts gs g fs f) → nat_lt (length (globals_of p gs g)) (2 ^ 32) ≡ true
    → StepGood (draft p ts gs g fs f) (global_head (length (globals_of p gs g)) ty) (draft phase.Globals ts (globals_of p gs g) (record { ty = ty; inits = [] }) fs f)
global_step p ts gs g fs f ty read none count same fits good few =
    let all = globals_of p gs g in
    let new : GlobalObject = record { ty = ty; inits = [] } in
    let low : length all < 2 ^ 32 = ltb-true (length all) (2 ^ 32) few in
    let pushed : globals_text 0 (all ++ new ∷ []) ≡ globals_text 0 all ++ global_head (length all) ty =
    globals_pushed 0 all new ∙ ap (λ t. globals_text 0 all ++ t) (append-nil (global_head (0 + length all) ty))
    ∙ ap (λ n. globals_text 0 all ++ global_head n ty) (zero-add (length all)) in
    record {
      good = record {
        order = none;
        eight = good.eight;
        built = good.built;
        type_fits = good.type_fits;
        globals = globals_good p gs g good.globals good.global;
        global = record { fits = record { ty = fits; inits = tt }; said = refl };
        global_count = rw (length-append all (new ∷ [])) (omega (arith, low));
        functions = good.functions;
        function = tt;
        function_count = subst (λ xs. length xs ≤ 2 ^ 32) same count;
      };
      text = end_globals first_head second_head (types_text 8 (drop 8 ts)) (globals_text 0 all) (globals_text 0 (all ++ new ∷ [])) (global_head (length all) ty) (functions_text 0 fs) pushed (ap (functions_text 0) none)
          ∙ ap (λ t. t ++ global_head (length all) ty) (sym read);
    }

init_from_fits : (w : Word) (inner : List ℕ) → RowFits (init_row 0 (init_from w inner))
init_from_fits word.Init inner = (lit< tt, (number_fits (first (rest inner)), (constant_fits (first (rest (rest inner))), tt)))
init_from_fits w inner = (lit< tt, (number_fits (first (rest inner)), (number_fits (first (rest (rest inner))), (number_fits (first (rest (rest (rest inner)))), tt))))

regroup : (a b c r : List ℕ) → a ++ (b ++ (c ++ r)) ≡ (a ++ (b ++ c)) ++ r
regroup a b c r = simp append_assoc

same_count : {X : Type 0} (xs : List X) (x y : X) → length (xs ++ x ∷ []) ≤ 2 ^ 32 → length (xs ++ y ∷ []) ≤ 2 ^ 32
same_count xs x y low = omega (arith, low, length-append xs (x ∷ []), length-append xs (y ∷ []))

init_step : (ts : List Ty) (gs : List GlobalObject) (g : GlobalObject) (fs : List Function) (f : Function) (init : Init) → RowFits (init_row 0 init)
    → Good (draft phase.Globals ts gs g fs f) → is_said init ≡ true
    → StepGood (draft phase.Globals ts gs g fs f) (row_text (init_row (length gs) init)) (draft phase.Globals ts gs (record { ty = g.ty; inits = g.inits ++ init ∷ [] }) fs f)
init_step ts gs g fs f init fits good said =
    let new : GlobalObject = record { ty = g.ty; inits = g.inits ++ init ∷ [] } in
    let n = length gs in
    let r = row_text (init_row n init) in
    let pushed : globals_text 0 (gs ++ new ∷ []) ≡ globals_text 0 (gs ++ g ∷ []) ++ r =
    globals_pushed 0 gs new
    ∙ ap (λ k. globals_text 0 gs ++ global_text k new) (zero-add n)
    ∙ ap (λ t. globals_text 0 gs ++ (global_head n g.ty ++ t)) (inits_pushed n g.inits init)
    ∙ regroup (globals_text 0 gs) (global_head n g.ty) (inits_text n g.inits) r
    ∙ ap (λ k. (globals_text 0 gs ++ global_text k g) ++ r) (sym (zero-add n))
    ∙ ap (λ t. t ++ r) (sym (globals_pushed 0 gs g)) in
    record {
      good = record {
        order = good.order;
        eight = good.eight;
        built = good.built;
        type_fits = good.type_fits;
        globals = good.globals;
        global = record {
          fits = record { ty = good.global.fits.ty; inits = all_push (λ i. RowFits (init_row 0 i)) g.inits init good.global.fits.inits fits };
          said = list_all_push is_said g.inits init good.global.said said;
        };
        global_count = same_count gs g new good.global_count;
        functions = good.functions;
        function = tt;
        function_count = good.function_count;
      };
      text = end_globals first_head second_head (types_text 8 (drop 8 ts)) (globals_text 0 (gs ++ g ∷ [])) (globals_text 0 (gs ++ new ∷ [])) r (functions_text 0 fs) pushed (ap (functions_text 0) good.order);
    }

-- a function begins
function_step : (p : Phase) (ts : List Ty) (gs : List GlobalObject) (g : GlobalObject) (fs : List Function) (f : Function) (inner : List ℕ)
    → text_read p (draft p ts gs g fs f) ≡ first_head ++ (second_head ++ (types_text 8 (drop 8 ts) ++ (globals_text 0 (globals_of p gs g) ++ functions_text 0 fs)))
    → Good (draft p ts gs g fs f) → (nat_lt (length fs) (2 ^ 32) && is_function_name (function_from inner).name) ≡ true
    → StepGood (draft p ts gs g fs f) (head_text (length fs) (function_from inner)) (draft phase.Variables ts (globals_of p gs g) empty_global fs (function_from inner))
function_step p ts gs g fs f inner read good condition =
    let all = globals_of p gs g in
    let new = function_from inner in
    let parts = both (nat_lt (length fs) (2 ^ 32)) (is_function_name new.name) condition in
    let low : length fs < 2 ^ 32 = ltb-true (length fs) (2 ^ 32) parts.0 in
    let r = head_text (length fs) new in
    record {
      good = record {
        order = tt;
        eight = good.eight;
        built = good.built;
        type_fits = good.type_fits;
        globals = globals_good p gs g good.globals good.global;
        global = nothing_said;
        global_count = good.global_count;
        functions = good.functions;
        function = record {
          fits = record { result = result_fits (first (rest (rest inner))); params = number_fits (first (rest (rest (rest inner)))); vars = tt; count = lit≤ tt; commands = tt };
          named = parts.1;
        };
        function_count = rw (length-append fs (new ∷ [])) (omega (arith, low));
      };
      text = end_functions first_head second_head (types_text 8 (drop 8 ts)) (globals_text 0 all) (functions_text 0 fs) (functions_text 0 fs ++ (r ++ [])) r (ap (λ t. functions_text 0 fs ++ t) (append-nil r))
          ∙ ap (λ t. t ++ r) (sym read);
    }

variable_step : (ts : List Ty) (gs : List GlobalObject) (g : GlobalObject) (fs : List Function) (f : Function) (ty : ℕ) → ty < 2 ^ 32
    → Good (draft phase.Variables ts gs g fs f) → nat_lt (length f.vars) (2 ^ 32) ≡ true
    → StepGood (draft phase.Variables ts gs g fs f) (row_text (row word.Var (number (length f.vars) ∷ number ty ∷ [])))
    (draft phase.Variables ts gs g fs (record { name = f.name; result = f.result; params = f.params; vars = f.vars ++ ty ∷ []; commands = f.commands }))
variable_step ts gs g fs f ty fits good few =
    let new : Function = record { name = f.name; result = f.result; params = f.params; vars = f.vars ++ ty ∷ []; commands = f.commands } in
    let low : length f.vars < 2 ^ 32 = ltb-true (length f.vars) (2 ^ 32) few in
    let r = row_text (row word.Var (number (length f.vars) ∷ number ty ∷ [])) in
    let ft = functions_text 0 fs in
    let h = head_text (length fs) f in
    let pushed : vars_text 0 (f.vars ++ ty ∷ []) ≡ vars_text 0 f.vars ++ r =
    vars_pushed 0 f.vars ty ∙ ap (λ n. vars_text 0 f.vars ++ row_text (row word.Var (number n ∷ number ty ∷ []))) (zero-add (length f.vars)) in
    record {
      good = record {
        order = tt;
        eight = good.eight;
        built = good.built;
        type_fits = good.type_fits;
        globals = good.globals;
        global = good.global;
        global_count = good.global_count;
        functions = good.functions;
        function = record {
          fits = record {
            result = good.function.fits.result;
            params = good.function.fits.params;
            vars = all_push (λ v. v < 2 ^ 32) f.vars ty good.function.fits.vars fits;
            count = rw (length-append f.vars (ty ∷ [])) (omega (arith, low));
            commands = good.function.fits.commands;
          };
          named = good.function.named;
        };
        function_count = same_count fs f new good.function_count;
      };
      text = end_functions first_head second_head (types_text 8 (drop 8 ts)) (globals_text 0 gs) (ft ++ (h ++ vars_text 0 f.vars)) (ft ++ (h ++ vars_text 0 (f.vars ++ ty ∷ []))) r
          (ap (λ t. ft ++ (h ++ t)) pushed ∙ regroup ft h (vars_text 0 f.vars) r);
    }

begin_step : (ts : List Ty) (gs : List GlobalObject) (g : GlobalObject) (fs : List Function) (f : Function)
    → Good (draft phase.Variables ts gs g fs f)
    → StepGood (draft phase.Variables ts gs g fs f) begin_text
    (draft phase.Commands ts gs g fs (record { name = f.name; result = f.result; params = f.params; vars = f.vars; commands = [] }))
begin_step ts gs g fs f good =
    let new : Function = record { name = f.name; result = f.result; params = f.params; vars = f.vars; commands = [] } in
    let ft = functions_text 0 fs in
    let h = head_text (length fs) f in
    let v = vars_text 0 f.vars in
    record {
      good = record {
        order = tt;
        eight = good.eight;
        built = good.built;
        type_fits = good.type_fits;
        globals = good.globals;
        global = good.global;
        global_count = good.global_count;
        functions = good.functions;
        function = record {
          fits = record { result = good.function.fits.result; params = good.function.fits.params; vars = good.function.fits.vars; count = good.function.fits.count; commands = tt };
          named = good.function.named;
        };
        function_count = same_count fs f new good.function_count;
      };
      text = end_functions first_head second_head (types_text 8 (drop 8 ts)) (globals_text 0 gs) (ft ++ (h ++ v)) (ft ++ (h ++ (v ++ (begin_text ++ [])))) begin_text
          (ap (λ t. ft ++ (h ++ (v ++ t))) (append-nil begin_text) ∙ regroup ft h v begin_text);
    }

regroup_more : (a b c d e r : List ℕ) → a ++ (b ++ (c ++ (d ++ (e ++ r)))) ≡ (a ++ (b ++ (c ++ (d ++ e)))) ++ r
regroup_more a b c d e r = simp append_assoc

command_step : (ts : List Ty) (gs : List GlobalObject) (g : GlobalObject) (fs : List Function) (f : Function) (c : Command) → RowFits (command_row c)
    → Good (draft phase.Commands ts gs g fs f)
    → StepGood (draft phase.Commands ts gs g fs f) (row_text (command_row c))
    (draft phase.Commands ts gs g fs (record { name = f.name; result = f.result; params = f.params; vars = f.vars; commands = f.commands ++ c ∷ [] }))
command_step ts gs g fs f c fits good =
    let new : Function = record { name = f.name; result = f.result; params = f.params; vars = f.vars; commands = f.commands ++ c ∷ [] } in
    let ft = functions_text 0 fs in
    let h = head_text (length fs) f in
    let v = vars_text 0 f.vars in
    let r = row_text (command_row c) in
    record {
      good = record {
        order = tt;
        eight = good.eight;
        built = good.built;
        type_fits = good.type_fits;
        globals = good.globals;
        global = good.global;
        global_count = good.global_count;
        functions = good.functions;
        function = record {
          fits = record {
            result = good.function.fits.result;
            params = good.function.fits.params;
            vars = good.function.fits.vars;
            count = good.function.fits.count;
            commands = all_push (λ k. RowFits (command_row k)) f.commands c good.function.fits.commands fits;
          };
          named = good.function.named;
        };
        function_count = same_count fs f new good.function_count;
      };
      text = end_functions first_head second_head (types_text 8 (drop 8 ts)) (globals_text 0 gs) (ft ++ (h ++ (v ++ (begin_text ++ commands_text f.commands)))) (ft ++ (h ++ (v ++ (begin_text ++ commands_text (f.commands ++ c ∷ []))))) r
          (ap (λ t. ft ++ (h ++ (v ++ (begin_text ++ t)))) (commands_pushed f.commands c) ∙ regroup_more ft h v begin_text (commands_text f.commands) r);
    }

end_step : (ts : List Ty) (gs : List GlobalObject) (g : GlobalObject) (fs : List Function) (f : Function)
    → Good (draft phase.Commands ts gs g fs f)
    → StepGood (draft phase.Commands ts gs g fs f) end_text (draft phase.Functions ts gs g (fs ++ f ∷ []) empty_function)
end_step ts gs g fs f good =
    let ft = functions_text 0 fs in
    let h = head_text (length fs) f in
    let v = vars_text 0 f.vars in
    record {
      good = record {
        order = tt;
        eight = good.eight;
        built = good.built;
        type_fits = good.type_fits;
        globals = good.globals;
        global = good.global;
        global_count = good.global_count;
        functions = all_push GoodFunction fs f good.functions good.function;
        function = tt;
        function_count = good.function_count;
      };
      text = end_functions first_head second_head (types_text 8 (drop 8 ts)) (globals_text 0 gs) (ft ++ (h ++ (v ++ (begin_text ++ commands_text f.commands)))) (functions_text 0 (fs ++ f ∷ [])) end_text
          (functions_pushed 0 fs f ∙ ap (λ n. ft ++ function_text n f) (zero-add (length fs)) ∙ regroup_more ft h v begin_text (commands_text f.commands) end_text);
    }

choose : (b : Bool) (x y : Option Draft) (e : Draft) (P : Type 0) → (x ≡ Some e → P) → (y ≡ Some e → P) → cond b x y ≡ Some e → P
choose true x y e P f g h = f h
choose false x y e P f g h = g h

nothing : (e : Draft) (P : Type 0) → None ≡ Some e → P
nothing e P h = cc

some_command_step : (ts : List Ty) (gs : List GlobalObject) (g : GlobalObject) (fs : List Function) (f : Function) (o : Option Command) (line : List ℕ) (e : Draft)
    → IfSome o (λ c. RowFits (command_row c)) → Good (draft phase.Commands ts gs g fs f)
    → with_some_command (draft phase.Commands ts gs g fs f) o line ≡ Some e → StepGood (draft phase.Commands ts gs g fs f) line e
some_command_step ts gs g fs f None line e fits good h = nothing e _ h
some_command_step ts gs g fs f (Some c) line e fits good h =
    let d = draft phase.Commands ts gs g fs f in
    step_if d _ e true line (row_text (command_row c)) (λ _. command_step ts gs g fs f c fits good) h

in_phase : (p : Phase) (ts : List Ty) (gs : List GlobalObject) (g : GlobalObject) (fs : List Function) (f : Function) (w : Word) (inner line : List ℕ) (e : Draft)
    → Good (draft p ts gs g fs f) → next_in (draft p ts gs g fs f) p w inner line ≡ Some e → StepGood (draft p ts gs g fs f) line e
in_phase phase.Start ts gs g fs f w inner line e good h = nothing e _ h
in_phase phase.Second ts gs g fs f w inner line e good h = nothing e _ h
in_phase phase.Types ts gs g fs f w inner line e good h =
    let d = draft phase.Types ts gs g fs f in
    choose (is_type_word w) _ _ e (StepGood d line e)
    (step_if d _ e _ line _ (λ _. type_step ts gs g fs f w inner good))
    (choose (is_word w word.Global) _ _ e (StepGood d line e)
    (step_if d _ e _ line _ (λ c. global_step phase.Types ts gs g fs f (number_in (first (rest inner))) refl good.order.1 good.function_count refl (number_fits (first (rest inner))) good c))
    (choose (is_word w word.Function) _ _ e (StepGood d line e)
    (step_if d _ e _ line _ (λ c. function_step phase.Types ts gs g fs f inner refl good c))
    (nothing e (StepGood d line e)))) h
in_phase phase.Globals ts gs g fs f w inner line e good h =
    let d = draft phase.Globals ts gs g fs f in
    choose (is_init_word w) _ _ e (StepGood d line e)
    (step_if d _ e _ line _ (λ c. init_step ts gs g fs f (init_from w inner) (init_from_fits w inner) good c))
    (choose (is_word w word.Global) _ _ e (StepGood d line e)
    (step_if d _ e _ line _ (λ c. global_step phase.Globals ts gs g fs f (number_in (first (rest inner))) refl good.order good.function_count refl (number_fits (first (rest inner))) good c))
    (choose (is_word w word.Function) _ _ e (StepGood d line e)
    (step_if d _ e _ line _ (λ c. function_step phase.Globals ts gs g fs f inner refl good c))
    (nothing e (StepGood d line e)))) h
in_phase phase.Functions ts gs g fs f w inner line e good h =
    let d = draft phase.Functions ts gs g fs f in
    choose (is_word w word.Function) _ _ e (StepGood d line e)
    (step_if d _ e _ line _ (λ c. function_step phase.Functions ts gs g fs f inner refl good c))
    (nothing e (StepGood d line e)) h
in_phase phase.Variables ts gs g fs f w inner line e good h =
    let d = draft phase.Variables ts gs g fs f in
    choose (is_word w word.Var) _ _ e (StepGood d line e)
    (step_if d _ e _ line _ (λ c. variable_step ts gs g fs f (number_in (first (rest inner))) (number_fits (first (rest inner))) good c))
    (choose (is_word w word.Begin) _ _ e (StepGood d line e)
    (step_if d _ e true line _ (λ _. begin_step ts gs g fs f good))
    (nothing e (StepGood d line e))) h
in_phase phase.Commands ts gs g fs f w inner line e good h =
    let d = draft phase.Commands ts gs g fs f in
    choose (is_word w word.End) _ _ e (StepGood d line e)
    (step_if d _ e true line _ (λ _. end_step ts gs g fs f good))
    (some_command_step ts gs g fs f (command_from w inner) line e (command_fits w inner) good) h

by_word : (p : Phase) (ts : List Ty) (gs : List GlobalObject) (g : GlobalObject) (fs : List Function) (f : Function) (o : Option Word) (inner line : List ℕ) (e : Draft)
    → Good (draft p ts gs g fs f) → next_by (draft p ts gs g fs f) o inner line ≡ Some e → StepGood (draft p ts gs g fs f) line e
by_word p ts gs g fs f None inner line e good h = nothing e _ h
by_word p ts gs g fs f (Some w) inner line e good h = in_phase p ts gs g fs f w inner line e good h

start_step : (ts : List Ty) (gs : List GlobalObject) (g : GlobalObject) (fs : List Function) (f : Function)
    → Good (draft phase.Start ts gs g fs f) → StepGood (draft phase.Start ts gs g fs f) first_head (draft phase.Second ts gs g fs f)
start_step ts gs g fs f good =
    record {
      good = record {
        order = good.order;
        eight = good.eight;
        built = good.built;
        type_fits = good.type_fits;
        globals = good.globals;
        global = good.global;
        global_count = good.global_count;
        functions = good.functions;
        function = tt;
        function_count = good.function_count;
      };
      text = refl;
    }

no_body : (ts : List Ty) (gs : List GlobalObject) (fs : List Function) → drop 8 ts ≡ [] → gs ≡ [] → fs ≡ [] → types_text 8 (drop 8 ts) ++ (globals_text 0 gs ++ functions_text 0 fs) ≡ []
no_body ts gs fs t g f = rw (t, g, f) refl

second_step : (ts : List Ty) (gs : List GlobalObject) (g : GlobalObject) (fs : List Function) (f : Function)
    → Good (draft phase.Second ts gs g fs f) → StepGood (draft phase.Second ts gs g fs f) second_head (draft phase.Types ts gs g fs f)
second_step ts gs g fs f good =
    record {
      good = record {
        order = (good.order.1, good.order.2);
        eight = good.eight;
        built = good.built;
        type_fits = good.type_fits;
        globals = good.globals;
        global = good.global;
        global_count = good.global_count;
        functions = good.functions;
        function = tt;
        function_count = good.function_count;
      };
      text = ap (λ t. first_head ++ (second_head ++ t)) (no_body ts gs fs good.order.0 good.order.1 good.order.2) ∙ refl;
    }

at_phase : (p : Phase) (ts : List Ty) (gs : List GlobalObject) (g : GlobalObject) (fs : List Function) (f : Function) (line : List ℕ) (e : Draft)
    → Good (draft p ts gs g fs f) → next_at p (draft p ts gs g fs f) line ≡ Some e → StepGood (draft p ts gs g fs f) line e
at_phase phase.Start ts gs g fs f line e good h =
    step_if (draft phase.Start ts gs g fs f) (draft phase.Second ts gs g fs f) e true line first_head (λ _. start_step ts gs g fs f good) h
at_phase phase.Second ts gs g fs f line e good h =
    step_if (draft phase.Second ts gs g fs f) (draft phase.Types ts gs g fs f) e true line second_head (λ _. second_step ts gs g fs f good) h
at_phase phase.Types ts gs g fs f line e good h = by_word phase.Types ts gs g fs f (word_from (word_part line)) (inner_part line) line e good h
at_phase phase.Globals ts gs g fs f line e good h = by_word phase.Globals ts gs g fs f (word_from (word_part line)) (inner_part line) line e good h
at_phase phase.Functions ts gs g fs f line e good h = by_word phase.Functions ts gs g fs f (word_from (word_part line)) (inner_part line) line e good h
at_phase phase.Variables ts gs g fs f line e good h = by_word phase.Variables ts gs g fs f (word_from (word_part line)) (inner_part line) line e good h
at_phase phase.Commands ts gs g fs f line e good h = by_word phase.Commands ts gs g fs f (word_from (word_part line)) (inner_part line) line e good h

pub step_good : (d : Draft) (line : List ℕ) (e : Draft) → Good d → next d line ≡ Some e → StepGood d line e
step_good d line e good h = at_phase d.phase d.types d.globals d.global d.functions d.function line e good h
