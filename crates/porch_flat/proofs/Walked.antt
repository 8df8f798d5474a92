-- Going through lines one by one.
use Rattle.std.proofs.Common.{◌≡◌, ◌<◌, ◌≤◌, ◌+◌, ◌-◌, ℕ, suc, List, [], ◌∷◌, ◌++◌, length, drop, Option, Some, None, false, arith, refl, ap, sym, subst, append_assoc, ◌∙◌}
use Rattle.std.specs.Prelude.{slice_get, Result, Ok, Err, IfOk, IfErr}
use Rattle.std.proofs.Math.ListN.{get_or, length-append, length-drop}
use Rattle.std.proofs.lemmas.List.{drop_more}
use Rattle.std.proofs.lemmas.List.Sums.{sum_by_more}
use Rattle.std.proofs.lemmas.Option.{slice_get_within, slice_get-get_or, same_Some}
use Rattle.porch_types.specs.Leaves.{leaves_of}
use Rattle.porch_types.specs.declared.shapes.Ty.{Ty}
use Rattle.porch_flat.specs.declared.flat.GlobalObject.{GlobalObject}
use Rattle.porch_flat.specs.declared.flat.Init.{Init}
use Rattle.porch_flat.specs.declared.whole.Command.{Command}
use Rattle.porch_flat.specs.declared.whole.FlatRule.{FlatRule}
use Rattle.porch_flat.specs.declared.whole.FlatRule.TheVariants.{Main}
use Rattle.porch_flat.specs.declared.whole.Function.{Function}
use Rattle.porch_flat.specs.declared.whole.Flat.{Flat}
use Rattle.porch_flat.specs.declared.whole.valid.ValidFault.{ValidFault}
use Rattle.porch_flat.specs.declared.whole.valid.ValidFault.TheVariants.{NotValid, NoMemory}
use Rattle.porch_flat.specs.whole.Lines.{Line, type_line, type_lines, global_lines, init_line, init_lines, function_line, function_lines, var_line, var_lines, command_line, command_lines, line_behind}
use Rattle.porch_flat.specs.whole.Rules.{global_leaves, has_main}
use Rattle.porch_flat.specs.whole.Search.{first_in, found_at, main_fault}
use Rattle.porch_flat.specs.inside.Walks.{IsFault, Passes, body_part, first_of, function_part, global_part, leaves_before}

pub leaves_more : (flat : Flat) (n : ℕ) (g : GlobalObject) → slice_get flat.globals n ≡ Some g → global_leaves flat n ≡ leaves_before flat n + leaves_of flat.types g.ty
leaves_more flat n g h =
    let leaves : GlobalObject → ℕ = λ g. leaves_of flat.types g.ty in
    let within : n < length flat.globals = slice_get_within flat.globals n g h in
    let here : get_or flat.globals n g ≡ g = same_Some _ _ (sym (slice_get-get_or flat.globals n g within) ∙ h) in
    sum_by_more leaves flat.globals n g within ∙ ap (λ x. leaves_before flat n + leaves x) here

-- the line of one element of a list, each of which has a line, and what is found behind it
next_line : {X : Type 0} (test : Line → Option FlatRule) (lines : ℕ → List X → List Line) (line_of : ℕ → X → Line)
    → ((k : ℕ) (x : X) (xs : List X) → lines k (x ∷ xs) ≡ line_of k x ∷ lines (k + 1) xs)
    → (n m k : ℕ) (xs : List X) (d : X) → k < length xs → n + 1 ≡ m
    → first_of test n (lines k (drop k xs)) ≡ found_at n (test (line_of k (get_or xs k d))) (first_of test m (lines (k + 1) (drop (k + 1) xs)))
next_line test lines line_of one n m k xs d h e =
    rw (drop_more xs k d h, one k (get_or xs k d) (drop (k + 1) xs), e) refl

pub next_type : (test : Line → Option FlatRule) (n : ℕ) (types : List Ty) (ty : Ty) → 8 ≤ n → slice_get types n ≡ Some ty
    → first_of test (n - 5) (type_lines n (drop n types))
    ≡ found_at (n - 5) (test (type_line n ty)) (first_of test (n + 1 - 5) (type_lines (n + 1) (drop (n + 1) types)))
next_type test n types ty few h =
    let within : n < length types = slice_get_within types n ty h in
    let here : get_or types n ty ≡ ty = same_Some _ _ (sym (slice_get-get_or types n ty within) ∙ h) in
    next_line test type_lines type_line (λ k x xs. refl) (n - 5) (n + 1 - 5) n types ty within (omega arith)
    ∙ ap (λ x. found_at (n - 5) (test (type_line n x)) (first_of test (n + 1 - 5) (type_lines (n + 1) (drop (n + 1) types)))) here

pub next_init : (test : Line → Option FlatRule) (start k number : ℕ) (g : GlobalObject) (inits : List Init) (d : Init) → k < length inits
    → first_of test (start + k) (init_lines number g k (drop k inits))
    ≡ found_at (start + k) (test (init_line number g k (get_or inits k d))) (first_of test (start + (k + 1)) (init_lines number g (k + 1) (drop (k + 1) inits)))
next_init test start k number g inits d h =
    next_line test (init_lines number g) (init_line number g) (λ k x xs. refl) (start + k) (start + (k + 1)) k inits d h (omega arith)

pub next_var : (test : Line → Option FlatRule) (start k : ℕ) (f : Function) (vars : List ℕ) (d : ℕ) → k < length vars
    → first_of test (start + k) (var_lines f k (drop k vars))
    ≡ found_at (start + k) (test (var_line f k (get_or vars k d))) (first_of test (start + (k + 1)) (var_lines f (k + 1) (drop (k + 1) vars)))
next_var test start k f vars d h =
    next_line test (var_lines f) (var_line f) (λ k x xs. refl) (start + k) (start + (k + 1)) k vars d h (omega arith)

pub next_command : (test : Line → Option FlatRule) (start k : ℕ) (f : Function) (commands : List Command) (d : Command) → k < length commands
    → first_of test (start + k) (command_lines f k (drop k commands))
    ≡ found_at (start + k) (test (command_line f k (get_or commands k d))) (first_of test (start + (k + 1)) (command_lines f (k + 1) (drop (k + 1) commands)))
next_command test start k f commands d h =
    next_line test (command_lines f) (command_line f) (λ k x xs. refl) (start + k) (start + (k + 1)) k commands d h (omega arith)

pass_one : (n : ℕ) (here : Option FlatRule) (some all rest : Option (ℕ × FlatRule)) → found_at n here some ≡ None → (some ≡ None → all ≡ rest) → found_at n here all ≡ rest
pass_one n (Some r) some all rest h go = cc
pass_one n None some all rest h go = go h

-- lines in two parts, of which the first breaks no rule
pub pass_lines : (test : Line → Option FlatRule) (n m : ℕ) (xs ys : List Line) → first_of test n xs ≡ None → m ≡ n + length xs → first_of test n (xs ++ ys) ≡ first_of test m ys
pass_lines test n m [] ys h e =
    let same : m ≡ n = omega (arith, e) in
    rw same refl
pass_lines test n m (x ∷ xs) ys h e =
    pass_one n (test x) _ _ _ h (λ none. pass_lines test (n + 1) m xs ys none (omega (arith, e)))

stop_one : (n : ℕ) (here : Option FlatRule) (some all found : Option (ℕ × FlatRule)) (f : ℕ × FlatRule) → found ≡ Some f → found_at n here some ≡ found → (some ≡ found → all ≡ found) → found_at n here all ≡ found
stop_one n (Some r) some all found f e h go = h
stop_one n None some all found f e h go = go h

-- and in which the first breaks one
pub stop_lines : (test : Line → Option FlatRule) (n : ℕ) (xs ys : List Line) (found : ℕ × FlatRule) → first_of test n xs ≡ Some found → first_of test n (xs ++ ys) ≡ Some found
stop_lines test n [] ys found h = cc
stop_lines test n (x ∷ xs) ys found h =
    stop_one n (test x) _ _ (Some found) found refl h (λ some. stop_lines test (n + 1) xs ys found some)

pub fault_in : (test : Line → Option FlatRule) (n : ℕ) (xs ys : List Line) (fault : ValidFault) → IsFault (first_of test n xs) fault → IsFault (first_of test n (xs ++ ys)) fault
fault_in test n xs ys NoMemory h = tt
fault_in test n xs ys (NotValid line r) h = stop_lines test n xs ys (line, r) h

-- two parts one after the other
pub passes_both : (test : Line → Option FlatRule) (n m : ℕ) (xs ys : List Line) (r : Result ℕ ValidFault) → Passes test n xs (Ok m) → Passes test m ys r → Passes test n (xs ++ ys) r
passes_both test n m xs ys (Ok l) a b = (pass_lines test n m xs ys a.0 a.1 ∙ b.0, ends)
  where
    ends : l ≡ n + length (xs ++ ys)
    ends = let e = length-append xs ys in omega (arith, a.1, b.1, e)
passes_both test n m xs ys (Err fault) a b = subst (λ want. IsFault want fault) (sym (pass_lines test n m xs ys a.0 a.1)) b

pub passes_not : (test : Line → Option FlatRule) (n : ℕ) (xs ys : List Line) (fault : ValidFault) → IsFault (first_of test n xs) fault → Passes test n (xs ++ ys) (Err fault)
passes_not test n xs ys fault h = fault_in test n xs ys fault h

-- the line behind lines that break no rule, if there is a number for it
pub passes_end : (test : Line → Option FlatRule) (n : ℕ) (xs : List Line) (r : Result ℕ ValidFault) → first_of test n xs ≡ None
    → IfOk r (λ m. m ≡ n + length xs) → IfErr r (λ fault. fault ≡ NoMemory) → Passes test n xs r
passes_end test n xs (Ok m) h ok err = (h, ok)
passes_end test n xs (Err fault) h ok err = subst (IsFault (first_of test n xs)) (sym err) tt

pub length_inits : (number k : ℕ) (g : GlobalObject) (inits : List Init) → length (init_lines number g k inits) ≡ length inits
length_inits number k g [] = refl
length_inits number k g (init ∷ inits) = ap suc (length_inits number (k + 1) g inits)

pub length_vars : (f : Function) (k : ℕ) (vars : List ℕ) → length (var_lines f k vars) ≡ length vars
length_vars f k [] = refl
length_vars f k (ty ∷ vars) = ap suc (length_vars f (k + 1) vars)

pub length_commands : (f : Function) (k : ℕ) (commands : List Command) → length (command_lines f k commands) ≡ suc (length commands)
length_commands f k [] = refl
length_commands f k (c ∷ commands) = ap suc (length_commands f (k + 1) commands)

length_types : (k : ℕ) (types : List Ty) → length (type_lines k types) ≡ length types
length_types k [] = refl
length_types k (ty ∷ types) = ap suc (length_types (k + 1) types)

pub length_further_types : (types : List Ty) → length (type_lines 8 (drop 8 types)) ≡ length types - 8
length_further_types types = length_types 8 (drop 8 types) ∙ length-drop 8 types

-- the rest of a list from one of its elements on
pub from_element : {X : Type 0} (xs ys : List X) (k : ℕ) (x : X) → ys ≡ xs → k < length ys → x ≡ get_or ys k x → drop k xs ≡ x ∷ drop (k + 1) xs
from_element xs ys k x same h here =
    subst (λ zs. drop k zs ≡ x ∷ drop (k + 1) zs) same (drop_more ys k x h ∙ ap (λ y. y ∷ drop (k + 1) ys) (sym here))

pub at_element : {X : Type 0} (xs ys : List X) (k : ℕ) (x : X) → ys ≡ xs → k < length ys → x ≡ get_or ys k x → slice_get xs k ≡ Some x
at_element xs ys k x same h here =
    subst (λ zs. slice_get zs k ≡ Some x) same (slice_get-get_or ys k x h ∙ ap (λ y. Some y) (sym here))

-- the lines of one element of a list, each of which has several, and those behind it
module _ {X : Type 0} (test : Line → Option FlatRule) (lines : ℕ → List X → List Line) (part : ℕ → X → List Line)
    (one : (k : ℕ) (x : X) (xs : List X) → lines k (x ∷ xs) ≡ part k x ++ lines (k + 1) xs) where
  next_part : (n m k : ℕ) (xs : List X) (x : X) → drop k xs ≡ x ∷ drop (k + 1) xs → Passes test n (part k x) (Ok m)
      → first_of test n (lines k (drop k xs)) ≡ first_of test m (lines (k + 1) (drop (k + 1) xs))
  next_part n m k xs x split passes =
      rw (split, one k x (drop (k + 1) xs))
      (pass_lines test n m (part k x) (lines (k + 1) (drop (k + 1) xs)) passes.0 passes.1)

  end_part : (n m k : ℕ) (xs : List X) (x : X) → drop k xs ≡ x ∷ drop (k + 1) xs → Passes test n (part k x) (Ok m)
      → n + length (lines k (drop k xs)) ≡ m + length (lines (k + 1) (drop (k + 1) xs))
  end_part n m k xs x split passes =
      let e = length-append (part k x) (lines (k + 1) (drop (k + 1) xs)) in
      rw (split, one k x (drop (k + 1) xs)) (omega (arith, e, passes.1))

  stop_part : (n k : ℕ) (xs : List X) (x : X) (fault : ValidFault) → drop k xs ≡ x ∷ drop (k + 1) xs → IsFault (first_of test n (part k x)) fault
      → IsFault (first_of test n (lines k (drop k xs))) fault
  stop_part n k xs x fault split found =
      rw (split, one k x (drop (k + 1) xs))
      (fault_in test n (part k x) (lines (k + 1) (drop (k + 1) xs)) fault found)

pub next_global : (test : Line → Option FlatRule) (n m k : ℕ) (globals : List GlobalObject) (x : GlobalObject) → drop k globals ≡ x ∷ drop (k + 1) globals
    → Passes test n (global_part k x) (Ok m)
    → first_of test n (global_lines k (drop k globals)) ≡ first_of test m (global_lines (k + 1) (drop (k + 1) globals))
next_global test = next_part test global_lines global_part (λ k g gs. refl)

pub end_global : (test : Line → Option FlatRule) (n m k : ℕ) (globals : List GlobalObject) (x : GlobalObject) → drop k globals ≡ x ∷ drop (k + 1) globals
    → Passes test n (global_part k x) (Ok m)
    → n + length (global_lines k (drop k globals)) ≡ m + length (global_lines (k + 1) (drop (k + 1) globals))
end_global test = end_part test global_lines global_part (λ k g gs. refl)

pub stop_global : (test : Line → Option FlatRule) (n k : ℕ) (globals : List GlobalObject) (x : GlobalObject) (fault : ValidFault) → drop k globals ≡ x ∷ drop (k + 1) globals
    → IsFault (first_of test n (global_part k x)) fault → IsFault (first_of test n (global_lines k (drop k globals))) fault
stop_global test = stop_part test global_lines global_part (λ k g gs. refl)

function_parts : (k : ℕ) (f : Function) (fs : List Function) → function_lines k (f ∷ fs) ≡ function_part k f ++ function_lines (k + 1) fs
function_parts k f fs = ap (λ lines. function_line k f ∷ lines) (sym (append_assoc (var_lines f 0 f.vars) (body_part f) (function_lines (k + 1) fs)))

pub next_function : (test : Line → Option FlatRule) (n m k : ℕ) (functions : List Function) (x : Function) → drop k functions ≡ x ∷ drop (k + 1) functions
    → Passes test n (function_part k x) (Ok m)
    → first_of test n (function_lines k (drop k functions)) ≡ first_of test m (function_lines (k + 1) (drop (k + 1) functions))
next_function test = next_part test function_lines function_part function_parts

pub end_function : (test : Line → Option FlatRule) (n m k : ℕ) (functions : List Function) (x : Function) → drop k functions ≡ x ∷ drop (k + 1) functions
    → Passes test n (function_part k x) (Ok m)
    → n + length (function_lines k (drop k functions)) ≡ m + length (function_lines (k + 1) (drop (k + 1) functions))
end_function test = end_part test function_lines function_part function_parts

pub stop_function : (test : Line → Option FlatRule) (n k : ℕ) (functions : List Function) (x : Function) (fault : ValidFault) → drop k functions ≡ x ∷ drop (k + 1) functions
    → IsFault (first_of test n (function_part k x)) fault → IsFault (first_of test n (function_lines k (drop k functions))) fault
stop_function test = stop_part test function_lines function_part function_parts

-- a fault in the second of three parts, the first of which breaks no rule
pub fault_behind : (test : Line → Option FlatRule) (n m : ℕ) (xs ys zs : List Line) (fault : ValidFault) → Passes test n xs (Ok m)
    → IsFault (first_of test m ys) fault → IsFault (first_of test n (xs ++ (ys ++ zs))) fault
fault_behind test n m xs ys zs fault passes found =
    subst (λ want. IsFault want fault) (sym (pass_lines test n m xs (ys ++ zs) passes.0 passes.1)) (fault_in test m ys zs fault found)

last_one : (n : ℕ) (here : Option FlatRule) (some all found : Option (ℕ × FlatRule)) → (some ≡ None → all ≡ found) → found_at n here some ≡ None → found_at n here all ≡ found
last_one n (Some r) some all found go h = cc
last_one n None some all found go h = go h

-- what is found behind lines that break no rule
pub found_behind : (test : Line → Option FlatRule) (n : ℕ) (lines : List Line) (behind : Option (ℕ × FlatRule)) → first_of test n lines ≡ None → first_in test n lines behind ≡ behind
found_behind test n [] behind h = refl
found_behind test n (line ∷ lines) behind h =
    last_one n (test line) _ _ behind (λ none. found_behind test (n + 1) lines behind none) h

pub found_before : (test : Line → Option FlatRule) (n : ℕ) (lines : List Line) (behind : Option (ℕ × FlatRule)) (found : ℕ × FlatRule) → first_of test n lines ≡ Some found → first_in test n lines behind ≡ Some found
found_before test n [] behind found h = cc
found_before test n (line ∷ lines) behind found h =
    stop_one n (test line) _ _ (Some found) found refl h (λ some. found_before test (n + 1) lines behind found some)

pub fault_before : (test : Line → Option FlatRule) (n : ℕ) (lines : List Line) (behind : Option (ℕ × FlatRule)) (fault : ValidFault) → IsFault (first_of test n lines) fault → IsFault (first_in test n lines behind) fault
fault_before test n lines behind NoMemory h = tt
fault_before test n lines behind (NotValid line r) h = found_before test n lines behind (line, r) h

pub main_fault_at : (flat : Flat) (line : ℕ) → has_main flat ≡ false → line ≡ line_behind flat → main_fault flat ≡ Some (line, Main)
main_fault_at flat line none here = rw (none, here) refl
