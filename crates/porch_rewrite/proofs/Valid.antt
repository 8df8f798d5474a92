-- The rewritten program keeps every rule.
use Rattle.std.proofs.Common.{◌≡◌, ◌<◌, ◌≤◌, ◌^◌, ℕ, zero, suc, ◌+◌, List, [], ◌∷◌, ◌++◌, length, drop, refl, sym, ap, ◌∙◌, subst, arith, Bool, true, false, Option, Some, None}
use Rattle.std.specs.Prelude.{slice_get, ◌&&◌}
use Rattle.std.specs.Option.{option_map, option_and_then}
use Rattle.std.proofs.lemmas.Bool.Decides.{nat_tests}
use Rattle.porch_types.specs.declared.shapes.Ty.{Ty}
use Rattle.porch_flat.specs.declared.flat.GlobalObject.{GlobalObject}
use Rattle.porch_flat.specs.declared.flat.Init.{Init}
use Rattle.porch_flat.specs.declared.flat.Init.TheVariants as init
use Rattle.porch_flat.specs.declared.whole.Command.{Command}
use Rattle.porch_flat.specs.declared.whole.Function.{Function}
use Rattle.porch_flat.specs.declared.whole.Flat.{Flat}
use Rattle.porch_flat.specs.declared.whole.FlatRule.TheVariants as rule
use Rattle.porch_flat.specs.declared.whole.Sort.TheVariants as sort
use Rattle.porch_flat.specs.whole.Form.{form_of}
use Rattle.porch_flat.specs.whole.Lines.{Line, type_line, global_line, init_line, function_line, var_line, begin_line, command_line, end_line, type_lines, init_lines, global_lines, var_lines, command_lines, function_lines, lines_of}
use Rattle.porch_flat.specs.whole.Places.{vars_of, main_of}
use Rattle.porch_flat.specs.whole.Calls.{IsLeastClosed}
use Rattle.porch_flat.specs.whole.Rewritten.{reaches, is_rewritten}
use Rattle.porch_flat.specs.whole.Rules.{IsValid, has_main, is_main_head, is_number_of, is_type}
use Rattle.porch_rewrite.specs.Laws.{HasRoom, HasFew}
use Rattle.porch_rewrite.specs.Rewriting.{with_commands, saving_commands, rewritten_function, rewritten_functions, rewritten}
use Rattle.porch_rewrite.proofs.Filling.{few_numbers}
use Rattle.porch_rewrite.proofs.Kept.{commands_kept}
use Rattle.porch_rewrite.proofs.Lines.{Each, each_append, each_first, each_second, Keeps, lines_kept, valid_by_lines}
use Rattle.porch_rewrite.proofs.Marked.{saving_marked, alone_marked}
use Rattle.porch_rewrite.proofs.SameMain.{main_same}
use Rattle.porch_rewrite.proofs.Steps.{got}
use Rattle.porch_rewrite.proofs.SameRules.{numbers_same, kind_same, constants_same, arity_same}

module _ (flat : Flat) (room : HasRoom flat) (few : HasFew flat) (least : IsLeastClosed flat (reaches flat)) where
  abbrev program : Flat
  program = rewritten flat

  abbrev reaching : ℕ → Bool
  reaching = reaches flat

  abbrev Old : Line → Type 0
  Old line = Keeps flat false line

  abbrev New : Line → Type 0
  New line = Keeps program true line

  -- lines that stay

  type_kept : (n : ℕ) (ty : Ty) → Old (type_line n ty) → New (type_line n ty)
  type_kept n ty h rule.Number = h rule.Number
  type_kept n ty h rule.Kind = refl
  type_kept n ty h rule.Constant = refl
  type_kept n ty h rule.Jump = refl
  type_kept n ty h rule.Arity = refl
  type_kept n ty h rule.Modes = refl
  type_kept n ty h rule.Main = refl

  types_kept : (n : ℕ) (tys : List Ty) → Each Old (type_lines n tys) → Each New (type_lines n tys)
  types_kept n [] h = tt
  types_kept n (ty ∷ tys) h = (type_kept n ty h.0, types_kept (n + 1) tys h.1)

  global_kept : (n : ℕ) (g : GlobalObject) → Old (global_line n g) → New (global_line n g)
  global_kept n g h rule.Number = h rule.Number
  global_kept n g h rule.Kind = refl
  global_kept n g h rule.Constant = refl
  global_kept n g h rule.Jump = refl
  global_kept n g h rule.Arity = refl
  global_kept n g h rule.Modes = refl
  global_kept n g h rule.Main = refl

  init_kept : (n : ℕ) (g : GlobalObject) (place : ℕ) (i : Init) → Old (init_line n g place i) → New (init_line n g place i)
  init_kept n g place (init.Value leaf z) h rule.Number = h rule.Number
  init_kept n g place (init.Value leaf z) h rule.Kind = h rule.Kind
  init_kept n g place (init.Value leaf z) h rule.Constant = h rule.Constant
  init_kept n g place (init.Value leaf z) h rule.Jump = refl
  init_kept n g place (init.Value leaf z) h rule.Arity = refl
  init_kept n g place (init.Value leaf z) h rule.Modes = refl
  init_kept n g place (init.Value leaf z) h rule.Main = refl
  init_kept n g place (init.Address leaf other first) h rule.Number = h rule.Number
  init_kept n g place (init.Address leaf other first) h rule.Kind = h rule.Kind
  init_kept n g place (init.Address leaf other first) h rule.Constant = refl
  init_kept n g place (init.Address leaf other first) h rule.Jump = refl
  init_kept n g place (init.Address leaf other first) h rule.Arity = refl
  init_kept n g place (init.Address leaf other first) h rule.Modes = refl
  init_kept n g place (init.Address leaf other first) h rule.Main = refl

  inits_kept : (n : ℕ) (g : GlobalObject) (place : ℕ) (is : List Init) → Each Old (init_lines n g place is) → Each New (init_lines n g place is)
  inits_kept n g place [] h = tt
  inits_kept n g place (i ∷ is) h = (init_kept n g place i h.0, inits_kept n g (place + 1) is h.1)

  globals_kept : (n : ℕ) (gs : List GlobalObject) → Each Old (global_lines n gs) → Each New (global_lines n gs)
  globals_kept n [] h = tt
  globals_kept n (g ∷ gs) h = (
    global_kept n g h.0,
    each_append New (init_lines n g 0 g.inits) (global_lines (n + 1) gs) (inits_kept n g 0 g.inits (each_first Old (init_lines n g 0 g.inits) (global_lines (n + 1) gs) h.1))
        (globals_kept (n + 1) gs (each_second Old (init_lines n g 0 g.inits) (global_lines (n + 1) gs) h.1)),
  )

  -- a function with other commands

  head_kept : (n : ℕ) (f : Function) (cs : List Command) → is_rewritten program (with_commands f cs) ≡ true → Old (function_line n f) → New (function_line n (with_commands f cs))
  head_kept n f cs marked h rule.Number = h rule.Number
  head_kept n f cs marked h rule.Kind = h rule.Kind
  head_kept n f cs marked h rule.Constant = refl
  head_kept n f cs marked h rule.Jump = refl
  head_kept n f cs marked h rule.Arity = refl
  head_kept n f cs marked h rule.Modes = marked
  head_kept n f cs marked h rule.Main = refl

  var_kept : (f : Function) (cs : List Command) (v ty : ℕ) → Old (var_line f v ty) → New (var_line (with_commands f cs) v ty)
  var_kept f cs v ty h rule.Number = h rule.Number
  var_kept f cs v ty h rule.Kind = h rule.Kind
  var_kept f cs v ty h rule.Constant = refl
  var_kept f cs v ty h rule.Jump = refl
  var_kept f cs v ty h rule.Arity = refl
  var_kept f cs v ty h rule.Modes = refl
  var_kept f cs v ty h rule.Main = refl

  vars_kept : (f : Function) (cs : List Command) (v : ℕ) (tys : List ℕ) → Each Old (var_lines f v tys) → Each New (var_lines (with_commands f cs) v tys)
  vars_kept f cs v [] h = tt
  vars_kept f cs v (ty ∷ tys) h = (var_kept f cs v ty h.0, vars_kept f cs (v + 1) tys h.1)

  begin_kept : New begin_line
  begin_kept rule.Number = refl
  begin_kept rule.Kind = refl
  begin_kept rule.Constant = refl
  begin_kept rule.Jump = refl
  begin_kept rule.Arity = refl
  begin_kept rule.Modes = refl
  begin_kept rule.Main = refl

  end_kept : New end_line
  end_kept rule.Number = refl
  end_kept rule.Kind = refl
  end_kept rule.Constant = refl
  end_kept rule.Jump = refl
  end_kept rule.Arity = refl
  end_kept rule.Modes = refl
  end_kept rule.Main = refl

  -- a command of a function that is left alone
  same_command : (f : Function) (i : ℕ) (c : Command) → Old (command_line f i c) → New (command_line f i c)
  same_command f i c h rule.Number = numbers_same flat f f.commands (form_of c) ∙ h rule.Number
  same_command f i c h rule.Kind = kind_same flat f f.commands (form_of c) ∙ h rule.Kind
  same_command f i c h rule.Constant = constants_same flat f f.commands (form_of c) ∙ h rule.Constant
  same_command f i c h rule.Jump = h rule.Jump
  same_command f i c h rule.Arity = arity_same flat f f.commands (form_of c) ∙ h rule.Arity
  same_command f i c h rule.Modes = refl
  same_command f i c h rule.Main = refl

  same_commands : (f : Function) (i : ℕ) (cs : List Command) → Each Old (command_lines f i cs) → Each New (command_lines f i cs)
  same_commands f i [] h = (end_kept, tt)
  same_commands f i (c ∷ cs) h = (same_command f i c h.0, same_commands f (i + 1) cs h.1)

  abbrev body_lines : Function → List Line
  body_lines f = var_lines f 0 f.vars ++ begin_line ∷ command_lines f 0 f.commands

  body_kept : (f : Function) (cs : List Command) → Each Old (body_lines f) → Each New (command_lines (with_commands f cs) 0 cs) → Each New (body_lines (with_commands f cs))
  body_kept f cs h commands =
      each_append New (var_lines (with_commands f cs) 0 f.vars) (begin_line ∷ command_lines (with_commands f cs) 0 cs)
      (vars_kept f cs 0 f.vars (each_first Old (var_lines f 0 f.vars) (begin_line ∷ command_lines f 0 f.commands) h)) (begin_kept, commands)

  function_kept : (n : ℕ) (f : Function) (b : Bool) → reaching n ≡ b → slice_get flat.functions n ≡ Some f → Old (function_line n f) → Each Old (body_lines f)
      → New (function_line n (rewritten_function reaching n f)) × Each New (body_lines (rewritten_function reaching n f))
  function_kept n f false is at h body =
      let commands = (each_second Old (var_lines f 0 f.vars) (begin_line ∷ command_lines f 0 f.commands) body).1 in
      rw is (head_kept n f f.commands (alone_marked flat least n f at is (h rule.Modes)) h, body_kept f f.commands body (same_commands f 0 f.commands commands))
  function_kept n f true is at h body =
      let commands = (each_second Old (var_lines f 0 f.vars) (begin_line ∷ command_lines f 0 f.commands) body).1 in
      rw is (
        head_kept n f (saving_commands reaching f) (saving_marked flat least f n at is (h rule.Modes)) h,
        body_kept f (saving_commands reaching f) body (commands_kept flat n f at room (few_numbers flat few reaching n f at) commands),
      )

  abbrev Stand : ℕ → List Function → Type 0
  Stand n fs = (i : ℕ) (f : Function) → slice_get fs i ≡ Some f → slice_get flat.functions (n + i) ≡ Some f

  split_lines : (n : ℕ) (f : Function) (fs : List Function) → function_lines n (f ∷ fs) ≡ function_line n f ∷ (body_lines f ++ function_lines (n + 1) fs)
  split_lines n f fs = ap (λ l. function_line n f ∷ l) (sym (more (var_lines f 0 f.vars) (begin_line ∷ command_lines f 0 f.commands) (function_lines (n + 1) fs)))
    where
      more : {X : Type 0} (xs ys zs : List X) → (xs ++ ys) ++ zs ≡ xs ++ (ys ++ zs)
      more [] ys zs = refl
      more (x ∷ xs) ys zs = ap (λ l. x ∷ l) (more xs ys zs)

  functions_kept : (n : ℕ) (fs : List Function) → Stand n fs → Each Old (function_lines n fs) → Each New (function_lines n (rewritten_functions reaching n fs))
  functions_kept n [] stand h = tt
  functions_kept n (f ∷ fs) stand h =
      let lines : Each Old (function_line n f ∷ (body_lines f ++ function_lines (n + 1) fs)) = subst (λ l. Each Old l) (split_lines n f fs) h in
      let none : n + 0 ≡ n = omega arith in
      let at : slice_get flat.functions n ≡ Some f = subst (λ k. slice_get flat.functions k ≡ Some f) none (stand 0 f refl) in
      let one = function_kept n f (reaching n) refl at lines.0 (each_first Old (body_lines f) (function_lines (n + 1) fs) lines.1) in
      let rest = functions_kept (n + 1) fs (λ i g here. let same : n + suc i ≡ n + 1 + i = omega arith in subst (λ k. slice_get flat.functions k ≡ Some g) same (stand (suc i) g here)) (each_second Old (body_lines f) (function_lines (n + 1) fs) lines.1) in
      subst (λ l. Each New l) (sym (split_lines n (rewritten_function reaching n f) (rewritten_functions reaching (n + 1) fs)))
      (one.0, each_append New (body_lines (rewritten_function reaching n f)) (function_lines (n + 1) (rewritten_functions reaching (n + 1) fs)) one.1 rest)

  stand_all : Stand 0 flat.functions
  stand_all i f h = let none : 0 + i ≡ i = omega arith in rw none h

  pub all_kept : Each Old (lines_of flat) → Each New (lines_of program)
  all_kept h =
      let types = each_first Old (type_lines 8 (drop 8 flat.types)) (global_lines 0 flat.globals ++ function_lines 0 flat.functions) h in
      let rest = each_second Old (type_lines 8 (drop 8 flat.types)) (global_lines 0 flat.globals ++ function_lines 0 flat.functions) h in
      each_append New (type_lines 8 (drop 8 flat.types)) (global_lines 0 flat.globals ++ function_lines 0 program.functions) (types_kept 8 (drop 8 flat.types) types)
      (each_append New (global_lines 0 flat.globals) (function_lines 0 program.functions) (globals_kept 0 flat.globals (each_first Old (global_lines 0 flat.globals) (function_lines 0 flat.functions) rest))
      (functions_kept 0 flat.functions stand_all (each_second Old (global_lines 0 flat.globals) (function_lines 0 flat.functions) rest)))

  -- main is where it was, with the same head
  head_same : (k : ℕ) (o : Option Function) → is_main_head (option_map (rewritten_function reaching k) o) ≡ is_main_head o
  head_same k None = refl
  head_same k (Some f) = by_reach (reaching k) refl
    where
      by_reach : (b : Bool) → reaching k ≡ b → is_main_head (Some (rewritten_function reaching k f)) ≡ is_main_head (Some f)
      by_reach true is = rw is refl
      by_reach false is = rw is refl

  main_by : (o : Option ℕ) → is_main_head (option_and_then (slice_get program.functions) o) ≡ is_main_head (option_and_then (slice_get flat.functions) o)
  main_by None = refl
  main_by (Some k) = ap is_main_head (got flat k) ∙ head_same k (slice_get flat.functions k)

  pub main_kept : has_main flat ≡ true → has_main program ≡ true
  main_kept h = ap (λ o. is_main_head (option_and_then (slice_get program.functions) o)) (main_same flat) ∙ main_by (main_of flat) ∙ h

pub keeps_rules : ((flat : Flat) → IsLeastClosed flat (reaches flat)) → (flat : Flat) → IsValid sort.Plain flat → HasRoom flat → HasFew flat → IsValid sort.Rewritten (rewritten flat)
keeps_rules least flat valid room few =
    valid_by_lines (rewritten flat) (all_kept flat room few (least flat) (lines_kept flat valid)) (main_kept flat room few (least flat) valid.main)

-- variables have numbers

vars_bounded : (flat : Flat) (f : Function) (v : ℕ) (tys : List ℕ) → v ≤ 2 ^ 31 → Each (Keeps flat false) (var_lines f v tys) → v + length tys ≤ 2 ^ 31
vars_bounded flat f v [] le kept = omega (arith, le)
vars_bounded flat f v (ty ∷ tys) le kept =
    let less : v < 2 ^ 31 = below v (both_left (is_number_of v) (is_type flat ty) (kept.0 rule.Number)) in
    let rest = vars_bounded flat f (v + 1) tys (omega (arith, less)) kept.1 in
    omega (arith, rest)
  where
    both_left : (a b : Bool) → a && b ≡ true → a ≡ true
    both_left true b h = refl
    both_left false b h = absurd (cc)

    below : (n : ℕ) → is_number_of n ≡ true → n < 2 ^ 31
    below n h = grind (arith, nat_tests, h)

functions_bounded : (flat : Flat) (n : ℕ) (fs : List Function) → Each (Keeps flat false) (function_lines n fs) → (k : ℕ) → length (vars_of (slice_get fs k)) ≤ 2 ^ 31
functions_bounded flat n [] kept k = omega arith
functions_bounded flat n (f ∷ fs) kept zero =
    let none : 0 + length f.vars ≡ length f.vars = omega arith in
    let few = vars_bounded flat f 0 f.vars (omega arith) (each_first (Keeps flat false) (var_lines f 0 f.vars) (begin_line ∷ (command_lines f 0 f.commands ++ function_lines (n + 1) fs)) kept.1) in
    omega (arith, few)
functions_bounded flat n (f ∷ fs) kept (suc k) =
    functions_bounded flat (n + 1) fs
    (each_second (Keeps flat false) (command_lines f 0 f.commands) (function_lines (n + 1) fs)
    (each_second (Keeps flat false) (var_lines f 0 f.vars) (begin_line ∷ (command_lines f 0 f.commands ++ function_lines (n + 1) fs)) kept.1).1) k

pub variables_few : (flat : Flat) → IsValid sort.Plain flat → (k : ℕ) → length (vars_of (slice_get flat.functions k)) ≤ 2 ^ 31
variables_few flat valid k =
    functions_bounded flat 0 flat.functions
    (each_second (Keeps flat false) (global_lines 0 flat.globals) (function_lines 0 flat.functions)
    (each_second (Keeps flat false) (type_lines 8 (drop 8 flat.types)) (global_lines 0 flat.globals ++ function_lines 0 flat.functions) (lines_kept flat valid))) k
