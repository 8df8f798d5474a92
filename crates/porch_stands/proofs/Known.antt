-- The types of a valid program's globals and variables are of the program.
use Rattle.std.proofs.Common.{◌≡◌, ◌<◌, ℕ, zero, suc, ◌+◌, ◌-◌, List, [], ◌∷◌, ◌++◌, length, map, refl, sym, ap, subst, ◌∙◌, arith, Option, Some, None, Bool, true, false}
use Rattle.std.specs.Prelude.{slice_get, nat_lt, ◌&&◌, drop}
use Rattle.std.specs.Option.{option_map}
use Rattle.std.proofs.lemmas.Bool.{ltb-true, le-ltb, and_parts}
use Rattle.std.proofs.lemmas.Option.{slice_get-map, same_Some}
use Rattle.porch_types.specs.Leaves.{IsTypes}
use Rattle.porch_flat.specs.declared.flat.GlobalObject.{GlobalObject}
use Rattle.porch_flat.specs.declared.whole.Function.{Function}
use Rattle.porch_flat.specs.declared.whole.Flat.{Flat}
use Rattle.porch_flat.specs.declared.whole.Sort.{Sort}
use Rattle.porch_flat.specs.declared.whole.FlatRule.TheVariants as rule
use Rattle.porch_flat.specs.whole.Lines.{Line, global_line, function_line, var_line, begin_line, type_lines, init_lines, global_lines, var_lines, command_lines, function_lines, lines_of, line_at}
use Rattle.porch_flat.specs.whole.Places.{vars_of}
use Rattle.porch_flat.specs.whole.Rules.{IsValid, is_type, keeps_number}
use Rattle.porch_bytes.specs.Memory.{global_types}
use Rattle.porch_stands.specs.Placed.{HasTypes, ValidProgramsHaveTypes}

-- somewhere in a list
abbrev IsIn : List Line → Line → Type 0
IsIn lines line = (i : ℕ) × (slice_get lines i ≡ Some line)

in_front : (xs ys : List Line) (line : Line) → IsIn xs line → IsIn (xs ++ ys) line
in_front xs ys line h = (h.0, at xs h.0 h.1)
  where
    at : (xs : List Line) (i : ℕ) → slice_get xs i ≡ Some line → slice_get (xs ++ ys) i ≡ Some line
    at [] i e = absurd (let k = e in cc)
    at (x ∷ xs) zero e = e
    at (x ∷ xs) (suc i) e = at xs i e

in_rest : (xs ys : List Line) (line : Line) → IsIn ys line → IsIn (xs ++ ys) line
in_rest [] ys line h = h
in_rest (x ∷ xs) ys line h = (let k = in_rest xs ys line h in (suc k.0, k.1))

later : (x line : Line) (xs : List Line) → IsIn xs line → IsIn (x ∷ xs) line
later x line xs h = (suc h.0, h.1)

global_in : (n : ℕ) (gs : List GlobalObject) (i : ℕ) (g : GlobalObject) → slice_get gs i ≡ Some g → (k : ℕ) × IsIn (global_lines n gs) (global_line k g)
global_in n [] i g e = absurd (let k = e in cc)
global_in n (x ∷ gs) zero g e = (n, (0, ap (λ (y : GlobalObject). Some (global_line n y)) (same_Some x g e)))
global_in n (x ∷ gs) (suc i) g e =
    let k = global_in (n + 1) gs i g e in (
      k.0,
      later (global_line n x) (global_line k.0 g) (init_lines n x 0 x.inits ++ global_lines (n + 1) gs)
          (in_rest (init_lines n x 0 x.inits) (global_lines (n + 1) gs) (global_line k.0 g) k.1),
    )

var_in : (f : Function) (v : ℕ) (vars : List ℕ) (i ty : ℕ) → slice_get vars i ≡ Some ty → (k : ℕ) × IsIn (var_lines f v vars) (var_line f k ty)
var_in f v [] i ty e = absurd (let k = e in cc)
var_in f v (x ∷ vars) zero ty e = (v, (0, ap (λ (y : ℕ). Some (var_line f v y)) (same_Some x ty e)))
var_in f v (x ∷ vars) (suc i) ty e = (let k = var_in f (v + 1) vars i ty e in (k.0, later (var_line f v x) (var_line f k.0 ty) (var_lines f (v + 1) vars) k.1))

function_in : (n : ℕ) (fs : List Function) (j : ℕ) (f : Function) (i ty : ℕ) → slice_get fs j ≡ Some f → slice_get f.vars i ≡ Some ty
    → (k : ℕ) × IsIn (function_lines n fs) (var_line f k ty)
function_in n [] j f i ty e g = absurd (let k = e in cc)
function_in n (x ∷ fs) zero f i ty e g =
    let same : x ≡ f = same_Some x f e in
    let k = var_in f 0 f.vars i ty g in (
      k.0,
      subst (λ (y : Function). IsIn (function_lines n (y ∷ fs)) (var_line f k.0 ty)) (sym same)
          (later (function_line n f) (var_line f k.0 ty) (var_lines f 0 f.vars ++ begin_line ∷ (command_lines f 0 f.commands ++ function_lines (n + 1) fs))
          (in_front (var_lines f 0 f.vars) (begin_line ∷ (command_lines f 0 f.commands ++ function_lines (n + 1) fs)) (var_line f k.0 ty) k.1)),
    )
function_in n (x ∷ fs) (suc j) f i ty e g =
    let k = function_in (n + 1) fs j f i ty e g in
    let rest : List Line = command_lines x 0 x.commands ++ function_lines (n + 1) fs in (
      k.0,
      later (function_line n x) (var_line f k.0 ty) (var_lines x 0 x.vars ++ begin_line ∷ rest)
          (in_rest (var_lines x 0 x.vars) (begin_line ∷ rest) (var_line f k.0 ty)
          (later begin_line (var_line f k.0 ty) rest (in_rest (command_lines x 0 x.commands) (function_lines (n + 1) fs) (var_line f k.0 ty) k.1))),
    )

middle : (a b c : Bool) → (a && b && c) ≡ true → b ≡ true
middle true true c h = refl
middle true false c h = h
middle false b c h = absurd (let k = h in cc)

module _ (sort : Sort) (flat : Flat) (valid : IsValid sort flat) where
  keeps_in : (line : Line) → IsIn (lines_of flat) line → keeps_number flat line ≡ true
  keeps_in line h =
      let at : slice_get (lines_of flat) (h.0 + 3 - 3) ≡ Some line = (let same : h.0 + 3 - 3 ≡ h.0 = omega arith in ap (slice_get (lines_of flat)) same ∙ h.1) in
      let low : nat_lt (h.0 + 3) 3 ≡ false = le-ltb (h.0 + 3) 3 (omega arith) in
      valid.lines (h.0 + 3) line rule.Number (rw low at)

  global_known : (g ty : ℕ) → slice_get (global_types flat) g ≡ Some ty → ty < length flat.types
  global_known g ty e = by_object (slice_get flat.globals g) refl
    where
      types : option_map (λ (x : GlobalObject). x.ty) (slice_get flat.globals g) ≡ Some ty
      types = sym (slice_get-map (λ (x : GlobalObject). x.ty) flat.globals g) ∙ e

      by_object : (x : Option GlobalObject) → slice_get flat.globals g ≡ x → ty < length flat.types
      by_object None k = absurd (let h = sym (ap (option_map (λ (x : GlobalObject). x.ty)) k) ∙ types in cc)
      by_object (Some x) k =
          let same : x.ty ≡ ty = same_Some x.ty ty (sym (ap (option_map (λ (x : GlobalObject). x.ty)) k) ∙ types) in
          let line = global_in 0 flat.globals g x k in
          let kept = keeps_in (global_line line.0 x) (in_rest (type_lines 8 (drop 8 flat.types)) (global_lines 0 flat.globals ++ function_lines 0 flat.functions) (global_line line.0 x)
          (in_front (global_lines 0 flat.globals) (function_lines 0 flat.functions) (global_line line.0 x) line.1)) in
          subst (λ (t : ℕ). t < length flat.types) same (ltb-true x.ty (length flat.types) (middle _ (is_type flat x.ty) _ kept))

  variable_known : (function v ty : ℕ) → slice_get (vars_of (slice_get flat.functions function)) v ≡ Some ty → ty < length flat.types
  variable_known function v ty e = by_function (slice_get flat.functions function) refl e
    where
      by_function : (x : Option Function) → slice_get flat.functions function ≡ x → slice_get (vars_of x) v ≡ Some ty → ty < length flat.types
      by_function None k g = absurd (let h = g in cc)
      by_function (Some f) k g =
          let line = function_in 0 flat.functions function f v ty k g in
          let kept = keeps_in (var_line f line.0 ty) (in_rest (type_lines 8 (drop 8 flat.types)) (global_lines 0 flat.globals ++ function_lines 0 flat.functions) (var_line f line.0 ty)
          (in_rest (global_lines 0 flat.globals) (function_lines 0 flat.functions) (var_line f line.0 ty) line.1)) in
          ltb-true ty (length flat.types) (and_parts _ (is_type flat ty) kept).1

pub valid_has_types : ValidProgramsHaveTypes
valid_has_types sort flat valid types = record {
  types_are = types;
  globals_known = global_known sort flat valid;
  variables_known = λ under function v ty e. variable_known sort flat valid function v ty e;
}
