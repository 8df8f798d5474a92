-- The rules of a program, from those of its parts.
use Rattle.std.proofs.Common.{◌≡◌, ◌<◌, ◌≤◌, ◌+◌, ◌^◌, ◌↔◌, ℕ, IsTrue, Bool, List, [], ◌∷◌, length, Some, arith, sym, ap, ◌∙◌, subst}
use Rattle.std.proofs.Math.ListN.{get_or}
use Rattle.std.proofs.lemmas.Bool.{cases_lt}
use Rattle.std.proofs.lemmas.Option.{slice_get-get_or, slice_get_within, same_Some}
use Rattle.std.specs.Prelude.{slice_get, IfOk, Result, Ok, Err, ◌⊎◌}
use Rattle.std.specs.declared.alloc.AllocError.{AllocError}
use Rattle.std.proofs.Common.{inl, inr}
use Rattle.porch_types.specs.Leaves.{kind_types}
use Rattle.porch_flat.specs.declared.flat.Command.{Command}
use Rattle.porch_flat.specs.declared.flat.Function.{Function}
use Rattle.porch_flat.specs.declared.flat.Flat.{Flat}
use Rattle.porch_flat.specs.Valid.{IsFunction, IsMain, IsValid}
use Rattle.porch_flat.specs.inside.Checked.{IsCommand, AreCommands}

last_or_before : (k at : ℕ) → k < at + 1 → (k < at) ⊎ (k ≡ at)
last_or_before k at h = elim (cases_lt k at) [ inl a ↦ inl a | inr b ↦ inr (omega arith) ]

pub commands_more : (f : Function) (at : ℕ) (c : Command) → AreCommands f at → slice_get f.commands at ≡ Some c → IsCommand f at c → AreCommands f (at + 1)
commands_more f at c before here rules_of = record {
  each = λ k d h e. elim (last_or_before k at h) [
    | inl a ↦ before.each k d a e
    | inr b ↦
        let same : Some d ≡ Some c = sym e ∙ ap (λ n. slice_get f.commands n) b ∙ here in
        subst (λ n. IsCommand f n d) (sym b) (subst (λ x. IsCommand f at x) (sym (same_Some d c same)) rules_of)
  ];
}

pub function_from : (f : Function) → length f.vars ≤ 2 ^ 31 → AreCommands f (length f.commands) → IsFunction f
function_from f few all = record {
  few = few;
  parts = λ at c e. (all.each at c (slice_get_within f.commands at c e) e).parts;
  jumps = λ at c e. (all.each at c (slice_get_within f.commands at c e) e).jumps;
}

pub function_to : (f : Function) → IsFunction f → AreCommands f (length f.commands)
function_to f is = record { each = λ at c h e. record { parts = is.parts at c e; jumps = is.jumps at c e } }

one_function : (fs : List Function) (main : Function) → slice_get fs 0 ≡ Some main → length fs ≡ 1 → fs ≡ main ∷ []
one_function [] main h l = cc
one_function (f ∷ []) main h l = cc
one_function (f ∷ g ∷ fs) main h l = absurd (omega arith)

pub valid_from : (flat : Flat) (main : Function) → flat.types ≡ kind_types → flat.globals ≡ [] → slice_get flat.functions 0 ≡ Some main → length flat.functions ≡ 1 → IsMain main → IsValid flat
valid_from flat main t g h l m = record { types_are = t; globals_are = g; main = main; only = one_function flat.functions main h l; good = m }

pub valid_to : (flat : Flat) (main : Function) → slice_get flat.functions 0 ≡ Some main → IsValid flat → IsMain main
valid_to flat main h v =
    let same : Some v.main ≡ Some main = ap (λ fs. slice_get fs 0) (sym v.only) ∙ h in
    subst IsMain (same_Some v.main main same) v.good

valid_when : (flat : Flat) (main : Function) (b : Bool) → flat.types ≡ kind_types → flat.globals ≡ [] → slice_get flat.functions 0 ≡ Some main → length flat.functions ≡ 1
    → (IsTrue b ↔ IsMain main) → IsTrue b ↔ IsValid flat
valid_when flat main b t g h l w = (λ x. valid_from flat main t g h l (w.0 x), λ v. w.1 (valid_to flat main h v))

pub valid_result : (flat : Flat) (main : Function) (r : Result Bool AllocError) → flat.types ≡ kind_types → flat.globals ≡ [] → slice_get flat.functions 0 ≡ Some main → length flat.functions ≡ 1
    → IfOk r (λ b. IsTrue b ↔ IsMain main) → IfOk r (λ b. IsTrue b ↔ IsValid flat)
valid_result flat main (Ok b) t g h l w = valid_when flat main b t g h l w
valid_result flat main (Err e) t g h l w = tt

pub commands_next : (f : Function) (at : ℕ) (commands : List Command) (d : Command) → commands ≡ f.commands → AreCommands f at → at < length commands → IsCommand f at (get_or commands at d) → AreCommands f (at + 1)
commands_next f at commands d same before within rules_of =
    let here : slice_get f.commands at ≡ Some (get_or commands at d) = rw (← same) (slice_get-get_or commands at d within) in
    commands_more f at (get_or commands at d) before here rules_of
