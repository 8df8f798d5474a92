-- main is the same function of the rewritten program.
use Rattle.std.proofs.Common.{◌≡◌, ℕ, suc, ◌+◌, List, [], ◌∷◌, length, refl, ap, ◌∙◌, Some, None, Bool, true, false}
use Rattle.std.specs.Prelude.{nat_lt, codes, if◌then◌else◌}
use Rattle.std.specs.Str.{bytes_eq}
use Rattle.std.specs.List.{position_or_len}
use Rattle.porch_flat.specs.declared.whole.Function.{Function}
use Rattle.porch_flat.specs.declared.whole.Flat.{Flat}
use Rattle.porch_flat.specs.whole.Places.{main_of}
use Rattle.porch_flat.specs.whole.Rewritten.{reaches}
use Rattle.porch_rewrite.specs.Rewriting.{rewritten_function, rewritten_functions, rewritten}

module _ (flat : Flat) where
  abbrev made : Flat
  made = rewritten flat

  abbrev reaching : ℕ → Bool
  reaching = reaches flat

  abbrev is_main : Function → Bool
  is_main f = bytes_eq (codes "main") f.name

  main_by : (n : ℕ) (f : Function) (b : Bool) → reaching n ≡ b → is_main (rewritten_function reaching n f) ≡ is_main f
  main_by n f true is = rw is refl
  main_by n f false is = rw is refl

  main_place : (n : ℕ) (fs : List Function) → position_or_len is_main (rewritten_functions reaching n fs) ≡ position_or_len is_main fs
  main_place n [] = refl
  main_place n (f ∷ fs) = rw (main_by n f (reaching n) refl, main_place (n + 1) fs) refl

  functions_length : (n : ℕ) (fs : List Function) → length (rewritten_functions reaching n fs) ≡ length fs
  functions_length n [] = refl
  functions_length n (f ∷ fs) = ap (λ k. suc k) (functions_length (n + 1) fs)

  pub main_same : main_of made ≡ main_of flat
  main_same =
      ap (λ p. if nat_lt p (length made.functions) then Some p else None) (main_place 0 flat.functions)
      ∙ ap (λ l. if nat_lt (position_or_len is_main flat.functions) l then Some (position_or_len is_main flat.functions) else None) (functions_length 0 flat.functions)
