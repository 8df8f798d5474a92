-- Lists of arguments, by how many there are.
use Rattle.std.proofs.Common.{◌≡◌, ℕ, false, List, [], ◌∷◌, length, Ok, refl, ap}
use Rattle.porch_lex.specs.declared.refusal.Rule.TheVariants.{Mismatch}
use Rattle.porch_typed.specs.Mirror.{checkpoint}
use Rattle.porch_check.specs.Refusals.{refuse}
use Rattle.porch_check.specs.Scopes.{Scopes, of_checkpoint}
use Rattle.porch_check.specs.Operands.{operand, typed_as, nothing}
use Rattle.porch_check.specs.Calls.{Argument, library_call}
use Rattle.porch_calls.specs.inside.Counts.{is_one, is_two}

pub just_one : (args : List Argument) → length args ≡ 0 → args ≡ []
just_one [] h = refl
just_one (a ∷ args) h = absurd (cc)

pub more_than_one : (a : Argument) (args : List Argument) → (length args ≡ 0 → ⊥) → is_one (a ∷ args) ≡ false
more_than_one a [] h = absurd (h refl)
more_than_one a (b ∷ args) h = refl

pub not_two : (a : Argument) (args : List Argument) → is_one args ≡ false → is_two (a ∷ args) ≡ false
not_two a [] h = refl
not_two a (b ∷ []) h = cc
not_two a (b ∷ c ∷ args) h = refl

pub is_empty : (at : ℕ) (args : List Argument) (s : Scopes) → length args ≡ 0
    → library_call of_checkpoint at args s ≡ Ok (operand (typed_as checkpoint nothing), s)
is_empty at [] s h = refl
is_empty at (a ∷ args) s h = absurd (cc)

pub isnt_empty : (at : ℕ) (args : List Argument) (s : Scopes) → (length args ≡ 0 → ⊥)
    → library_call of_checkpoint at args s ≡ refuse Mismatch at
isnt_empty at [] s h = absurd (h refl)
isnt_empty at (a ∷ args) s h = refl
