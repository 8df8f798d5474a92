-- What is said of the programs here: their flat programs keep each rule, and mean what they mean.
use Rattle.std.specs.Prelude.{ℕ, ◌≡◌, ⊤, true, List, [], ◌∷◌, ◌++◌, codes, Option, Some}
use Rattle.std.specs.Option.{option_map}
use Rattle.porch_types.specs.declared.shapes.Ty.{Ty}
use Rattle.porch_types.specs.declared.shapes.Ty.TheVariants.{Pointer}
use Rattle.porch_values.specs.declared.widths.Widths.{Widths}
use Rattle.porch_objects.specs.Meaning.{Environment, without_input, Meaning, Ending}
use Rattle.porch_flat.specs.declared.whole.Flat.{Flat}
use Rattle.porch_flat.specs.declared.whole.Sort.TheVariants.{Plain}
use Rattle.porch_flat.specs.whole.Worked.{keeps_all}
use Rattle.porch_abstract.specs.Machine.{State}
use Rattle.porch_abstract.specs.whole.Machine.{begin}
use Rattle.porch_abstract.specs.whole.Run.{run_to, marks_to}
use Rattle.porch_typed.specs.Mirror.{Function, Program}
use Rattle.porch_mean.specs.Mean.{mean}
use Rattle.porch_mean.specs.worked.Whole.{list_types, whole_program}
use Rattle.porch_mean.specs.worked.Write.{both, types, narrow, wide}
use Rattle.porch_lowering.specs.Lowering.{flat_of}

-- the pointer types that the types of these programs lack, from number 21 on
abbrev pub further_types : List Ty
further_types =
    Pointer 1 ∷ Pointer 2 ∷ Pointer 3 ∷ Pointer 5 ∷ Pointer 6 ∷ Pointer 7 ∷ Pointer 10 ∷ Pointer 11 ∷ Pointer 12 ∷ Pointer 13
    ∷ Pointer 15 ∷ Pointer 16 ∷ Pointer 18 ∷ Pointer 19 ∷ []

-- the pointer type to each type
abbrev pub pointers : List ℕ
pointers =
    12 ∷ 21 ∷ 22 ∷ 23 ∷ 8 ∷ 24 ∷ 25 ∷ 26 ∷ 16 ∷ 11 ∷ 27 ∷ 28 ∷ 29 ∷ 30 ∷ 15 ∷ 31 ∷ 32 ∷ 18 ∷ 33 ∷ 34 ∷ 19 ∷ []

-- the first function is main
abbrev pub with_main : List Function → List Function
with_main [] = []
with_main (f ∷ functions) = record f { name = codes "main" } ∷ functions

-- A program as it is written down for its meaning, with what its flat program needs.
abbrev pub completed : Program → Program
completed p =
    record { types = types ++ further_types; pointers = pointers; globals = p.globals; functions = with_main p.functions; main = p.main }

-- the whole program of porch_mean, with a list of types of its own
abbrev pub whole : Program
whole =
    record {
      types =
          list_types ++ Pointer 0 ∷ Pointer 1 ∷ Pointer 2 ∷ Pointer 3 ∷ Pointer 4 ∷ Pointer 5 ∷ Pointer 7 ∷ Pointer 8 ∷ Pointer 9 ∷ Pointer 11 ∷ [];
      pointers = 12 ∷ 13 ∷ 14 ∷ 15 ∷ 16 ∷ 17 ∷ 11 ∷ 18 ∷ 19 ∷ 20 ∷ 9 ∷ 21 ∷ [];
      globals = whole_program.globals;
      functions = with_main whole_program.functions;
      main = whole_program.main;
    }

-- enough steps for each of these programs
abbrev pub STEPS : ℕ
STEPS = 400

-- what a flat program means, where its run is over within so many steps
abbrev pub meaning_of : Flat → Environment → (n : ℕ) → Option Meaning
meaning_of flat under n =
    option_map
    (λ (r : State × Ending).
    let m : Meaning = record { output = r.0.output; marks = marks_to flat under n STEPS (begin flat); turns = r.0.turns; ending = r.1 } in m)
    (run_to flat under n STEPS (begin flat))

-- its flat program means the same, to so many turns
abbrev pub MeansTheSame : Program → Widths → (n : ℕ) → Type 0
MeansTheSame p widths n = meaning_of (flat_of p) (without_input widths) n ≡ Some (mean p (without_input widths) n)

-- its flat program is valid
abbrev pub KeepsRules : Program → Type 0
KeepsRules p = keeps_all Plain (flat_of p) ≡ true

abbrev pub Agrees : Program → (n : ℕ) → Type 0
Agrees p n = KeepsRules p × MeansTheSame p both n

-- each of these programs, to so many turns
abbrev pub AllAgree : (n : ℕ) → List Program → Type 0
AllAgree n [] = ⊤
AllAgree n (p ∷ programs) = Agrees (completed p) n × AllAgree n programs

-- under each width of long, and under both at once
abbrev pub AgreesInEach : Program → (n : ℕ) → Type 0
AgreesInEach p n = KeepsRules p × MeansTheSame p both n × MeansTheSame p narrow n × MeansTheSame p wide n
