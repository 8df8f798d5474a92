-- A condition that is an int, and what follows where it holds and where it doesn't.
use Rattle.std.proofs.Common.{◌≡◌, ℕ, ℤ, ◌+◌, List, length, refl, ap, subst, ◌∙◌, Bool, true, false, Option, Some, None}
use Rattle.std.specs.Prelude.{⊤, pos, not, slice_get, unwrap_or, if◌then◌else◌}
use Rattle.std.specs.Ordering.{int_eq}
use Rattle.porch_values.specs.declared.acts.Act.TheVariants.{Indeterminate}
use Rattle.porch_objects.specs.Store.{Value, number, null, pointer, past, indeterminate, Object}
use Rattle.porch_objects.specs.Meaning.{Environment, Mark, Progress, Met}
use Rattle.porch_flat.specs.declared.flat.Operand.{Operand}
use Rattle.porch_flat.specs.declared.whole.Command.{Command}
use Rattle.porch_flat.specs.declared.whole.Command.TheVariants as command
use Rattle.porch_flat.specs.declared.whole.Flat.{Flat}
use Rattle.porch_flat.specs.whole.Places.{place_of_label}
use Rattle.porch_abstract.specs.Machine.{Frame, State, Next, Goes, counted}
use Rattle.porch_abstract.specs.whole.Machine.{operand_of}
use Rattle.porch_mean.specs.Outcome.{Outcome, either, with_truth}
use Rattle.porch_lowered.proofs.Runs.{RunsTo, GoesOn, chain}
use Rattle.porch_lowered.proofs.Follows.{Follows}
use Rattle.porch_lowered.proofs.States.{going, commands, command_goes, command_meets}

-- an int, or a value that is missing
abbrev pub IsInt : Value → Type 0
IsInt (number z) = ⊤
IsInt null = ⊥
IsInt (pointer home leaf) = ⊥
IsInt (past home leaf until) = ⊥
IsInt indeterminate = ⊤

-- each label stands where it is found
abbrev pub AreHomes : List Command → Type 0
AreHomes all = (l q : ℕ) → slice_get all q ≡ Some (command.Label l) → place_of_label all l ≡ Some q

module _ (flat : Flat) (under : Environment) (n function : ℕ) (into : Option ℕ) (callers : List Frame) (more : List (List Object)) where
  abbrev all : List Command
  all = commands flat under n function into callers more

  abbrev in_place : ℕ → State → State
  in_place = going flat under n function into callers more

  -- from any state of the function
  pub jump_from : (l place q : ℕ) (x : State) (before : List Mark) → slice_get all place ≡ Some (command.Jump l) → place_of_label all l ≡ Some q
      → GoesOn flat under n (in_place place x) before (in_place q x) before
  jump_from l place q x before h e =
      command_goes flat under n function into callers more (command.Jump l) place x h (record { calm = refl; silent = λ s frame. refl })
      (in_place q x) before (ap (λ found. Goes (in_place (unwrap_or found (length all)) x)) e)

  pub label_from : (l place : ℕ) (x : State) (before : List Mark) → slice_get all place ≡ Some (command.Label l)
      → GoesOn flat under n (in_place place x) before (in_place (place + 1) x) before
  label_from l place x before h =
      command_goes flat under n function into callers more (command.Label l) place x h (record { calm = refl; silent = λ s frame. refl })
      (in_place (place + 1) x) before refl

  -- IF of an operand
  module _ (l place q : ℕ) (o : Operand) (s : Progress) (x : State) (before : List Mark) (h : slice_get all place ≡ Some (command.If o l))
      (e : place_of_label all l ≡ Some q) where
    abbrev chosen : Option ℕ → ℤ → Next
    chosen found z =
        if int_eq z (pos 0) then Goes (in_place (place + 1) x) else Goes (in_place (unwrap_or found (length all)) x)

    goes_by : (b : Bool) (z : ℤ) → int_eq z (pos 0) ≡ b → chosen (place_of_label all l) z ≡ (if b then Goes (in_place (place + 1) x) else Goes (in_place q x))
    goes_by b z i =
        ap (λ found. chosen found z) e ∙ ap (λ b. if b then Goes (in_place (place + 1) x) else Goes (in_place q x)) i

    branch_goes : (z : ℤ) (there : State) → operand_of flat None o (in_place place x) ≡ number z → chosen (place_of_label all l) z ≡ Goes there
        → GoesOn flat under n (in_place place x) before there before
    branch_goes z there v g =
        command_goes flat under n function into callers more (command.If o l) place x h (record { calm = refl; silent = λ s frame. refl })
        there before (ap (λ w. counted w (λ z. chosen (place_of_label all l) z)) v ∙ g)

    -- from a state that leads there
    pub branch_follows : (w : Value) (holds_then fails_then : Progress → Outcome) (near : Value → Progress → Type 0) (start : State) (first : List Mark)
        → GoesOn flat under n start first (in_place place x) before → IsInt w → operand_of flat None o (in_place place x) ≡ w
        → ((on : GoesOn flat under n start first (in_place q x) before) → Follows flat under n (holds_then s) start first near)
        → ((on : GoesOn flat under n start first (in_place (place + 1) x) before) → Follows flat under n (fails_then s) start first near)
        → (before ≡ s.marks) × (x.output ≡ s.output) × (x.turns ≡ s.turns)
        → Follows flat under n (with_truth w s (λ holds s. either holds holds_then fails_then s)) start first near
    branch_follows (number z) holds_then fails_then near start first to i v when_true when_false same = by (int_eq z (pos 0)) refl
      where
        by : (b : Bool) → int_eq z (pos 0) ≡ b → Follows flat under n (either (not b) holds_then fails_then s) start first near
        by true eq =
            when_false (chain flat under n start (in_place place x) (in_place (place + 1) x) first before before to (branch_goes z (in_place (place + 1) x) v (goes_by true z eq)))
        by false eq =
            when_true (chain flat under n start (in_place place x) (in_place q x) first before before to (branch_goes z (in_place q x) v (goes_by false z eq)))
    branch_follows null holds_then fails_then near start first to i v when_true when_false same = absurd i
    branch_follows (pointer home leaf) holds_then fails_then near start first to i v when_true when_false same = absurd i
    branch_follows (past home leaf until) holds_then fails_then near start first to i v when_true when_false same = absurd i
    branch_follows indeterminate holds_then fails_then near start first to i v when_true when_false same =
        record {
          last = in_place place x;
          runs =
              to (in_place place x) (Met Indeterminate) s.marks
              (subst (λ marks. RunsTo flat under n (in_place place x) before (in_place place x) (Met Indeterminate) marks) same.0
              (command_meets flat under n function into callers more (command.If o l) place x h (record { calm = refl; silent = λ s frame. refl }) Indeterminate before
              (ap (λ w. counted w (λ z. chosen (place_of_label all l) z)) v)));
          output = same.1;
          turns = same.2;
        }
