-- A checkpoint and its state, worked out: a program of one frame with one variable.
use Rattle.std.specs.Prelude.{ℕ, pos, List, [], ◌∷◌, replicate, Option, None, refl, true, false}
use Rattle.std.specs.Option.{option_map}
use Rattle.porch_values.specs.declared.widths.Widths.{Widths}
use Rattle.porch_objects.specs.Store.{number}
use Rattle.porch_objects.specs.Meaning.{without_input, Ending}
use Rattle.porch_flat.specs.whole.Worked.{saving_program}
use Rattle.porch_abstract.specs.Machine.{running, State}
use Rattle.porch_abstract.specs.whole.Run.{run_to}
use Rattle.porch_abstract.specs.whole.Worked.{Seen, STEPS, wide_only}
use Rattle.porch_ucf.specs.Images.{Checkpoint}

-- of `int main(void){checkpoint();putchar('A');return 0;}`: main waits at its checkpoint() in turn 1, and its
-- variable is 7
abbrev pub worked_image : Checkpoint
worked_image =
    record {
      header = record { number = 1; turns = 1; output = 0; frames = 1; blocks = 0; body = 12; program = replicate 32 0 };
      frames = record { function = 0; call = 1 } ∷ [];
      blocks = [];
      bytes = 0 ∷ 0 ∷ 0 ∷ 7 ∷ [];
    }

abbrev pub worked_state : State
worked_state =
    record {
      phase = running (record { function = 0; next = 4; into = None }) [];
      store =
          record {
            globals = [];
            calls = record { number = 0; variables = record { root = record { ty = 4; count = 1 }; leaves = number (pos 7) ∷ [] } ∷ [] } ∷ [];
            blocks = [];
            called = 1;
            allocated = 0;
            checkpoints = 0;
          };
      output = [];
      turns = 1;
      taken = 0;
    }

-- what is seen of a run that goes on from there, to so many turns
abbrev pub seen_from_there : ℕ → Option Seen
seen_from_there n =
    option_map (λ (r : State × Ending). let seen : Seen = record { output = r.0.output; turns = r.0.turns; ending = r.1 } in seen)
    (run_to saving_program (without_input wide_only) n STEPS worked_state)
