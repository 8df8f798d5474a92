-- The first label of a number, in a list of commands that is longer by one.
use Rattle.std.proofs.Common.{◌≡◌, ◌<◌, ◌+◌, ℕ, Bool, List, length, take, Some, arith, ap, ◌∙◌}
use Rattle.std.proofs.Math.ListN.{get_or}
use Rattle.std.proofs.lemmas.Grind.{common_steps}
use Rattle.std.proofs.lemmas.List.{take_more}
use Rattle.std.proofs.lemmas.Bool.Decides.{nat_tests}
use Rattle.porch_flat.specs.declared.whole.Command.{Command}
use Rattle.porch_flat.specs.whole.Form.{form_of, label_of}
use Rattle.porch_flat.specs.whole.Places.{is_number, place_of_label}
use Rattle.porch_flat.specs.inside.FirstPlaces.{first_place}
use Rattle.porch_flat.proofs.Placed.{position_push}

abbrev is_label_of : ℕ → Command → Bool
is_label_of n c = is_number n (label_of (form_of c))

pub place_more : (commands : List Command) (at n : ℕ) (c : Command) → at < length commands → c ≡ get_or commands at c
    → place_of_label (take (at + 1) commands) n ≡ first_place (place_of_label (take at commands) n) (is_label_of n c) at
place_more commands at n c h e =
    let t = take_more commands at c h in
    let m : length (take at commands) ≡ at = grind (arith, common_steps) in
    rw (t, ← e) (position_push (is_label_of n) (take at commands) c ∙ ap (λ k. first_place (place_of_label (take at commands) n) (is_label_of n c) k) m)

pub place_within : (commands : List Command) (n to : ℕ) → place_of_label commands n ≡ Some to → to < length commands
place_within commands n to h = grind (arith, common_steps, nat_tests, h)
