-- The first place in a list that is longer by one.
use Rattle.std.proofs.Common.{◌≡◌, ◌<◌, ◌≤◌, ◌+◌, ℕ, Bool, List, [], ◌∷◌, ◌++◌, length, take, Some, not, arith, ap, ◌∙◌}
use Rattle.std.proofs.Math.ListN.{get_or}
use Rattle.std.proofs.lemmas.Grind.{common_steps}
use Rattle.std.proofs.lemmas.List.{take_more}
use Rattle.std.proofs.lemmas.List.Folds.{position_or_len_push}
use Rattle.std.proofs.lemmas.List.Sums.{prefix_len-le-length}
use Rattle.std.proofs.lemmas.Bool.Decides.{nat_tests}
use Rattle.std.specs.List.{position, position_or_len}
use Rattle.porch_flat.specs.declared.flat.Command.{Command}
use Rattle.porch_flat.specs.Places.{is_label, place_of_label}
use Rattle.porch_flat.specs.inside.FirstPlaces.{first_place}

pub position_push : {X : Type 0} (p : X → Bool) (xs : List X) (y : X) → position p (xs ++ y ∷ []) ≡ first_place (position p xs) (p y) (length xs)
position_push p xs y =
    let le : position_or_len p xs ≤ length xs = prefix_len-le-length (λ x. not (p x)) xs in
    grind (arith, common_steps, nat_tests, position_or_len_push)

pub place_more : (commands : List Command) (at n : ℕ) (c : Command) → at < length commands → c ≡ get_or commands at c → place_of_label (take (at + 1) commands) n ≡ first_place (place_of_label (take at commands) n) (is_label n c) at
place_more commands at n c h e =
    let t = take_more commands at c h in
    let m : length (take at commands) ≡ at = grind (arith, common_steps) in
    rw (t, ← e) (position_push (is_label n) (take at commands) c ∙ ap (λ k. first_place (place_of_label (take at commands) n) (is_label n c) k) m)

pub place_within : (commands : List Command) (n to : ℕ) → place_of_label commands n ≡ Some to → to < length commands
place_within commands n to h = grind (arith, common_steps, nat_tests, h)
