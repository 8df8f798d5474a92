-- Places that are kept by call number, with one command more.
use Rattle.std.proofs.Common.{◌≡◌, ℕ, suc, ◌+◌, ◌<◌, ◌≤◌, Bool, true, false, not, cond, nat_lt, List, [], ◌∷◌, ◌++◌, length, take, get_or, position, Option, Some, None, ap, sym, ◌∙◌, subst, arith}
use Rattle.std.specs.List.{position_or_len}
use Rattle.std.proofs.Math.Seq.{take-suc}
use Rattle.std.proofs.lemmas.Grind.{common_steps}
use Rattle.std.proofs.lemmas.List.Folds.{position_or_len_push}
use Rattle.std.proofs.lemmas.List.Sums.{prefix_len-le-length}
use Rattle.porch_flat.specs.declared.whole.Command.{Command}
use Rattle.porch_flat.specs.whole.Form.{form_of}
use Rattle.porch_flat.specs.whole.Places.{is_number}
use Rattle.porch_ucf.specs.RowFlaws.{kept_number}
use Rattle.porch_ucf.specs.inside.SavedPlaces.{or_else, place_of_number}

-- n is the first place that passes, or the length, and m is so with one element more
step : (n m len : ℕ) (passes : Bool) → n ≤ len → (n < len → m ≡ n) → (n ≡ len → m ≡ len + cond passes 0 1) → cond (nat_lt m (len + 1)) (Some m) None ≡ or_else (cond (nat_lt n len) (Some n) None) passes len
step n m len true le before at = grind (arith, before, at, le)
step n m len false le before at = grind (arith, before, at, le)

position_more : {X : Type 0} (p : X → Bool) (xs : List X) (y : X) → position p (xs ++ y ∷ []) ≡ or_else (position p xs) (p y) (length xs)
position_more p xs y =
    let n = position_or_len p xs in
    let m = position_or_len p (xs ++ y ∷ []) in
    let le : n ≤ length xs = prefix_len-le-length (λ x. not (p x)) xs in
    let push = position_or_len_push p xs y in
    let long : length (xs ++ y ∷ []) ≡ length xs + 1 = grind (arith, common_steps) in
    let before : n < length xs → m ≡ n = λ lt. grind (arith, push, lt) in
    let at : n ≡ length xs → m ≡ length xs + cond (p y) 0 1 = λ e. grind (arith, push, e) in
    subst (λ l. cond (nat_lt m l) (Some m) None ≡ or_else (position p xs) (p y) (length xs)) (sym long) (step n m (length xs) (p y) le before at)

-- one command more was looked at
pub noted : (commands : List Command) (at k : ℕ) (y : Command) (before place : Option ℕ) → at < length commands → y ≡ get_or commands at y → before ≡ place_of_number (take at commands) k → place ≡ or_else before (is_number k (kept_number (form_of y))) at
    → place ≡ place_of_number (take (at + 1) commands) k
noted commands at k y before place lt here was is =
    let keeps : Command → Bool = λ c. is_number k (kept_number (form_of c)) in
    let next : at + 1 ≡ suc at = omega arith in
    let grown : take (at + 1) commands ≡ take at commands ++ y ∷ [] = ap (λ n. take n commands) next ∙ take-suc commands at y lt ∙ ap (λ c. take at commands ++ c ∷ []) (sym here) in
    let long : length (take at commands) ≡ at = grind (arith, common_steps, lt) in
    is ∙ ap (λ b. or_else b (keeps y) at) was ∙ ap (λ l. or_else (place_of_number (take at commands) k) (keeps y) l) (sym long) ∙ sym (position_more keeps (take at commands) y) ∙ ap (position keeps) (sym grown)
