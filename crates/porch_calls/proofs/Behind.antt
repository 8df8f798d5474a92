-- The number of a function that has no body is the number of all bodies.
use Rattle.std.proofs.Common.{◌≡◌, ℕ, suc, Bool, true, false, ◌||◌, if◌then◌else◌, List, [], ◌∷◌, length, Option, Some, None, refl, sym, ap, ◌∙◌}
use Rattle.std.specs.List.{list_any}
use Rattle.std.specs.Str.{bytes_eq}
use Rattle.porch_check.specs.Calls.{number_of}
use Rattle.porch_scopes.specs.Bodies.{body_number}

chosen : (b : Bool) (n k : ℕ) → Some n ≡ (if b then Some k else None) → n ≡ k
chosen true n k h = cc
chosen false n k h = absurd (cc)

pub first_body : (n : ℕ) (x : List ℕ) (bodies : List (List ℕ)) → Some n ≡ body_number x bodies → n ≡ number_of x bodies
first_body n x bodies h = chosen (list_any (bytes_eq x) bodies) n (number_of x bodies) h

not_chosen : (b : Bool) (k : ℕ) → None ≡ (if b then Some k else None) → b ≡ false
not_chosen true k h = absurd (cc)
not_chosen false k h = refl

step : (b c : Bool) (m n : ℕ) → (b || c) ≡ false → (c ≡ false → m ≡ n) → suc m ≡ (if b then 0 else suc n)
step true c m n h k = absurd (cc)
step false c m n h k = ap suc (k h)

behind : (x : List ℕ) (bodies : List (List ℕ)) → list_any (bytes_eq x) bodies ≡ false → length bodies ≡ number_of x bodies
behind x [] h = refl
behind x (b ∷ bodies) h = step (bytes_eq x b) (list_any (bytes_eq x) bodies) (length bodies) (number_of x bodies) h (behind x bodies)

pub no_body : (x : List ℕ) (bodies : List (List ℕ)) → None ≡ body_number x bodies → length bodies ≡ number_of x bodies
no_body x bodies h = behind x bodies (not_chosen (list_any (bytes_eq x) bodies) (number_of x bodies) h)
