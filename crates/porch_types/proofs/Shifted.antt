-- A root with its first elements left away.
use Rattle.std.proofs.Common.{◌≡◌, ℕ, suc, ◌+◌, ◌-◌, ◌*◌, ◌/◌, ◌%◌, ◌<◌, ◌≤◌, Bool, true, false, cond, nat_lt, ◌==◌, ◌&&◌, List, Option, Some, None, is_some, refl, arith, subst}
use Rattle.std.specs.Option.{option_map}
use Rattle.std.proofs.lemmas.Bool.Decides.{nat_tests}
use Rattle.std.proofs.lemmas.Nat.{div-add-mod'}
use Rattle.std.proofs.Math.Nat.{mul-add-div_right}
use Rattle.porch_types.specs.declared.shapes.Ty.{Ty}
use Rattle.porch_types.specs.declared.parts.Row.{Row}
use Rattle.porch_types.specs.Leaves.{leaves_of}
use Rattle.porch_types.specs.Rows.{part_at, element_at, row_within, row_at, moved_row}

eq_shift : (a b c : ℕ) → ((a + b) == (a + c)) ≡ (b == c)
eq_shift a b c = grind (arith, nat_tests)

lt_shift : (a b c : ℕ) → nat_lt (a + b) (a + c) ≡ nat_lt b c
lt_shift a b c = grind (arith, nat_tests)

some_map : (f g : Row → Row) (o : Option Row) → is_some (option_map f o) ≡ is_some (option_map g o)
some_map f g None = refl
some_map f g (Some x) = refl

either : (b : Bool) (x y : Row) (f g : Row → Row) (o : Option Row) → is_some (cond b (Some x) (option_map f o)) ≡ is_some (cond b (Some y) (option_map g o))
either true x y f g o = refl
either false x y f g o = some_map f g o

-- the same part, so many leaves further on
shift_part : (types : List Ty) (root k l first a r u : ℕ) (x y : Row)
    → is_some (row_within (suc root) types (Some (record { ty = root; index = k; first = first; row = x })) r u)
    ≡ is_some (row_within (suc root) types (Some (record { ty = root; index = l; first = a + first; row = y })) (a + r) u)
shift_part types root k l first a r u x y =
    let e : ((a + first) == (a + r)) ≡ (first == r) = eq_shift a first r in
    let d : a + r - (a + first) ≡ r - first = omega arith in
    rw (e, d) (either (root == u && first == r) x y (moved_row first) (moved_row (a + first)) (row_within root types (part_at types root (r - first)) (r - first) u))

shift_found : (types : List Ty) (root leaves n q r u : ℕ) (b : Bool)
    → is_some (row_within (suc root) types (cond b (Some (record { ty = root; index = r / leaves; first = r / leaves * leaves; row = record { first = 0; len = n } })) None) r u)
    ≡ is_some (row_within (suc root) types (cond b (Some (record { ty = root; index = q + r / leaves; first = q * leaves + r / leaves * leaves; row = record { first = 0; len = q + n } })) None) (q * leaves + r) u)
shift_found types root leaves n q r u true =
    shift_part types root (r / leaves) (q + r / leaves) (r / leaves * leaves) (q * leaves) r u (record { first = 0; len = n }) (record { first = 0; len = q + n })
shift_found types root leaves n q r u false = refl

shift_root : (types : List Ty) (root leaves n q r u : ℕ) → 0 < leaves
    → is_some (row_within (suc root) types (element_at root leaves n r) r u)
    ≡ is_some (row_within (suc root) types (element_at root leaves (q + n) (q * leaves + r)) (q * leaves + r) u)
shift_root types root leaves n q r u some =
    let k : (q * leaves + r) / leaves ≡ q + r / leaves = mul-add-div_right some q r in
    let t : nat_lt (q + r / leaves) (q + n) ≡ nat_lt (r / leaves) n = lt_shift q (r / leaves) n in
    let m : (q + r / leaves) * leaves ≡ q * leaves + r / leaves * leaves = grind arith in
    rw (k, t, m) (shift_found types root leaves n q r u (nat_lt (r / leaves) n))

-- the elements before a leaf do not matter to what begins behind it
pub shifted : (types : List Ty) (root count place more u leaves : ℕ) → leaves ≡ leaves_of types root → 0 < leaves → place / leaves < count
    → is_some (row_at types root (count - place / leaves) (place % leaves + more) u) ≡ is_some (row_at types root count (place + more) u)
shifted types root count place more u leaves is some lt =
    let q = place / leaves in
    let r = place % leaves + more in
    let e : q * leaves + r ≡ place + more = omega (arith, div-add-mod' place leaves) in
    let n : q + (count - q) ≡ count = omega (arith, lt) in
    let from : is_some (row_within (suc root) types (element_at root leaves (count - q) r) r u)
    ≡ is_some (row_within (suc root) types (element_at root leaves (q + (count - q)) (q * leaves + r)) (q * leaves + r) u)
    = shift_root types root leaves (count - q) q r u some in
    let P : ℕ → ℕ → ℕ → Type 0 = λ l c p. is_some (row_within (suc root) types (element_at root l (count - q) r) r u) ≡ is_some (row_within (suc root) types (element_at root l c p) p u) in
    subst (λ l. P l count (place + more)) is (subst (λ p. P leaves count p) e (subst (λ c. P leaves c (q * leaves + r)) n from))

element_past : (types : List Ty) (root count place u leaves : ℕ) → count ≤ place / leaves → is_some (row_within (suc root) types (element_at root leaves count place) place u) ≡ false
element_past types root count place u leaves le =
    let t : nat_lt (place / leaves) count ≡ false = grind (arith, nat_tests) in
    rw t refl

-- nothing begins behind the last element
pub past : (types : List Ty) (root count place more u leaves : ℕ) → leaves ≡ leaves_of types root → 0 < leaves → count ≤ place / leaves
    → is_some (row_at types root count (place + more) u) ≡ false
past types root count place more u leaves is some le =
    let q = place / leaves in
    let e : q * leaves + (place % leaves + more) ≡ place + more = omega (arith, div-add-mod' place leaves) in
    let k : (q * leaves + (place % leaves + more)) / leaves ≡ q + (place % leaves + more) / leaves = mul-add-div_right some q (place % leaves + more) in
    let further : count ≤ (place + more) / leaves = subst (λ p. count ≤ p / leaves) e (rw k (omega (arith, le))) in
    subst (λ l. is_some (row_within (suc root) types (element_at root l count (place + more)) (place + more) u) ≡ false) is
    (element_past types root count (place + more) u leaves further)
