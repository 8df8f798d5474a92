-- Blocks of commands: which labels they have, and that their jumps lead within them.
use Rattle.std.proofs.Common.{◌≡◌, ℕ, zero, suc, ◌+◌, ◌*◌, ◌<◌, ◌≤◌, nat_lt, List, [], ◌∷◌, ◌++◌, length, Some, Bool, true, false, refl, sym, ap, subst, ◌∙◌, arith, ◌⊎◌, inl, inr, length-append}
use Rattle.std.specs.Prelude.{slice_get, ⊤}
use Rattle.std.specs.List.{position, position_or_len}
use Rattle.std.proofs.lemmas.Bool.Decides.{nat_tests}
use Rattle.porch_flat.specs.declared.flat.Command.{Command}
use Rattle.porch_flat.specs.declared.flat.Command.TheVariants as command
use Rattle.porch_flat.specs.declared.flat.Function.{Function}
use Rattle.porch_flat.specs.Places.{is_label, place_of_label}
use Rattle.porch_flat.specs.Valid.{HasParts, Leads, GoesOnWell}

-- each command is such a one
abbrev pub Each : (Command → Type 0) → List Command → Type 0
Each P [] = ⊤
Each P (c ∷ cs) = P c × Each P cs

pub each_joined : (P : Command → Type 0) (xs ys : List Command) → Each P xs → Each P ys → Each P (xs ++ ys)
each_joined P [] ys h k = k
each_joined P (x ∷ xs) ys h k = (h.0, each_joined P xs ys h.1 k)

pub each_at : (P : Command → Type 0) (xs : List Command) (k : ℕ) (c : Command) → Each P xs → slice_get xs k ≡ Some c → P c
each_at P [] k c h e = absurd (cc)
each_at P (x ∷ xs) zero c h e = let same : x ≡ c = cc in subst P same h.0
each_at P (x ∷ xs) (suc k) c h e = each_at P xs k c h.1 e

pub each_of : (P Q : Command → Type 0) (xs : List Command) → ((c : Command) → P c → Q c) → Each P xs → Each Q xs
each_of P Q [] f h = tt
each_of P Q (x ∷ xs) f h = (f x h.0, each_of P Q xs f h.1)

-- a command that is no label and doesn't jump
abbrev pub IsStraight : Command → Type 0
IsStraight (command.Move v o) = ⊤
IsStraight (command.Add v a b) = ⊤
IsStraight (command.Sub v a b) = ⊤
IsStraight (command.Mul v a b) = ⊤
IsStraight (command.Lt v a b) = ⊤
IsStraight (command.Char v o) = ⊤
IsStraight (command.Label n) = ⊥
IsStraight (command.Jump n) = ⊥
IsStraight (command.If o n) = ⊥
IsStraight command.Turn = ⊤
IsStraight (command.Return o) = ⊤

abbrev pub IsGood : Function → Command → Type 0
IsGood f c = HasParts f c × IsStraight c

-- the label doesn't stand there
abbrev pub HasNot : ℕ → List Command → Type 0
HasNot n xs = position_or_len (is_label n) xs ≡ length xs

-- no label stands twice, and each jump leads within these commands, backward only to a TURN
pub record IsWell (xs : List Command) : Type 0 where
  pub at : (k : ℕ) (c : Command) → slice_get xs k ≡ Some c → GoesOnWell xs k c

-- the first place that passes, in two lists one behind the other
front_by : (p : Command → Bool) (x : Command) (xs ys : List Command) (b : Bool) → p x ≡ b → (position_or_len p xs < length xs → position_or_len p (xs ++ ys) ≡ position_or_len p xs)
    → position_or_len p (x ∷ xs) < length (x ∷ xs) → position_or_len p (x ∷ (xs ++ ys)) ≡ position_or_len p (x ∷ xs)
front_by p x xs ys true e rest h = rw e refl
front_by p x xs ys false e rest h = let h' = rw e at h in let same = rest (omega (arith, h')) in rw (e, same) refl

first_front : (p : Command → Bool) (xs ys : List Command) → position_or_len p xs < length xs → position_or_len p (xs ++ ys) ≡ position_or_len p xs
first_front p [] ys h = absurd (omega (arith, h))
first_front p (x ∷ xs) ys h = front_by p x xs ys (p x) refl (λ k. first_front p xs ys k) h

back_by : (p : Command → Bool) (x : Command) (xs ys : List Command) (b : Bool) → p x ≡ b → (position_or_len p xs ≡ length xs → position_or_len p (xs ++ ys) ≡ length xs + position_or_len p ys)
    → position_or_len p (x ∷ xs) ≡ length (x ∷ xs) → position_or_len p (x ∷ (xs ++ ys)) ≡ length (x ∷ xs) + position_or_len p ys
back_by p x xs ys true e rest h = let h' = rw e at h in absurd (omega (arith, h'))
back_by p x xs ys false e rest h = let h' = rw e at h in let same = rest (omega (arith, h')) in rw e (omega (arith, same))

first_back : (p : Command → Bool) (xs ys : List Command) → position_or_len p xs ≡ length xs → position_or_len p (xs ++ ys) ≡ length xs + position_or_len p ys
first_back p [] ys h = omega arith
first_back p (x ∷ xs) ys h = back_by p x xs ys (p x) refl (λ k. first_back p xs ys k) h

pub found : (p : Command → Bool) (xs : List Command) (i : ℕ) → position_or_len p xs ≡ i → i < length xs → position p xs ≡ Some i
found p xs i e h = grind (arith, nat_tests, e, h)

pub place : (p : Command → Bool) (xs : List Command) (i : ℕ) → position p xs ≡ Some i → (position_or_len p xs ≡ i) × (i < length xs)
place p xs i e = (grind (arith, nat_tests, e), grind (arith, nat_tests, e))

pub found_front : (p : Command → Bool) (xs ys : List Command) (i : ℕ) → position p xs ≡ Some i → position p (xs ++ ys) ≡ Some i
found_front p xs ys i e =
    let at = place p xs i e in
    found p (xs ++ ys) i (first_front p xs ys (omega (arith, at.0, at.1)) ∙ at.0) (simp length-append (omega (arith, at.1)))

pub found_back : (p : Command → Bool) (xs ys : List Command) (i j : ℕ) → position_or_len p xs ≡ length xs → position p ys ≡ Some i → j ≡ length xs + i → position p (xs ++ ys) ≡ Some j
found_back p xs ys i j h e s =
    let at = place p ys i e in
    found p (xs ++ ys) j (first_back p xs ys h ∙ omega (arith, at.0, s)) (simp length-append (omega (arith, at.1, s)))

pub none_joined : (n : ℕ) (xs ys : List Command) → HasNot n xs → HasNot n ys → HasNot n (xs ++ ys)
none_joined n xs ys h k = first_back (is_label n) xs ys h ∙ ap (λ z. length xs + z) k ∙ sym (length-append xs ys)

get_front : (xs ys : List Command) (k : ℕ) (c : Command) → slice_get xs k ≡ Some c → slice_get (xs ++ ys) k ≡ Some c
get_front [] ys k c h = absurd (cc)
get_front (x ∷ xs) ys zero c h = h
get_front (x ∷ xs) ys (suc k) c h = get_front xs ys k c h

get_back : (xs ys : List Command) (j k : ℕ) → j ≡ length xs + k → slice_get (xs ++ ys) j ≡ slice_get ys k
get_back [] ys j k e = ap (slice_get ys) (omega (arith, e))
get_back (x ∷ xs) ys zero k e = absurd (omega (arith, e))
get_back (x ∷ xs) ys (suc j) k e = get_back xs ys j k (omega (arith, e))

-- a command stands in the first list or in the second
pub either : (xs ys : List Command) (k : ℕ) (c : Command) → slice_get (xs ++ ys) k ≡ Some c
    → (slice_get xs k ≡ Some c) ⊎ ((j : ℕ) × (k ≡ length xs + j) × (slice_get ys j ≡ Some c))
either [] ys k c h = inr (k, omega arith, h)
either (x ∷ xs) ys zero c h = inl h
either (x ∷ xs) ys (suc k) c h = elim (either xs ys k c h) [ inl a ↦ inl a | inr b ↦ inr (b.0, omega (arith, b.1), b.2) ]

leads_front : (xs ys : List Command) (k n : ℕ) → Leads xs k n → Leads (xs ++ ys) k n
leads_front xs ys k n l =
    (l.0, found_front (is_label n) xs ys l.0 l.1, elim l.2 [ inl forward ↦ inl forward | inr turn ↦ inr (get_front xs ys (l.0 + 1) command.Turn turn) ])

pub well_front : (xs ys : List Command) (k : ℕ) (c : Command) → GoesOnWell xs k c → GoesOnWell (xs ++ ys) k c
well_front xs ys k (command.Move v o) h = tt
well_front xs ys k (command.Add v a b) h = tt
well_front xs ys k (command.Sub v a b) h = tt
well_front xs ys k (command.Mul v a b) h = tt
well_front xs ys k (command.Lt v a b) h = tt
well_front xs ys k (command.Char v o) h = tt
well_front xs ys k (command.Label n) h = found_front (is_label n) xs ys k h
well_front xs ys k (command.Jump n) h = leads_front xs ys k n h
well_front xs ys k (command.If o n) h = leads_front xs ys k n h
well_front xs ys k command.Turn h = tt
well_front xs ys k (command.Return o) h = tt

-- the labels of the second list aren't in the first
abbrev pub AreApart : List Command → List Command → Type 0
AreApart xs ys = (n to : ℕ) → place_of_label ys n ≡ Some to → HasNot n xs

leads_back : (xs ys : List Command) (k j n : ℕ) → AreApart xs ys → j ≡ length xs + k → Leads ys k n → Leads (xs ++ ys) j n
leads_back xs ys k j n apart e l = (
  length xs + l.0,
  found_back (is_label n) xs ys l.0 (length xs + l.0) (apart n l.0 l.1) l.1 refl,
  elim l.2 [ inl forward ↦ inl (omega (arith, forward, e)) | inr turn ↦ inr (get_back xs ys (length xs + l.0 + 1) (l.0 + 1) (omega arith) ∙ turn) ],
)

pub well_back : (xs ys : List Command) (k j : ℕ) (c : Command) → AreApart xs ys → j ≡ length xs + k → GoesOnWell ys k c → GoesOnWell (xs ++ ys) j c
well_back xs ys k j (command.Move v o) apart e h = tt
well_back xs ys k j (command.Add v a b) apart e h = tt
well_back xs ys k j (command.Sub v a b) apart e h = tt
well_back xs ys k j (command.Mul v a b) apart e h = tt
well_back xs ys k j (command.Lt v a b) apart e h = tt
well_back xs ys k j (command.Char v o) apart e h = tt
well_back xs ys k j (command.Label n) apart e h = found_back (is_label n) xs ys k j (apart n k h) h e
well_back xs ys k j (command.Jump n) apart e h = leads_back xs ys k j n apart e h
well_back xs ys k j (command.If o n) apart e h = leads_back xs ys k j n apart e h
well_back xs ys k j command.Turn apart e h = tt
well_back xs ys k j (command.Return o) apart e h = tt

pub well_joined : (xs ys : List Command) → IsWell xs → IsWell ys → AreApart xs ys → IsWell (xs ++ ys)
well_joined xs ys f g apart = record {
  at = λ k c h. elim (either xs ys k c h) [
    | inl a ↦ well_front xs ys k c (f.at k c a)
    | inr b ↦ well_back xs ys b.0 k c apart b.1 (g.at b.0 c b.2)
  ];
}

-- straight commands have no label and no jump
pub straight_well : (xs : List Command) (k : ℕ) (c : Command) → IsStraight c → GoesOnWell xs k c
straight_well xs k (command.Move v o) h = tt
straight_well xs k (command.Add v a b) h = tt
straight_well xs k (command.Sub v a b) h = tt
straight_well xs k (command.Mul v a b) h = tt
straight_well xs k (command.Lt v a b) h = tt
straight_well xs k (command.Char v o) h = tt
straight_well xs k (command.Label n) h = absurd h
straight_well xs k (command.Jump n) h = absurd h
straight_well xs k (command.If o n) h = absurd h
straight_well xs k command.Turn h = tt
straight_well xs k (command.Return o) h = tt

straight_label : (n : ℕ) (c : Command) → IsStraight c → is_label n c ≡ false
straight_label n (command.Move v o) h = refl
straight_label n (command.Add v a b) h = refl
straight_label n (command.Sub v a b) h = refl
straight_label n (command.Mul v a b) h = refl
straight_label n (command.Lt v a b) h = refl
straight_label n (command.Char v o) h = refl
straight_label n (command.Label m) h = absurd h
straight_label n (command.Jump m) h = absurd h
straight_label n (command.If o m) h = absurd h
straight_label n command.Turn h = refl
straight_label n (command.Return o) h = refl

-- a command without this label in front
pub none_cons : (n : ℕ) (c : Command) (cs : List Command) → is_label n c ≡ false → HasNot n cs → HasNot n (c ∷ cs)
none_cons n c cs e h = rw e (omega (arith, h))

pub none_straight : (n : ℕ) (cs : List Command) → Each IsStraight cs → HasNot n cs
none_straight n [] h = refl
none_straight n (c ∷ cs) h = none_cons n c cs (straight_label n c h.0) (none_straight n cs h.1)

-- a block of a function that begins at place p: its labels are made of the places of its commands
pub record IsBlock (f : Function) (p : ℕ) (xs : List Command) : Type 0 where
  pub parts : Each (HasParts f) xs
  pub low : (n : ℕ) → n < 2 * p → HasNot n xs
  pub high : (n : ℕ) → 2 * (p + length xs) ≤ n → HasNot n xs
  pub well : IsWell xs

below_by : (a b : ℕ) (t : Bool) → nat_lt a b ≡ t → (a < b) ⊎ (b ≤ a)
below_by a b true e = inl (grind (arith, nat_tests, e))
below_by a b false e = inr (grind (arith, nat_tests, e))

below_or_not : (a b : ℕ) → (a < b) ⊎ (b ≤ a)
below_or_not a b = below_by a b (nat_lt a b) refl

apart_at : (f : Function) (p q : ℕ) (xs ys : List Command) → IsBlock f p xs → q ≡ p + length xs → IsBlock f q ys → AreApart xs ys
apart_at f p q xs ys a e b n to h =
    let at = place (is_label n) ys to h in
    elim (below_or_not n (2 * q)) [
      | inl less ↦ let none = b.low n less in absurd (omega (arith, at.0, at.1, none))
      | inr more ↦ a.high n (omega (arith, more, e))
    ]

pub block_joined : (f : Function) (p q : ℕ) (xs ys : List Command) → IsBlock f p xs → q ≡ p + length xs → IsBlock f q ys → IsBlock f p (xs ++ ys)
block_joined f p q xs ys a e b = record {
  parts = each_joined (HasParts f) xs ys a.parts b.parts;
  low = λ n h. none_joined n xs ys (a.low n h) (b.low n (omega (arith, h, e)));
  high = λ n h. let long = simp length-append at h in none_joined n xs ys (a.high n (omega (arith, long))) (b.high n (omega (arith, long, e)));
  well = well_joined xs ys a.well b.well (λ n to h. apart_at f p q xs ys a e b n to h);
}

pub straight_block : (f : Function) (p : ℕ) (xs : List Command) → Each (IsGood f) xs → IsBlock f p xs
straight_block f p xs h =
    let straight = each_of (IsGood f) IsStraight xs (λ c k. k.1) h in
    record {
      parts = each_of (IsGood f) (HasParts f) xs (λ c k. k.0) h;
      low = λ n _. none_straight n xs straight;
      high = λ n _. none_straight n xs straight;
      well = record { at = λ k c e. straight_well xs k c (each_at IsStraight xs k c straight e) };
    }
