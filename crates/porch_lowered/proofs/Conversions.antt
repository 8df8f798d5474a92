-- Two operands that are used and converted where they have to be, and an operation on them: what the commands of an operator
-- come to is what the source makes of the two values.
use Rattle.std.proofs.Common.{◌≡◌, ℤ, refl, sym, ap, ◌∙◌, Bool, true, false}
use Rattle.std.specs.Prelude.{⊤, not, ◌&&◌, Result, Ok, Err}
use Rattle.porch_values.specs.declared.acts.Act.{Act}
use Rattle.porch_values.specs.declared.acts.Act.TheVariants.{Indeterminate}
use Rattle.porch_objects.specs.Store.{Value, number, null, pointer, past, indeterminate}
use Rattle.porch_objects.specs.Pointers.{if_there, if_number}
use Rattle.porch_mean.specs.Operators.{if_ok, as_value}

-- a value is used before another one is converted
abbrev pub guard : Bool → Value → Result Value Act → Result Value Act
guard true v r = if_there v (λ _. r)
guard false v r = r

-- a number is converted where it has to be
abbrev pub convert : Bool → (ℤ → Result ℤ Act) → Value → Result Value Act
convert true conversion v = if_number v (λ z. as_value (conversion z))
convert false conversion v = Ok v

-- an integer for which P holds, or a missing value
abbrev pub IsNumber : (ℤ → Type 0) → Value → Type 0
IsNumber P (number z) = P z
IsNumber P null = ⊥
IsNumber P (pointer home leaf) = ⊥
IsNumber P (past home leaf until) = ⊥
IsNumber P indeterminate = ⊤

-- the commands: each conversion may fail where its Bool says so
abbrev pub commands_give : (first second fails fails' : Bool) → (left right : ℤ → Result ℤ Act) → (last : Value → Value → Result Value Act) → (x y : Value) → Result Value Act
commands_give first second fails fails' left right last x y =
    guard (first && fails) y (guard (not first && (second && fails')) x
    (if_ok (convert first left x) (λ x. if_ok (convert second right y) (λ y. last x y))))

-- the source: both are used, are numbers, and are converted
abbrev pub source_gives : (left right : ℤ → Result ℤ Act) → (last : Value → Value → Result Value Act) → (x y : Value) → Result Value Act
source_gives left right last x y =
    if_there x (λ x. if_there y (λ y. if_number x (λ x. if_number y (λ y.
    if_ok (left x) (λ x. if_ok (right y) (λ y. last (number x) (number y)))))))

guard_passes : (b : Bool) (z : ℤ) (r : Result Value Act) → guard b (number z) r ≡ r
guard_passes true z r = refl
guard_passes false z r = refl

both_values : (a b : Result ℤ Act) (last : Value → Value → Result Value Act)
    → if_ok (as_value a) (λ x. if_ok (as_value b) (λ y. last x y)) ≡ if_ok a (λ x. if_ok b (λ y. last (number x) (number y)))
both_values (Ok x) (Ok y) last = refl
both_values (Ok x) (Err e) last = refl
both_values (Err e) b last = refl

module _ (left right : ℤ → Result ℤ Act) (last : Value → Value → Result Value Act) (P Q : ℤ → Type 0) (first second fails fails' : Bool)
    (stays : first ≡ false → (z : ℤ) → P z → left z ≡ Ok z) (stays' : second ≡ false → (z : ℤ) → Q z → right z ≡ Ok z)
    (safe : fails ≡ false → (z : ℤ) → P z → (w : ℤ) × (left z ≡ Ok w)) (safe' : fails' ≡ false → (z : ℤ) → Q z → (w : ℤ) × (right z ≡ Ok w))
    (uses_left : (y : Value) → last indeterminate y ≡ Err Indeterminate) (uses_right : (z : ℤ) → last (number z) indeterminate ≡ Err Indeterminate) where
  converted_left : (b : Bool) → first ≡ b → (z : ℤ) → P z → convert b left (number z) ≡ as_value (left z)
  converted_left true e z p = refl
  converted_left false e z p = sym (ap (λ r. as_value r) (stays e z p))

  converted_right : (b : Bool) → second ≡ b → (z : ℤ) → Q z → convert b right (number z) ≡ as_value (right z)
  converted_right true e z q = refl
  converted_right false e z q = sym (ap (λ r. as_value r) (stays' e z q))

  -- behind a left number, a right value that is missing is found so
  misses_right : (b : Bool) (z : ℤ) → if_ok (convert b right indeterminate) (λ y. last (number z) y) ≡ Err Indeterminate
  misses_right true z = refl
  misses_right false z = uses_right z

  behind_left : (a b : Bool) (r : Result Value Act) (w : ℤ) → r ≡ Ok (number w) → if_ok r (λ x. if_ok (convert b right indeterminate) (λ y. last x y)) ≡ Err Indeterminate
  behind_left a b r w e = ap (λ r. if_ok r (λ x. if_ok (convert b right indeterminate) (λ y. last x y))) e ∙ misses_right b w

  -- a left value that is missing
  misses_left : (b : Bool) (f : Bool) → second ≡ b → fails' ≡ f → (y : Value) → IsNumber Q y
      → guard (b && f) indeterminate (if_ok (convert b right y) (λ y. last indeterminate y)) ≡ Err Indeterminate
  misses_left true true e f y q = refl
  misses_left true false e f (number z) q =
      (let w = safe' f z q in ap (λ r. if_ok (as_value r) (λ y. last indeterminate y)) w.1 ∙ uses_left (number w.0))
  misses_left true false e f null q = refl
  misses_left true false e f (pointer home leaf) q = refl
  misses_left true false e f (past home leaf until) q = refl
  misses_left true false e f indeterminate q = refl
  misses_left false f e g y q = uses_left y

  missing_right : (a b : Bool) (f f' : Bool) → first ≡ a → fails ≡ f → (x : ℤ) → P x
      → guard (a && f) indeterminate (guard (not a && (b && f')) (number x)
      (if_ok (convert a left (number x)) (λ x. if_ok (convert b right indeterminate) (λ y. last x y)))) ≡ Err Indeterminate
  missing_right true b true f' e g x p = refl
  missing_right true b false f' e g x p =
      (let w = safe g x p in behind_left true b (as_value (left x)) w.0 (ap (λ r. as_value r) w.1))
  missing_right false b f f' e g x p =
      guard_passes (b && f') x (if_ok (convert b right indeterminate) (λ y. last (number x) y)) ∙ misses_right b x

  missing_left : (a b : Bool) (f f' : Bool) → first ≡ a → second ≡ b → fails' ≡ f' → (y : Value) → IsNumber Q y
      → guard (a && f) y (guard (not a && (b && f')) indeterminate
      (if_ok (convert a left indeterminate) (λ x. if_ok (convert b right y) (λ y. last x y)))) ≡ Err Indeterminate
  missing_left true b true f' e g h (number z) q = refl
  missing_left true b true f' e g h null q = absurd q
  missing_left true b true f' e g h (pointer home leaf) q = absurd q
  missing_left true b true f' e g h (past home leaf until) q = absurd q
  missing_left true b true f' e g h indeterminate q = refl
  missing_left true b false f' e g h y q = refl
  missing_left false b f f' e g h y q = misses_left b f' g h y q

  pub commands_do : (x y : Value) → IsNumber P x → IsNumber Q y
      → commands_give first second fails fails' left right last x y ≡ source_gives left right last x y
  commands_do (number x) (number y) p q =
      guard_passes (first && fails) y _ ∙ guard_passes (not first && (second && fails')) x _
      ∙ ap (λ r. if_ok r (λ x. if_ok (convert second right (number y)) (λ y. last x y))) (converted_left first refl x p)
      ∙ ap (λ r. if_ok (as_value (left x)) (λ x. if_ok r (λ y. last x y))) (converted_right second refl y q)
      ∙ both_values (left x) (right y) last
  commands_do (number x) indeterminate p q = missing_right first second fails fails' refl refl x p
  commands_do indeterminate (number y) p q = missing_left first second fails fails' refl refl refl (number y) q
  commands_do indeterminate indeterminate p q = missing_left first second fails fails' refl refl refl indeterminate q
  commands_do indeterminate null p q = absurd q
  commands_do indeterminate (pointer home leaf) p q = absurd q
  commands_do indeterminate (past home leaf until) p q = absurd q
  commands_do (number x) null p q = absurd q
  commands_do (number x) (pointer home leaf) p q = absurd q
  commands_do (number x) (past home leaf until) p q = absurd q
  commands_do null y p q = absurd p
  commands_do (pointer home leaf) y p q = absurd p
  commands_do (past home leaf until) y p q = absurd p
