-- The commands of arithmetic, shifts and comparisons do what their operators do with converted values.
use Rattle.std.proofs.Common.{◌≡◌, ℕ, ℤ, List, refl, ap, ◌∙◌, inl, None}
use Rattle.std.specs.Prelude.{⊤, Result, Ok, Err}
use Rattle.porch_types.specs.declared.shapes.Kind.{Kind}
use Rattle.porch_types.specs.Kinds.{kind_number}
use Rattle.porch_values.specs.declared.acts.Act.{Act}
use Rattle.porch_values.specs.declared.acts.Op.{Op}
use Rattle.porch_values.specs.declared.acts.Op.TheVariants as op
use Rattle.porch_values.specs.Integers.{applied}
use Rattle.porch_objects.specs.Store.{Value, number, null, pointer, past, indeterminate, Object, seen}
use Rattle.porch_objects.specs.Pointers.{if_number}
use Rattle.porch_objects.specs.Meaning.{Progress}
use Rattle.porch_flat.specs.declared.flat.Operand.{Operand}
use Rattle.porch_flat.specs.Parts.{kind_of}
use Rattle.porch_flat.specs.whole.Form as form
use Rattle.porch_flat.specs.whole.Form.{form_of}
use Rattle.porch_flat.specs.whole.Places.{type_at}
use Rattle.porch_abstract.specs.Machine.{Next, counted, resulted}
use Rattle.porch_abstract.specs.whole.Machine.{if_ok, does, kind_in, operand_of}
use Rattle.porch_mean.specs.Operators.{as_value}
use Rattle.porch_lowering.specs.Operators.{arithmetic}
use Rattle.porch_sound.specs.Typing.{StoreTyping}
use Rattle.porch_sound.specs.Laws.{Gives}
use Rattle.porch_lowered.proofs.Codes.{Context, frame, here, goes_on, IsOf}
use Rattle.porch_lowered.proofs.Holding.{IsSetting}
use Rattle.porch_lowered.proofs.Operands.{number_is}
use Rattle.porch_lowered.proofs.Operate.{Finishes, InRange}

-- what an operator makes of two numbers
abbrev pub of_numbers : (ℤ → ℤ → Result ℤ Act) → Value → Value → Result Value Act
of_numbers r x y = if_number x (λ x. if_number y (λ y. as_value (r x y)))

pub arithmetic_form : (o : Op) (d : ℕ) (a b : Operand) → form_of (arithmetic o d a b) ≡ form.operator o d a b
arithmetic_form op.Add d a b = refl
arithmetic_form op.Sub d a b = refl
arithmetic_form op.Mul d a b = refl
arithmetic_form op.Div d a b = refl
arithmetic_form op.Rem d a b = refl
arithmetic_form op.And d a b = refl
arithmetic_form op.Or d a b = refl
arithmetic_form op.Xor d a b = refl
arithmetic_form op.Shl d a b = refl
arithmetic_form op.Shr d a b = refl

by_result : (r : Result ℤ Act) (go : Value → Next) → resulted r (λ z. go (number z)) ≡ if_ok (as_value r) go
by_result (Ok z) go = refl
by_result (Err a) go = refl

by_numbers : (x y : Value) (r : ℤ → ℤ → Result ℤ Act) (go : Value → Next)
    → counted x (λ x. counted y (λ y. resulted (r x y) (λ z. go (number z)))) ≡ if_ok (of_numbers r x y) go
by_numbers (number x) (number y) r go = by_result (r x y) go
by_numbers (number x) null r go = refl
by_numbers (number x) (pointer home leaf) r go = refl
by_numbers (number x) (past home leaf until) r go = refl
by_numbers (number x) indeterminate r go = refl
by_numbers null y r go = refl
by_numbers (pointer home leaf) y r go = refl
by_numbers (past home leaf until) y r go = refl
by_numbers indeterminate y r go = refl

module _ (c : Context) (set : IsSetting c) where
  -- a number that a result gives is one of its kind
  numbers_given : (made : StoreTyping) (kind : Kind) (r : ℤ → ℤ → Result ℤ Act) → ((x y z : ℤ) → r x y ≡ Ok z → InRange c set kind z) → (x y : Value)
      → Gives (IsOf c made (kind_number kind)) (of_numbers r x y)
  numbers_given made kind r range (number x) (number y) = by (r x y) refl
    where
      by : (result : Result ℤ Act) → r x y ≡ result → Gives (IsOf c made (kind_number kind)) (as_value result)
      by (Ok z) e = (kind, set.kinds kind, range x y z e)
      by (Err a) e = tt
  numbers_given made kind r range (number x) null = tt
  numbers_given made kind r range (number x) (pointer home leaf) = tt
  numbers_given made kind r range (number x) (past home leaf until) = tt
  numbers_given made kind r range (number x) indeterminate = tt
  numbers_given made kind r range null y = tt
  numbers_given made kind r range (pointer home leaf) y = tt
  numbers_given made kind r range (past home leaf until) y = tt
  numbers_given made kind r range indeterminate y = tt

  -- Arithmetic, and shifts: the right operand of these has a kind of its own.
  pub arithmetic_finishes : (o : Op) (kind kind' : Kind)
      → Finishes c set (λ a. ⊤) kind kind' (kind_number kind) (of_numbers (λ x y. applied o kind c.under.widths x y)) (arithmetic o)
  arithmetic_finishes o kind kind' =
      record {
        quiet = λ d a b. rw (arithmetic_form o d a b) (record { calm = refl; silent = λ s frame. refl });
        does_is = λ place d made s ts used a b x y ready oa xa ob yb may allowed.
            ap (λ f. does c.flat c.under (frame c place) c.callers f (here c s ts place)) (arithmetic_form o d a b)
            ∙ ap (λ x. works o d place s ts (kind_in c.flat (frame c place) d) x (operand_of c.flat None b (here c s ts place)))
            (number_is c set made s ts place (kind_number kind) kind used a x None (set.kinds kind) (inl refl) ready oa xa)
            ∙ ap (λ y. works o d place s ts (kind_in c.flat (frame c place) d) (seen s.store x) y)
            (number_is c set made s ts place (kind_number kind') kind' used b y None (set.kinds kind') (inl refl) ready ob yb)
            ∙ ap (λ k. works o d place s ts k (seen s.store x) (seen s.store y))
            (ap (λ ty. kind_of (type_at c.flat ty)) (may place) ∙ ap (λ shape. kind_of shape) (set.kinds kind))
            ∙ by_numbers (seen s.store x) (seen s.store y) (λ x y. applied o kind c.under.widths x y) (goes_on c d place s ts);
        gives = λ made x y xn yn. numbers_given made kind (λ x y. applied o kind c.under.widths x y) (λ x y z e. set.operates o kind x y z e) x y;
        uses_left = λ y. refl;
        uses_right = λ z. refl;
      }
    where
      works : Op → (d place : ℕ) → Progress → List Object → Kind → (x y : Value) → Next
      works o d place s ts k x y = counted x (λ x. counted y (λ y. resulted (applied o k c.under.widths x y) (λ z. goes_on c d place s ts (number z))))
