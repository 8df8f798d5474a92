-- Operators with pointers: STEP and BACK make what `+` and `-` of a pointer and a number give, and DIFF what `-` of two pointers
-- gives.
use Rattle.std.proofs.Common.{◌≡◌, ℕ, ◌+◌, ℤ, List, ◌∷◌, refl, ap, ◌∙◌, inl, Some, None}
use Rattle.std.specs.Prelude.{slice_get, unwrap_or, pos, ◌-ℤ◌, IsTrue, Result, Ok, Err}
use Rattle.porch_types.specs.declared.shapes.Kind.{Kind}
use Rattle.porch_types.specs.declared.shapes.Kind.TheVariants.{Long}
use Rattle.porch_types.specs.declared.shapes.Ty.{Ty}
use Rattle.porch_types.specs.declared.shapes.Ty.TheVariants.{Whole, Pointer}
use Rattle.porch_values.specs.declared.acts.Act.{Act}
use Rattle.porch_values.specs.declared.acts.Act.TheVariants.{Indeterminate}
use Rattle.porch_values.specs.Integers.{is_value_of}
use Rattle.porch_objects.specs.Store.{Value, number, null, pointer, past, indeterminate, Object, Store, seen}
use Rattle.porch_objects.specs.Pointers.{if_there, if_number, position_of, between, step, difference}
use Rattle.porch_objects.specs.Meaning.{Progress}
use Rattle.porch_flat.specs.declared.flat.Operand.{Operand}
use Rattle.porch_flat.specs.declared.flat.Operand.TheVariants.{Var}
use Rattle.porch_flat.specs.declared.whole.Command.{Command}
use Rattle.porch_flat.specs.declared.whole.Command.TheVariants as command
use Rattle.porch_flat.specs.declared.whole.Direction.{Direction}
use Rattle.porch_flat.specs.declared.whole.Direction.TheVariants.{Forward, Back}
use Rattle.porch_flat.specs.whole.Places.{pointed, type_at}
use Rattle.porch_abstract.specs.Machine.{Next, Meets, counted}
use Rattle.porch_abstract.specs.whole.Machine.{if_ok, forward, operand_of, var_type, variable_of}
use Rattle.porch_mean.specs.Outcome.{Went, with_result}
use Rattle.porch_mean.specs.Operators.{as_value}
use Rattle.porch_lowering.specs.Code.{InUse}
use Rattle.porch_lowering.specs.Values.{LONG}
use Rattle.porch_sound.specs.Typing.{StoreTyping}
use Rattle.porch_sound.specs.Laws.{Gives}
use Rattle.porch_lowered.specs.Beside.{beside}
use Rattle.porch_lowered.proofs.ReadAlike.{step_alike, difference_alike, seen_grounded}
use Rattle.porch_lowered.proofs.Typed.{counts}
use Rattle.porch_lowered.proofs.SameLeaf.{seen_twice}
use Rattle.porch_lowered.proofs.Codes.{Context, commands, frame, here, goes_on, IsOf, Follow, IsReady, grounded, value_is_grounded, MayGo, Arrives}
use Rattle.porch_lowered.proofs.Holding.{IsSetting, kept_types}
use Rattle.porch_lowered.proofs.Operands.{IsOperand, variable_is, operand_type, number_is}
use Rattle.porch_lowered.proofs.Commands.{command_follows}

-- a pointer and a number are used, and the pointer goes so many elements on
abbrev pub stepped : List Ty → (to : ℕ) → (ℤ → ℤ) → Store → Value → Value → Result Value Act
stepped types to way s a b = if_there (seen s a) (λ p. if_there (seen s b) (λ z. if_number z (λ z. step types to s p (way z))))

nothing_there : (x : Value) (go : Value → Next) → Meets Indeterminate ≡ if_ok (if_there x (λ p. let r : Result Value Act = Err Indeterminate in r)) go
nothing_there (number z) go = refl
nothing_there null go = refl
nothing_there (pointer home leaf) go = refl
nothing_there (past home leaf until) go = refl
nothing_there indeterminate go = refl

module _ (types : List Ty) (to : ℕ) (way : ℤ → ℤ) (s : Store) where
  from_there : (x : Value) (z : ℤ) → step types to s x (way z) ≡ if_there x (λ p. step types to s p (way z))
  from_there (number k) z = refl
  from_there null z = refl
  from_there (pointer home leaf) z = refl
  from_there (past home leaf until) z = refl
  from_there indeterminate z = refl

  counted_steps : (x y : Value) (go : Value → Next)
      → counted y (λ z. if_ok (step types to s x (way z)) go) ≡ if_ok (if_there x (λ p. if_there y (λ z. if_number z (λ z. step types to s p (way z))))) go
  counted_steps x (number z) go = ap (λ r. if_ok r go) (from_there x z)
  counted_steps x null go = nothing_there x go
  counted_steps x (pointer home leaf) go = nothing_there x go
  counted_steps x (past home leaf until) go = nothing_there x go
  counted_steps x indeterminate go = nothing_there x go

there_gives : (P : Value → Type 0) (v : Value) (r : Value → Result Value Act) → Gives P (r v) → Gives P (if_there v r)
there_gives P (number z) r g = g
there_gives P null r g = g
there_gives P (pointer home leaf) r g = g
there_gives P (past home leaf until) r g = g
there_gives P indeterminate r g = tt

number_gives : (P : Value → Type 0) (v : Value) (r : ℤ → Result Value Act) → ((z : ℤ) → Gives P (r z)) → Gives P (if_number v r)
number_gives P (number z) r g = g z
number_gives P null r g = tt
number_gives P (pointer home leaf) r g = tt
number_gives P (past home leaf until) r g = tt
number_gives P indeterminate r g = tt

by_value : (r : Result ℤ Act) (go : Value → Next) → if_ok r (λ z. go (number z)) ≡ if_ok (as_value r) go
by_value (Ok z) go = refl
by_value (Err a) go = refl

-- of values as they are seen the same
pub difference_seen : (types : List Ty) (to : ℕ) (s : Store) (a b : Value)
    → difference types to s (seen s a) (seen s b) ≡ difference types to s a b
difference_seen types to s a b =
    ap (λ x. if_there x (λ p. if_there (seen s (seen s b)) (λ q. between types to (position_of types to s p) (position_of types to s q)))) (seen_twice s a)
    ∙ ap (λ y. if_there (seen s a) (λ p. if_there y (λ q. between types to (position_of types to s p) (position_of types to s q)))) (seen_twice s b)

module _ (c : Context) (set : IsSetting c) where
  -- what a step does by its direction, at the pointee that its pointer's type has
  abbrev does_step : Direction → ℕ → (d place : ℕ) → Progress → List Object → (x y : Value) → Next
  does_step way to d place s ts x y =
      counted y (λ z. if_ok (step c.flat.types to (beside s.store (ts ∷ c.more)) x (forward way z)) (goes_on c d place s ts))

  abbrev pointee_at : ℕ → ℕ → ℕ
  pointee_at place t = unwrap_or (pointed (type_at c.flat (var_type c.flat (frame c place) t))) 0

  pointee_is : (ty to place t : ℕ) → slice_get c.flat.types ty ≡ Some (Pointer to) → MayGo c ty (Some t) → pointee_at place t ≡ to
  pointee_is ty to place t shape may =
      ap (λ o. unwrap_or (pointed (type_at c.flat o)) 0) (may place) ∙ ap (λ shape. unwrap_or (pointed shape) 0) shape

  step_does : (way : Direction) (ty to ty' place d t : ℕ) (kind : Kind) (b : Operand) (made : StoreTyping) (s : Progress) (ts : List Object) (used : InUse) (v w : Value)
      → slice_get c.flat.types ty ≡ Some (Pointer to) → slice_get c.flat.types ty' ≡ Some (Whole kind) → IsReady c made s ts
      → IsOperand c ty used s ts (Var t) v → IsOf c made ty v → IsOperand c ty' used s ts b w → IsOf c made ty' w
      → does_step way (pointee_at place t) d place s ts (variable_of t (here c s ts place)) (operand_of c.flat None b (here c s ts place))
      ≡ if_ok (stepped c.flat.types to (forward way) s.store v w) (goes_on c d place s ts)
  step_does way ty to ty' place d t kind b made s ts used v w shape shape' ready ot vt ob wb =
      let g = value_is_grounded c made ty v vt in
      ap (λ y. does_step way (pointee_at place t) d place s ts (variable_of t (here c s ts place)) y)
      (number_is c set made s ts place ty' kind used b w None shape' (inl refl) ready ob wb)
      ∙ ap (λ k. does_step way k d place s ts (variable_of t (here c s ts place)) (seen s.store w)) (pointee_is ty to place t shape (operand_type c set ty used s ts t v ot))
      ∙ ap (λ x. does_step way to d place s ts x (seen s.store w)) (variable_is c set made s ts place ty t used v ready ot vt)
      ∙ ap (λ (f : ℤ → Result Value Act). counted (seen s.store w) (λ z. if_ok (f z) (goes_on c d place s ts)))
      (λ i z. step_alike (counts made) s.store (ts ∷ c.more) (grounded c made s ts ready) c.flat.types to (seen s.store v) (forward way z) (seen_grounded (counts made) s.store v g) i)
      ∙ counted_steps c.flat.types to (forward way) s.store (seen s.store v) (seen s.store w) (goes_on c d place s ts)

  step_gives : (way : ℤ → ℤ) (ty to : ℕ) (made : StoreTyping) (s : Progress) (ts : List Object) (v w : Value) → slice_get c.flat.types ty ≡ Some (Pointer to)
      → IsReady c made s ts → IsOf c made ty v → Gives (IsOf c made ty) (stepped c.flat.types to way s.store v w)
  step_gives way ty to made s ts v w shape ready of =
      let kept = kept_types c set made s ts ready in
      there_gives (IsOf c made ty) (seen s.store v) _
      (there_gives (IsOf c made ty) (seen s.store w) _
      (number_gives (IsOf c made ty) (seen s.store w) _ (λ z. kept.steps ty to (seen s.store v) (way z) shape (kept.values ty v of))))

  -- STEP and BACK, of a pointer in a variable and a number in an operand
  abbrev pub step_command : Direction → (d t : ℕ) → Operand → Command
  step_command Forward d t b = command.Step d t b
  step_command Back d t b = command.Back d t b

  pub step_follows : (way : Direction) (ty to ty' place d t : ℕ) (kind : Kind) (b : Operand) (made : StoreTyping) (s : Progress) (ts : List Object) (used : InUse) (v w : Value)
      → slice_get c.flat.types ty ≡ Some (Pointer to) → slice_get c.flat.types ty' ≡ Some (Whole kind) → IsReady c made s ts
      → IsOperand c ty used s ts (Var t) v → IsOf c made ty v → IsOperand c ty' used s ts b w → IsOf c made ty' w
      → slice_get (commands c) place ≡ Some (step_command way d t b)
      → Follow c (with_result (stepped c.flat.types to (forward way) s.store v w) s (λ w s. Went w s)) (here c s ts place) s.marks
      (Arrives c ty made (Some d) used ts (here c s ts place) s.marks (place + 1))
  step_follows Forward ty to ty' place d t kind b made s ts used v w shape shape' ready ot vt ob wb stands =
      command_follows c ty d place (command.Step d t b) made s ts used _ ready stands (record { calm = refl; silent = λ s frame. refl })
      (step_does Forward ty to ty' place d t kind b made s ts used v w shape shape' ready ot vt ob wb)
      (step_gives (λ z. z) ty to made s ts v w shape ready vt)
  step_follows Back ty to ty' place d t kind b made s ts used v w shape shape' ready ot vt ob wb stands =
      command_follows c ty d place (command.Back d t b) made s ts used _ ready stands (record { calm = refl; silent = λ s frame. refl })
      (step_does Back ty to ty' place d t kind b made s ts used v w shape shape' ready ot vt ob wb)
      (step_gives (λ z. pos 0 -ℤ z) ty to made s ts v w shape ready vt)

  -- DIFF, of two pointers in variables
  abbrev differs : ℕ → (d place : ℕ) → Progress → List Object → (x y : Value) → Next
  differs to d place s ts x y =
      if_ok (difference c.flat.types to (beside s.store (ts ∷ c.more)) x y) (λ z. goes_on c d place s ts (number z))

  long_given : (made : StoreTyping) (r : Result ℤ Act) → Gives (λ z. IsTrue (is_value_of Long c.under.widths z)) r → Gives (IsOf c made LONG) (as_value r)
  long_given made (Ok z) g = (Long, set.kinds Long, g)
  long_given made (Err a) g = tt

  pub difference_follows : (ty to place d t u : ℕ) (made : StoreTyping) (s : Progress) (ts : List Object) (used : InUse) (v w : Value)
      → slice_get c.flat.types ty ≡ Some (Pointer to) → IsReady c made s ts
      → IsOperand c ty used s ts (Var t) v → IsOf c made ty v → IsOperand c ty used s ts (Var u) w → IsOf c made ty w
      → slice_get (commands c) place ≡ Some (command.Diff d t u)
      → Follow c (with_result (as_value (difference c.flat.types to s.store v w)) s (λ w s. Went w s)) (here c s ts place) s.marks
      (Arrives c LONG made (Some d) used ts (here c s ts place) s.marks (place + 1))
  difference_follows ty to place d t u made s ts used v w shape ready ot vt ou wu stands =
      let g = value_is_grounded c made ty v vt in
      let h = value_is_grounded c made ty w wu in
      command_follows c LONG d place (command.Diff d t u) made s ts used _ ready stands (record { calm = refl; silent = λ s frame. refl })
      (ap (λ y. differs (pointee_at place t) d place s ts (variable_of t (here c s ts place)) y) (variable_is c set made s ts place ty u used w ready ou wu)
      ∙ ap (λ k. differs k d place s ts (variable_of t (here c s ts place)) (seen s.store w)) (pointee_is ty to place t shape (operand_type c set ty used s ts t v ot))
      ∙ ap (λ x. differs to d place s ts x (seen s.store w)) (variable_is c set made s ts place ty t used v ready ot vt)
      ∙ ap (λ r. if_ok r (λ z. goes_on c d place s ts (number z)))
      (difference_alike (counts made) s.store (ts ∷ c.more) (grounded c made s ts ready) c.flat.types to (seen s.store v) (seen s.store w)
      (seen_grounded (counts made) s.store v g) (seen_grounded (counts made) s.store w h) ∙ difference_seen c.flat.types to s.store v w)
      ∙ by_value (difference c.flat.types to s.store v w) (goes_on c d place s ts))
      (long_given made (difference c.flat.types to s.store v w) ((kept_types c set made s ts ready).differences ty to v w shape vt wu))
