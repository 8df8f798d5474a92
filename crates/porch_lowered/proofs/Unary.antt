-- The code of `+`, `-` and `~` on an operand that is there.
use Rattle.std.proofs.Common.{◌≡◌, ◌<◌, ◌≤◌, ℕ, ◌+◌, ℤ, pos, List, [], ◌∷◌, ◌++◌, length, length-append, refl, sym, ap, subst, ◌∙◌, inl, arith, Bool, true, false, Some, None}
use Rattle.std.specs.Prelude.{slice_get, Result, Ok, Err}
use Rattle.porch_types.specs.declared.shapes.Kind.{Kind}
use Rattle.porch_types.specs.declared.shapes.Ty.TheVariants.{Whole}
use Rattle.porch_types.specs.Kinds.{kind_number}
use Rattle.porch_values.specs.declared.acts.Act.{Act}
use Rattle.porch_values.specs.declared.acts.Act.TheVariants.{Indeterminate}
use Rattle.porch_values.specs.declared.acts.Op.TheVariants.{Sub}
use Rattle.porch_values.specs.Integers.{applied, complemented, converted}
use Rattle.porch_objects.specs.Store.{Value, number, null, pointer, past, indeterminate, Object, seen}
use Rattle.porch_objects.specs.Pointers.{if_there, if_number}
use Rattle.porch_objects.specs.Meaning.{Progress}
use Rattle.porch_flat.specs.declared.flat.Operand.{Operand}
use Rattle.porch_flat.specs.declared.whole.Command.TheVariants as command
use Rattle.porch_flat.specs.Parts.{kind_of}
use Rattle.porch_flat.specs.whole.Form.{form_of}
use Rattle.porch_flat.specs.whole.Places.{type_at}
use Rattle.porch_abstract.specs.Machine.{Next, Goes, put, counted, resulted, determined}
use Rattle.porch_abstract.specs.whole.Machine.{if_ok, does, kind_in, operand_of}
use Rattle.porch_typed.specs.declared.typed.Unary.{Unary}
use Rattle.porch_typed.specs.declared.typed.Unary.TheVariants.{Plus, Minus, Complement}
use Rattle.porch_mean.specs.Outcome.{Went, with_result}
use Rattle.porch_mean.specs.Operators.{as_value}
use Rattle.porch_mean.specs.Operators as meaning
use Rattle.porch_lowering.specs.Code.{InUse}
use Rattle.porch_lowering.specs.Operators.{var_of, commands_if, used_if, operand_if, next_of, is_converted, unary_command, operate_unary}
use Rattle.porch_sound.specs.Typing.{StoreTyping}
use Rattle.porch_sound.specs.Laws.{Gives}
use Rattle.porch_lowered.proofs.States.{Stands, front_stands, back_stands, IsQuiet}
use Rattle.porch_lowered.proofs.Codes.{Context, commands, frame, here, goes_on, IsOf, Follow, IsUsed, IsReady, MayGo, Arrives}
use Rattle.porch_lowered.proofs.Holding.{IsSetting, kept_types, one_is_used, one_at_least, used_before}
use Rattle.porch_lowered.proofs.Operands.{IsOperand, operand_is, number_is}
use Rattle.porch_lowered.proofs.Conversions.{IsNumber, convert}
use Rattle.porch_lowered.proofs.Commands.{command_follows, convert_follows, counted_alike}
use Rattle.porch_lowered.proofs.Operate.{InRange, is_number, Fits, same_kind, stays_number, number_of, is_variable, from_here}

-- what the command makes of a converted value
abbrev pub unary_last : (conversion : ℤ → Result ℤ Act) → Unary → Value → Result Value Act
unary_last r Plus x = if_there x (λ x. Ok x)
unary_last r Minus x = if_number x (λ z. as_value (r z))
unary_last r Complement x = if_number x (λ z. as_value (r z))

-- what comes behind the conversion in the source
abbrev pub unary_rest : Unary → (ℤ → Result ℤ Act) → ℤ → Result Value Act
unary_rest Plus r z = Ok (number z)
unary_rest Minus r z = as_value (r z)
unary_rest Complement r z = as_value (r z)

behind_conversion : (o : Unary) (r : Result ℤ Act) (f : ℤ → Result ℤ Act) → meaning.if_ok (as_value r) (unary_last f o) ≡ meaning.if_ok r (λ z. unary_rest o f z)
behind_conversion Plus (Ok z) f = refl
behind_conversion Minus (Ok z) f = refl
behind_conversion Complement (Ok z) f = refl
behind_conversion o (Err a) f = refl

missing_last : (o : Unary) (b : Bool) (conversion f : ℤ → Result ℤ Act) → meaning.if_ok (convert b conversion indeterminate) (unary_last f o) ≡ Err Indeterminate
missing_last o true conversion f = refl
missing_last Plus false conversion f = refl
missing_last Minus false conversion f = refl
missing_last Complement false conversion f = refl

there_goes : (w : Value) (go : Value → Next) → determined w go ≡ if_ok (if_there w (λ w. Ok w)) go
there_goes (number z) go = refl
there_goes null go = refl
there_goes (pointer home leaf) go = refl
there_goes (past home leaf until) go = refl
there_goes indeterminate go = refl

module _ (b : Bool) (o : Unary) (conversion f : ℤ → Result ℤ Act) (P : ℤ → Type 0) (stays : b ≡ false → (z : ℤ) → P z → conversion z ≡ Ok z) where
  converted_as : (a : Bool) → b ≡ a → (z : ℤ) → P z → convert a conversion (number z) ≡ as_value (conversion z)
  converted_as true e z p = refl
  converted_as false e z p = sym (ap (λ r. as_value r) (stays e z p))

  pub unary_does : (x : Value) → IsNumber P x → meaning.if_ok (convert b conversion x) (unary_last f o) ≡ if_number x (λ z. meaning.if_ok (conversion z) (λ z. unary_rest o f z))
  unary_does (number z) p = ap (λ r. meaning.if_ok r (unary_last f o)) (converted_as b refl z p) ∙ behind_conversion o (conversion z) f
  unary_does null p = absurd p
  unary_does (pointer home leaf) p = absurd p
  unary_does (past home leaf until) p = absurd p
  unary_does indeterminate p = missing_last o b conversion f

module _ (c : Context) (set : IsSetting c) (kind : Kind) where
  -- what the operator does behind the conversion
  abbrev pub after_conversion : Unary → ℤ → Result ℤ Act
  after_conversion Plus z = Ok z
  after_conversion Minus z = applied Sub kind c.under.widths (pos 0) z
  after_conversion Complement z = complemented kind c.under.widths z

  -- which is what the source does
  pub unary_is : (o : Unary) (z : ℤ) → meaning.if_ok (converted kind c.under.widths z) (λ z. unary_rest o (after_conversion o) z)
      ≡ meaning.operate_unary c.flat.types c.under.widths o kind z
  unary_is Plus z = refl
  unary_is Minus z = refl
  unary_is Complement z = refl

  quiet_unary : (o : Unary) (d : ℕ) (a : Operand) → IsQuiet c.flat (form_of (unary_command c.start o d a))
  quiet_unary Plus d a = record { calm = refl; silent = λ s frame. refl }
  quiet_unary Minus d a = record { calm = refl; silent = λ s frame. refl }
  quiet_unary Complement d a = record { calm = refl; silent = λ s frame. refl }

  kind_is : (place d : ℕ) → MayGo c (kind_number kind) (Some d) → kind_in c.flat (frame c place) d ≡ kind
  kind_is place d may = ap (λ ty. kind_of (type_at c.flat ty)) (may place) ∙ ap (λ shape. kind_of shape) (set.kinds kind)

  unary_effect : (o : Unary) (place d : ℕ) (a : Operand) (x : Value) (made : StoreTyping) (s : Progress) (ts : List Object) (used : InUse) → IsReady c made s ts
      → IsOperand c (kind_number kind) used s ts a x → IsOf c made (kind_number kind) x → MayGo c (kind_number kind) (Some d)
      → does c.flat c.under (frame c place) c.callers (form_of (unary_command c.start o d a)) (here c s ts place)
      ≡ if_ok (unary_last (after_conversion o) o (seen s.store x)) (λ w. Goes (put d w (here c s ts (place + 1))))
  unary_effect Plus place d a x made s ts used ready oa of may =
      ap (λ ty. determined (operand_of c.flat ty a (here c s ts place)) (goes_on c d place s ts)) (may place)
      ∙ ap (λ w. determined w (goes_on c d place s ts)) (operand_is c set made s ts place (kind_number kind) used a x ready oa of)
      ∙ there_goes (seen s.store x) (goes_on c d place s ts)
  unary_effect Minus place d a x made s ts used ready oa of may =
      ap (λ w. counted w (λ z. resulted (applied Sub (kind_in c.flat (frame c place) d) c.under.widths (pos 0) z) (λ z. goes_on c d place s ts (number z))))
      (number_is c set made s ts place (kind_number kind) kind used a x None (set.kinds kind) (inl refl) ready oa of)
      ∙ ap (λ k. counted (seen s.store x) (λ z. resulted (applied Sub k c.under.widths (pos 0) z) (λ z. goes_on c d place s ts (number z)))) (kind_is place d may)
      ∙ counted_alike (seen s.store x) (λ z. applied Sub kind c.under.widths (pos 0) z) (goes_on c d place s ts)
  unary_effect Complement place d a x made s ts used ready oa of may =
      ap (λ w. counted w (λ z. resulted (complemented (kind_in c.flat (frame c place) d) c.under.widths z) (λ z. goes_on c d place s ts (number z))))
      (number_is c set made s ts place (kind_number kind) kind used a x None (set.kinds kind) (inl refl) ready oa of)
      ∙ ap (λ k. counted (seen s.store x) (λ z. resulted (complemented k c.under.widths z) (λ z. goes_on c d place s ts (number z)))) (kind_is place d may)
      ∙ counted_alike (seen s.store x) (λ z. complemented kind c.under.widths z) (goes_on c d place s ts)

  by_number : (made : StoreTyping) (f : ℤ → Result ℤ Act) → ((z w : ℤ) → f z ≡ Ok w → InRange c set kind w) → (x : Value)
      → Gives (IsOf c made (kind_number kind)) (if_number x (λ z. as_value (f z)))
  by_number made f range (number z) = by (f z) refl
    where
      by : (r : Result ℤ Act) → f z ≡ r → Gives (IsOf c made (kind_number kind)) (as_value r)
      by (Ok w) e = (kind, set.kinds kind, range z w e)
      by (Err a) e = tt
  by_number made f range null = tt
  by_number made f range (pointer home leaf) = tt
  by_number made f range (past home leaf until) = tt
  by_number made f range indeterminate = tt

  unary_gives : (o : Unary) (made : StoreTyping) (x : Value) → IsNumber (InRange c set kind) x → Gives (IsOf c made (kind_number kind)) (unary_last (after_conversion o) o x)
  unary_gives Plus made (number z) range = (kind, set.kinds kind, range)
  unary_gives Plus made null range = absurd range
  unary_gives Plus made (pointer home leaf) range = absurd range
  unary_gives Plus made (past home leaf until) range = absurd range
  unary_gives Plus made indeterminate range = tt
  unary_gives Minus made x range = by_number made (λ z. applied Sub kind c.under.widths (pos 0) z) (λ z w e. set.operates Sub kind (pos 0) z w e) x
  unary_gives Complement made x range = by_number made (λ z. complemented kind c.under.widths z) (λ z w e. set.complements kind z w e) x

  pub unary_follows : (o : Unary) (from : Kind) (ty d place label : ℕ) (a : Operand) (v : Value) (made : StoreTyping) (s : Progress) (ts : List Object) (used : InUse)
      → slice_get c.flat.types ty ≡ Some (Whole from) → Fits c set kind a → IsReady c made s ts → IsOperand c ty used s ts a v → IsOf c made ty v
      → MayGo c (kind_number kind) (Some d)
      → ((t : ℕ) → (operate_unary c.start o d (kind_number kind) a ty used label).most t ≤ c.pools t)
      → Stands (commands c) place (operate_unary c.start o d (kind_number kind) a ty used label).commands
      → Follow c
      (with_result (if_number (seen s.store v) (λ z. meaning.if_ok (converted kind c.under.widths z) (λ z. unary_rest o (after_conversion o) z))) s (λ w s. Went w s))
      (here c s ts place) s.marks
      (Arrives c (kind_number kind) made (Some d) used ts (here c s ts place) s.marks (place + length (operate_unary c.start o d (kind_number kind) a ty used label).commands))
  unary_follows o from ty d place label a v made s ts used shape fits ready oa of may room stands =
      let to = kind_number kind in
      let converts = is_converted a ty to in
      let t = next_of c.start to used in
      let casts = commands_if converts (command.Cast t (var_of a) ∷ []) in
      let x = unary_command c.start o d (operand_if converts t a) in
      let middle = place + length casts in
      let end : middle + 1 ≡ place + length (casts ++ x ∷ []) = simp length-append (omega arith) in
      let is = set.whole ty from shape in
      let v_number = is_number c set made ty from (seen s.store v) shape ((kept_types c set made s ts ready).values ty v of) in
      let room_used : (k : ℕ) → used k ≤ c.pools k = λ k. room_less converts used to k (room k) in
      subst
      (λ r. Follow c (with_result r s (λ w s. Went w s)) (here c s ts place) s.marks (Arrives c to made (Some d) used ts (here c s ts place) s.marks (place + length (casts ++ x ∷ []))))
      (unary_does converts o (λ z. converted kind c.under.widths z) (after_conversion o) (λ z. (seen s.store v ≡ number z) × InRange c set from z)
      (λ e z p. stays_number c set made ty from kind a is shape fits s ts used v oa e z p.0 p.1) (seen s.store v) (number_of c set (InRange c set from) (seen s.store v) v_number))
      (rw (← end)
      (convert_follows c set converts kind ty place made s ts used a v _ _ ready oa of (λ e. is_variable c set ty to a e)
      (λ e. same_kind c set made s ts used ty from kind a v shape is fits oa of e) (λ e. room_one converts used to e (room to)) room_used
      (front_stands (commands c) place casts (x ∷ []) stands) (λ y arrived.
      from_here c set to d place middle (middle + 1) made s ts arrived.temporaries used (used_if converts used to) _ arrived.onward arrived.kept (λ i u. more_used converts used to i u)
      (let y_number = subst (λ x. IsNumber (InRange c set kind) x) arrived.is
      (is_number c set made to kind (seen s.store arrived.value) (set.kinds kind) ((kept_types c set made s arrived.temporaries arrived.ready).values to arrived.value arrived.of)) in
      command_follows c to d middle x made s arrived.temporaries (used_if converts used to) (unary_last (after_conversion o) o y) arrived.ready
      (back_stands (commands c) place casts (x ∷ []) stands).0 (quiet_unary o d (operand_if converts t a))
      (unary_effect o middle d (operand_if converts t a) arrived.value made s arrived.temporaries (used_if converts used to) arrived.ready arrived.operand arrived.of may
      ∙ ap (λ y. if_ok (unary_last (after_conversion o) o y) (λ w. Goes (put d w (here c s arrived.temporaries (middle + 1))))) arrived.is)
      (unary_gives o made y y_number)))))
    where
      room_less : (b : Bool) (used : InUse) (ty t : ℕ) → used_if b used ty t ≤ c.pools t → used t ≤ c.pools t
      room_less true used ty t h = (let a = one_at_least c set ty used t in omega (arith, a, h))
      room_less false used ty t h = h

      room_one : (b : Bool) (used : InUse) (ty : ℕ) → b ≡ true → used_if b used ty ty ≤ c.pools ty → used ty < c.pools ty
      room_one true used ty e h = (let a = one_is_used c set ty used in omega (arith, a, h))
      room_one false used ty e h = cc

      more_used : (b : Bool) (used : InUse) (ty : ℕ) (i : ℕ) → IsUsed c used i → IsUsed c (used_if b used ty) i
      more_used true used ty i u = used_before c set ty used i u
      more_used false used ty i u = u
