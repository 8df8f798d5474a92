-- What is read through a pointer, a member that is a struct, and conversions, as codes.
use Rattle.std.proofs.Common.{◌≡◌, ℕ, refl, ap, ◌∙◌, Bool, false, Option, Some, None}
use Rattle.std.specs.Prelude.{slice_get, nat_eq, Result, Ok}
use Rattle.porch_types.specs.declared.shapes.Kind.{Kind}
use Rattle.porch_types.specs.declared.shapes.Ty.TheVariants.{Pointer}
use Rattle.porch_types.specs.Kinds.{kind_number}
use Rattle.porch_types.specs.LeafTypes.{IsScalar}
use Rattle.porch_values.specs.declared.acts.Act.{Act}
use Rattle.porch_values.specs.Integers.{converted}
use Rattle.porch_objects.specs.Store.{Value, number, null, pointer, past, indeterminate, Store, seen, leaf_at}
use Rattle.porch_objects.specs.Pointers.{if_there, if_number, if_place, load}
use Rattle.porch_objects.specs.Meaning.{Progress}
use Rattle.porch_flat.specs.declared.flat.Operand.{Operand}
use Rattle.porch_flat.specs.declared.whole.Command.{Command}
use Rattle.porch_flat.specs.declared.whole.Command.TheVariants as command
use Rattle.porch_typed.specs.Mirror.{Program}
use Rattle.porch_mean.specs.Outcome.{Outcome, Went, and_then, with_result, use_number}
use Rattle.porch_mean.specs.Operators.{as_value}
use Rattle.porch_mean.specs.Expression.{load_at}
use Rattle.porch_lowering.specs.Code.{InUse, and_one, Coder}
use Rattle.porch_lowering.specs.Operators.{next_of}
use Rattle.porch_lowering.specs.Expression.{read_code, convert_to}
use Rattle.porch_sound.specs.Typing.{StoreTyping}
use Rattle.porch_lowered.proofs.Temporaries.{same_number}
use Rattle.porch_lowered.proofs.Follows.{follows_then}
use Rattle.porch_lowered.proofs.Growing.{Grows}
use Rattle.porch_lowered.proofs.Codes.{Context, here, Codes, Taken, Evaluates, IsPresent}
use Rattle.porch_lowered.proofs.Holding.{IsSetting, codes_both}
use Rattle.porch_lowered.proofs.Conversions.{IsNumber}
use Rattle.porch_lowered.proofs.Operate.{InRange, is_number}
use Rattle.porch_lowered.proofs.Held.{IsStrict, InPlace}
use Rattle.porch_lowered.proofs.Forms.{numbers_follow, number_there, strict_by}
use Rattle.porch_lowered.proofs.OneOperand.{IsVariable, Makes, one_code, one_writes, loads, casts}

-- a value is used, and a number converted
abbrev pub converts_to : Context → Kind → Value → Progress → Outcome
converts_to c kind v s = use_number v s (λ z s. with_result (as_value (converted kind c.under.widths z)) s (λ v s. Went v s))

module _ (c : Context) (set : IsSetting c) where
  -- also where the value is dropped
  pub one_codes : (ty ty' : ℕ) (o : Option Operand) (Is : Value → Progress → Type 0) (value : Progress → Outcome) (coder : Coder) (result : Store → Value → Result Value Act)
      (make : (target operand : ℕ) → Command) (go : Value → Progress → Outcome)
      → ((v : Value) (s : Progress) → go v s ≡ with_result (result s.store v) s (λ w s. Went w s)) → IsStrict go
      → Evaluates c (Taken c) Is ty value coder → Grows coder → InPlace c ty o value → IsVariable o → Makes c set ty ty' result make
      → (whole : Coder) → Grows whole
      → ((d : ℕ) (used : InUse) (label : ℕ) → whole (Some d) used label ≡ one_code c set ty o coder make d used label)
      → ((used : InUse) (label : ℕ) → whole None used label ≡ whole (Some (next_of c.start ty' used)) (and_one ty' used) label)
      → Codes c ty' (λ s. and_then (value s) go) whole
  one_codes ty ty' o Is value coder result make go go_is strict evaluates grows in_place variable makes whole grown is same =
      codes_both c set ty' (λ s. and_then (value s) go) whole
      (λ d used label place made s ts ready may room stands.
      (let e = is d used label in
      rw e
      (one_writes c set ty ty' o Is value coder result make go go_is strict evaluates grows in_place variable makes d used label place made s ts ready may (rw e at room) (rw e at stands))))
      grown same

  -- A place is read.
  pub reads_code : (p : Program) (ty pointer_ty : ℕ) (o : Option Operand) (Is : Value → Progress → Type 0) (value : Progress → Outcome) (place : Coder)
      → slice_get c.flat.types pointer_ty ≡ Some (Pointer ty) → IsScalar (slice_get c.flat.types ty)
      → Evaluates c (Taken c) Is pointer_ty value place → Grows place → InPlace c pointer_ty o value → IsVariable o → Grows (read_code p c.start ty o pointer_ty place)
      → Codes c ty (λ s. and_then (value s) (λ at s. load_at at s)) (read_code p c.start ty o pointer_ty place)
  reads_code p ty pointer_ty o Is value place shape scalar evaluates grows in_place variable grown =
      one_codes pointer_ty ty o Is value place load (λ d t. command.Load d t) (λ at s. load_at at s) (λ v s. refl)
      (strict_by (λ s v. read_there s v) (λ at s. load_at at s) (λ v s. refl))
      evaluates grows in_place variable (loads c set pointer_ty ty shape scalar) (read_code p c.start ty o pointer_ty place) grown (λ d used label. refl) (λ used label. refl)
    where
      read_there : Store → Value → Result Value Act
      read_there s v = if_place v (λ home leaf. if_there (seen s (leaf_at s home leaf)) (λ v. Ok v))

  converts_is : (kind : Kind) (v : Value) (s : Progress)
      → converts_to c kind v s ≡ with_result (if_number (seen s.store v) (λ z. as_value (converted kind c.under.widths z))) s (λ w s. Went w s)
  converts_is kind v s = numbers_follow (seen s.store v) s (λ z. as_value (converted kind c.under.widths z)) (λ w s. Went w s)

  converts_strictly : (kind : Kind) → IsStrict (λ v s. converts_to c kind v s)
  converts_strictly kind =
      strict_by (λ s v. if_number v (λ z. as_value (converted kind c.under.widths z))) (λ v s. converts_to c kind v s)
      (λ v s.
      converts_is kind v s
      ∙ ap (λ r. with_result r s (λ w s. Went w s)) (number_there (seen s.store v) (λ z. as_value (converted kind c.under.widths z))))

  -- A value of another kind is converted.
  pub conversions_code : (p : Program) (ty : ℕ) (kind : Kind) (lacks : Bool) (o : Option Operand) (Is : Value → Progress → Type 0) (value : Progress → Outcome) (coder : Coder)
      → nat_eq ty (kind_number kind) ≡ false → Evaluates c (Taken c) Is ty value coder → Grows coder → InPlace c ty o value → IsVariable o
      → Grows (convert_to p c.start (kind_number kind) None ty lacks o coder)
      → Codes c (kind_number kind) (λ s. and_then (value s) (λ v s. converts_to c kind v s)) (convert_to p c.start (kind_number kind) None ty lacks o coder)
  conversions_code p ty kind lacks o Is value coder other evaluates grows in_place variable grown =
      one_codes ty (kind_number kind) o Is value coder (λ s v. if_number (seen s v) (λ z. as_value (converted kind c.under.widths z))) (λ d t. command.Cast d t)
      (λ v s. converts_to c kind v s) (converts_is kind) (converts_strictly kind)
      evaluates grows in_place variable (casts c set ty kind) (convert_to p c.start (kind_number kind) None ty lacks o coder) grown
      (λ d used label. rw other refl) (λ used label. rw other refl)

  -- a number of its own kind that is there
  stays_itself : (made : StoreTyping) (kind : Kind) (v : Value) (s : Progress) → IsNumber (InRange c set kind) v → seen s.store v ≡ v → (v ≡ indeterminate → ⊥)
      → converts_to c kind v s ≡ Went v s
  stays_itself made kind (number z) s range e there = ap (λ r. with_result (as_value r) s (λ v s. Went v s)) (set.same kind z range)
  stays_itself made kind null s range e there = absurd range
  stays_itself made kind (pointer home leaf) s range e there = absurd range
  stays_itself made kind (past home leaf until) s range e there = absurd range
  stays_itself made kind indeterminate s range e there = absurd (there refl)

  -- A value of the kind already, which is there, stays as it is.
  pub conversions_stay : (p : Program) (Fit : InUse → Option ℕ → Type 0) (kind : Kind) (o : Option Operand) (value : Progress → Outcome) (coder : Coder)
      → Evaluates c Fit IsPresent (kind_number kind) value coder
      → Evaluates c Fit IsPresent (kind_number kind) (λ s. and_then (value s) (λ v s. converts_to c kind v s)) (convert_to p c.start (kind_number kind) None (kind_number kind) false o coder)
  conversions_stay p Fit kind o value coder evaluates to used label place made s ts ready fits may room stands =
      let same = same_number (kind_number kind) in
      rw same
      (follows_then c.flat c.under c.n (value s) (λ v s. converts_to c kind v s) (here c s ts place) s.marks _ _
      (evaluates to used label place made s ts ready fits may (rw same at room) (rw same at stands))
      (λ v u x.
      (let number_is = is_number c set x.0.later (kind_number kind) kind v (set.kinds kind) x.0.value in
      rw (stays_itself x.0.later kind v u number_is x.1.0 x.1.1) x)))
