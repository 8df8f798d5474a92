-- `!`: whether an operand is 0 or null.
use Rattle.std.proofs.Common.{◌≡◌, ◌≤◌, ℕ, ◌+◌, ℤ, pos, List, [], ◌∷◌, length, refl, sym, ap, subst, inl, arith, Bool, true, false, Option, Some, None}
use Rattle.std.specs.Prelude.{not, slice_get, IsTrue, if◌then◌else◌}
use Rattle.std.specs.Ordering.{int_eq}
use Rattle.porch_types.specs.declared.shapes.Kind.{Kind}
use Rattle.porch_types.specs.declared.shapes.Kind.TheVariants.{Char, UChar, Short, UShort, Int, UInt, Long, ULong}
use Rattle.porch_types.specs.declared.shapes.Ty.{Ty}
use Rattle.porch_types.specs.declared.shapes.Ty.TheVariants.{Whole, Pointer, Array, Struct}
use Rattle.porch_types.specs.Kinds.{kind_number}
use Rattle.porch_types.specs.LeafTypes.{IsScalar}
use Rattle.porch_values.specs.Integers.{in_range, converted}
use Rattle.porch_objects.specs.Store.{Value, number, null, pointer, past, indeterminate, Object, seen}
use Rattle.porch_objects.specs.Pointers.{if_there, if_number, equal}
use Rattle.porch_objects.specs.Meaning.{Progress}
use Rattle.porch_flat.specs.declared.flat.Operand.{Operand}
use Rattle.porch_flat.specs.declared.flat.Operand.TheVariants.{Var, Constant}
use Rattle.porch_flat.specs.declared.whole.Command.TheVariants as command
use Rattle.porch_abstract.specs.whole.Machine.{constant_of}
use Rattle.porch_typed.specs.declared.typed.Comparison.TheVariants.{Equal}
use Rattle.porch_mean.specs.Outcome.{Outcome, Went, with_result, with_truth}
use Rattle.porch_mean.specs.Operators.{as_value, truth_value}
use Rattle.porch_mean.specs.Operators as meaning
use Rattle.porch_lowering.specs.Code.{InUse, and_one, Code, plain, no_code, then_commands, Held, held}
use Rattle.porch_lowering.specs.Values.{INT}
use Rattle.porch_lowering.specs.Operators.{var_of, is_small, next_of, negate}
use Rattle.porch_sound.specs.Typing.{StoreTyping}
use Rattle.porch_lowered.proofs.Follows.{follows_from, follows_with}
use Rattle.porch_lowered.proofs.States.{Stands}
use Rattle.porch_lowered.proofs.Numbers.{narrow_fits}
use Rattle.porch_lowered.proofs.Codes.{Context, commands, here, IsOf, Follow, IsReady, MayGo, Arrives, arrives_from}
use Rattle.porch_lowered.proofs.Holding.{IsSetting, kept_types, arrives_held, room_before, room_next, one_is_used, used_before, temporary_type}
use Rattle.porch_lowered.proofs.Operands.{InTemporary, IsOperand}
use Rattle.porch_lowered.proofs.Conversions.{IsNumber}
use Rattle.porch_lowered.proofs.Commands.{command_follows}
use Rattle.porch_lowered.proofs.Operate.{InRange, is_number}
use Rattle.porch_lowered.proofs.Comparisons.{IsVar, tested, comparison_finishes, quiet_comparison}
use Rattle.porch_lowered.proofs.PointerComparisons.{as_truth, pointers_do, truth_gives}
use Rattle.porch_lowered.proofs.Conditions.{IsPointerValue, int_of_number, int_seen, pointer_is, pointer_not_small, small_made}

-- what `!` makes of a truth value
abbrev pub denied : Bool → Progress → Outcome
denied holds s = Went (truth_value (not holds)) s

twice_not : (b : Bool) → not (not b) ≡ b
twice_not true = refl
twice_not false = refl

module _ (c : Context) (set : IsSetting c) where
  zero_of_number : (P : ℤ → Type 0) (x : Value) (s : Progress) → IsNumber P x
      → with_result (tested (λ x y. meaning.compares Equal x y) x (number (pos 0))) s (λ w s. Went w s) ≡ with_truth x s denied
  zero_of_number P (number z) s h = ap (λ b. Went (truth_value b) s) (sym (twice_not (int_eq z (pos 0))))
  zero_of_number P null s h = absurd h
  zero_of_number P (pointer home leaf) s h = absurd h
  zero_of_number P (past home leaf until) s h = absurd h
  zero_of_number P indeterminate s h = refl

  zero_of_pointer : (to : ℕ) (x : Value) (s : Progress) → IsPointerValue x
      → with_result (as_truth (if_there x (λ p. equal c.flat.types to p null))) s (λ w s. Went w s) ≡ with_truth x s denied
  zero_of_pointer to (number z) s h = absurd h
  zero_of_pointer to null s h = refl
  zero_of_pointer to (pointer home leaf) s h = refl
  zero_of_pointer to (past home leaf until) s h = refl
  zero_of_pointer to indeterminate s h = refl

  -- that code says whether an operand of a type is 0
  abbrev pub NegationFollows : (ty : ℕ) → (code : (d : ℕ) → Operand → InUse → Code) → Type 0
  NegationFollows ty code =
      (d : ℕ) (o : Operand) (v : Value) (used : InUse) (place : ℕ) (made : StoreTyping) (s : Progress) (ts : List Object) → IsVar o → IsReady c made s ts
      → IsOperand c ty used s ts o v → IsOf c made ty v → MayGo c INT (Some d) → ((t : ℕ) → (code d o used).most t ≤ c.pools t)
      → Stands (commands c) place (code d o used).commands
      → Follow c (with_truth (seen s.store v) s denied) (here c s ts place) s.marks
      (Arrives c INT made (Some d) used ts (here c s ts place) s.marks (place + length (code d o used).commands))

  kind_negated : (kind : Kind) → IsTrue (in_range kind 32 (pos 0)) → (label : ℕ) → NegationFollows (kind_number kind) (λ d o used. plain (command.Eq d o (Constant (pos 0)) ∷ []) used label)
  kind_negated kind range label d o v used place made s ts var ready operand of may room stands =
      let finish = comparison_finishes c set Equal kind in
      let is = is_number c set made (kind_number kind) kind (seen s.store v) (set.kinds kind) ((kept_types c set made s ts ready).values (kind_number kind) v of) in
      subst (λ out. Follow c out (here c s ts place) s.marks (Arrives c INT made (Some d) used ts (here c s ts place) s.marks (place + 1)))
      (zero_of_number (InRange c set kind) (seen s.store v) s is)
      (command_follows c INT d place (command.Eq d o (Constant (pos 0))) made s ts used _ ready stands.0 (finish.quiet d o (Constant (pos 0)))
      (finish.does_is place d made s ts used o (Constant (pos 0)) v (number (pos 0)) ready operand of
      (ap (λ shape. constant_of shape (pos 0)) (set.kinds kind)) (kind, set.kinds kind, narrow_fits kind c.under.widths (pos 0) range) may var)
      (finish.gives made (seen s.store v) (number (pos 0)) is (narrow_fits kind c.under.widths (pos 0) range)))

  pointer_negated : (ty to : ℕ) → slice_get c.flat.types ty ≡ Some (Pointer to) → (label : ℕ) → NegationFollows ty (λ d o used. plain (command.Eq d o (Constant (pos 0)) ∷ []) used label)
  pointer_negated ty to shape label d o v used place made s ts var ready operand of may room stands =
      subst (λ out. Follow c out (here c s ts place) s.marks (Arrives c INT made (Some d) used ts (here c s ts place) s.marks (place + 1)))
      (zero_of_pointer to (seen s.store v) s (pointer_is c set made ty to (seen s.store v) shape ((kept_types c set made s ts ready).values ty v of)))
      (command_follows c INT d place (command.Eq d o (Constant (pos 0))) made s ts used _ ready stands.0 (quiet_comparison c set Equal d o (Constant (pos 0)))
      (pointers_do c set to ty place d made s ts used shape ready Equal o (Constant (pos 0)) v null operand of
      (ap (λ shape. constant_of shape (pos 0)) shape) (to, shape) var)
      (truth_gives c set made (meaning.pointers_compare c.flat.types c.under.widths Equal to s.store v null)))

  small_negated : (kind : Kind) → is_small (kind_number kind) ≡ true → (label : ℕ)
      → NegationFollows (kind_number kind)
      (λ d o used. plain (command.Cast (next_of c.start INT used) (var_of o) ∷ command.Eq d (Var (next_of c.start INT used)) (Constant (pos 0)) ∷ []) (and_one INT used) label)
  small_negated kind small label d o v used place made s ts var ready operand of may room stands =
      let t = next_of c.start INT used in
      let inside = room_next c set INT used room in
      let makes = small_made c set kind small in
      let end : place + 1 + 1 ≡ place + 2 = omega arith in
      subst (λ out. Follow c out (here c s ts place) s.marks (Arrives c INT made (Some d) used ts (here c s ts place) s.marks (place + 2)))
      (makes.truth made s ts v denied ready of)
      (follows_with c.flat c.under c.n (if_number (seen s.store v) (λ z. as_value (converted Int c.under.widths z))) s (λ w s. with_truth w s denied) (here c s ts place) s.marks _ _
      (makes.makes t place o v made s ts used var ready operand of (temporary_type c set INT used inside) stands.0)
      (λ w far.
      (let h = arrives_held c set INT used used made ts (here c s ts place) s.marks (place + 1) w s inside (room_before c set INT used room) (λ i u. u) far in
      let held : InTemporary c INT (and_one INT used) h.temporaries t w = record {
        of_type = temporary_type c set INT used inside;
        index = h.index;
        number = h.number;
        is_used = record { ty = INT; index = used INT; less = one_is_used c set INT used; number = sym h.number };
        holds = h.holds;
      } in
      let is_int = int_of_number (InRange c set Int) w (is_number c set h.later INT Int w (set.kinds Int) h.value) in
      subst (λ x. Follow c (with_truth x s denied) (here c s ts place) s.marks (Arrives c INT made (Some d) used ts (here c s ts place) s.marks (place + 2)))
      (int_seen s.store w is_int)
      (follows_from c.flat c.under c.n (with_truth (seen s.store w) s denied) (here c s ts place) (here c s h.temporaries (place + 1)) s.marks s.marks _ _ h.onward
      (λ x u further.
      rw (← end)
      (arrives_from c INT made h.later (Some d) used ts h.temporaries (here c s ts place) (here c s h.temporaries (place + 1)) s.marks s.marks (place + 1 + 1) x u h.adds h.onward h.kept
      (record {
        later = further.later;
        adds = further.adds;
        temporaries = further.temporaries;
        onward = further.onward;
        ready = further.ready;
        value = further.value;
        kept = λ i k ne. further.kept i (used_before c set INT used i k) ne;
      })))
      (kind_negated Int refl label d (Var t) w (and_one INT used) (place + 1) h.later s h.temporaries tt h.ready (inl held) h.value may room stands.1)))))

  -- by the type
  whole_negated : (kind : Kind) (label : ℕ) → NegationFollows (kind_number kind) (λ d o used. negate c.start d (kind_number kind) o used label)
  whole_negated Char label = small_negated Char refl label
  whole_negated UChar label = small_negated UChar refl label
  whole_negated Short label = small_negated Short refl label
  whole_negated UShort label = small_negated UShort refl label
  whole_negated Int label = kind_negated Int refl label
  whole_negated UInt label = kind_negated UInt refl label
  whole_negated Long label = kind_negated Long refl label
  whole_negated ULong label = kind_negated ULong refl label

  -- by whether it is small
  abbrev negate_by : (small : Bool) → (d : ℕ) → Operand → InUse → (label : ℕ) → Code
  negate_by small d o used label =
      let whole : Held = if small
      then held (plain (command.Cast (next_of c.start INT used) (var_of o) ∷ []) (and_one INT used) label) (Var (next_of c.start INT used)) (and_one INT used)
      else held (no_code used label) o used in
      then_commands whole.code (command.Eq d whole.operand (Constant (pos 0)) ∷ [])

  pub negation_follows : (ty : ℕ) → IsScalar (slice_get c.flat.types ty) → (label : ℕ) → NegationFollows ty (λ d o used. negate c.start d ty o used label)
  negation_follows ty scalar label = by (slice_get c.flat.types ty) refl scalar
    where
      by : (shape : Option Ty) → slice_get c.flat.types ty ≡ shape → IsScalar shape → NegationFollows ty (λ d o used. negate c.start d ty o used label)
      by (Some (Whole kind)) e h = subst (λ t. NegationFollows t (λ d o used. negate c.start d t o used label)) (sym (set.whole ty kind e)) (whole_negated kind label)
      by (Some (Pointer to)) e h =
          subst (λ small. NegationFollows ty (λ d o used. negate_by small d o used label)) (sym (pointer_not_small c set ty to e)) (pointer_negated ty to e label)
      by (Some (Array of count)) e h = absurd h
      by (Some (Struct members)) e h = absurd h
      by None e h = absurd h
