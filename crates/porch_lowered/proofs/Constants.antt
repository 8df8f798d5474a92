-- Conversions, as the induction has them: of constants, of what has the kind already, and of all else.
use Rattle.std.proofs.Common.{◌≡◌, ◌≤◌, ℕ, ◌+◌, ℤ, pos, List, [], ◌∷◌, ◌++◌, length, refl, sym, ap, subst, ◌∙◌, inl, inr, arith, length-append, Bool, true, false, Option, Some, None}
use Rattle.std.proofs.lemmas.Bool.Decides.{eqb_tells}
use Rattle.std.specs.Prelude.{not, ◌||◌, nat_eq, slice_get, IsTrue, if◌then◌else◌}
use Rattle.porch_types.specs.declared.shapes.Kind.{Kind}
use Rattle.porch_types.specs.declared.shapes.Ty.TheVariants.{Whole, Pointer}
use Rattle.porch_types.specs.Kinds.{kind_number}
use Rattle.porch_values.specs.Integers.{in_range, converted}
use Rattle.porch_objects.specs.Store.{Value, number, null, pointer, past, indeterminate, Object, seen}
use Rattle.porch_objects.specs.Meaning.{Progress}
use Rattle.porch_flat.specs.declared.flat.Operand.TheVariants.{Var, Constant}
use Rattle.porch_flat.specs.declared.whole.Command.TheVariants as command
use Rattle.porch_abstract.specs.whole.Machine.{constant_of as constant_in}
use Rattle.porch_typed.specs.Mirror as tree
use Rattle.porch_typed.specs.Mirror.{Expression, Program, Function}
use Rattle.porch_typed.specs.Typed.{type_of_kind, HasType}
use Rattle.porch_mean.specs.Outcome.{Outcome, Went, Calls, and_then, with_result, with_number, with_determinate, use_value}
use Rattle.porch_mean.specs.Operators.{as_value}
use Rattle.porch_lowering.specs.Code.{InUse}
use Rattle.porch_lowering.specs.Values.{no_constant, type_held, may_lack, only, only_in, constant_of, variable_read_as, Accepts, constant_operand, operand_or, atom_of}
use Rattle.porch_lowering.specs.Expression.{writes_last, converted_already, convert_to, code}
use Rattle.porch_sound.specs.Typing.{StoreTyping}
use Rattle.porch_lowered.proofs.Temporaries.{same_number}
use Rattle.porch_lowered.proofs.Follows.{follows_is, follows_then}
use Rattle.porch_lowered.proofs.States.{Stands, front_stands, back_stands}
use Rattle.porch_lowered.proofs.Growing.{already_grows, code_grows}
use Rattle.porch_lowered.proofs.Codes.{Context, commands, here, IsOf, Follow, IsReady, MayGo, Arrives, IsTaken, Evaluates}
use Rattle.porch_lowered.proofs.Holding.{IsSetting, kept_types, evaluates_both}
use Rattle.porch_lowered.proofs.Conversions.{IsNumber}
use Rattle.porch_lowered.proofs.Operate.{InRange, is_number}
use Rattle.porch_lowered.proofs.Held.{InPlace}
use Rattle.porch_lowered.proofs.Forms.{constants}
use Rattle.porch_lowered.proofs.Branches.{AreHomes}
use Rattle.porch_lowered.proofs.Applied.{kind_type}
use Rattle.porch_lowered.proofs.Atoms.{IsConstant, constant_in_place, constant_is, null_is, converted_is, converted_in_place}
use Rattle.porch_lowered.proofs.Present.{went_present}
use Rattle.porch_lowered.proofs.Converted.{converts_to}
use Rattle.porch_lowered.proofs.Logic.{held_kind}
use Rattle.porch_lowered.proofs.Located.{used_there}
use Rattle.porch_lowered.proofs.Cases.{known_of}
use Rattle.porch_lowered.proofs.MoreCases.{converted_lowered, staying_lowered}
use Rattle.porch_lowered.proofs.Lowered.{IsThereUnless, Goes, writes_there, means, IsLowered}

-- a constant that a conversion leaves as it is
left_by : (b : Bool) (y z : ℤ) → only b y ≡ Some z → (b ≡ true) × (y ≡ z)
left_by true y z e = (refl, cc)
left_by false y z e = cc

left_as : (kind : Kind) (found : Option ℤ) (z : ℤ) → only_in kind found ≡ Some z → (found ≡ Some z) × IsTrue (in_range kind 32 z)
left_as kind None z e = cc
left_as kind (Some y) z e =
    let both = left_by (in_range kind 32 y) y z e in
    (ap (λ y. Some y) both.1, subst (λ y. in_range kind 32 y ≡ true) both.1 both.0)

some_same : (a b : ℕ) → Some a ≡ Some b → a ≡ b
some_same a b e = cc

some_number : (a b : ℤ) → Some a ≡ Some b → a ≡ b
some_number a b e = cc

module _ (c : Context) (set : IsSetting c) (p : Program) (f : Function) (same : c.flat.types ≡ p.types) (enter : Calls) where
  -- what is taken for a constant is one
  pub constants_are : (e : Expression) (ty : ℕ) (z : ℤ) → HasType p f e (Some ty) → constant_of e ≡ Some z → IsConstant c set p enter e ty z
  constants_are (tree.constant kind y) ty z h e =
      let value = some_number y z e in
      let is : kind_number kind ≡ ty = kind_type kind ∙ sym (some_same ty (type_of_kind kind) h.0) in
      subst (λ ty. IsConstant c set p enter (tree.constant kind y) ty z) is
      (subst (λ z. IsConstant c set p enter (tree.constant kind y) (kind_number kind) z) value (constant_is c set p enter kind y h.1))
  constants_are (tree.null_pointer t) ty z h e =
      let value = some_number (pos 0) z e in
      let shape = subst (λ types. slice_get types t ≡ Some (Pointer h.1.0)) (sym same) h.1.1 in
      subst (λ ty. IsConstant c set p enter (tree.null_pointer t) ty z) (sym (some_same ty t h.0))
      (subst (λ z. IsConstant c set p enter (tree.null_pointer t) t z) value (null_is c set p enter t h.1.0 shape))
  constants_are (tree.conversion kind e) ty z h is =
      let found = left_as kind (constant_of e) z is in
      let own = h.1.0 in
      let from = h.1.1.0 in
      let shape = subst (λ types. slice_get types own ≡ Some (Whole from)) (sym same) h.1.1.1 in
      let inner = subst (λ ty. IsConstant c set p enter e ty z) (set.whole own from shape) (constants_are e own z h.1.2 found.0) in
      subst (λ ty. IsConstant c set p enter (tree.conversion kind e) ty z) (kind_type kind ∙ sym (some_same ty (type_of_kind kind) h.0))
      (converted_is c set p enter kind from e z inner found.1)
  constants_are (tree.read t place) ty z h e = cc
  constants_are (tree.whole t place) ty z h e = cc
  constants_are (tree.address t place) ty z h e = cc
  constants_are (tree.first t place) ty z h e = cc
  constants_are (tree.row a steps) ty z h e = cc
  constants_are (tree.all_of a es) ty z h e = cc
  constants_are (tree.any_of a es) ty z h e = cc
  constants_are (tree.unary op kind a) ty z h e = cc
  constants_are (tree.isnt a) ty z h e = cc
  constants_are (tree.choice t a x y) ty z h e = cc
  constants_are (tree.sequence a es) ty z h e = cc
  constants_are (tree.assign t place a) ty z h e = cc
  constants_are (tree.assign_by t op place a) ty z h e = cc
  constants_are (tree.increment t before way place) ty z h e = cc
  constants_are (tree.discard a) ty z h e = cc
  constants_are (tree.member_of t leaf a) ty z h e = cc
  constants_are (tree.call function es) ty z h e = cc
  constants_are (tree.put_character a) ty z h e = cc
  constants_are (tree.put_text a) ty z h e = cc
  constants_are (tree.put_literal bs) ty z h e = cc
  constants_are (tree.print xs) ty z h e = cc
  constants_are (tree.allocate t zeroed a) ty z h e = cc
  constants_are (tree.release a) ty z h e = cc
  constants_are tree.checkpoint ty z h e = cc

module _ (c : Context) (set : IsSetting c) (homes : AreHomes (commands c)) (p : Program) (f : Function) (same : c.flat.types ≡ p.types) (enter : Calls) where
  -- a number that is used and has the kind already
  itself_by : (kind : Kind) (x : Value) (s : Progress) → IsNumber (InRange c set kind) x
      → with_determinate x s (λ v s. Went v s) ≡ with_number x s (λ z s. with_result (as_value (converted kind c.under.widths z)) s (λ v s. Went v s))
  itself_by kind (number z) s range = sym (ap (λ r. with_result (as_value r) s (λ v s. Went v s)) (set.same kind z range))
  itself_by kind null s range = absurd range
  itself_by kind (pointer home leaf) s range = absurd range
  itself_by kind (past home leaf until) s range = absurd range
  itself_by kind indeterminate s range = refl

  -- a value of the kind already that may be missing: it is used
  lacking_lowered : (kind : Kind) (e : Expression) → IsLowered c p enter e → type_held p e ≡ kind_number kind → may_lack e ≡ true
      → Evaluates c (Goes c (writes_last p e)) (IsThereUnless false) (kind_number kind) (λ s. and_then (means c p enter e s) (λ v s. converts_to c kind v s))
      (converted_already p c.start true (kind_number kind) (code p c.start e))
  lacking_lowered kind e lowered is lacks =
      evaluates_both c set (Goes c (writes_last p e)) (IsThereUnless false) (kind_number kind) (λ s. and_then (means c p enter e s) (λ v s. converts_to c kind v s))
      (converted_already p c.start true (kind_number kind) (code p c.start e)) (λ used d taken. inl taken)
      (λ d used label place made s ts ready fits may room stands. by d used label place made s ts ready fits may room stands)
      (already_grows p c.start true (kind_number kind) (code p c.start e) (code_grows p c.start e)) (λ used label. refl)
    where
      taken_of : (used : InUse) (d : ℕ) → Goes c (writes_last p e) used (Some d) → IsTaken c used d
      taken_of used d (inl taken) = taken
      taken_of used d (inr last) = (let wrong = sym lacks ∙ writes_there p e last in cc)

      by : (d : ℕ) (used : InUse) (label place : ℕ) (made : StoreTyping) (s : Progress) (ts : List Object) → IsReady c made s ts → Goes c (writes_last p e) used (Some d) → MayGo c (kind_number kind) (Some d)
          → ((t : ℕ) → (code p c.start e (Some d) used label).most t ≤ c.pools t)
          → Stands (commands c) place ((code p c.start e (Some d) used label).commands ++ command.Move d (Var d) ∷ [])
          → Follow c (and_then (means c p enter e s) (λ v s. converts_to c kind v s)) (here c s ts place) s.marks
          (λ v u. Arrives c (kind_number kind) made (Some d) used ts (here c s ts place) s.marks (place + length ((code p c.start e (Some d) used label).commands ++ command.Move d (Var d) ∷ [])) v u
          × IsThereUnless false v u)
      by d used label place made s ts ready fits may room stands =
          let taken = taken_of used d fits in
          let x = code p c.start e (Some d) used label in
          let m = place + length x.commands in
          let self = back_stands (commands c) place x.commands (command.Move d (Var d) ∷ []) stands in
          let end : m + 1 ≡ place + length (x.commands ++ command.Move d (Var d) ∷ []) = simp length-append (omega arith) in
          let grown = code_grows p c.start e (Some d) used label taken.is_used.ty in
          let inside = room taken.is_used.ty in
          let less = taken.is_used.less in
          let evaluates = subst (λ ty. Evaluates c (Goes c (writes_last p e)) (IsThereUnless (may_lack e)) ty (λ s. means c p enter e s) (code p c.start e)) is lowered.evaluates in
          follows_then c.flat c.under c.n (means c p enter e s) (λ v s. converts_to c kind v s) (here c s ts place) s.marks _ _
          (evaluates (Some d) used label place made s ts ready (inl taken) may room (front_stands (commands c) place x.commands (command.Move d (Var d) ∷ []) stands))
          (λ v u both.
          (let number_is = is_number c set both.0.later (kind_number kind) kind (seen u.store v) (set.kinds kind)
          ((kept_types c set both.0.later u both.0.temporaries both.0.ready).values (kind_number kind) v both.0.value) in
          rw (← end)
          (subst
          (λ out. Follow c out (here c s ts place) s.marks
          (λ w z. Arrives c (kind_number kind) made (Some d) used ts (here c s ts place) s.marks (m + 1) w z × IsThereUnless false w z))
          (itself_by kind (seen u.store v) u number_is)
          (follows_is c.flat c.under c.n (use_value v u (λ v s. Went v s)) (here c s ts place) s.marks _ _
          (used_there c set (kind_number kind) s u ts place m d v used made taken both.0 (omega (arith, grown, inside, less)) self.0)
          (λ w z went far. (far.0, λ there. far.1))))))

  unread : (kind : Kind) (b : Bool) (value : Progress → Outcome) → InPlace c (kind_number kind) (operand_or None (if b then None else None)) value
  unread kind true value = tt
  unread kind false value = tt

  -- a variable of the kind, which a conversion leaves as it is
  reads : (kind : Kind) (e : Expression) (ty : ℕ) → HasType p f e (Some ty) → c.variables ≡ f.variables
      → InPlace c (kind_number kind) (operand_or None (variable_read_as (kind_number kind) e)) (λ s. means c p enter (tree.conversion kind e) s)
  reads kind (tree.read own (tree.variable v)) ty h variables =
      elim (eqb_tells own (kind_number kind)) [
        | inl w ↦
            (let declared : slice_get c.variables v ≡ Some (kind_number kind) = ap (λ tys. slice_get tys v) variables ∙ h.2 ∙ ap (λ t. Some t) w.1 in
            rw w.0
            (subst (λ t. InPlace c (kind_number kind) (Some (Var v)) (λ s. means c p enter (tree.conversion kind (tree.read t (tree.variable v))) s)) (sym w.1)
            (converted_in_place c set p enter kind v declared)))
        | inr w ↦ rw w.0 tt
      ]
  reads kind (tree.read own (tree.global g)) ty h variables = unread kind (nat_eq own (kind_number kind)) _
  reads kind (tree.read own (tree.pointee a)) ty h variables = unread kind (nat_eq own (kind_number kind)) _
  reads kind (tree.read own (tree.member leaf place)) ty h variables = unread kind (nat_eq own (kind_number kind)) _
  reads kind (tree.constant k y) ty h variables = tt
  reads kind (tree.null_pointer t) ty h variables = tt
  reads kind (tree.whole t place) ty h variables = tt
  reads kind (tree.address t place) ty h variables = tt
  reads kind (tree.first t place) ty h variables = tt
  reads kind (tree.row a steps) ty h variables = tt
  reads kind (tree.all_of a es) ty h variables = tt
  reads kind (tree.any_of a es) ty h variables = tt
  reads kind (tree.unary op kind' a) ty h variables = tt
  reads kind (tree.isnt a) ty h variables = tt
  reads kind (tree.choice t a x y) ty h variables = tt
  reads kind (tree.sequence a es) ty h variables = tt
  reads kind (tree.assign t place a) ty h variables = tt
  reads kind (tree.assign_by t op place a) ty h variables = tt
  reads kind (tree.increment t before way place) ty h variables = tt
  reads kind (tree.conversion kind' a) ty h variables = tt
  reads kind (tree.discard a) ty h variables = tt
  reads kind (tree.member_of t leaf a) ty h variables = tt
  reads kind (tree.call function es) ty h variables = tt
  reads kind (tree.put_character a) ty h variables = tt
  reads kind (tree.put_text a) ty h variables = tt
  reads kind (tree.put_literal bs) ty h variables = tt
  reads kind (tree.print xs) ty h variables = tt
  reads kind (tree.allocate t zeroed a) ty h variables = tt
  reads kind (tree.release a) ty h variables = tt
  reads kind tree.checkpoint ty h variables = tt

  -- a conversion, as the induction has it
  module _ (kind : Kind) (e : Expression) (h : HasType p f (tree.conversion kind e) (Some (kind_number kind))) (variables : c.variables ≡ f.variables) (lowered : IsLowered c p enter e) where
    abbrev K : ℕ
    K = kind_number kind

    abbrev T : ℕ
    T = type_held p e

    abbrev asks : Progress → Outcome
    asks s = means c p enter (tree.conversion kind e) s

    -- what stands in place
    stands_or : (accepts : Accepts) (found : Option ℤ) → constant_of (tree.conversion kind e) ≡ found
        → InPlace c K (operand_or (constant_operand accepts found) (variable_read_as K e)) asks
    stands_or accepts None is = reads kind e h.1.0 h.1.2 variables
    stands_or accepts (Some z) is = by (accepts z)
      where
        by : (b : Bool) → InPlace c K (operand_or (if b then Some (Constant z) else None) (variable_read_as K e)) asks
        by true = constant_in_place c set p enter (tree.conversion kind e) K z (constants_are c set p f same enter (tree.conversion kind e) K z h is)
        by false = reads kind e h.1.0 h.1.2 variables

    -- a constant
    constant_goes : (z : ℤ) → constant_of (tree.conversion kind e) ≡ Some z
        → Evaluates c (Goes c (writes_last p (tree.conversion kind e))) (IsThereUnless false) K asks (convert_to p c.start K (Some z) T (may_lack e) (atom_of no_constant e) (code p c.start e))
    constant_goes z is =
        let x = constants_are c set p f same enter (tree.conversion kind e) K z h is in
        let operand : constant_in (slice_get c.flat.types K) z ≡ number z = ap (λ shape. constant_in shape z) (set.kinds kind) in
        let value : x.value ≡ number z = sym x.operand ∙ operand in
        subst
        (λ asked. Evaluates c (Goes c (writes_last p (tree.conversion kind e))) (IsThereUnless false) K asked (convert_to p c.start K (Some z) T (may_lack e) (atom_of no_constant e) (code p c.start e)))
        (λ i s. sym (x.means_it s ∙ ap (λ v. Went v s) value) i)
        (known_of c (Goes c (writes_last p (tree.conversion kind e))) (IsThereUnless false) K (λ s. Went (number z) s)
        (convert_to p c.start K (Some z) T (may_lack e) (atom_of no_constant e) (code p c.start e))
        (constants c K z (number z) operand (λ go. refl) (λ made. subst (λ v. IsOf c made K v) value (x.of made)))
        (λ s u v went there. went_present (number z) s v u refl (λ e. cc) went))

    -- of the kind already, where it may be missing
    lacks_stays : T ≡ K → may_lack e ≡ true
        → Evaluates c (Goes c (writes_last p e)) (IsThereUnless false) K asks (convert_to p c.start K None K true (atom_of no_constant e) (code p c.start e))
    lacks_stays is lacks to used label place made s ts ready fits may room stands =
        let one = same_number K in
        rw one (lacking_lowered kind e lowered is lacks to used label place made s ts ready fits may (rw one at room) (rw one at stands))

    -- of the kind already
    stays_of : T ≡ K → (lacks : Bool) → may_lack e ≡ lacks
        → Evaluates c (Goes c (writes_last p e)) (IsThereUnless false) K asks (convert_to p c.start K None K lacks (atom_of no_constant e) (code p c.start e))
    stays_of is false there = staying_lowered c set homes p same enter kind e lowered is there
    stays_of is true lacks = lacks_stays is lacks

    -- what is no constant
    value_goes : Evaluates c (Goes c (writes_last p (tree.conversion kind e))) (IsThereUnless false) K asks (convert_to p c.start K None T (may_lack e) (atom_of no_constant e) (code p c.start e))
    value_goes =
        elim (eqb_tells T K) [
          | inl w ↦
              subst
              (λ t. Evaluates c (Goes c (not (nat_eq t K) || writes_last p e)) (IsThereUnless false) K asks (convert_to p c.start K None t (may_lack e) (atom_of no_constant e) (code p c.start e)))
              (sym w.1)
              (subst
              (λ b. Evaluates c (Goes c (not b || writes_last p e)) (IsThereUnless false) K asks (convert_to p c.start K None K (may_lack e) (atom_of no_constant e) (code p c.start e)))
              (sym (same_number K)) (stays_of w.1 (may_lack e) refl))
          | inr w ↦
              subst
              (λ b. Evaluates c (Goes c (not b || writes_last p e)) (IsThereUnless false) K asks (convert_to p c.start K None T (may_lack e) (atom_of no_constant e) (code p c.start e)))
              (sym w.0) (converted_lowered c set homes p same enter kind e lowered w.0)
        ]

    goes_by : (found : Option ℤ) → constant_of (tree.conversion kind e) ≡ found
        → Evaluates c (Goes c (writes_last p (tree.conversion kind e))) (IsThereUnless false) K asks (convert_to p c.start K found T (may_lack e) (atom_of no_constant e) (code p c.start e))
    goes_by None is = value_goes
    goes_by (Some z) is = constant_goes z is

    pub conversion_lowered : IsLowered c p enter (tree.conversion kind e)
    conversion_lowered =
        record {
          evaluates =
              subst (λ t. Evaluates c (Goes c (writes_last p (tree.conversion kind e))) (IsThereUnless false) t asks (code p c.start (tree.conversion kind e)))
              (sym (held_kind c set homes p enter same kind)) (goes_by (constant_of (tree.conversion kind e)) refl);
          in_place = λ accepts.
              subst (λ t. InPlace c t (atom_of accepts (tree.conversion kind e)) asks) (sym (held_kind c set homes p enter same kind))
              (stands_or accepts (constant_of (tree.conversion kind e)) refl);
        }
