-- The cases of the induction over expressions that make a value of others: each is as the induction has it where its
-- parts are.
use Rattle.std.proofs.Common.{◌≡◌, ℕ, ◌+◌, ℤ, pos, List, ◌++◌, length, refl, sym, ap, subst, arith, length-append, Bool, true, false, Option, Some, None}
use Rattle.std.specs.Prelude.{is_some, slice_get, IsTrue, if◌then◌else◌}
use Rattle.porch_types.specs.declared.shapes.Kind.{Kind}
use Rattle.porch_types.specs.declared.shapes.Kind.TheVariants.{Int}
use Rattle.porch_types.specs.declared.shapes.Ty.{Ty}
use Rattle.porch_types.specs.declared.shapes.Ty.TheVariants.{Whole, Pointer, Array, Struct}
use Rattle.porch_types.specs.Kinds.{kind_number}
use Rattle.porch_types.specs.LeafTypes.{IsScalar}
use Rattle.porch_values.specs.Integers.{in_range}
use Rattle.porch_objects.specs.Store.{of_call, Value, number, null, pointer, past, indeterminate, Object, seen, leaf_at}
use Rattle.porch_objects.specs.Meaning.{Progress}
use Rattle.porch_flat.specs.declared.flat.Operand.{Operand}
use Rattle.porch_flat.specs.declared.flat.Operand.TheVariants.{Var, Constant}
use Rattle.porch_abstract.specs.whole.Machine.{constant_of}
use Rattle.porch_typed.specs.Mirror.{Expression, Steps, Program, constant, null_pointer, read, variable, row, isnt, no_steps, with_step}
use Rattle.porch_mean.specs.Outcome.{Outcome, Went, Calls, and_then, with_result, with_truth, use_truth}
use Rattle.porch_mean.specs.Expression.{value, value_behind}
use Rattle.porch_lowering.specs.Code.{InUse, Coder, hold}
use Rattle.porch_lowering.specs.Values.{INT, Accepts, no_constant, type_held, held_type, held_as, may_lack, operand_or, atom_of}
use Rattle.porch_lowering.specs.Operators.{right_accepts, next_of, negate}
use Rattle.porch_lowering.specs.Expression.{begins_in_place, first_accepts, if_in_place, code, steps_code}
use Rattle.porch_sound.specs.Typing.{StoreTyping}
use Rattle.porch_lowered.proofs.Follows.{follows_from, follows_is}
use Rattle.porch_lowered.proofs.States.{front_stands, back_stands, load_named}
use Rattle.porch_lowered.proofs.Growing.{code_grows}
use Rattle.porch_lowered.proofs.SameLeaf.{seen_twice}
use Rattle.porch_lowered.proofs.Numbers.{narrow_fits}
use Rattle.porch_lowered.proofs.Codes.{Context, at_most_left, at_most_right, commands, here, IsReady, Arrives, arrives_from, Codes, Evaluates, IsPresent}
use Rattle.porch_lowered.proofs.Holding.{IsSetting}
use Rattle.porch_lowered.proofs.Operands.{IsSteady}
use Rattle.porch_lowered.proofs.Held.{InPlace, IsStrictAt, IfHeld, Nothing, carries_nothing, hold_then, use_now}
use Rattle.porch_lowered.proofs.Forms.{constants}
use Rattle.porch_lowered.proofs.OperatorCode.{never_constant}
use Rattle.porch_lowered.proofs.Branches.{AreHomes}
use Rattle.porch_lowered.proofs.Strict.{strict_in_front}
use Rattle.porch_lowered.proofs.Present.{went_present, used_present, behind_present, row_present}
use Rattle.porch_lowered.proofs.Rows.{held_accepted, AreApplied, steps_follow}
use Rattle.porch_lowered.proofs.Tests.{truth_strictly}
use Rattle.porch_lowered.proofs.Logic.{held_kind}
use Rattle.porch_lowered.proofs.Atoms.{variable_in_place, constant_in_place, constant_is, null_is}
use Rattle.porch_lowered.proofs.Variables.{variables_code}
use Rattle.porch_lowered.proofs.Forming.{operand_follows}
use Rattle.porch_lowered.proofs.Negations.{denied, negation_follows}
use Rattle.porch_lowered.proofs.Lowered.{IsThereUnless, IsAcceptedIn, accepted, Goes, means, IsLowered, AreStepsLowered, to_temporary}

accepted_if : (accepts : Accepts) (b : Bool) (o : Option Operand) → IsAcceptedIn accepts o → IsAcceptedIn accepts (if_in_place b o)
accepted_if accepts true o h = h
accepted_if accepts false o h = tt

pub in_place_if : (c : Context) (ty : ℕ) (b : Bool) (o : Option Operand) (value : Progress → Outcome) → InPlace c ty o value → InPlace c ty (if_in_place b o) value
in_place_if c ty true o value h = h
in_place_if c ty false o value h = tt

module _ (c : Context) where
  -- a value that may go anywhere, and of which more is known
  pub known_of : (Fit : InUse → Option ℕ → Type 0) (Is : Value → Progress → Type 0) (ty : ℕ) (value : Progress → Outcome) (coder : Coder) → Codes c ty value coder
      → ((s u : Progress) (v : Value) → value s ≡ Went v u → Is v u) → Evaluates c Fit Is ty value coder
  known_of Fit Is ty value coder codes known to used label place made s ts ready fits may room stands =
      follows_is c.flat c.under c.n (value s) (here c s ts place) s.marks _ _ (codes to used label place made s ts ready may room stands) (λ v u e far. (far, known s u v e))

module _ (c : Context) (set : IsSetting c) (homes : AreHomes (commands c)) (p : Program) (same : c.flat.types ≡ p.types) (enter : Calls) where
  -- a scalar is held as it is
  pub held_scalar : (ty : ℕ) → IsScalar (slice_get c.flat.types ty) → held_type p (Some ty) ≡ ty
  held_scalar ty scalar = subst (λ types. held_as p (slice_get types ty) ty ≡ ty) same (by (slice_get c.flat.types ty) scalar)
    where
      by : (shape : Option Ty) → IsScalar shape → held_as p shape ty ≡ ty
      by (Some (Whole kind)) h = refl
      by (Some (Pointer to)) h = refl
      by (Some (Array of count)) h = absurd h
      by (Some (Struct members)) h = absurd h
      by None h = absurd h

  pub constant_lowered : (kind : Kind) (z : ℤ) → IsTrue (in_range kind 32 z) → IsLowered c p enter (constant kind z)
  constant_lowered kind z range =
      record {
        evaluates =
            subst (λ ty. Evaluates c (Goes c true) (IsThereUnless false) ty (λ s. means c p enter (constant kind z) s) (code p c.start (constant kind z)))
            (sym (held_kind c set homes p enter same kind))
            (known_of c (Goes c true) (IsThereUnless false) (kind_number kind) (λ s. Went (number z) s) (code p c.start (constant kind z))
            (constants c (kind_number kind) z (number z) (ap (λ shape. constant_of shape z) (set.kinds kind)) (λ go. refl)
            (λ made. (kind, set.kinds kind, narrow_fits kind c.under.widths z range)))
            (λ s u v e there. went_present (number z) s v u refl (λ e. cc) e));
        in_place = λ accepts. by (accepts z);
      }
    where
      by : (b : Bool) → InPlace c (type_held p (constant kind z)) (operand_or (if b then Some (Constant z) else None) None)
          (λ s. means c p enter (constant kind z) s)
      by true =
          subst (λ ty. InPlace c ty (Some (Constant z)) (λ s. means c p enter (constant kind z) s)) (sym (held_kind c set homes p enter same kind))
          (constant_in_place c set p enter (constant kind z) (kind_number kind) z (constant_is c set p enter kind z range))
      by false = tt

  pub null_lowered : (ty to : ℕ) → slice_get c.flat.types ty ≡ Some (Pointer to) → IsLowered c p enter (null_pointer ty)
  null_lowered ty to shape =
      record {
        evaluates =
            subst (λ t. Evaluates c (Goes c true) (IsThereUnless false) t (λ s. means c p enter (null_pointer ty) s) (code p c.start (null_pointer ty))) (sym held)
            (known_of c (Goes c true) (IsThereUnless false) ty (λ s. Went null s) (code p c.start (null_pointer ty))
            (constants c ty (pos 0) null (ap (λ shape. constant_of shape (pos 0)) shape) (λ go. refl) (λ made. (to, shape)))
            (λ s u v e there. went_present null s v u refl (λ e. cc) e));
        in_place = λ accepts. by (accepts (pos 0));
      }
    where
      held : held_type p (Some ty) ≡ ty
      held = held_scalar ty (subst (λ shape. IsScalar shape) (sym shape) tt)

      by : (b : Bool) → InPlace c (type_held p (null_pointer ty)) (operand_or (if b then Some (Constant (pos 0)) else None) None)
          (λ s. means c p enter (null_pointer ty) s)
      by true =
          subst (λ t. InPlace c t (Some (Constant (pos 0))) (λ s. means c p enter (null_pointer ty) s)) (sym held)
          (constant_in_place c set p enter (null_pointer ty) ty (pos 0) (null_is c set p enter ty to shape))
      by false = tt

  pub variable_lowered : (ty v : ℕ) → slice_get c.variables v ≡ Some ty → IsScalar (slice_get c.flat.types ty) → IsLowered c p enter (read ty (variable v))
  variable_lowered ty v declared scalar =
      record {
        evaluates =
            subst (λ t. Evaluates c (Goes c true) (IsThereUnless false) t (λ s. means c p enter (read ty (variable v)) s) (code p c.start (read ty (variable v)))) (sym (held_scalar ty scalar))
            (λ to used label place made s ts ready fits may room stands.
            (let is = ap (λ r. with_result r s (λ v s. Went v s)) (load_named s.store c.call v) in
            rw is
            (follows_is c.flat c.under c.n (use_now (leaf_at s.store (of_call c.call v) 0) s) (here c s ts place) s.marks _ _
            (variables_code c set ty v declared scalar to used label place made s ts ready may room stands)
            (λ w u e far. (far, λ there. used_present (seen s.store (leaf_at s.store (of_call c.call v) 0)) s w u (seen_twice s.store (leaf_at s.store (of_call c.call v) 0)) e)))));
        in_place = λ accepts.
            subst (λ t. InPlace c t (Some (Var v)) (λ s. means c p enter (read ty (variable v)) s)) (sym (held_scalar ty scalar))
            (variable_in_place c set p enter ty v declared scalar);
      }

  -- the first operand of a row may be used before the second one, which stands in place too
  row_strict : (steps : Steps) (o : Option Operand) (made : StoreTyping) (s : Progress) (ts : List Object) (used : InUse) → IsReady c made s ts → (steps ≡ no_steps → ⊥)
      → AreStepsLowered c p enter steps
      → IsStrictAt c (if_in_place (begins_in_place steps) o) (λ a s. value_behind p c.under enter c.call steps a s) s
  row_strict no_steps o made s ts used ready some lowered = absurd (some refl)
  row_strict (with_step op e steps) o made s ts used ready some lowered =
      by (atom_of (right_accepts op) e) (lowered.0.in_place (right_accepts op)) o
    where
      by : (atom : Option Operand) → InPlace c (type_held p e) atom (λ s. means c p enter e s) → (o : Option Operand)
          → IsStrictAt c (if_in_place (is_some atom) o) (λ a s. value_behind p c.under enter c.call (with_step op e steps) a s) s
      by None stands o = tt
      by (Some x) stands None = tt
      by (Some x) stands (Some o) =
          let there = stands made s ts used ready in
          λ v. strict_in_front p c.under op (λ s. means c p enter e s) there.0 (λ x s. value_behind p c.under enter c.call steps x s) s there.3 v

  pub row_lowered : (e : Expression) (steps : Steps) (ty : ℕ) → type_held p (row e steps) ≡ ty → IsLowered c p enter e → (steps ≡ no_steps → ⊥)
      → AreStepsLowered c p enter steps → AreApplied c set p same enter steps (type_held p e) ty → IsLowered c p enter (row e steps)
  row_lowered e steps ty held lowered some steps_lowered applied =
      record {
        evaluates = subst (λ t. Evaluates c (Goes c true) (IsThereUnless false) t (λ s. means c p enter (row e steps) s) (code p c.start (row e steps))) (sym held) follows;
        in_place = λ accepts. tt;
      }
    where
      follows : Evaluates c (Goes c true) (IsThereUnless false) ty (λ s. means c p enter (row e steps) s) (code p c.start (row e steps))
      follows to used label place made s ts ready fits may room stands =
          let own = type_held p e in
          let first = first_accepts steps in
          let o = if_in_place (begins_in_place steps) (atom_of first e) in
          let go = λ (a : Value) (s : Progress). value_behind p c.under enter c.call steps a s in
          let x = hold o (next_of c.start own used) own (code p c.start e) used label in
          let y = steps_code p c.start steps x.operand own used to x.used x.code.label in
          let middle = place + length x.code.commands in
          let end : middle + length y.commands ≡ place + length (x.code.commands ++ y.commands) = simp length-append (omega arith) in
          follows_is c.flat c.under c.n (and_then (means c p enter e s) go) (here c s ts place) s.marks _ _
          (hold_then c set own o (IsThereUnless (may_lack e)) (Nothing c) (λ s. means c p enter e s) (code p c.start e) go (to_temporary c p enter e lowered) (code_grows p c.start e)
          (in_place_if c own (begins_in_place steps) (atom_of first e) (λ s. means c p enter e s) (lowered.in_place first)) used label place made s ts
          (Arrives c ty made to used ts (here c s ts place) s.marks (place + length (x.code.commands ++ y.commands))) ready
          (row_strict steps (atom_of first e) made s ts used ready some steps_lowered) (carries_nothing c o own made used s ts)
          (λ t. at_most_left (x.code.most t) (y.most t) (c.pools t) (room t))
          (front_stands (commands c) place x.code.commands y.commands stands)
          (λ v u h other is.
          follows_from c.flat c.under c.n (value_behind p c.under enter c.call steps v u) (here c s ts place) (here c u h.temporaries middle) s.marks u.marks
          (Arrives c ty made to used ts (here c s ts place) s.marks (place + length (x.code.commands ++ y.commands)))
          (Arrives c ty h.later to used h.temporaries (here c u h.temporaries middle) u.marks (middle + length y.commands)) h.onward
          (λ w u' far.
          rw (← end)
          (arrives_from c ty made h.later to used ts h.temporaries (here c s ts place) (here c u h.temporaries middle) s.marks u.marks (middle + length y.commands) w u'
          h.adds h.onward h.kept far))
          (steps_follow c set p same enter steps own ty some steps_lowered applied x.operand v used x.used to x.code.label middle h.later u h.temporaries h.ready
          (held_accepted first o (next_of c.start own used) own (code p c.start e) used label (accepted_if first (begins_in_place steps) (atom_of first e) (accepted first e)))
          h.operand h.value
          (λ not_there.
          (subst (λ b. IfHeld c (if_in_place b (atom_of first e)) (IsThereUnless (may_lack e) v u × IsSteady c own x.used h.temporaries x.operand v)) not_there is).1)
          h.more may
          (λ t. at_most_right (x.code.most t) (y.most t) (c.pools t) (room t))
          (back_stands (commands c) place x.code.commands y.commands stands))))
          (λ v u went far. (far, λ there. behind_present p c.under enter c.call (means c p enter e s) go v u went (λ a t is. row_present p c.under enter c.call steps a t v u some is)))

  -- `!`
  pub isnt_lowered : (e : Expression) → IsLowered c p enter e → IsScalar (slice_get c.flat.types (type_held p e)) → IsLowered c p enter (isnt e)
  isnt_lowered e lowered scalar =
      record {
        evaluates =
            subst (λ ty. Evaluates c (Goes c true) (IsThereUnless false) ty (λ s. means c p enter (isnt e) s) (code p c.start (isnt e))) (sym (held_kind c set homes p enter same Int))
            (operand_follows c set p enter no_constant e INT (λ v s. use_truth v s denied) (λ d o used label. negate c.start d (type_held p e) o used label) lowered
            (truth_strictly denied)
            (λ d o v used label place made s ts fit ready operand of may room stands.
            negation_follows c set (type_held p e) scalar label d o v used place made s ts (never_constant o fit) ready operand of may room stands)
            (IsThereUnless false)
            (λ s u v went there. behind_present p c.under enter c.call (means c p enter e s) (λ v s. use_truth v s denied) v u went (λ x t is. denied_present (seen t.store x) t v u is))
            (code p c.start (isnt e)) (code_grows p c.start (isnt e)) (λ d used label. refl) (λ used label. refl));
        in_place = λ accepts. tt;
      }
    where
      denied_present : (x : Value) (s : Progress) (v : Value) (u : Progress) → with_truth x s denied ≡ Went v u → IsPresent v u
      denied_present (number z) s v u e = went_present _ s v u refl (λ e. cc) e
      denied_present null s v u e = went_present _ s v u refl (λ e. cc) e
      denied_present (pointer home leaf) s v u e = went_present _ s v u refl (λ e. cc) e
      denied_present (past home leaf until) s v u e = went_present _ s v u refl (λ e. cc) e
      denied_present indeterminate s v u e = cc
