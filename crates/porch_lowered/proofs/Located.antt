-- Places, as the induction has them: the pointer to a place, or to a subobject of it, goes to a variable.
use Rattle.std.proofs.Common.{◌≡◌, ◌<◌, ◌≤◌, ℕ, zero, suc, ◌+◌, ◌*◌, ℤ, List, [], ◌∷◌, ◌++◌, length, refl, sym, ap, subst, ◌∙◌, ◌⊎◌, inl, inr, arith, length-append, Bool, true, false, Option, Some, None}
use Rattle.std.specs.Prelude.{is_some, slice_get, take, unwrap_or, if◌then◌else◌, Result, Ok}
use Rattle.porch_types.specs.declared.shapes.Ty.{Ty}
use Rattle.porch_types.specs.declared.shapes.Ty.TheVariants.{Pointer, Struct}
use Rattle.porch_types.specs.Leaves.{leaves_of, leaves_together}
use Rattle.porch_types.specs.Rows.{elements_of_root, member_of_struct, IsSubobject}
use Rattle.porch_values.specs.declared.acts.Act.{Act}
use Rattle.porch_values.specs.declared.acts.Act.TheVariants.{Indeterminate}
use Rattle.porch_values.specs.declared.widths.Widths.{Widths}
use Rattle.porch_objects.specs.Store.{Home, of_global, of_call, Value, number, null, pointer, past, indeterminate, Object, object_at, seen, one_of}
use Rattle.porch_objects.specs.Pointers.{if_there, if_place, member}
use Rattle.porch_objects.specs.Meaning.{Progress, Met}
use Rattle.porch_flat.specs.declared.flat.Operand.TheVariants.{Var}
use Rattle.porch_flat.specs.declared.whole.Command.{Command}
use Rattle.porch_flat.specs.declared.whole.Command.TheVariants as command
use Rattle.porch_abstract.specs.whole.Machine.{variable_of}
use Rattle.porch_typed.specs.Mirror as tree
use Rattle.porch_typed.specs.Mirror.{Expression, Place, Program}
use Rattle.porch_mean.specs.Outcome.{Outcome, Went, Calls, and_then, with_result, with_determinate, use_value}
use Rattle.porch_mean.specs.Expression.{member_at, place_of}
use Rattle.porch_lowering.specs.Code.{InUse, then_commands}
use Rattle.porch_lowering.specs.Values.{no_constant, type_held, may_lack, constant_of, variable_read, constant_operand, operand_or, atom_of}
use Rattle.porch_lowering.specs.Operators.{used_commands, commands_if}
use Rattle.porch_lowering.specs.Expression.{place_writes_last, writes_last, code, place_code}
use Rattle.porch_sound.specs.Typing.{StoreTyping, one_root, AreTyped}
use Rattle.porch_lowered.proofs.Follows.{follows_is, follows_then, ends_from}
use Rattle.porch_lowered.proofs.SameLeaf.{seen_twice, seen_or_not}
use Rattle.porch_lowered.proofs.Temporaries.{with_temporary, same_temporary}
use Rattle.porch_lowered.proofs.States.{front_stands, back_stands}
use Rattle.porch_lowered.proofs.Growing.{code_grows}
use Rattle.porch_lowered.proofs.Codes.{Context, commands, here, On, then_on, Follow, IsReady, Arrives, IsTaken, Evaluates, IsPresent}
use Rattle.porch_lowered.proofs.Holding.{IsSetting, put_temporary, temporary_value, ready_with}
use Rattle.porch_lowered.proofs.Operands.{self_goes, self_meets}
use Rattle.porch_lowered.proofs.Held.{IsStrict}
use Rattle.porch_lowered.proofs.Forms.{strict_by}
use Rattle.porch_lowered.proofs.Strict.{and_then_then}
use Rattle.porch_lowered.proofs.Present.{member_present, behind_present}
use Rattle.porch_lowered.proofs.OneOperand.{IsVariable, one_writes, members}
use Rattle.porch_lowered.proofs.Places.{Names, local_names, global_names, named_code, names_write, members_write, local_lives}
use Rattle.porch_lowered.proofs.Lowered.{IsThereUnless, Goes, writes_there, means, IsLowered, to_temporary}

-- the whole of an object is a subobject
pub whole_subobject : (types : List Ty) (ty : ℕ) → IsSubobject types ty 1 0 ty
whole_subobject types ty = (
  record { first = 0; len = 1 },
  record { is_row = elements_of_root; element = (0, omega arith, omega arith) },
)

-- a member is one
pub member_subobject : (types : List Ty) (struct ty i : ℕ) (members : List ℕ) → slice_get types struct ≡ Some (Struct members) → slice_get members i ≡ Some ty
    → IsSubobject types struct 1 (leaves_together (leaves_of types) (take i members)) ty
member_subobject types struct ty i members shape found = (
  record { first = 0 + 0 * leaves_of types struct + leaves_together (leaves_of types) (take i members); len = 1 },
  record { is_row = member_of_struct i elements_of_root (omega arith) shape found; element = (0, omega arith, grind arith) },
)

-- a value that is used, in either form
uses_now : (x : Value) (s : Progress) → with_determinate x s (λ v s. Went v s) ≡ with_result (if_there x (λ v. Ok v)) s (λ v s. Went v s)
uses_now (number z) s = refl
uses_now null s = refl
uses_now (pointer home leaf) s = refl
uses_now (past home leaf until) s = refl
uses_now indeterminate s = refl

-- a member of a member
deeper : (x : Value) (s : Progress) (leaf more : ℕ) → seen s.store x ≡ x
    → and_then (with_result (if_there x (λ p. if_place p (λ home first. let r : Result Value Act = Ok (pointer home (first + leaf)) in r))) s (λ v s. Went v s)) (λ at s. member_at at more s)
    ≡ with_result (if_there x (λ p. if_place p (λ home first. let r : Result Value Act = Ok (pointer home (first + (leaf + more))) in r))) s (λ v s. Went v s)
deeper (number z) s leaf more is = refl
deeper null s leaf more is = refl
deeper (pointer home first) s leaf more is = by (is_some (object_at s.store home)) is
  where
    by : (b : Bool) → (if b then pointer home first else indeterminate) ≡ pointer home first
        → with_result (if_there (if b then pointer home (first + leaf) else indeterminate) (λ p. if_place p (λ home first. let r : Result Value Act = Ok (pointer home (first + more)) in r))) s (λ v s. Went v s)
        ≡ Went (pointer home (first + (leaf + more))) s
    by true e = (let sum : first + leaf + more ≡ first + (leaf + more) = omega arith in ap (λ k. Went (pointer home k) s) sum)
    by false e = cc
deeper (past home first until) s leaf more is = refl
deeper indeterminate s leaf more is = refl

pub member_of_member : (at : Value) (s : Progress) (leaf more : ℕ) → and_then (member_at at leaf s) (λ at s. member_at at more s) ≡ member_at at (leaf + more) s
member_of_member at s leaf more = deeper (seen s.store at) s leaf more (seen_twice s.store at)

pub member_strictly : (leaf : ℕ) → IsStrict (λ at s. member_at at leaf s)
member_strictly leaf =
    strict_by (λ s p. if_place p (λ home first. let r : Result Value Act = Ok (pointer home (first + leaf)) in r)) (λ at s. member_at at leaf s) (λ v s. refl)

-- what stands in place is a variable where no constant may
variable_or_none : (z : Option ℤ) (v : Option ℕ) → IsVariable (operand_or (constant_operand no_constant z) v)
variable_or_none None None = tt
variable_or_none None (Some v) = tt
variable_or_none (Some z) None = tt
variable_or_none (Some z) (Some v) = tt

pub no_constants : (e : Expression) → IsVariable (atom_of no_constant e)
no_constants e = variable_or_none (constant_of e) (variable_read e)

-- the object of a global that is there
global_there : (types : List Ty) (widths : Widths) (made : StoreTyping) (tys : List ℕ) (os : List Object) (g ty : ℕ) → AreTyped types widths made tys os
    → slice_get tys g ≡ Some ty → (o : Object) × (slice_get os g ≡ Some o)
global_there types widths made [] os g ty h e = cc
global_there types widths made (t ∷ tys) [] g ty h e = absurd h
global_there types widths made (t ∷ tys) (o ∷ os) zero ty h e = (o, refl)
global_there types widths made (t ∷ tys) (o ∷ os) (suc g) ty h e = global_there types widths made tys os g ty h.2 e

module _ (c : Context) where
  -- a pointer goes to a temporary in use, or to any variable where its code writes that last
  abbrev pub GoesThere : (last : Bool) → InUse → Option ℕ → Type 0
  GoesThere last used None = ⊥
  GoesThere last used (Some d) = IsTaken c used d ⊎ (last ≡ true)

module _ (c : Context) (set : IsSetting c) where
  -- a value that went to a temporary is used there
  pub used_there : (own : ℕ) (s u : Progress) (ts : List Object) (place m d : ℕ) (v : Value) (used : InUse) (made : StoreTyping) (taken : IsTaken c used d)
      → Arrives c own made (Some d) used ts (here c s ts place) s.marks m v u → taken.is_used.index < c.pools taken.is_used.ty
      → slice_get (commands c) m ≡ Some (command.Move d (Var d))
      → Follow c (use_value v u (λ v s. Went v s)) (here c s ts place) s.marks
      (λ w z. Arrives c own made (Some d) used ts (here c s ts place) s.marks (m + 1) w z × IsPresent w z)
  used_there own s u ts place m d v used made taken far inside self = decide (seen u.store v) refl
    where
      i : ℕ
      i = taken.index

      ts1 : List Object
      ts1 = with_temporary far.temporaries i v

      ready1 : IsReady c far.later u ts1
      ready1 = ready_with c set far.later u far.temporaries i v far.ready

      value_is : variable_of d (here c u ts1 m) ≡ seen u.store v
      value_is =
          temporary_value c set far.later u ts1 m i d own v ready1 taken.number
          (same_temporary far.temporaries i v (far.ready.temporaries taken.is_used.ty taken.is_used.index i inside taken.is_used.number)) far.value

      on1 : On c (here c s ts place) s.marks (here c u ts1 m) u.marks
      on1 = rw (put_temporary c set far.later u far.temporaries m i d v far.ready taken.number) at far.onward

      Near : Value → Type 0
      Near w = Arrives c own made (Some d) used ts (here c s ts place) s.marks (m + 1) w u × IsPresent w u

      it : (w : Value) → seen u.store v ≡ w → (w ≡ indeterminate → ⊥) → seen u.store v ≡ v → Near v
      it w is there same = (
        record {
          later = far.later;
          adds = far.adds;
          temporaries = far.temporaries;
          onward =
              subst (λ x. On c (here c s ts place) s.marks x u.marks) (sym (put_temporary c set far.later u far.temporaries (m + 1) i d v far.ready taken.number))
              (then_on c (here c s ts place) (here c u ts1 m) (here c u ts1 (m + 1)) s.marks u.marks u.marks on1 (self_goes c u ts1 m d w self (value_is ∙ is) there));
          ready = far.ready;
          value = far.value;
          kept = far.kept;
        },
        (same, λ e. there (sym is ∙ same ∙ e)),
      )

      arrived_there : (w : Value) → seen u.store v ≡ w → (w ≡ indeterminate → ⊥) → Near w
      arrived_there w is there =
          elim (seen_or_not u.store v) [
            | inl same ↦ (let e : v ≡ w = sym same ∙ is in subst (λ w. Near w) e (it w is there same))
            | inr lost ↦ absurd (there (sym is ∙ lost))
          ]

      decide : (x : Value) → seen u.store v ≡ x
          → Follow c (with_determinate x u (λ v s. Went v s)) (here c s ts place) s.marks
          (λ w z. Arrives c own made (Some d) used ts (here c s ts place) s.marks (m + 1) w z × IsPresent w z)
      decide (number z) is = arrived_there (number z) is (λ e. cc)
      decide null is = arrived_there null is (λ e. cc)
      decide (pointer home leaf) is = arrived_there (pointer home leaf) is (λ e. cc)
      decide (past home leaf until) is = arrived_there (past home leaf until) is (λ e. cc)
      decide indeterminate is =
          ends_from c.flat c.under c.n (here c s ts place) (here c u ts1 m) s.marks u.marks (Met Indeterminate) u on1 (self_meets c u ts1 m d self (value_is ∙ is))

module _ (c : Context) (set : IsSetting c) (p : Program) (enter : Calls) where
  abbrev pub place_means : Place → Progress → Outcome
  place_means place s = place_of p c.under enter c.call place s

  -- the type of the pointer to a place: that of the pointer that is gone through has to be this one
  abbrev pub IsPointerFor : Place → (ty pointer_ty : ℕ) → Type 0
  IsPointerFor (tree.pointee e) ty pointer_ty = (pointer_ty ≡ type_held p e) × (slice_get c.flat.types pointer_ty ≡ Some (Pointer ty))
  IsPointerFor (tree.variable v) ty pointer_ty = slice_get c.flat.types pointer_ty ≡ Some (Pointer ty)
  IsPointerFor (tree.global g) ty pointer_ty = slice_get c.flat.types pointer_ty ≡ Some (Pointer ty)
  IsPointerFor (tree.member leaf place) ty pointer_ty = slice_get c.flat.types pointer_ty ≡ Some (Pointer ty)

  pub record IsLocated (place : Place) (ty : ℕ) : Type 0 where
    pub whole : (pointer_ty : ℕ) → IsPointerFor place ty pointer_ty
        → Evaluates c (GoesThere c (place_writes_last p place)) IsPresent pointer_ty (λ s. place_means place s) (place_code p c.start place None)
    pub inner : (pointer_ty leaf sub : ℕ) → slice_get c.flat.types pointer_ty ≡ Some (Pointer sub) → IsSubobject c.flat.types ty 1 leaf sub
        → Evaluates c (GoesThere c true) IsPresent pointer_ty (λ s. and_then (place_means place s) (λ at s. member_at at leaf s)) (place_code p c.start place (Some leaf))

  -- A place that has a name: a variable of the call, or a global.
  pub record IsNamed (home : Home) (ty : ℕ) (make : (leaf target : ℕ) → Command) : Type 0 where
    pub names : (pointer_ty leaf sub : ℕ) → slice_get c.flat.types pointer_ty ≡ Some (Pointer sub) → IsSubobject c.flat.types ty 1 leaf sub → Names c pointer_ty home leaf (make leaf)
    pub lives : (made : StoreTyping) (s : Progress) (ts : List Object) → IsReady c made s ts → (o : Object) × (object_at s.store home ≡ Some o)

  named_whole : (home : Home) (ty : ℕ) (make : (leaf target : ℕ) → Command) → IsNamed home ty make → (pointer_ty : ℕ) → slice_get c.flat.types pointer_ty ≡ Some (Pointer ty)
      → Evaluates c (GoesThere c true) IsPresent pointer_ty (λ s. Went (pointer home 0) s) (named_code c (make 0))
  named_whole home ty make named pointer_ty shape None used label place made s ts ready fits may room stands = absurd fits
  named_whole home ty make named pointer_ty shape (Some d) used label place made s ts ready fits may room stands =
      let alive = named.lives made s ts ready in (
        names_write c pointer_ty home 0 (make 0) (named.names pointer_ty 0 ty shape (whole_subobject c.flat.types ty)) d used label place made s ts ready may room stands,
        (ap (λ found. if is_some found then pointer home 0 else indeterminate) alive.1, λ e. cc),
      )

  named_inner : (home : Home) (ty : ℕ) (make : (leaf target : ℕ) → Command) → IsNamed home ty make → (pointer_ty leaf sub : ℕ) → slice_get c.flat.types pointer_ty ≡ Some (Pointer sub)
      → IsSubobject c.flat.types ty 1 leaf sub
      → Evaluates c (GoesThere c true) IsPresent pointer_ty (λ s. and_then (Went (pointer home 0) s) (λ at s. member_at at leaf s)) (named_code c (make leaf))
  named_inner home ty make named pointer_ty leaf sub shape subobject None used label place made s ts ready fits may room stands = absurd fits
  named_inner home ty make named pointer_ty leaf sub shape subobject (Some d) used label place made s ts ready fits may room stands =
      follows_is c.flat c.under c.n (and_then (Went (pointer home 0) s) (λ at s. member_at at leaf s)) (here c s ts place) s.marks _ _
      (members_write c pointer_ty home leaf (make leaf) (named.names pointer_ty leaf sub shape subobject) named.lives d used label place made s ts ready may room stands)
      (λ v u e far. (far, member_present (pointer home 0) leaf s v u e))

  -- a variable of the call
  variable_named : (v ty : ℕ) → slice_get c.variables v ≡ Some ty → IsNamed (of_call c.call v) ty (λ leaf d. command.Local d v leaf)
  variable_named v ty declared =
      record {
        names = λ pointer_ty leaf sub shape subobject.
            local_names c pointer_ty v leaf
            (λ made s ts ready.
            record {
              to = sub;
              shape = shape;
              root = one_of ty;
              here = ap (λ tys. one_root (slice_get tys v)) ready.declares ∙ ap (λ o. one_root o) declared;
              subobject = subobject;
            });
        lives = local_lives c set v ty declared;
      }

  pub variable_located : (v ty : ℕ) → slice_get c.variables v ≡ Some ty → IsLocated (tree.variable v) ty
  variable_located v ty declared =
      record {
        whole = λ pointer_ty shape. named_whole (of_call c.call v) ty (λ leaf d. command.Local d v leaf) (variable_named v ty declared) pointer_ty shape;
        inner = λ pointer_ty leaf sub shape subobject.
            named_inner (of_call c.call v) ty (λ leaf d. command.Local d v leaf) (variable_named v ty declared) pointer_ty leaf sub shape subobject;
      }

  -- a global
  global_named : (g ty : ℕ) → slice_get c.globals g ≡ Some ty → IsNamed (of_global g) ty (λ leaf d. command.GlobalA d g leaf)
  global_named g ty declared =
      record {
        names = λ pointer_ty leaf sub shape subobject.
            global_names c pointer_ty g leaf
            (λ made s ts ready.
            record {
              to = sub;
              shape = shape;
              root = one_of ty;
              here = ap (λ tys. one_root (slice_get tys g)) ready.globals ∙ ap (λ o. one_root o) declared;
              subobject = subobject;
            });
        lives = λ made s ts ready.
            global_there c.flat.types c.under.widths made made.globals s.store.globals g ty ready.typed.globals (ap (λ tys. slice_get tys g) ready.globals ∙ declared);
      }

  pub global_located : (g ty : ℕ) → slice_get c.globals g ≡ Some ty → IsLocated (tree.global g) ty
  global_located g ty declared =
      record {
        whole = λ pointer_ty shape. named_whole (of_global g) ty (λ leaf d. command.GlobalA d g leaf) (global_named g ty declared) pointer_ty shape;
        inner = λ pointer_ty leaf sub shape subobject.
            named_inner (of_global g) ty (λ leaf d. command.GlobalA d g leaf) (global_named g ty declared) pointer_ty leaf sub shape subobject;
      }

  -- a member of a place
  pub member_located : (place : Place) (leaf ty struct : ℕ) → IsLocated place struct → IsSubobject c.flat.types struct 1 leaf ty → IsLocated (tree.member leaf place) ty
  member_located place leaf ty struct located member_is =
      record {
        whole = λ pointer_ty shape.
            (let sum : leaf + 0 ≡ leaf = omega arith in
            subst (λ k. Evaluates c (GoesThere c true) IsPresent pointer_ty (λ s. and_then (place_means place s) (λ at s. member_at at k s)) (place_code p c.start place (Some (leaf + 0)))) sum
            (located.inner pointer_ty (leaf + 0) ty shape (subst (λ k. IsSubobject c.flat.types struct 1 k ty) (sym sum) member_is)));
        inner = λ pointer_ty more sub shape subobject.
            subst
            (λ value. Evaluates c (GoesThere c true) IsPresent pointer_ty value (place_code p c.start place (Some (leaf + more))))
            (λ i s. sym (deep more s) i)
            (located.inner pointer_ty (leaf + more) sub shape (set.nest struct 1 leaf ty more sub member_is subobject));
      }
    where
      deep : (more : ℕ) (s : Progress) → and_then (and_then (place_means place s) (λ at s. member_at at leaf s)) (λ at s. member_at at more s)
          ≡ and_then (place_means place s) (λ at s. member_at at (leaf + more) s)
      deep more s =
          and_then_then (place_means place s) (λ at s. member_at at leaf s) (λ at s. member_at at more s)
          ∙ ap (λ go. and_then (place_means place s) go) (λ i at s. member_of_member at s leaf more i)

  -- What a pointer points to. Its value is used, and may be missing.
  module _ (e : Expression) (ty : ℕ) (lowered : IsLowered c p enter e) (shape : slice_get c.flat.types (type_held p e) ≡ Some (Pointer ty)) where
    abbrev own : ℕ
    own = type_held p e

    there_now : (v : Value) (s : Progress) → IsPresent v s → use_value v s (λ v s. Went v s) ≡ Went v s
    there_now (number z) s h = refl
    there_now null s h = refl
    there_now (pointer home leaf) s h = ap (λ x. with_determinate x s (λ v s. Went v s)) h.0
    there_now (past home leaf until) s h = ap (λ x. with_determinate x s (λ v s. Went v s)) h.0
    there_now indeterminate s h = absurd (h.1 refl)

    goes_to : (used : InUse) (to : Option ℕ) → GoesThere c (writes_last p e) used to → Goes c (writes_last p e) used to
    goes_to used None fits = absurd fits
    goes_to used (Some d) fits = fits

    -- where its value is there
    surely_there : may_lack e ≡ false
        → Evaluates c (GoesThere c (writes_last p e)) IsPresent own (λ s. and_then (means c p enter e s) (λ v s. use_value v s (λ v s. Went v s)))
        (λ to used label. then_commands (code p c.start e to used label) [])
    surely_there there to used label place made s ts ready fits may room stands =
        let x = code p c.start e to used label in
        let end : place + length x.commands ≡ place + length (x.commands ++ []) = simp length-append (omega arith) in
        follows_then c.flat c.under c.n (means c p enter e s) (λ v s. use_value v s (λ v s. Went v s)) (here c s ts place) s.marks _ _
        (lowered.evaluates to used label place made s ts ready (goes_to used to fits) may room (front_stands (commands c) place x.commands [] stands))
        (λ v u far.
        (let present = far.1 there in
        let is = there_now v u present in
        rw is (rw (← end) (far.0, present))))

    room_inside : (used : InUse) (label d : ℕ) (taken : IsTaken c used d) → ((t : ℕ) → (code p c.start e (Some d) used label).most t ≤ c.pools t)
        → taken.is_used.index < c.pools taken.is_used.ty
    room_inside used label d taken room =
        let grown = code_grows p c.start e (Some d) used label taken.is_used.ty in
        let inside = room taken.is_used.ty in
        let less = taken.is_used.less in
        omega (arith, grown, inside, less)

    -- where it may be missing it goes to a temporary, and is used there
    perhaps_there : may_lack e ≡ true
        → Evaluates c (GoesThere c (writes_last p e)) IsPresent own (λ s. and_then (means c p enter e s) (λ v s. use_value v s (λ v s. Went v s)))
        (λ to used label. then_commands (code p c.start e to used label) (used_commands (Var (unwrap_or to 0))))
    perhaps_there lacks None used label place made s ts ready fits may room stands = absurd fits
    perhaps_there lacks (Some d) used label place made s ts ready (inr last) may room stands =
        (let wrong = sym lacks ∙ writes_there p e last in cc)
    perhaps_there lacks (Some d) used label place made s ts ready (inl taken) may room stands =
        let x = code p c.start e (Some d) used label in
        let all = commands c in
        let m = place + length x.commands in
        let self = back_stands all place x.commands (command.Move d (Var d) ∷ []) stands in
        let end : m + 1 ≡ place + length (x.commands ++ command.Move d (Var d) ∷ []) = simp length-append (omega arith) in
        follows_then c.flat c.under c.n (means c p enter e s) (λ v s. use_value v s (λ v s. Went v s)) (here c s ts place) s.marks _ _
        (lowered.evaluates (Some d) used label place made s ts ready (inl taken) may room (front_stands all place x.commands (command.Move d (Var d) ∷ []) stands))
        (λ v u both. rw (← end) (used_there c set own s u ts place m d v used made taken both.0 (room_inside used label d taken room) self.0))

    -- the place of what it points to, and of a subobject in it
    pub pointee_located : IsLocated (tree.pointee e) ty
    pointee_located =
        record {
          whole = λ pointer_ty shapes.
              subst
              (λ t. Evaluates c (GoesThere c (writes_last p e)) IsPresent t (λ s. place_means (tree.pointee e) s) (place_code p c.start (tree.pointee e) None)) (sym shapes.0)
              (by (may_lack e) refl);
          inner = λ pointer_ty leaf sub shape' subobject.
              subst
              (λ value. Evaluates c (GoesThere c true) IsPresent pointer_ty value (place_code p c.start (tree.pointee e) (Some leaf)))
              (λ i s. sym (through leaf s) i)
              (reached pointer_ty leaf sub shape' subobject);
        }
      where
        by : (lacks : Bool) → may_lack e ≡ lacks
            → Evaluates c (GoesThere c (writes_last p e)) IsPresent own (λ s. and_then (means c p enter e s) (λ v s. use_value v s (λ v s. Went v s)))
            (λ to used label. then_commands (code p c.start e to used label) (commands_if lacks (used_commands (Var (unwrap_or to 0)))))
        by true e = perhaps_there e
        by false e = surely_there e

        through : (leaf : ℕ) (s : Progress) → and_then (and_then (means c p enter e s) (λ v s. use_value v s (λ v s. Went v s))) (λ at s. member_at at leaf s)
            ≡ and_then (means c p enter e s) (λ at s. member_at at leaf s)
        through leaf s =
            and_then_then (means c p enter e s) (λ v s. use_value v s (λ v s. Went v s)) (λ at s. member_at at leaf s)
            ∙ ap (λ go. and_then (means c p enter e s) go)
            (λ i v s. (ap (λ o. and_then o (λ at s. member_at at leaf s)) (uses_now (seen s.store v) s) ∙ member_strictly leaf v s) i)

        reached : (pointer_ty leaf sub : ℕ) → slice_get c.flat.types pointer_ty ≡ Some (Pointer sub) → IsSubobject c.flat.types ty 1 leaf sub
            → Evaluates c (GoesThere c true) IsPresent pointer_ty (λ s. and_then (means c p enter e s) (λ at s. member_at at leaf s)) (place_code p c.start (tree.pointee e) (Some leaf))
        reached pointer_ty leaf sub shape' subobject None used label place made s ts ready fits may room stands = absurd fits
        reached pointer_ty leaf sub shape' subobject (Some d) used label place made s ts ready fits may room stands =
            follows_is c.flat c.under c.n (and_then (means c p enter e s) (λ at s. member_at at leaf s)) (here c s ts place) s.marks _ _
            (one_writes c set own pointer_ty (atom_of no_constant e) (IsThereUnless (may_lack e)) (λ s. means c p enter e s) (code p c.start e) (λ s at. member s at leaf)
            (λ d t. command.Member d t leaf) (λ at s. member_at at leaf s) (λ v s. refl) (member_strictly leaf) (to_temporary c p enter e lowered) (code_grows p c.start e)
            (lowered.in_place no_constant) (no_constants e) (members c set own ty leaf sub pointer_ty shape subobject shape') d used label place made s ts ready may room stands)
            (λ v u went far. (far, behind_present p c.under enter c.call (means c p enter e s) (λ at s. member_at at leaf s) v u went (λ at t is. member_present at leaf t v u is)))
