-- An operator on two integers: the operands are used and converted as its code says, and its command works on them.
use Rattle.std.proofs.Common.{◌≡◌, ◌<◌, ◌≤◌, ℕ, ◌+◌, ℤ, List, [], ◌∷◌, ◌++◌, length, length-append, refl, sym, ap, subst, ◌∙◌, inl, inr, arith, Bool, true, false, Some, None}
use Rattle.std.proofs.lemmas.Bool.Decides.{eqb_tells}
use Rattle.std.specs.Prelude.{⊤, slice_get, not, ◌&&◌, IsTrue, Result, Ok, Err}
use Rattle.porch_types.specs.declared.shapes.Kind.{Kind}
use Rattle.porch_types.specs.declared.shapes.Ty.TheVariants.{Whole}
use Rattle.porch_types.specs.Kinds.{kind_number}
use Rattle.porch_values.specs.declared.acts.Act.{Act}
use Rattle.porch_values.specs.declared.acts.Act.TheVariants.{Indeterminate}
use Rattle.porch_values.specs.Integers.{converted, is_value_of}
use Rattle.porch_objects.specs.Store.{Value, number, null, pointer, past, indeterminate, Object, seen}
use Rattle.porch_objects.specs.Meaning.{Progress}
use Rattle.porch_flat.specs.declared.flat.Operand.{Operand}
use Rattle.porch_flat.specs.declared.flat.Operand.TheVariants.{Var, Constant}
use Rattle.porch_flat.specs.declared.whole.Command.{Command}
use Rattle.porch_flat.specs.declared.whole.Command.TheVariants as command
use Rattle.porch_flat.specs.whole.Form.{form_of}
use Rattle.porch_abstract.specs.Machine.{Goes, put}
use Rattle.porch_abstract.specs.whole.Machine.{if_ok, does, constant_of}
use Rattle.porch_mean.specs.Outcome.{Went, with_result}
use Rattle.porch_lowering.specs.Code.{InUse}
use Rattle.porch_lowering.specs.Operators.{var_of, commands_if, used_if, used_commands, operand_if, next_of, is_converted, may_fail}
use Rattle.porch_sound.specs.Typing.{StoreTyping}
use Rattle.porch_sound.specs.Laws.{Gives}
use Rattle.porch_lowered.proofs.Typed.{adds_nothing}
use Rattle.porch_lowered.proofs.Runs.{stays}
use Rattle.porch_lowered.proofs.Follows.{follows_from}
use Rattle.porch_lowered.proofs.States.{Stands, front_stands, back_stands, IsQuiet}
use Rattle.porch_lowered.proofs.Codes.{Context, commands, frame, here, IsOf, On, Follow, IsUsed, Keeps, IsReady, MayGo, Arrives, arrives_from}
use Rattle.porch_lowered.proofs.Holding.{IsSetting, used_before, one_is_used, one_at_least, kept_types}
use Rattle.porch_lowered.proofs.Operands.{IsOperand, operand_stays, use_follows}
use Rattle.porch_lowered.proofs.Conversions.{guard, IsNumber, source_gives, commands_do}
use Rattle.porch_lowered.proofs.Commands.{command_follows, convert_follows}
use Rattle.porch_lowered.proofs.Numbers.{converts_safely}

whole_is : (a b : Kind) → Some (Whole a) ≡ Some (Whole b) → a ≡ b
whole_is a b e = cc

module _ (c : Context) (set : IsSetting c) where
  abbrev pub InRange : Kind → ℤ → Type 0
  InRange kind z = IsTrue (is_value_of kind c.under.widths z)

  -- a value of an integer type
  pub is_number : (made : StoreTyping) (ty : ℕ) (kind : Kind) (v : Value) → slice_get c.flat.types ty ≡ Some (Whole kind) → IsOf c made ty v → IsNumber (InRange kind) v
  is_number made ty kind (number z) shape (k, is, range) = (let same = whole_is k kind (sym is ∙ shape) in subst (λ k. InRange k z) same range)
  is_number made ty kind null shape (to, is) = (let e = sym is ∙ shape in cc)
  is_number made ty kind (pointer home leaf) shape of = (let e = sym of.shape ∙ shape in cc)
  is_number made ty kind (past home leaf until) shape of = (let e = sym of.shape ∙ shape in cc)
  is_number made ty kind indeterminate shape of = tt

  -- a use of an operand that stands in front of what follows, where it has to
  guard_follows : (b : Bool) (made : StoreTyping) (s : Progress) (ts : List Object) (place ty : ℕ) (used : InUse) (o : Operand) (v : Value) (r : Result Value Act)
      (near : Value → Progress → Type 0) → IsReady c made s ts → IsOperand c ty used s ts o v → IsOf c made ty v
      → Stands (commands c) place (commands_if b (used_commands o))
      → (On c (here c s ts place) s.marks (here c s ts (place + length (commands_if b (used_commands o)))) s.marks
      → Follow c (with_result r s (λ w s. Went w s)) (here c s ts place) s.marks near)
      → Follow c (with_result (guard b (seen s.store v) r) s (λ w s. Went w s)) (here c s ts place) s.marks near
  guard_follows true made s ts place ty used o v r near ready x of stands k =
      use_follows c set made s ts place ty used o v r near near ready x of stands k
  guard_follows false made s ts place ty used o v r near ready x of stands k =
      (let e : place + 0 ≡ place = omega arith in k (rw e (stays c.flat c.under c.n (here c s ts place) s.marks)))

  -- What a converted operator's command does: `last` is what it makes of the converted values.
  -- The left operand has to be one that it allows.
  pub record Finishes (allowed : Operand → Type 0) (kind kind' : Kind) (ty : ℕ) (last : Value → Value → Result Value Act) (make : (target : ℕ) → (left right : Operand) → Command) : Type 0 where
    pub quiet : (d : ℕ) (a b : Operand) → IsQuiet c.flat (form_of (make d a b))
    pub does_is : (place d : ℕ) (made : StoreTyping) (s : Progress) (ts : List Object) (used : InUse) (a b : Operand) (x y : Value) → IsReady c made s ts
        → IsOperand c (kind_number kind) used s ts a x → IsOf c made (kind_number kind) x
        → IsOperand c (kind_number kind') used s ts b y → IsOf c made (kind_number kind') y → MayGo c ty (Some d) → allowed a
        → does c.flat c.under (frame c place) c.callers (form_of (make d a b)) (here c s ts place)
        ≡ if_ok (last (seen s.store x) (seen s.store y)) (λ w. Goes (put d w (here c s ts (place + 1))))
    pub gives : (made : StoreTyping) (x y : Value) → IsNumber (InRange kind) x → IsNumber (InRange kind') y → Gives (IsOf c made ty) (last x y)
    pub uses_left : (y : Value) → last indeterminate y ≡ Err Indeterminate
    pub uses_right : (z : ℤ) → last (number z) indeterminate ≡ Err Indeterminate

  -- the code of an operator whose operands are converted to these kinds
  abbrev pub converted_code : (kind kind' : Kind) → (make : (target : ℕ) → (left right : Operand) → Command) → (d : ℕ) → (a : Operand) → (ty : ℕ) → (b : Operand) → (ty' : ℕ) → InUse → List Command
  converted_code kind kind' make d a ty b ty' used =
      let to = kind_number kind in
      let to' = kind_number kind' in
      let first = is_converted a ty to in
      let second = is_converted b ty' to' in
      let t = next_of c.start to used in
      let with_left = used_if first used to in
      let t' = next_of c.start to' with_left in
      commands_if (first && may_fail ty to) (used_commands b)
      ++ (commands_if (not first && (second && may_fail ty' to')) (used_commands a)
      ++ (commands_if first (command.Cast t (var_of a) ∷ [])
      ++ (commands_if second (command.Cast t' (var_of b) ∷ [])
      ++ make d (operand_if first t a) (operand_if second t' b) ∷ [])))

  -- An operand that may be taken for one of a kind: a constant is in its range.
  abbrev pub Fits : (kind : Kind) → Operand → Type 0
  Fits kind (Var x) = ⊤
  Fits kind (Constant z) = InRange kind z

  -- where it needs no conversion it is one of the kind
  pub same_kind : (made : StoreTyping) (s : Progress) (ts : List Object) (used : InUse) (ty : ℕ) (from kind : Kind) (o : Operand) (v : Value)
      → slice_get c.flat.types ty ≡ Some (Whole from) → ty ≡ kind_number from → Fits kind o → IsOperand c ty used s ts o v → IsOf c made ty v
      → is_converted o ty (kind_number kind) ≡ false → IsOperand c (kind_number kind) used s ts o v × IsOf c made (kind_number kind) v
  same_kind made s ts used ty from kind (Var x) v shape is fits operand of same =
      elim (eqb_tells ty (kind_number kind)) [
        | inl w ↦ subst (λ t. IsOperand c t used s ts (Var x) v × IsOf c made t v) w.1 (operand, of)
        | inr w ↦ (let wrong : true ≡ false = rw w.0 at same in cc)
      ]
  same_kind made s ts used ty from kind (Constant z) v shape is fits operand of same =
      let value : number z ≡ v = sym (ap (λ shape. constant_of shape z) shape) ∙ operand in (
        ap (λ shape. constant_of shape z) (set.kinds kind) ∙ value,
        subst (λ v. IsOf c made (kind_number kind) v) value (kind, set.kinds kind, fits),
      )

  pub is_variable : (ty to : ℕ) (o : Operand) → is_converted o ty to ≡ true → (x : ℕ) × (o ≡ Var x)
  is_variable ty to (Var x) e = (x, refl)
  is_variable ty to (Constant z) e = cc

  -- a number that is not converted has the kind already
  pub stays_number : (made : StoreTyping) (ty : ℕ) (from kind : Kind) (o : Operand) → ty ≡ kind_number from → slice_get c.flat.types ty ≡ Some (Whole from) → Fits kind o
      → (s : Progress) (ts : List Object) (used : InUse) (v : Value) → IsOperand c ty used s ts o v
      → is_converted o ty (kind_number kind) ≡ false → (z : ℤ) → seen s.store v ≡ number z → InRange from z → converted kind c.under.widths z ≡ Ok z
  stays_number made ty from kind (Var x) is shape fits s ts used v operand same z e range =
      elim (eqb_tells ty (kind_number kind)) [
        | inl w ↦ (let k = whole_is from kind (sym shape ∙ ap (λ t. slice_get c.flat.types t) w.1 ∙ set.kinds kind) in set.same kind z (subst (λ k. InRange k z) k range))
        | inr w ↦ (let wrong : true ≡ false = rw w.0 at same in cc)
      ]
  stays_number made ty from kind (Constant y) is shape fits s ts used v operand same z e range =
      let value : number y ≡ number z = ap (λ w. seen s.store w) (sym (ap (λ shape. constant_of shape y) shape) ∙ operand) ∙ e in
      let number_same : y ≡ z = cc in
      set.same kind z (subst (λ z. InRange kind z) number_same fits)

  pub number_of : (P : ℤ → Type 0) (x : Value) → IsNumber P x → IsNumber (λ z. (x ≡ number z) × P z) x
  number_of P (number z) p = (refl, p)
  number_of P null p = p
  number_of P (pointer home leaf) p = p
  number_of P (past home leaf until) p = p
  number_of P indeterminate p = tt

  -- what is behind a way from here is behind it from here
  pub from_here : (ty d place place' end : ℕ) (made : StoreTyping) (s : Progress) (ts ts' : List Object) (used used' : InUse) (r : Result Value Act)
      → On c (here c s ts place) s.marks (here c s ts' place') s.marks → Keeps c None used ts ts' → ((i : ℕ) → IsUsed c used i → IsUsed c used' i)
      → Follow c (with_result r s (λ w s. Went w s)) (here c s ts' place') s.marks (Arrives c ty made (Some d) used' ts' (here c s ts' place') s.marks end)
      → Follow c (with_result r s (λ w s. Went w s)) (here c s ts place) s.marks (Arrives c ty made (Some d) used ts (here c s ts place) s.marks end)
  from_here ty d place place' end made s ts ts' used used' r on keeps more follows =
      follows_from c.flat c.under c.n (with_result r s (λ w s. Went w s)) (here c s ts place) (here c s ts' place') s.marks s.marks _ _ on
      (λ v u far.
      arrives_from c ty made made (Some d) used ts ts' (here c s ts place) (here c s ts' place') s.marks s.marks end v u (adds_nothing made) on keeps
      (record {
        later = far.later;
        adds = far.adds;
        temporaries = far.temporaries;
        onward = far.onward;
        ready = far.ready;
        value = far.value;
        kept = λ i u ne. far.kept i (more i u) ne;
      }))
      follows

  pub operands_follow : (allowed : Operand → Type 0) (kind kind' from from' : Kind) (ty ty' result d place : ℕ) (last : Value → Value → Result Value Act) (make : (target : ℕ) → (left right : Operand) → Command)
      (a b : Operand) (v w : Value) (made : StoreTyping) (s : Progress) (ts : List Object) (used : InUse) → Finishes allowed kind kind' result last make → ((t : ℕ) → allowed (Var t)) → allowed a
      → slice_get c.flat.types ty ≡ Some (Whole from) → ty ≡ kind_number from → slice_get c.flat.types ty' ≡ Some (Whole from') → ty' ≡ kind_number from'
      → Fits kind a → Fits kind' b → IsReady c made s ts → IsOperand c ty used s ts a v → IsOf c made ty v → IsOperand c ty' used s ts b w → IsOf c made ty' w
      → MayGo c result (Some d)
      → ((t : ℕ) → used_if (is_converted b ty' (kind_number kind')) (used_if (is_converted a ty (kind_number kind)) used (kind_number kind)) (kind_number kind') t ≤ c.pools t)
      → Stands (commands c) place (converted_code kind kind' make d a ty b ty' used)
      → Follow c
      (with_result (source_gives (λ z. converted kind c.under.widths z) (λ z. converted kind' c.under.widths z) last (seen s.store v) (seen s.store w)) s (λ w s. Went w s))
      (here c s ts place) s.marks
      (Arrives c result made (Some d) used ts (here c s ts place) s.marks (place + length (converted_code kind kind' make d a ty b ty' used)))
  operands_follow allowed kind kind' from from' ty ty' result d place last make a b v w made s ts used finish each here_allowed shape is shape' is' fits fits' ready oa va ob vb may room stands =
      let to = kind_number kind in
      let to' = kind_number kind' in
      let first = is_converted a ty to in
      let second = is_converted b ty' to' in
      let t = next_of c.start to used in
      let with_left = used_if first used to in
      let t' = next_of c.start to' with_left in
      let all = commands c in
      let u1 = commands_if (first && may_fail ty to) (used_commands b) in
      let u2 = commands_if (not first && (second && may_fail ty' to')) (used_commands a) in
      let c1 = commands_if first (command.Cast t (var_of a) ∷ []) in
      let c2 = commands_if second (command.Cast t' (var_of b) ∷ []) in
      let x = make d (operand_if first t a) (operand_if second t' b) in
      let p1 = place + length u1 in
      let p2 = p1 + length u2 in
      let p3 = p2 + length c1 in
      let p4 = p3 + length c2 in
      let end : p4 + 1 ≡ place + length (u1 ++ (u2 ++ (c1 ++ (c2 ++ x ∷ [])))) = simp length-append (omega arith) in
      let r1 = back_stands all place u1 (u2 ++ (c1 ++ (c2 ++ x ∷ []))) stands in
      let r2 = back_stands all p1 u2 (c1 ++ (c2 ++ x ∷ [])) r1 in
      let r3 = back_stands all p2 c1 (c2 ++ x ∷ []) r2 in
      let r4 = back_stands all p3 c2 (x ∷ []) r3 in
      let values = (kept_types c set made s ts ready).values in
      let left_number = is_number made ty from (seen s.store v) shape (values ty v va) in
      let right_number = is_number made ty' from' (seen s.store w) shape' (values ty' w vb) in
      let room_left : (t : ℕ) → with_left t ≤ c.pools t = λ t. room_less second with_left to' t (room t) in
      let room_used : (t : ℕ) → used t ≤ c.pools t = λ t. room_less first used to t (room_left t) in
      let left = λ (z : ℤ). converted kind c.under.widths z in
      let right = λ (z : ℤ). converted kind' c.under.widths z in
      subst
      (λ r. Follow c (with_result r s (λ w s. Went w s)) (here c s ts place) s.marks
      (Arrives c result made (Some d) used ts (here c s ts place) s.marks (place + length (u1 ++ (u2 ++ (c1 ++ (c2 ++ x ∷ [])))))))
      (commands_do left right last
      (λ z. (seen s.store v ≡ number z) × InRange from z) (λ z. (seen s.store w ≡ number z) × InRange from' z)
      first second (may_fail ty to) (may_fail ty' to')
      (λ e z p. stays_number made ty from kind a is shape fits s ts used v oa e z p.0 p.1)
      (λ e z p. stays_number made ty' from' kind' b is' shape' fits' s ts used w ob e z p.0 p.1)
      (λ e z p. converts_safely c.under.widths set.same from kind (ap (λ t. may_fail t to) (sym is) ∙ e) z p.1)
      (λ e z p. converts_safely c.under.widths set.same from' kind' (ap (λ t. may_fail t to') (sym is') ∙ e) z p.1)
      finish.uses_left finish.uses_right (seen s.store v) (seen s.store w) (number_of (InRange from) (seen s.store v) left_number) (number_of (InRange from') (seen s.store w) right_number))
      (rw (← end)
      (guard_follows (first && may_fail ty to) made s ts place ty' used b w _ _ ready ob vb (front_stands all place u1 (u2 ++ (c1 ++ (c2 ++ x ∷ []))) stands) (λ on1.
      from_here result d place p1 (p4 + 1) made s ts ts used used _ on1 (λ i u ne. refl) (λ i u. u)
      (guard_follows (not first && (second && may_fail ty' to')) made s ts p1 ty used a v _ _ ready oa va (front_stands all p1 u2 (c1 ++ (c2 ++ x ∷ [])) r1) (λ on2.
      from_here result d p1 p2 (p4 + 1) made s ts ts used used _ on2 (λ i u ne. refl) (λ i u. u)
      (convert_follows c set first kind ty p2 made s ts used a v _ _ ready oa va (λ e. is_variable ty to a e)
      (λ e. same_kind made s ts used ty from kind a v shape is fits oa va e) (λ e. room_one first used to e (room_left to)) room_used
      (front_stands all p2 c1 (c2 ++ x ∷ []) r2) (λ l left_is.
      from_here result d p2 p3 (p4 + 1) made s ts left_is.temporaries used with_left _ left_is.onward left_is.kept (λ i u. more_used first used to i u)
      (let ob' = operand_stays c ty' used with_left s ts left_is.temporaries b w (λ i u. more_used first used to i u) left_is.kept ob in
      convert_follows c set second kind' ty' p3 made s left_is.temporaries with_left b w _ _ left_is.ready ob' vb (λ e. is_variable ty' to' b e)
      (λ e. same_kind made s left_is.temporaries with_left ty' from' kind' b w shape' is' fits' ob' vb e) (λ e. room_one second with_left to' e (room to')) room_left
      (front_stands all p3 c2 (x ∷ []) r3) (λ r right_is.
      from_here result d p3 p4 (p4 + 1) made s left_is.temporaries right_is.temporaries with_left (used_if second with_left to') _ right_is.onward right_is.kept
      (λ i u. more_used second with_left to' i u)
      (let oa' = operand_stays c to with_left (used_if second with_left to') s left_is.temporaries right_is.temporaries (operand_if first t a) left_is.value
      (λ i u. more_used second with_left to' i u) right_is.kept left_is.operand in
      let values' = (kept_types c set made s right_is.temporaries right_is.ready).values in
      let l_number = subst (λ x. IsNumber (InRange kind) x) left_is.is (is_number made to kind (seen s.store left_is.value) (set.kinds kind) (values' to left_is.value left_is.of)) in
      let r_number = subst (λ x. IsNumber (InRange kind') x) right_is.is (is_number made to' kind' (seen s.store right_is.value) (set.kinds kind') (values' to' right_is.value right_is.of)) in
      command_follows c result d p4 x made s right_is.temporaries (used_if second with_left to') (last l r) right_is.ready r4.0
      (finish.quiet d (operand_if first t a) (operand_if second t' b))
      (finish.does_is p4 d made s right_is.temporaries (used_if second with_left to') (operand_if first t a) (operand_if second t' b) left_is.value right_is.value right_is.ready
      oa' left_is.of right_is.operand right_is.of may (allowed_if first t a here_allowed)
      ∙ ap (λ l. if_ok (last l (seen s.store right_is.value)) (λ w. Goes (put d w (here c s right_is.temporaries (p4 + 1))))) left_is.is
      ∙ ap (λ r. if_ok (last l r) (λ w. Goes (put d w (here c s right_is.temporaries (p4 + 1))))) right_is.is)
      (finish.gives made l r l_number r_number)))))))))))
    where
      allowed_if : (b : Bool) (t : ℕ) (o : Operand) → allowed o → allowed (operand_if b t o)
      allowed_if true t o h = each t
      allowed_if false t o h = h

      room_less : (b : Bool) (used : InUse) (ty t : ℕ) → used_if b used ty t ≤ c.pools t → used t ≤ c.pools t
      room_less true used ty t h = (let a = one_at_least c set ty used t in omega (arith, a, h))
      room_less false used ty t h = h

      room_one : (b : Bool) (used : InUse) (ty : ℕ) → b ≡ true → used_if b used ty ty ≤ c.pools ty → used ty < c.pools ty
      room_one true used ty e h = (let a = one_is_used c set ty used in omega (arith, a, h))
      room_one false used ty e h = cc

      more_used : (b : Bool) (used : InUse) (ty : ℕ) (i : ℕ) → IsUsed c used i → IsUsed c (used_if b used ty) i
      more_used true used ty i u = used_before c set ty used i u
      more_used false used ty i u = u
