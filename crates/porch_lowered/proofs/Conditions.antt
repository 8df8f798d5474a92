-- An operand of any scalar type is tested: an int itself, and others against 0.
use Rattle.std.proofs.Common.{◌≡◌, ◌≤◌, ℕ, zero, suc, ◌+◌, ℤ, pos, List, [], ◌∷◌, length, refl, sym, ap, subst, ◌∙◌, inl, inr, arith, Bool, true, false, Option, Some, None}
use Rattle.std.proofs.lemmas.Bool.Decides.{eqb_tells, nat_tests}
use Rattle.std.specs.Prelude.{⊤, not, nat_eq, slice_get, IsTrue, if◌then◌else◌, Result, Ok}
use Rattle.std.specs.Ordering.{int_eq}
use Rattle.porch_types.specs.declared.shapes.Kind.{Kind}
use Rattle.porch_types.specs.declared.shapes.Kind.TheVariants.{Char, UChar, Short, UShort, Int, UInt, Long, ULong}
use Rattle.porch_types.specs.declared.shapes.Ty.{Ty}
use Rattle.porch_types.specs.declared.shapes.Ty.TheVariants.{Whole, Pointer, Array, Struct}
use Rattle.porch_types.specs.Kinds.{kind_number}
use Rattle.porch_types.specs.LeafTypes.{IsScalar}
use Rattle.porch_values.specs.declared.acts.Act.{Act}
use Rattle.porch_values.specs.Integers.{in_range, converted}
use Rattle.porch_objects.specs.Store.{Value, number, null, pointer, past, indeterminate, Object, Store, seen}
use Rattle.porch_objects.specs.Pointers.{if_there, if_number, equal}
use Rattle.porch_objects.specs.Meaning.{Mark, Progress}
use Rattle.porch_flat.specs.declared.flat.Operand.{Operand}
use Rattle.porch_flat.specs.declared.flat.Operand.TheVariants.{Var, Constant}
use Rattle.porch_flat.specs.declared.whole.Command.{Command}
use Rattle.porch_flat.specs.declared.whole.Command.TheVariants as command
use Rattle.porch_abstract.specs.Machine.{State}
use Rattle.porch_abstract.specs.whole.Machine.{constant_of}
use Rattle.porch_typed.specs.declared.typed.Comparison.TheVariants.{NotEqual}
use Rattle.porch_mean.specs.Outcome.{Outcome, Went, with_result, with_truth, either}
use Rattle.porch_mean.specs.Operators.{as_value, truth_value}
use Rattle.porch_mean.specs.Operators as meaning
use Rattle.porch_lowering.specs.Code.{InUse, and_one, Code, plain}
use Rattle.porch_lowering.specs.Values.{INT, no_constant, constant_in}
use Rattle.porch_lowering.specs.Operators.{var_of, is_small, next_of, branch_on}
use Rattle.porch_lowering.specs.Expression.{test_accepts}
use Rattle.porch_sound.specs.Typing.{StoreTyping, Adds}
use Rattle.porch_lowered.proofs.Typed.{adds_both}
use Rattle.porch_lowered.proofs.Follows.{follows_from, follows_with}
use Rattle.porch_lowered.proofs.States.{Stands}
use Rattle.porch_lowered.proofs.Numbers.{narrow_fits, small_is_int}
use Rattle.porch_lowered.proofs.Codes.{Context, commands, here, IsOf, On, Follow, then_on, IsUsed, Keeps, keeps_both, IsReady, MayGo, Arrives, arrives_from}
use Rattle.porch_lowered.proofs.Holding.{IsSetting, kept_types, temporary_value, arrives_held, room_before, room_next, temporary_type}
use Rattle.porch_lowered.proofs.Operands.{IsOperand, number_is}
use Rattle.porch_lowered.proofs.Conversions.{IsNumber}
use Rattle.porch_lowered.proofs.Commands.{command_follows, cast_follows}
use Rattle.porch_lowered.proofs.Operate.{InRange, is_number}
use Rattle.porch_lowered.proofs.Comparisons.{IsVar, tested, comparison_finishes, quiet_comparison}
use Rattle.porch_lowered.proofs.OperatorCode.{IsAccepted, never_constant}
use Rattle.porch_lowered.proofs.PointerComparisons.{as_truth, pointers_do, truth_gives}
use Rattle.porch_lowered.proofs.Branches.{IsInt, AreHomes, branch_follows}

-- the truth of a truth value
pub truth_back : (b : Bool) (s : Progress) (go : Bool → Progress → Outcome) → with_truth (truth_value b) s go ≡ go b s
truth_back true s go = refl
truth_back false s go = refl

pub int_of_number : (P : ℤ → Type 0) (v : Value) → IsNumber P v → IsInt v
int_of_number P (number z) h = tt
int_of_number P null h = absurd h
int_of_number P (pointer home leaf) h = absurd h
int_of_number P (past home leaf until) h = absurd h
int_of_number P indeterminate h = tt

-- a pointer, or null, or nothing
abbrev pub IsPointerValue : Value → Type 0
IsPointerValue (number z) = ⊥
IsPointerValue null = ⊤
IsPointerValue (pointer home leaf) = ⊤
IsPointerValue (past home leaf until) = ⊤
IsPointerValue indeterminate = ⊤

pub int_seen : (s : Store) (v : Value) → IsInt v → seen s v ≡ v
int_seen s (number z) h = refl
int_seen s null h = absurd h
int_seen s (pointer home leaf) h = absurd h
int_seen s (past home leaf until) h = absurd h
int_seen s indeterminate h = refl

module _ (c : Context) where
  -- Control comes to a place; the temporaries in use are as they were.
  pub record ComesTo (made : StoreTyping) (used : InUse) (from : List Object) (near : State) (before : List Mark) (place : ℕ) (s : Progress) : Type 0 where
    pub later : StoreTyping
    pub adds : Adds made later
    pub temporaries : List Object
    pub onward : On c near before (here c s temporaries place) s.marks
    pub ready : IsReady c later s temporaries
    pub kept : Keeps c None used from temporaries

  -- and then to another one
  pub comes_on : (made : StoreTyping) (used : InUse) (from : List Object) (near : State) (before : List Mark) (place place' : ℕ) (s u : Progress)
      (h : ComesTo made used from near before place s) → ComesTo h.later used h.temporaries (here c s h.temporaries place) s.marks place' u
      → ComesTo made used from near before place' u
  comes_on made used from near before place place' s u h k =
      record {
        later = k.later;
        adds = adds_both made h.later k.later h.adds k.adds;
        temporaries = k.temporaries;
        onward = then_on c near (here c s h.temporaries place) (here c u k.temporaries place') before s.marks u.marks h.onward k.onward;
        ready = k.ready;
        kept = keeps_both c None used from h.temporaries k.temporaries h.kept k.kept;
      }

  -- what follows from there, follows
  pub from_there : (Is : Value → Progress → Type 0) (ty : ℕ) (to : Option ℕ) (made : StoreTyping) (used : InUse) (from : List Object) (near : State) (before : List Mark) (place end : ℕ)
      (s : Progress) (out : Outcome) (h : ComesTo made used from near before place s)
      → Follow c out (here c s h.temporaries place) s.marks (λ w u. Arrives c ty h.later to used h.temporaries (here c s h.temporaries place) s.marks end w u × Is w u)
      → Follow c out near before (λ w u. Arrives c ty made to used from near before end w u × Is w u)
  from_there Is ty to made used from near before place end s out h follows =
      follows_from c.flat c.under c.n out near (here c s h.temporaries place) before s.marks _ _ h.onward
      (λ w u x. (
        arrives_from c ty made h.later to used from h.temporaries near (here c s h.temporaries place) before s.marks end w u h.adds h.onward h.kept x.0,
        x.1,
      ))
      follows

module _ (c : Context) (set : IsSetting c) where
  -- A command that makes the int of a truth value: `result` is what it gives.
  pub record Makes (ty : ℕ) (make : (target : ℕ) → Operand → Command) (result : Store → Value → Result Value Act) : Type 0 where
    pub makes : (d place : ℕ) (o : Operand) (v : Value) (made : StoreTyping) (s : Progress) (ts : List Object) (used : InUse) → IsVar o → IsReady c made s ts
        → IsOperand c ty used s ts o v → IsOf c made ty v → MayGo c INT (Some d) → slice_get (commands c) place ≡ Some (make d o)
        → Follow c (with_result (result s.store v) s (λ w s. Went w s)) (here c s ts place) s.marks (Arrives c INT made (Some d) used ts (here c s ts place) s.marks (place + 1))
    pub truth : (made : StoreTyping) (s : Progress) (ts : List Object) (v : Value) (go : Bool → Progress → Outcome) → IsReady c made s ts → IsOf c made ty v
        → with_result (result s.store v) s (λ w s. with_truth w s go) ≡ with_truth (seen s.store v) s go

  -- a value of a small kind is converted to int
  pub small_made : (kind : Kind) → is_small (kind_number kind) ≡ true
      → Makes (kind_number kind) (λ t o. command.Cast t (var_of o)) (λ s v. if_number (seen s v) (λ z. as_value (converted Int c.under.widths z)))
  small_made kind small =
      record {
        makes = λ d place o v made s ts used var ready operand of may stands. by d place o v made s ts used var ready operand of may stands;
        truth = λ made s ts v go ready of.
            truth_of s (seen s.store v) go
            (is_number c set made (kind_number kind) kind (seen s.store v) (set.kinds kind) ((kept_types c set made s ts ready).values (kind_number kind) v of));
      }
    where
      by : (d place : ℕ) (o : Operand) (v : Value) (made : StoreTyping) (s : Progress) (ts : List Object) (used : InUse) → IsVar o → IsReady c made s ts
          → IsOperand c (kind_number kind) used s ts o v → IsOf c made (kind_number kind) v → MayGo c INT (Some d) → slice_get (commands c) place ≡ Some (command.Cast d (var_of o))
          → Follow c (with_result (if_number (seen s.store v) (λ z. as_value (converted Int c.under.widths z))) s (λ w s. Went w s)) (here c s ts place) s.marks
          (Arrives c INT made (Some d) used ts (here c s ts place) s.marks (place + 1))
      by d place (Var x) v made s ts used var ready operand of may stands =
          cast_follows c set (kind_number kind) d place x Int made s ts used v ready operand of may stands
      by d place (Constant z) v made s ts used var ready operand of may stands = absurd var

      truth_of : (s : Progress) (x : Value) (go : Bool → Progress → Outcome) → IsNumber (InRange c set kind) x
          → with_result (if_number x (λ z. as_value (converted Int c.under.widths z))) s (λ w s. with_truth w s go) ≡ with_truth x s go
      truth_of s (number z) go range =
          ap (λ r. with_result (as_value r) s (λ w s. with_truth w s go)) (set.same Int z (small_is_int c.under.widths kind small z range))
      truth_of s null go range = absurd range
      truth_of s (pointer home leaf) go range = absurd range
      truth_of s (past home leaf until) go range = absurd range
      truth_of s indeterminate go range = refl

  -- one of another kind is compared with 0
  wide_made : (kind : Kind) → IsTrue (in_range kind 32 (pos 0))
      → Makes (kind_number kind) (λ t o. command.Ne t o (Constant (pos 0))) (λ s v. tested (λ x y. meaning.compares NotEqual x y) (seen s v) (number (pos 0)))
  wide_made kind range =
      record {
        makes = λ d place o v made s ts used var ready operand of may stands.
            (let finish = comparison_finishes c set NotEqual kind in
            command_follows c INT d place (command.Ne d o (Constant (pos 0))) made s ts used _ ready stands (finish.quiet d o (Constant (pos 0)))
            (finish.does_is place d made s ts used o (Constant (pos 0)) v (number (pos 0)) ready operand of
            (ap (λ shape. constant_of shape (pos 0)) (set.kinds kind)) (kind, set.kinds kind, narrow_fits kind c.under.widths (pos 0) range) may var)
            (finish.gives made (seen s.store v) (number (pos 0))
            (is_number c set made (kind_number kind) kind (seen s.store v) (set.kinds kind) ((kept_types c set made s ts ready).values (kind_number kind) v of))
            (narrow_fits kind c.under.widths (pos 0) range)));
        truth = λ made s ts v go ready of.
            truth_of s (seen s.store v) go
            (is_number c set made (kind_number kind) kind (seen s.store v) (set.kinds kind) ((kept_types c set made s ts ready).values (kind_number kind) v of));
      }
    where
      truth_of : (s : Progress) (x : Value) (go : Bool → Progress → Outcome) → IsNumber (InRange c set kind) x
          → with_result (tested (λ x y. meaning.compares NotEqual x y) x (number (pos 0))) s (λ w s. with_truth w s go) ≡ with_truth x s go
      truth_of s (number z) go range = truth_back (not (int_eq z (pos 0))) s go
      truth_of s null go range = absurd range
      truth_of s (pointer home leaf) go range = absurd range
      truth_of s (past home leaf until) go range = absurd range
      truth_of s indeterminate go range = refl

  pub pointer_is : (made : StoreTyping) (ty to : ℕ) (v : Value) → slice_get c.flat.types ty ≡ Some (Pointer to) → IsOf c made ty v → IsPointerValue v
  pointer_is made ty to (number z) shape of = (let wrong = sym shape ∙ of.1 in cc)
  pointer_is made ty to null shape of = tt
  pointer_is made ty to (pointer home leaf) shape of = tt
  pointer_is made ty to (past home leaf until) shape of = tt
  pointer_is made ty to indeterminate shape of = tt

  -- a pointer is compared with null
  pointer_made : (ty to : ℕ) → slice_get c.flat.types ty ≡ Some (Pointer to)
      → Makes ty (λ t o. command.Ne t o (Constant (pos 0))) (λ s v. as_truth (meaning.pointers_compare c.flat.types c.under.widths NotEqual to s v null))
  pointer_made ty to shape =
      record {
        makes = λ d place o v made s ts used var ready operand of may stands.
            command_follows c INT d place (command.Ne d o (Constant (pos 0))) made s ts used _ ready stands (quiet_comparison c set NotEqual d o (Constant (pos 0)))
            (pointers_do c set to ty place d made s ts used shape ready NotEqual o (Constant (pos 0)) v null operand of
            (ap (λ shape. constant_of shape (pos 0)) shape) (to, shape) var)
            (truth_gives c set made (meaning.pointers_compare c.flat.types c.under.widths NotEqual to s.store v null));
        truth = λ made s ts v go ready of. truth_of s (seen s.store v) go (pointer_is made ty to (seen s.store v) shape ((kept_types c set made s ts ready).values ty v of));
      }
    where
      truth_of : (s : Progress) (x : Value) (go : Bool → Progress → Outcome) → IsPointerValue x
          → with_result (as_truth (meaning.if_ok (if_there x (λ p. equal c.flat.types to p null)) (λ same. Ok (not same)))) s (λ w s. with_truth w s go) ≡ with_truth x s go
      truth_of s (number z) go h = absurd h
      truth_of s null go h = refl
      truth_of s (pointer home leaf) go h = refl
      truth_of s (past home leaf until) go h = refl
      truth_of s indeterminate go h = refl

  -- the numbers of pointer types are none of kinds
  never_kind : (ty to : ℕ) (kind : Kind) → slice_get c.flat.types ty ≡ Some (Pointer to) → ty ≡ kind_number kind → ⊥
  never_kind ty to kind shape e = (let wrong = sym shape ∙ ap (λ t. slice_get c.flat.types t) e ∙ set.kinds kind in cc)

  pointer_no_int : (ty to : ℕ) → slice_get c.flat.types ty ≡ Some (Pointer to) → nat_eq ty INT ≡ false
  pointer_no_int ty to shape =
      elim (eqb_tells ty INT) [
        | inl w ↦ absurd (never_kind ty to Int shape w.1)
        | inr w ↦ w.0
      ]

  pub pointer_not_small : (ty to : ℕ) → slice_get c.flat.types ty ≡ Some (Pointer to) → is_small ty ≡ false
  pointer_not_small zero to shape = absurd (never_kind 0 to Char shape refl)
  pointer_not_small (suc zero) to shape = absurd (never_kind 1 to UChar shape refl)
  pointer_not_small (suc (suc zero)) to shape = absurd (never_kind 2 to Short shape refl)
  pointer_not_small (suc (suc (suc zero))) to shape = absurd (never_kind 3 to UShort shape refl)
  pointer_not_small (suc (suc (suc (suc n)))) to shape = grind (arith, nat_tests)

module _ (c : Context) (set : IsSetting c) (homes : AreHomes (commands c)) where
  -- That code tests an operand, where control came to it: on at a label where it is true, and else behind the code.
  abbrev pub TestFollows : (ty : ℕ) → (code : Operand → (l : ℕ) → InUse → Code) → Type 1
  TestFollows ty code =
      (o : Operand) (v : Value) (used used' : InUse) (l place q : ℕ) (made : StoreTyping) (from : List Object) (start : State) (first : List Mark) (s : Progress)
      (va vb : Progress → Outcome) (near : Value → Progress → Type 0) (h : ComesTo c made used from start first place s)
      → IsAccepted (test_accepts ty) o → IsOperand c ty used' s h.temporaries o v → IsOf c h.later ty v → ((i : ℕ) → IsUsed c used i → IsUsed c used' i)
      → ((t : ℕ) → (code o l used').most t ≤ c.pools t) → Stands (commands c) place (code o l used').commands → slice_get (commands c) q ≡ Some (command.Label l)
      → (ComesTo c made used from start first q s → Follow c (va s) start first near)
      → (ComesTo c made used from start first (place + length (code o l used').commands) s → Follow c (vb s) start first near)
      → Follow c (with_truth (seen s.store v) s (λ holds s. either holds va vb s)) start first near

  -- an int, where it stands
  int_tested : (label : ℕ) → TestFollows INT (λ o l used. plain (command.If o l ∷ []) used label)
  int_tested after o v used used' l place q made from start first s va vb near h fit operand of more room stands label when_true when_false =
      let is_int =
      int_of_number (InRange c set Int) (seen s.store v)
      (is_number c set h.later INT Int (seen s.store v) (set.kinds Int) ((kept_types c set h.later s h.temporaries h.ready).values INT v of)) in
      branch_follows c.flat c.under c.n c.function c.into c.callers c.more l place q o s (here c s h.temporaries place) s.marks stands.0 (homes l q label) (seen s.store v) va vb near
      start first h.onward is_int
      (number_is c set h.later s h.temporaries place INT Int used' o v None (set.kinds Int) (inl refl) h.ready operand of)
      (λ on. when_true (record { later = h.later; adds = h.adds; temporaries = h.temporaries; onward = on; ready = h.ready; kept = h.kept }))
      (λ on. when_false (record { later = h.later; adds = h.adds; temporaries = h.temporaries; onward = on; ready = h.ready; kept = h.kept }))
      (refl, refl, refl)

  abbrev pub made_code : (make : (target : ℕ) → Operand → Command) → Operand → (l : ℕ) → InUse → List Command
  made_code make o l used = make (next_of c.start INT used) o ∷ command.If (Var (next_of c.start INT used)) l ∷ []

  made_tested : (ty : ℕ) (make : (target : ℕ) → Operand → Command) (result : Store → Value → Result Value Act) → Makes c set ty make result
      → ((o : Operand) → IsAccepted (test_accepts ty) o → IsVar o)
      → (label : ℕ) → TestFollows ty (λ o l used. plain (made_code make o l used) (and_one INT used) label)
  made_tested ty make result x var after o v used used' l place q made from start first s va vb near h fit operand of more room stands label when_true when_false =
      let t = next_of c.start INT used' in
      let inside = room_next c set INT used' room in
      let end : place + 1 + 1 ≡ place + 2 = omega arith in
      subst (λ out. Follow c out start first near) (x.truth h.later s h.temporaries v (λ holds s. either holds va vb s) h.ready of)
      (follows_with c.flat c.under c.n (result s.store v) s (λ w s. with_truth w s (λ holds s. either holds va vb s)) start first _ near
      (follows_from c.flat c.under c.n (with_result (result s.store v) s (λ w s. Went w s)) start (here c s h.temporaries place) first s.marks _ _ h.onward (λ w u y. y)
      (x.makes t place o v h.later s h.temporaries used' (var o fit) h.ready operand of (temporary_type c set INT used' inside) stands.0))
      (λ w far.
      (let k = arrives_held c set INT used' used' h.later h.temporaries (here c s h.temporaries place) s.marks (place + 1) w s inside (room_before c set INT used' room) (λ i u. u) far in
      let came : ComesTo c made used from start first (place + 1) s = record {
        later = k.later;
        adds = adds_both made h.later k.later h.adds k.adds;
        temporaries = k.temporaries;
        onward = then_on c start (here c s h.temporaries place) (here c s k.temporaries (place + 1)) first s.marks s.marks h.onward k.onward;
        ready = k.ready;
        kept = λ i u ne. k.kept i (more i u) ne ∙ h.kept i u ne;
      } in
      let is_int = int_of_number (InRange c set Int) w (is_number c set k.later INT Int w (set.kinds Int) k.value) in
      let value_is = temporary_value c set k.later s k.temporaries (place + 1) k.index t INT w k.ready k.number k.holds k.value ∙ int_seen s.store w is_int in
      branch_follows c.flat c.under c.n c.function c.into c.callers c.more l (place + 1) q (Var t) s (here c s k.temporaries (place + 1)) s.marks stands.1.0 (homes l q label) w va vb near
      start first came.onward is_int value_is
      (λ on. when_true (record { later = came.later; adds = came.adds; temporaries = came.temporaries; onward = on; ready = came.ready; kept = came.kept }))
      (λ on. when_false (record { later = came.later; adds = came.adds; temporaries = came.temporaries; onward = rw end at on; ready = came.ready; kept = came.kept }))
      (refl, refl, refl))))

  -- the code of a test, by the type
  abbrev pub BranchFollows : ℕ → (label : ℕ) → Type 1
  BranchFollows ty label = TestFollows ty (λ o l used. branch_on c.start ty o l used label)

  kind_tested : (kind : Kind) (label : ℕ) → BranchFollows (kind_number kind) label
  kind_tested Char label = made_tested (kind_number Char) (λ t o. command.Cast t (var_of o)) _ (small_made c set Char refl) (λ o fit. never_constant o fit) label
  kind_tested UChar label = made_tested (kind_number UChar) (λ t o. command.Cast t (var_of o)) _ (small_made c set UChar refl) (λ o fit. never_constant o fit) label
  kind_tested Short label = made_tested (kind_number Short) (λ t o. command.Cast t (var_of o)) _ (small_made c set Short refl) (λ o fit. never_constant o fit) label
  kind_tested UShort label = made_tested (kind_number UShort) (λ t o. command.Cast t (var_of o)) _ (small_made c set UShort refl) (λ o fit. never_constant o fit) label
  kind_tested Int label = int_tested label
  kind_tested UInt label = made_tested (kind_number UInt) (λ t o. command.Ne t o (Constant (pos 0))) _ (wide_made c set UInt refl) (λ o fit. never_constant o fit) label
  kind_tested Long label = made_tested (kind_number Long) (λ t o. command.Ne t o (Constant (pos 0))) _ (wide_made c set Long refl) (λ o fit. never_constant o fit) label
  kind_tested ULong label = made_tested (kind_number ULong) (λ t o. command.Ne t o (Constant (pos 0))) _ (wide_made c set ULong refl) (λ o fit. never_constant o fit) label

  -- by what is known of the type's number
  abbrev test_by : (is_int small : Bool) → Operand → (l : ℕ) → InUse → (label : ℕ) → Code
  test_by is_int small o l used label =
      if is_int then plain (command.If o l ∷ []) used label
      else (let t = next_of c.start INT used in
      if small then plain (command.Cast t (var_of o) ∷ command.If (Var t) l ∷ []) (and_one INT used) label
      else plain (command.Ne t o (Constant (pos 0)) ∷ command.If (Var t) l ∷ []) (and_one INT used) label)

  accepts_by : (is_int : Bool) (o : Operand) → is_int ≡ false → IsAccepted (if is_int then constant_in Int else no_constant) o → IsVar o
  accepts_by true o e fit = cc
  accepts_by false o e fit = never_constant o fit

  pointer_tested : (ty to label : ℕ) → slice_get c.flat.types ty ≡ Some (Pointer to) → BranchFollows ty label
  pointer_tested ty to label shape =
      let no_int = pointer_no_int c set ty to shape in
      let no_small = pointer_not_small c set ty to shape in
      subst (λ small. TestFollows ty (λ o l used. test_by (nat_eq ty INT) small o l used label)) (sym no_small)
      (subst (λ is_int. TestFollows ty (λ o l used. test_by is_int false o l used label)) (sym no_int)
      (made_tested ty (λ t o. command.Ne t o (Constant (pos 0))) _ (pointer_made c set ty to shape) (λ o fit. accepts_by (nat_eq ty INT) o no_int fit) label))

  pub branch_on_follows : (ty label : ℕ) → IsScalar (slice_get c.flat.types ty) → BranchFollows ty label
  branch_on_follows ty label scalar = by (slice_get c.flat.types ty) refl scalar
    where
      by : (shape : Option Ty) → slice_get c.flat.types ty ≡ shape → IsScalar shape → BranchFollows ty label
      by (Some (Whole kind)) e h = subst (λ t. BranchFollows t label) (sym (set.whole ty kind e)) (kind_tested kind label)
      by (Some (Pointer to)) e h = pointer_tested ty to label e
      by (Some (Array of count)) e h = absurd h
      by (Some (Struct members)) e h = absurd h
      by None e h = absurd h
