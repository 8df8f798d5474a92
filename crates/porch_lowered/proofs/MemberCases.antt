-- Members of a struct that is no place, as cases of the induction: a struct again is its place, and all else is read.
use Rattle.std.proofs.Common.{◌≡◌, ◌≤◌, ℕ, ◌+◌, List, [], ◌∷◌, ◌++◌, length, refl, sym, ap, subst, ◌∙◌, inr, arith, length-append, true, false, Option, Some, None}
use Rattle.std.specs.Prelude.{slice_get}
use Rattle.porch_types.specs.declared.shapes.Ty.{Ty}
use Rattle.porch_types.specs.declared.shapes.Ty.TheVariants.{Whole, Pointer, Array, Struct}
use Rattle.porch_types.specs.LeafTypes.{IsScalar}
use Rattle.porch_types.specs.Rows.{IsSubobject}
use Rattle.porch_objects.specs.Store.{Value, Object}
use Rattle.porch_objects.specs.Pointers.{load, member}
use Rattle.porch_objects.specs.Meaning.{Progress}
use Rattle.porch_flat.specs.declared.whole.Command.TheVariants as command
use Rattle.porch_typed.specs.Mirror as tree
use Rattle.porch_typed.specs.Mirror.{Expression, Program}
use Rattle.porch_mean.specs.Outcome.{Outcome, Went, Left, Undefined, Stopped, Calls, and_then}
use Rattle.porch_mean.specs.Expression.{load_at, member_at, member_value}
use Rattle.porch_lowering.specs.Code.{InUse, and_one, at_most, hold}
use Rattle.porch_lowering.specs.Values.{pointer_to, type_held, may_lack}
use Rattle.porch_lowering.specs.Operators.{next_of}
use Rattle.porch_lowering.specs.Expression.{member_code, code}
use Rattle.porch_sound.specs.Typing.{StoreTyping}
use Rattle.porch_lowered.proofs.Follows.{follows_is, follows_then, follows_from}
use Rattle.porch_lowered.proofs.States.{Stands, front_stands, back_stands}
use Rattle.porch_lowered.proofs.Growing.{member_grows, code_grows}
use Rattle.porch_lowered.proofs.Codes.{Context, at_most_left, at_most_right, commands, here, Follow, IsReady, MayGo, Arrives, arrives_from, Evaluates, IsPresent}
use Rattle.porch_lowered.proofs.Holding.{IsSetting, evaluates_both, arrives_held, room_before, room_next, temporary_type, temporary_value}
use Rattle.porch_lowered.proofs.Operands.{variable_is, operand_type}
use Rattle.porch_lowered.proofs.Held.{Nothing, hold_then, from_held}
use Rattle.porch_lowered.proofs.Commands.{command_follows}
use Rattle.porch_lowered.proofs.OneOperand.{loads, members}
use Rattle.porch_lowered.proofs.Branches.{AreHomes}
use Rattle.porch_lowered.proofs.Present.{load_present, member_present, behind_present}
use Rattle.porch_lowered.proofs.Converted.{one_codes}
use Rattle.porch_lowered.proofs.Located.{member_strictly}
use Rattle.porch_lowered.proofs.Cases.{known_of, held_scalar}
use Rattle.porch_lowered.proofs.PlaceCases.{held_struct}
use Rattle.porch_lowered.proofs.Lowered.{IsThereUnless, Goes, means, IsLowered, to_temporary}

module _ (c : Context) (set : IsSetting c) (homes : AreHomes (commands c)) (p : Program) (same : c.flat.types ≡ p.types) (enter : Calls) where
  module _ (ty leaf struct : ℕ) (e : Expression) (lowered : IsLowered c p enter e) (of_struct : slice_get c.flat.types (type_held p e) ≡ Some (Pointer struct))
      (subobject : IsSubobject c.flat.types struct 1 leaf ty) (shape : slice_get c.flat.types (pointer_to p ty) ≡ Some (Pointer ty)) where
    abbrev P : ℕ
    P = pointer_to p ty

    abbrev T : ℕ
    T = type_held p e

    same_end : (o : Outcome) → o ≡ and_then o (λ at s. Went at s)
    same_end (Went v s) = refl
    same_end (Left how s) = refl
    same_end (Undefined a s) = refl
    same_end (Stopped s) = refl

    -- the place of a struct in it
    pub inner_struct : (inner : List ℕ) → slice_get c.flat.types ty ≡ Some (Struct inner) → IsLowered c p enter (tree.member_of ty leaf e)
    inner_struct inner of_inner =
        record {
          evaluates =
              subst (λ t. Evaluates c (Goes c true) (IsThereUnless false) t (λ s. means c p enter (tree.member_of ty leaf e) s) (code p c.start (tree.member_of ty leaf e)))
              (sym (held_struct c set homes p same enter ty inner of_inner))
              (subst
              (λ shape. Evaluates c (Goes c true) (IsThereUnless false) P
              (λ s. and_then (means c p enter e s) (λ at s. and_then (member_at at leaf s) (λ at s. member_value shape at s)))
              (member_code p c.start shape ty leaf T (code p c.start e)))
              (sym (ap (λ types. slice_get types ty) (sym same) ∙ of_inner))
              (subst
              (λ go. Evaluates c (Goes c true) (IsThereUnless false) P (λ s. and_then (means c p enter e s) go) (member_code p c.start (Some (Struct inner)) ty leaf T (code p c.start e)))
              (λ i at s. same_end (member_at at leaf s) i)
              (known_of c (Goes c true) (IsThereUnless false) P (λ s. and_then (means c p enter e s) (λ at s. member_at at leaf s)) (member_code p c.start (Some (Struct inner)) ty leaf T (code p c.start e))
              (one_codes c set T P None (IsThereUnless (may_lack e)) (λ s. means c p enter e s) (code p c.start e) (λ s at. member s at leaf) (λ d t. command.Member d t leaf)
              (λ at s. member_at at leaf s) (λ v s. refl) (member_strictly leaf) (to_temporary c p enter e lowered) (code_grows p c.start e) tt tt
              (members c set T struct leaf ty P of_struct subobject shape) (member_code p c.start (Some (Struct inner)) ty leaf T (code p c.start e))
              (member_grows p c.start (Some (Struct inner)) ty leaf T (code p c.start e) (code_grows p c.start e)) (λ d used label. refl) (λ used label. refl))
              (λ s u v went there. behind_present p c.under enter c.call (means c p enter e s) (λ at s. member_at at leaf s) v u went (λ at t is. member_present at leaf t v u is)))));
          in_place = λ accepts. tt;
        }

    -- an integer or a pointer in it is read
    reads_inner : IsScalar (slice_get c.flat.types ty) → (d : ℕ) (used : InUse) (label place : ℕ) (made : StoreTyping) (s : Progress) (ts : List Object) → IsReady c made s ts → MayGo c ty (Some d)
        → ((t : ℕ) → at_most (hold None (next_of c.start T used) T (code p c.start e) used label).code.most
        (and_one P (hold None (next_of c.start T used) T (code p c.start e) used label).used) t ≤ c.pools t)
        → Stands (commands c) place
        ((hold None (next_of c.start T used) T (code p c.start e) used label).code.commands
        ++ command.Member (next_of c.start P (and_one T used)) (next_of c.start T used) leaf ∷ command.Load d (next_of c.start P (and_one T used)) ∷ [])
        → Follow c (and_then (means c p enter e s) (λ at s. and_then (member_at at leaf s) (λ at s. load_at at s))) (here c s ts place) s.marks
        (Arrives c ty made (Some d) used ts (here c s ts place) s.marks
        (place
        + length
        ((hold None (next_of c.start T used) T (code p c.start e) used label).code.commands
        ++ command.Member (next_of c.start P (and_one T used)) (next_of c.start T used) leaf ∷ command.Load d (next_of c.start P (and_one T used)) ∷ [])))
    reads_inner scalar d used label place made s ts ready may room stands =
        let var = next_of c.start T used in
        let x = hold None var T (code p c.start e) used label in
        let t = next_of c.start P x.used in
        let m = place + length x.code.commands in
        let two = command.Member t var leaf ∷ command.Load d t ∷ [] in
        let behind = back_stands (commands c) place x.code.commands two stands in
        let room_t : (k : ℕ) → and_one P x.used k ≤ c.pools k = λ k. at_most_right (x.code.most k) (and_one P x.used k) (c.pools k) (room k) in
        let inside = room_next c set P x.used room_t in
        let makes = members c set T struct leaf ty P of_struct subobject shape in
        let reads = loads c set P ty shape scalar in
        let end : m + 1 + 1 ≡ place + length (x.code.commands ++ two) = simp length-append (omega arith) in
        hold_then c set T None (IsThereUnless (may_lack e)) (Nothing c) (λ s. means c p enter e s) (code p c.start e) (λ at s. and_then (member_at at leaf s) (λ at s. load_at at s))
        (to_temporary c p enter e lowered) (code_grows p c.start e) tt used label place made s ts _ ready tt (λ later u ts' adds keeps. tt)
        (λ k. at_most_left (x.code.most k) (and_one P x.used k) (c.pools k) (room k)) (front_stands (commands c) place x.code.commands two stands)
        (λ at u h other known.
        rw (← end)
        (from_held c T ty made used x.used ts (here c s ts place) s.marks m (m + 1 + 1) x.operand at u (Some d) (and_then (member_at at leaf u) (λ at s. load_at at s)) h
        (follows_then c.flat c.under c.n (member_at at leaf u) (λ at s. load_at at s) (here c u h.temporaries m) u.marks _ _
        (command_follows c P t m (command.Member t var leaf) h.later u h.temporaries x.used (member u.store at leaf) h.ready behind.0 (makes.quiet t var)
        (makes.does_is m t var h.later u h.temporaries at h.ready (operand_type c set T x.used u h.temporaries var at h.operand) (temporary_type c set P x.used inside) h.value
        (variable_is c set h.later u h.temporaries m T var x.used at h.ready h.operand h.value))
        (makes.gives h.later u h.temporaries at h.ready h.value))
        (λ w z far.
        (let k = arrives_held c set P x.used x.used h.later h.temporaries (here c u h.temporaries m) u.marks (m + 1) w z inside (room_before c set P x.used room_t) (λ i u. u) far in
        follows_from c.flat c.under c.n (load_at w z) (here c u h.temporaries m) (here c z k.temporaries (m + 1)) u.marks z.marks
        (Arrives c ty h.later (Some d) x.used h.temporaries (here c u h.temporaries m) u.marks (m + 1 + 1))
        (Arrives c ty k.later (Some d) x.used k.temporaries (here c z k.temporaries (m + 1)) z.marks (m + 1 + 1)) k.onward
        (λ y z' further.
        arrives_from c ty h.later k.later (Some d) x.used h.temporaries k.temporaries (here c u h.temporaries m) (here c z k.temporaries (m + 1)) u.marks z.marks (m + 1 + 1) y z'
        k.adds k.onward k.kept further)
        (command_follows c ty d (m + 1) (command.Load d t) k.later z k.temporaries x.used (load z.store w) k.ready behind.1.0 (reads.quiet d t)
        (reads.does_is (m + 1) d t k.later z k.temporaries w k.ready (temporary_type c set P x.used inside) may k.value
        (temporary_value c set k.later z k.temporaries (m + 1) k.index t P w k.ready k.number k.holds k.value))
        (reads.gives k.later z k.temporaries w k.ready k.value)))))))

    -- by what the member is
    abbrev MemberBy : Option Ty → Type 0
    MemberBy shape =
        Evaluates c (Goes c true) (IsThereUnless false) ty
        (λ s. and_then (means c p enter e s) (λ at s. and_then (member_at at leaf s) (λ at s. member_value shape at s)))
        (member_code p c.start shape ty leaf T (code p c.start e))

    read_present : (s u : Progress) (v : Value) → and_then (means c p enter e s) (λ at s. and_then (member_at at leaf s) (λ at s. load_at at s)) ≡ Went v u → IsPresent v u
    read_present s u v went =
        behind_present p c.under enter c.call (means c p enter e s) (λ at s. and_then (member_at at leaf s) (λ at s. load_at at s)) v u went
        (λ at t is. behind_present p c.under enter c.call (member_at at leaf t) (λ at s. load_at at s) v u is (λ w z is. load_present w z v u is))

    -- an integer or a pointer in it
    pub inner_read : IsScalar (slice_get c.flat.types ty) → IsLowered c p enter (tree.member_of ty leaf e)
    inner_read scalar =
        record {
          evaluates =
              subst (λ t. Evaluates c (Goes c true) (IsThereUnless false) t (λ s. means c p enter (tree.member_of ty leaf e) s) (code p c.start (tree.member_of ty leaf e)))
              (sym (held_scalar c set homes p same enter ty scalar)) (by (slice_get p.types ty) refl (subst (λ types. IsScalar (slice_get types ty)) same scalar));
          in_place = λ accepts. tt;
        }
      where
        by : (shape : Option Ty) → slice_get p.types ty ≡ shape → IsScalar shape
            → Evaluates c (Goes c true) (IsThereUnless false) ty (λ s. means c p enter (tree.member_of ty leaf e) s) (code p c.start (tree.member_of ty leaf e))
        by (Some (Whole kind)) known h =
            subst (λ shape. MemberBy shape) (sym known)
            (evaluates_both c set (Goes c true) (IsThereUnless false) ty
            (λ s. and_then (means c p enter e s) (λ at s. and_then (member_at at leaf s) (λ at s. load_at at s)))
            (member_code p c.start (Some (Whole kind)) ty leaf T (code p c.start e)) (λ used d taken. inr refl)
            (λ d used label place made s ts ready fits may room stands.
            follows_is c.flat c.under c.n (and_then (means c p enter e s) (λ at s. and_then (member_at at leaf s) (λ at s. load_at at s))) (here c s ts place) s.marks _ _
            (reads_inner scalar d used label place made s ts ready may room stands) (λ v u went far. (far, λ there. read_present s u v went)))
            (member_grows p c.start (Some (Whole kind)) ty leaf T (code p c.start e) (code_grows p c.start e)) (λ used label. refl))
        by (Some (Pointer to)) known h =
            subst (λ shape. MemberBy shape) (sym known)
            (evaluates_both c set (Goes c true) (IsThereUnless false) ty
            (λ s. and_then (means c p enter e s) (λ at s. and_then (member_at at leaf s) (λ at s. load_at at s)))
            (member_code p c.start (Some (Pointer to)) ty leaf T (code p c.start e)) (λ used d taken. inr refl)
            (λ d used label place made s ts ready fits may room stands.
            follows_is c.flat c.under c.n (and_then (means c p enter e s) (λ at s. and_then (member_at at leaf s) (λ at s. load_at at s))) (here c s ts place) s.marks _ _
            (reads_inner scalar d used label place made s ts ready may room stands) (λ v u went far. (far, λ there. read_present s u v went)))
            (member_grows p c.start (Some (Pointer to)) ty leaf T (code p c.start e) (code_grows p c.start e)) (λ used label. refl))
        by (Some (Array of count)) known h = absurd h
        by (Some (Struct inner)) known h = absurd h
        by None known h = absurd h
