-- Assignments of structs, as cases of the induction: a struct is copied, and is where it was copied to.
use Rattle.std.proofs.Common.{◌≡◌, ℕ, ◌+◌, List, ◌∷◌, ◌++◌, length, refl, sym, ap, subst, ◌∙◌, inl, inr, arith, length-append, true, false, Option, Some, None}
use Rattle.std.specs.Prelude.{slice_get, unwrap_or, Result, Ok, Err}
use Rattle.porch_types.specs.declared.shapes.Ty.{Ty}
use Rattle.porch_types.specs.declared.shapes.Ty.TheVariants.{Pointer, Struct}
use Rattle.porch_types.specs.Leaves.{leaves_of}
use Rattle.porch_values.specs.declared.acts.Act.{Act}
use Rattle.porch_values.specs.declared.acts.Act.TheVariants.{Access}
use Rattle.porch_objects.specs.Store.{Value, number, null, pointer, past, indeterminate, Object, Store, object_at, seen, with_leaves, changed}
use Rattle.porch_objects.specs.Pointers.{if_there, if_place, leaves_from, spliced, copy}
use Rattle.porch_objects.specs.Meaning.{Progress, with_store}
use Rattle.porch_flat.specs.declared.whole.Command.TheVariants as command
use Rattle.porch_typed.specs.Mirror as tree
use Rattle.porch_typed.specs.Mirror.{Expression, Place, Program}
use Rattle.porch_mean.specs.Outcome.{Outcome, Went, Calls, and_then, with_result}
use Rattle.porch_mean.specs.Expression.{store_value}
use Rattle.porch_lowering.specs.Code.{and_one, hold}
use Rattle.porch_lowering.specs.Values.{pointer_to, type_held, may_lack, variable_of, pointer_in, atom_of}
use Rattle.porch_lowering.specs.Operators.{next_of}
use Rattle.porch_lowering.specs.Expression.{moved_to, place_type, writes_last, assign_variable, assign_place, copy_struct, assign_by_shape, code, place_code}
use Rattle.porch_lowered.proofs.Follows.{follows_is}
use Rattle.porch_lowered.proofs.States.{front_stands, back_stands}
use Rattle.porch_lowered.proofs.Growing.{code_grows, place_code_grows}
use Rattle.porch_lowered.proofs.Alive.{seen_changed}
use Rattle.porch_lowered.proofs.Later.{value_later}
use Rattle.porch_lowered.proofs.Codes.{Context, at_most_left, at_most_right, commands, here, IsOf, Taken, Evaluates, IsPresent}
use Rattle.porch_lowered.proofs.Holding.{IsSetting, used_before}
use Rattle.porch_lowered.proofs.Operands.{IsSteady, steady_is, steady_stays}
use Rattle.porch_lowered.proofs.Held.{Nothing, hold_then, from_held_is}
use Rattle.porch_lowered.proofs.Copies.{copy_follows}
use Rattle.porch_lowered.proofs.Branches.{AreHomes}
use Rattle.porch_lowered.proofs.Present.{went_present}
use Rattle.porch_lowered.proofs.Located.{IsPointerFor, IsLocated, place_means}
use Rattle.porch_lowered.proofs.PlaceCases.{held_struct}
use Rattle.porch_lowered.proofs.Assigned.{value_seen}
use Rattle.porch_lowered.proofs.Assigning.{moved_arrives}
use Rattle.porch_lowered.proofs.Lowered.{IsThereUnless, Goes, means, IsLowered, to_temporary}

-- what a copy does
abbrev copies_by : ℕ → Store → (x y : Value) → Result Store Act
copies_by count s x y =
    if_there x (λ to. if_there y (λ from. if_place to (λ home leaf. if_place from (λ other first.
    Ok (changed (λ o. with_leaves o (spliced o.leaves leaf (leaves_from (object_at s other) first count))) s home)))))

never : (y : Value) (to : Store) → if_there y (λ w. let r : Result Store Act = Err Access in r) ≡ Ok to → ⊥
never (number z) to e = cc
never null to e = cc
never (pointer home leaf) to e = cc
never (past home leaf until) to e = cc
never indeterminate to e = cc

-- where it is copied to is there, and still is
made_by : (count : ℕ) (s : Store) (x y : Value) (to : Store) → copies_by count s x y ≡ Ok to → (x ≡ indeterminate → ⊥) × ((w : Value) → seen to w ≡ seen s w)
made_by count s (number z) y to e = absurd (never y to e)
made_by count s null y to e = absurd (never y to e)
made_by count s (past home leaf until) y to e = absurd (never y to e)
made_by count s indeterminate y to e = cc
made_by count s (pointer home leaf) (number z) to e = cc
made_by count s (pointer home leaf) null to e = cc
made_by count s (pointer home leaf) (past other first until) to e = cc
made_by count s (pointer home leaf) indeterminate to e = cc
made_by count s (pointer home leaf) (pointer other first) to e = (
  λ e. cc,
  λ w.
      (let change = λ (o : Object). with_leaves o (spliced o.leaves leaf (leaves_from (object_at s other) first count)) in
      let same : changed change s home ≡ to = cc in
      subst (λ to. seen to w ≡ seen s w) same (seen_changed change s home w)),
)

-- what an assignment of a struct does
abbrev pub copies : ℕ → Value → Value → Progress → Outcome
copies count at v s = with_result (copy count s.store at v) s (λ to s. Went at (with_store s to))

copies_present : (count : ℕ) (at v : Value) (s : Progress) (w : Value) (u : Progress) → copies count at v s ≡ Went w u → IsPresent w u × (at ≡ w)
copies_present count at v s w u e = by (copy count s.store at v) refl e
  where
    by : (r : Result Store Act) → copy count s.store at v ≡ r → with_result r s (λ to u. Went at (with_store u to)) ≡ Went w u → IsPresent w u × (at ≡ w)
    by (Ok to) is e =
        let made = made_by count s.store (seen s.store at) (seen s.store v) to is in
        let same : seen s.store at ≡ at = value_seen s.store (seen s.store at) at refl made.0 in
        (went_present at (with_store s to) w u (made.1 at ∙ same) (λ k. made.0 (same ∙ k)) e, cc)
    by (Err a) is e = cc

module _ (c : Context) (set : IsSetting c) (homes : AreHomes (commands c)) (p : Program) (same : c.flat.types ≡ p.types) (enter : Calls) where
  module _ (ty : ℕ) (members : List ℕ) (place : Place) (e : Expression) (struct : slice_get c.flat.types ty ≡ Some (Struct members))
      (shape : slice_get c.flat.types (pointer_to p ty) ≡ Some (Pointer ty)) (for : IsPointerFor c set p enter place ty (pointer_to p ty)) (located : IsLocated c set p enter place ty)
      (lowered : IsLowered c p enter e) (is : type_held p e ≡ pointer_to p ty) where
    abbrev P : ℕ
    P = pointer_to p ty

    goes_there : Evaluates c (Taken c) IsPresent P (λ s. place_means c set p enter place s) (place_code p c.start place None)
    goes_there None used label at made s ts ready taken may room stands = absurd taken
    goes_there (Some d) used label at made s ts ready taken may room stands = located.whole P for (Some d) used label at made s ts ready (inl taken) may room stands

    value_goes : Evaluates c (Taken c) (IsThereUnless (may_lack e)) P (λ s. means c p enter e s) (code p c.start e)
    value_goes = subst (λ t. Evaluates c (Taken c) (IsThereUnless (may_lack e)) t (λ s. means c p enter e s) (code p c.start e)) is (to_temporary c p enter e lowered)

    count_is : leaves_of c.flat.types ty ≡ leaves_of p.types ty
    count_is = ap (λ types. leaves_of types ty) same

    copied : Evaluates c (Goes c true) (IsThereUnless false) P
        (λ s. and_then (place_means c set p enter place s) (λ at s. and_then (means c p enter e s) (λ v s. copies (leaves_of c.flat.types ty) at v s)))
        (copy_struct p c.start P (place_code p c.start place None) (code p c.start e))
    copied to used label at_place made s ts ready fits may room stands =
        let count = leaves_of c.flat.types ty in
        let t = next_of c.start P used in
        let a = hold None t P (place_code p c.start place None) used label in
        let t' = next_of c.start P a.used in
        let x = hold None t' P (code p c.start e) a.used a.code.label in
        let last = command.Copy t t' ∷ moved_to to a.operand in
        let all = commands c in
        let m1 = at_place + length a.code.commands in
        let m2 = m1 + length x.code.commands in
        let codes = front_stands all at_place (a.code.commands ++ x.code.commands) last stands in
        let stands_a = front_stands all at_place a.code.commands x.code.commands codes in
        let stands_x = back_stands all at_place a.code.commands x.code.commands codes in
        let split : at_place + length (a.code.commands ++ x.code.commands) ≡ m2 = simp length-append (omega arith) in
        let stands_last = rw split at (back_stands all at_place (a.code.commands ++ x.code.commands) last stands) in
        let end : m2 + 1 + length (moved_to to a.operand) ≡ at_place + length ((a.code.commands ++ x.code.commands) ++ last) = simp length-append (omega arith) in
        hold_then c set P None IsPresent (Nothing c) (λ s. place_means c set p enter place s) (place_code p c.start place None)
        (λ at s. and_then (means c p enter e s) (λ v s. copies count at v s)) goes_there (place_code_grows p c.start place None) tt used label at_place made s ts _ ready tt
        (λ later u ts' adds keeps. tt) (λ k. at_most_left (a.code.most k) (x.code.most k) (c.pools k) (room k)) stands_a
        (λ at u h other known.
        rw (← end)
        (from_held_is c (IsThereUnless false) P P made used a.used ts (here c s ts at_place) s.marks m1 (m2 + 1 + length (moved_to to a.operand)) a.operand at u to
        (and_then (means c p enter e u) (λ v s. copies count at v s)) h
        (hold_then c set P None (IsThereUnless (may_lack e)) (λ later used u ts. IsSteady c P used ts a.operand at × IsOf c later P at) (λ s. means c p enter e s) (code p c.start e)
        (λ v s. copies count at v s) value_goes (code_grows p c.start e) tt a.used a.code.label m1 h.later u h.temporaries _ h.ready tt
        (λ later u ts' adds keeps. (
          steady_stays c P a.used (and_one P a.used) h.temporaries ts' a.operand at (λ i k. used_before c set P a.used i k) keeps known.1,
          value_later c.flat.types c.under.widths h.later later adds P at h.value,
        ))
        (λ k. at_most_right (a.code.most k) (x.code.most k) (c.pools k) (room k)) stands_x
        (λ v z k left known'.
        from_held_is c (IsThereUnless false) P P h.later a.used x.used h.temporaries (here c u h.temporaries m1) u.marks m2 (m2 + 1 + length (moved_to to a.operand)) x.operand v z to
        (copies count at v z) k
        (follows_is c.flat c.under c.n (copies count at v z) (here c z k.temporaries m2) z.marks _ _
        (copy_follows c set ty P m2 t t' k.later z k.temporaries x.used at v shape k.ready (steady_is c P x.used z k.temporaries a.operand at left.0) left.1 k.operand k.value stands_last.0)
        (λ w y went far.
        (let there = copies_present count at v z w y went in (
          moved_arrives c set P to a.operand at w x.used (m2 + 1) k.later k.temporaries (here c z k.temporaries m2) z.marks y (inr left.0) there.1 there.0 may stands_last.1 far,
          λ e. there.0,
        ))))))))

    -- by the type that is assigned to
    abbrev AssignedBy : Option Ty → Type 0
    AssignedBy shape =
        Evaluates c (Goes c true) (IsThereUnless false) P
        (λ s. and_then (place_means c set p enter place s) (λ at s. and_then (means c p enter e s) (λ v s. store_value p.types shape ty at v s)))
        (assign_by_shape p c.start shape (variable_of place) (copy_struct p c.start (pointer_to p ty) (place_code p c.start place None) (code p c.start e))
        (assign_variable p c.start ty (unwrap_or (variable_of place) 0) (writes_last p e) (code p c.start e))
        (assign_place p c.start ty (pointer_in place) (place_type p c.start place ty) (place_code p c.start place None) (atom_of (λ z. true) e) (code p c.start e)))

    pub struct_assigned : IsLowered c p enter (tree.assign ty place e)
    struct_assigned =
        record {
          evaluates =
              subst (λ t. Evaluates c (Goes c true) (IsThereUnless false) t (λ s. means c p enter (tree.assign ty place e) s) (code p c.start (tree.assign ty place e)))
              (sym (held_struct c set homes p same enter ty members struct))
              (subst (λ shape. AssignedBy shape) (sym struct_in)
              (subst
              (λ count. Evaluates c (Goes c true) (IsThereUnless false) P
              (λ s. and_then (place_means c set p enter place s) (λ at s. and_then (means c p enter e s) (λ v s. copies count at v s)))
              (copy_struct p c.start P (place_code p c.start place None) (code p c.start e)))
              count_is copied));
          in_place = λ accepts. tt;
        }
      where
        struct_in : slice_get p.types ty ≡ Some (Struct members)
        struct_in = ap (λ types. slice_get types ty) (sym same) ∙ struct
