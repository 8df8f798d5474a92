-- The cases of the induction over expressions that make a value of a place: what is read, pointers to places, structs and
-- first elements.
use Rattle.std.proofs.Common.{◌≡◌, ℕ, ◌+◌, ◌*◌, refl, sym, ap, subst, ◌∙◌, inl, inr, arith, true, false, Some, None}
use Rattle.std.specs.Prelude.{slice_get, List}
use Rattle.porch_types.specs.declared.shapes.Ty.TheVariants.{Pointer, Array, Struct}
use Rattle.porch_types.specs.Leaves.{leaves_of}
use Rattle.porch_types.specs.LeafTypes.{IsScalar}
use Rattle.porch_types.specs.Rows.{elements_of_root, elements_of_array, IsSubobject}
use Rattle.porch_typed.specs.Mirror.{Place, Program, whole, address, first}
use Rattle.porch_mean.specs.Outcome.{Calls, and_then}
use Rattle.porch_mean.specs.Expression.{load_at}
use Rattle.porch_lowering.specs.Values.{pointer_to, held_type, held_as, pointer_in}
use Rattle.porch_lowering.specs.Expression.{place_type, place_writes_last, read_code, code, place_code}
use Rattle.porch_lowered.proofs.Follows.{follows_is}
use Rattle.porch_lowered.proofs.Growing.{read_grows, code_grows, place_code_grows}
use Rattle.porch_lowered.proofs.Codes.{Context, commands, here, Taken, Evaluates, IsPresent}
use Rattle.porch_lowered.proofs.Holding.{IsSetting, evaluates_both}
use Rattle.porch_lowered.proofs.Held.{InPlace}
use Rattle.porch_lowered.proofs.OneOperand.{IsVariable}
use Rattle.porch_lowered.proofs.Branches.{AreHomes}
use Rattle.porch_lowered.proofs.Present.{load_present, behind_present}
use Rattle.porch_lowered.proofs.Converted.{reads_code}
use Rattle.porch_lowered.proofs.Located.{whole_subobject, IsPointerFor, IsLocated, place_means}
use Rattle.porch_lowered.proofs.Cases.{known_of, held_scalar}
use Rattle.porch_lowered.proofs.Lowered.{IsThereUnless, Goes, means, IsLowered}

module _ (c : Context) (set : IsSetting c) (homes : AreHomes (commands c)) (p : Program) (same : c.flat.types ≡ p.types) (enter : Calls) where
  -- a struct is held as a pointer to it
  pub held_struct : (ty : ℕ) (members : List ℕ) → slice_get c.flat.types ty ≡ Some (Struct members) → held_type p (Some ty) ≡ pointer_to p ty
  held_struct ty members shape = ap (λ types. held_as p (slice_get types ty) ty) (sym same) ∙ ap (λ shape. held_as p shape ty) shape

  pub whole_lowered : (ty : ℕ) (members : List ℕ) (place : Place) → slice_get c.flat.types ty ≡ Some (Struct members)
      → slice_get c.flat.types (pointer_to p ty) ≡ Some (Pointer ty) → IsLocated c set p enter place ty → IsLowered c p enter (whole ty place)
  whole_lowered ty members place struct shape located =
      record {
        evaluates =
            subst (λ t. Evaluates c (Goes c true) (IsThereUnless false) t (λ s. means c p enter (whole ty place) s) (code p c.start (whole ty place))) (sym (held_struct ty members struct))
            (evaluates_both c set (Goes c true) (IsThereUnless false) (pointer_to p ty) (λ s. means c p enter (whole ty place) s) (code p c.start (whole ty place)) (λ used d taken. inr refl)
            (λ d used label at made s ts ready fits may room stands.
            follows_is c.flat c.under c.n (means c p enter (whole ty place) s) (here c s ts at) s.marks _ _
            (located.inner (pointer_to p ty) 0 ty shape (whole_subobject c.flat.types ty) (Some d) used label at made s ts ready (inr refl) may room stands)
            (λ v u e far. (far.0, λ there. far.1)))
            (code_grows p c.start (whole ty place)) (λ used label. refl));
        in_place = λ accepts. tt;
      }

  pub address_lowered : (ty to : ℕ) (place : Place) → slice_get c.flat.types ty ≡ Some (Pointer to) → IsPointerFor c set p enter place to ty → IsLocated c set p enter place to
      → IsLowered c p enter (address ty place)
  address_lowered ty to place shape for located =
      record {
        evaluates =
            subst
            (λ t. Evaluates c (Goes c (place_writes_last p place)) (IsThereUnless false) t (λ s. means c p enter (address ty place) s) (code p c.start (address ty place)))
            (sym (held_scalar c set homes p same enter ty (subst (λ shape. IsScalar shape) (sym shape) tt)))
            (evaluates_both c set (Goes c (place_writes_last p place)) (IsThereUnless false) ty (λ s. means c p enter (address ty place) s) (code p c.start (address ty place))
            (λ used d taken. inl taken)
            (λ d used label at made s ts ready fits may room stands.
            follows_is c.flat c.under c.n (means c p enter (address ty place) s) (here c s ts at) s.marks _ _
            (located.whole ty for (Some d) used label at made s ts ready fits may room stands)
            (λ v u e far. (far.0, λ there. far.1)))
            (code_grows p c.start (address ty place)) (λ used label. refl));
        in_place = λ accepts. tt;
      }

  -- the first element of an array
  first_element : (array to count : ℕ) → slice_get c.flat.types array ≡ Some (Array to count) → IsSubobject c.flat.types array 1 0 to
  first_element array to count shape =
      let some = (set.are.formed.each array (Array to count) shape).occupied in (
        record { first = 0 + 0 * leaves_of c.flat.types array; len = count },
        record { is_row = elements_of_array elements_of_root (omega arith) shape; element = (0, some, omega arith) },
      )

  pub first_lowered : (ty to array count : ℕ) (place : Place) → slice_get c.flat.types ty ≡ Some (Pointer to) → slice_get c.flat.types array ≡ Some (Array to count)
      → IsLocated c set p enter place array → IsLowered c p enter (first ty place)
  first_lowered ty to array count place shape elements located =
      record {
        evaluates =
            subst (λ t. Evaluates c (Goes c true) (IsThereUnless false) t (λ s. means c p enter (first ty place) s) (code p c.start (first ty place)))
            (sym (held_scalar c set homes p same enter ty (subst (λ shape. IsScalar shape) (sym shape) tt)))
            (evaluates_both c set (Goes c true) (IsThereUnless false) ty (λ s. means c p enter (first ty place) s) (code p c.start (first ty place)) (λ used d taken. inr refl)
            (λ d used label at made s ts ready fits may room stands.
            follows_is c.flat c.under c.n (means c p enter (first ty place) s) (here c s ts at) s.marks _ _
            (located.inner ty 0 to shape (first_element array to count elements) (Some d) used label at made s ts ready (inr refl) may room stands)
            (λ v u e far. (far.0, λ there. far.1)))
            (code_grows p c.start (first ty place)) (λ used label. refl));
        in_place = λ accepts. tt;
      }

  -- what stands at a place that is no variable of the call
  pub read_through : (ty : ℕ) (place : Place) → IsScalar (slice_get c.flat.types ty) → slice_get c.flat.types (place_type p c.start place ty) ≡ Some (Pointer ty)
      → IsPointerFor c set p enter place ty (place_type p c.start place ty) → IsLocated c set p enter place ty
      → InPlace c (place_type p c.start place ty) (pointer_in place) (λ s. place_means c set p enter place s) → IsVariable (pointer_in place)
      → Evaluates c (Goes c true) (IsThereUnless false) ty (λ s. and_then (place_means c set p enter place s) (λ at s. load_at at s))
      (read_code p c.start ty (pointer_in place) (place_type p c.start place ty) (place_code p c.start place None))
  read_through ty place scalar shape for located in_place variable =
      known_of c (Goes c true) (IsThereUnless false) ty (λ s. and_then (place_means c set p enter place s) (λ at s. load_at at s))
      (read_code p c.start ty (pointer_in place) (place_type p c.start place ty) (place_code p c.start place None))
      (reads_code c set p ty (place_type p c.start place ty) (pointer_in place) IsPresent (λ s. place_means c set p enter place s) (place_code p c.start place None) shape scalar
      to_temporary (place_code_grows p c.start place None) in_place variable
      (read_grows p c.start ty (pointer_in place) (place_type p c.start place ty) (place_code p c.start place None) (place_code_grows p c.start place None)))
      (λ s u v e there. behind_present p c.under enter c.call (place_means c set p enter place s) (λ at s. load_at at s) v u e (λ at t is. load_present at t v u is))
    where
      to_temporary : Evaluates c (Taken c) IsPresent (place_type p c.start place ty) (λ s. place_means c set p enter place s) (place_code p c.start place None)
      to_temporary None used label at made s ts ready taken may room stands = absurd taken
      to_temporary (Some d) used label at made s ts ready taken may room stands =
          located.whole (place_type p c.start place ty) for (Some d) used label at made s ts ready (inl taken) may room stands
