-- A change that leaves each object as it is changes nothing.
use Rattle.std.proofs.Common.{◌≡◌, ℕ, zero, suc, List, [], ◌∷◌, Option, Some, None, slice_get, refl, ap, inl, inr}
use Rattle.std.specs.Prelude.{slice_set}
use Rattle.std.proofs.lemmas.Bool.Decides.{eqb_tells}
use Rattle.porch_objects.specs.Store.{Home, of_global, of_call, of_block, Object, Activation, HeapObject, Store, changed_at, changed_calls, changed_blocks, changed, with_globals, with_calls, with_blocks}

abbrev still : Object → Object
still object = object

same_set : (objects : List Object) (i : ℕ) (o : Object) → slice_get objects i ≡ Some o → slice_set objects i o ≡ objects
same_set [] i o is = refl
same_set (x ∷ objects) zero o is = ap (λ (y : Object). y ∷ objects) (let e : o ≡ x = cc in e)
same_set (x ∷ objects) (suc i) o is = ap (λ (os : List Object). x ∷ os) (same_set objects i o is)

still_at : (objects : List Object) (i : ℕ) (found : Option Object) → slice_get objects i ≡ found → changed_at still objects found i ≡ objects
still_at objects i None is = refl
still_at objects i (Some o) is = same_set objects i o is

still_calls : (calls : List Activation) (call variable : ℕ) → changed_calls still calls call variable ≡ calls
still_calls [] call variable = refl
still_calls (a ∷ callers) call variable =
    elim (eqb_tells a.number call) [
      | inl w ↦ rw w.0 (ap (λ (objects : List Object). (let e : Activation = record { number = a.number; variables = objects } in e) ∷ callers)
          (still_at a.variables variable (slice_get a.variables variable) refl))
      | inr w ↦ rw w.0 (ap (λ (more : List Activation). a ∷ more) (still_calls callers call variable))
    ]

still_blocks : (blocks : List HeapObject) (block : ℕ) → changed_blocks still blocks block ≡ blocks
still_blocks [] block = refl
still_blocks (h ∷ more) block =
    elim (eqb_tells h.number block) [
      | inl w ↦ rw w.0 refl
      | inr w ↦ rw w.0 (ap (λ (hs : List HeapObject). h ∷ hs) (still_blocks more block))
    ]

pub unchanged : (s : Store) (home : Home) → changed (λ object. object) s home ≡ s
unchanged s (of_global global) = ap (λ (os : List Object). with_globals s os) (still_at s.globals global (slice_get s.globals global) refl)
unchanged s (of_call call variable) = ap (λ (calls : List Activation). with_calls s calls) (still_calls s.calls call variable)
unchanged s (of_block block) = ap (λ (hs : List HeapObject). with_blocks s hs) (still_blocks s.blocks block)
