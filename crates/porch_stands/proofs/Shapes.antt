-- Stores of one shape: the same calls and allocations live, with objects of the same roots.
use Rattle.std.proofs.Common.{◌≡◌, ◌<◌, ◌≤◌, inl, inr, ℕ, zero, suc, List, [], ◌∷◌, length, map, refl, sym, ap, subst, ◌∙◌, arith, Option, Some, None}
use Rattle.std.specs.Prelude.{slice_get, nat_eq, ⊤}
use Rattle.std.specs.Option.{option_map}
use Rattle.std.proofs.lemmas.Bool.Decides.{eqb_tells}
use Rattle.std.proofs.lemmas.Option.{slice_get-map, same_Some}
use Rattle.std.proofs.lemmas.List.{length-map}
use Rattle.porch_objects.specs.Store.{Home, of_global, of_call, of_block, Root, Object, Activation, HeapObject, Store, variables_in, block_in, object_at}
use Rattle.porch_flat.specs.declared.whole.Flat.{Flat}
use Rattle.porch_abstract.specs.Machine as abstract
use Rattle.porch_bytes.specs.State.{Setting, Frame, Phase, before, running, over}
use Rattle.porch_bytes.specs.StandsFor.{WasMade, AreCallsBelow, AreBlocksFrom, HasAllocation, IsFrameOf, AreFramesOf, IsPhaseOf, root_in}
use Rattle.porch_stands.proofs.Later.{IsLater}

abbrev pub SameCalls : List Activation → List Activation → Type 0
SameCalls [] [] = ⊤
SameCalls (a ∷ old) (b ∷ new) = (a.number ≡ b.number) × (map root_in a.variables ≡ map root_in b.variables) × SameCalls old new
SameCalls _ _ = ⊥

abbrev pub SameBlocks : List HeapObject → List HeapObject → Type 0
SameBlocks [] [] = ⊤
SameBlocks (a ∷ old) (b ∷ new) = (a.number ≡ b.number) × (a.object.root ≡ b.object.root) × SameBlocks old new
SameBlocks _ _ = ⊥

pub record SameShape (s t : Store) : Type 0 where
  pub globals : map root_in s.globals ≡ map root_in t.globals
  pub calls : SameCalls s.calls t.calls
  pub blocks : SameBlocks s.blocks t.blocks
  pub called : s.called ≡ t.called
  pub allocated : s.allocated ≡ t.allocated
  pub checkpoints : s.checkpoints ≡ t.checkpoints

-- an object of one list has one with its root in the other
root_of : (xs ys : List Object) (i : ℕ) (o : Object) → map root_in xs ≡ map root_in ys → slice_get ys i ≡ Some o → (p : Object) × (slice_get xs i ≡ Some p) × (p.root ≡ o.root)
root_of xs ys i o same e = by_object (slice_get xs i) refl
  where
    roots : option_map root_in (slice_get xs i) ≡ Some o.root
    roots = sym (slice_get-map root_in xs i) ∙ ap (λ (rs : List Root). slice_get rs i) same ∙ slice_get-map root_in ys i ∙ ap (option_map root_in) e

    by_object : (x : Option Object) → slice_get xs i ≡ x → (p : Object) × (slice_get xs i ≡ Some p) × (p.root ≡ o.root)
    by_object None g = absurd (let k = sym (ap (option_map root_in) g) ∙ roots in cc)
    by_object (Some p) g = (p, g, same_Some p.root o.root (sym (ap (option_map root_in) g) ∙ roots))

same_variables : (old new : List Activation) (c : ℕ) → SameCalls old new → map root_in (variables_in old c) ≡ map root_in (variables_in new c)
same_variables [] [] c h = refl
same_variables [] (b ∷ new) c h = absurd h
same_variables (a ∷ old) [] c h = absurd h
same_variables (a ∷ old) (b ∷ new) c h =
    elim (eqb_tells a.number c) [
      | inl t ↦ (let u : nat_eq b.number c ≡ _ = ap (λ (n : ℕ). nat_eq n c) (sym h.0) ∙ t.0 in rw t.0 (rw u h.1))
      | inr t ↦ (let u : nat_eq b.number c ≡ _ = ap (λ (n : ℕ). nat_eq n c) (sym h.0) ∙ t.0 in rw t.0 (rw u (same_variables old new c h.2)))
    ]

same_block : (old new : List HeapObject) (b : ℕ) (o : Object) → SameBlocks old new → block_in new b ≡ Some o → (p : Object) × (block_in old b ≡ Some p) × (p.root ≡ o.root)
same_block [] [] b o h e = absurd (let k = e in cc)
same_block [] (y ∷ ys) b o h e = absurd h
same_block (x ∷ xs) [] b o h e = absurd h
same_block (x ∷ xs) (y ∷ ys) b o h e =
    elim (eqb_tells x.number b) [
      | inl t ↦
          (let u : nat_eq y.number b ≡ _ = ap (λ (n : ℕ). nat_eq n b) (sym h.0) ∙ t.0 in
          let k : Some y.object ≡ Some o = rw u at e in
          rw t.0 (x.object, refl, h.1 ∙ ap (λ (z : Object). z.root) (same_Some y.object o k)))
      | inr t ↦
          (let u : nat_eq y.number b ≡ _ = ap (λ (n : ℕ). nat_eq n b) (sym h.0) ∙ t.0 in
          let k : block_in ys b ≡ Some o = rw u at e in
          rw t.0 (same_block xs ys b o h.2 k))
    ]

pub object_same : (s t : Store) → SameShape s t → (home : Home) (o : Object) → object_at t home ≡ Some o → (p : Object) × (object_at s home ≡ Some p) × (p.root ≡ o.root)
object_same s t h (of_global g) o e = root_of s.globals t.globals g o h.globals e
object_same s t h (of_call c v) o e = root_of (variables_in s.calls c) (variables_in t.calls c) v o (same_variables s.calls t.calls c h.calls) e
object_same s t h (of_block b) o e = same_block s.blocks t.blocks b o h.blocks e

pub shape_later : (s t : Store) → SameShape s t → IsLater s t
shape_later s t h = record { made = same_made; lived = λ home o made e. object_same s t h home o e; reached = (let k = h.checkpoints in omega (arith, k)) }
  where
    same_made : (home : Home) → WasMade s home → WasMade t home
    same_made (of_global g) k = k
    same_made (of_call c v) k = subst (λ (n : ℕ). c < n) h.called k
    same_made (of_block b) k = subst (λ (n : ℕ). b < n) h.allocated k

pub calls_below : (count : ℕ) (old new : List Activation) → SameCalls old new → AreCallsBelow count old → AreCallsBelow count new
calls_below count [] [] h k = tt
calls_below count [] (b ∷ new) h k = absurd h
calls_below count (a ∷ old) [] h k = absurd h
calls_below count (a ∷ old) (b ∷ new) h k =
    subst (λ (n : ℕ). (n < count) × AreCallsBelow n new) h.0 (k.0, calls_below a.number old new h.2 k.1)

pub blocks_from : (from count : ℕ) (old new : List HeapObject) → SameBlocks old new → AreBlocksFrom from count old → AreBlocksFrom from count new
blocks_from from count [] [] h k = tt
blocks_from from count [] (b ∷ new) h k = absurd h
blocks_from from count (a ∷ old) [] h k = absurd h
blocks_from from count (a ∷ old) (b ∷ new) h k =
    subst (λ (n : ℕ). (from ≤ n) × (n < count) × AreBlocksFrom (suc n) count new) h.0 (k.0, k.1, blocks_from (suc a.number) count old new h.2 k.2)

-- an allocation of one has one with its number and its root in the other
pub record IsAlike (a b : HeapObject) : Type 0 where
  pub number_is : a.number ≡ b.number
  pub root_is : a.object.root ≡ b.object.root

pub allocation_same : (old new : List HeapObject) (b : HeapObject) → SameBlocks old new → HasAllocation new b → (a : HeapObject) × HasAllocation old a × IsAlike a b
allocation_same old new b h has = at old new has.0 h has.1
  where
    at : (old new : List HeapObject) (i : ℕ) → SameBlocks old new → slice_get new i ≡ Some b → (a : HeapObject) × HasAllocation old a × IsAlike a b
    at [] [] i h e = absurd (let k = e in cc)
    at [] (y ∷ ys) i h e = absurd h
    at (x ∷ xs) [] i h e = absurd h
    at (x ∷ xs) (y ∷ ys) zero h e =
        (x, (0, refl), record { number_is = h.0 ∙ ap (λ (z : HeapObject). z.number) (same_Some y b e); root_is = h.1 ∙ ap (λ (z : HeapObject). z.object.root) (same_Some y b e) })
    at (x ∷ xs) (y ∷ ys) (suc i) h e = (let k = at xs ys i h.2 e in (k.0, (suc k.1.0, k.1.1), k.2))

pub blocks_back : (old new : List HeapObject) → SameBlocks old new → SameBlocks new old
blocks_back [] [] h = tt
blocks_back [] (b ∷ new) h = absurd h
blocks_back (a ∷ old) [] h = absurd h
blocks_back (a ∷ old) (b ∷ new) h = (sym h.0, sym h.1, blocks_back old new h.2)

module _ (flat : Flat) (on : Setting) (address : Home → ℕ) where
  frame_same : (f : Frame) (g : abstract.Frame) (a b : Activation) → a.number ≡ b.number → map root_in a.variables ≡ map root_in b.variables → IsFrameOf flat on address f g a → IsFrameOf flat on address f g b
  frame_same f g a b number roots h =
      let x : length (map root_in a.variables) ≡ length a.variables = length-map a.variables root_in in
      let y : length (map root_in b.variables) ≡ length b.variables = length-map b.variables root_in in
      let many : length a.variables ≡ length b.variables = sym x ∙ ap length roots ∙ y in
      record {
        function_is = h.function_is;
        next_is = h.next_is;
        into_is = h.into_is;
        roots_are = sym roots ∙ h.roots_are;
        places_are = λ v few. ap (λ (n : ℕ). address (of_call n v)) (sym number) ∙ h.places_are v (omega (arith, few, many));
      }

  frames_same : (fs : List Frame) (gs : List abstract.Frame) (old new : List Activation) → SameCalls old new → AreFramesOf flat on address fs gs old → AreFramesOf flat on address fs gs new
  frames_same [] [] [] [] h k = tt
  frames_same [] [] [] (b ∷ new) h k = absurd h
  frames_same [] [] (a ∷ old) new h k = absurd k
  frames_same [] (g ∷ gs) old new h k = absurd k
  frames_same (f ∷ fs) [] old new h k = absurd k
  frames_same (f ∷ fs) (g ∷ gs) [] new h k = absurd k
  frames_same (f ∷ fs) (g ∷ gs) (a ∷ old) [] h k = absurd h
  frames_same (f ∷ fs) (g ∷ gs) (a ∷ old) (b ∷ new) h k = (frame_same f g a b h.0 h.1 k.0, frames_same fs gs old new h.2 k.1)

  pub phase_same : (p : Phase) (q : abstract.Phase) (old new : List Activation) → SameCalls old new → IsPhaseOf flat on address p q old → IsPhaseOf flat on address p q new
  phase_same before abstract.before old new h k = frames_same [] [] old new h k
  phase_same before (abstract.running g gs) old new h k = absurd k
  phase_same before abstract.over old new h k = absurd k
  phase_same (running f fs) abstract.before old new h k = absurd k
  phase_same (running f fs) (abstract.running g gs) old new h k = frames_same (f ∷ fs) (g ∷ gs) old new h k
  phase_same (running f fs) abstract.over old new h k = absurd k
  phase_same over q old new h k = absurd k
