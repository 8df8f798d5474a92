-- What a copy is where both places are there, and the object that is written has all of the leaves.
use Rattle.std.proofs.Common.{◌≡◌, ℕ, ◌+◌, true, nat_le, List, [], ◌∷◌, length, Option, Some, None, Result, Ok, slice_get, refl, sym, ap, ◌∙◌, inl, inr}
use Rattle.std.proofs.lemmas.Bool.Decides.{eqb_tells}
use Rattle.std.specs.Prelude.{slice_set}
use Rattle.porch_values.specs.declared.acts.Act.{Act}
use Rattle.porch_objects.specs.Store.{Home, of_global, of_call, of_block, Value, number, null, pointer, past, indeterminate, Object, Activation, HeapObject, Store, seen, object_at, variables_in, block_in, changed_at, changed_calls, changed_blocks, changed, with_leaves, with_globals, with_calls, with_blocks}
use Rattle.porch_objects.specs.Pointers.{if_there, if_place, copy, leaves_from, spliced}
use Rattle.porch_live.specs.inside.Edits.{has_part, with_part}
use Rattle.porch_live.specs.inside.Places.{Places, places}

module _ (f g : Object → Object) where
  same_at : (objects : List Object) (found : Option Object) (i : ℕ) → ((o : Object) → found ≡ Some o → f o ≡ g o)
      → changed_at f objects found i ≡ changed_at g objects found i
  same_at objects None i same = refl
  same_at objects (Some o) i same = ap (λ (x : Object). slice_set objects i x) (same o refl)

  same_calls : (calls : List Activation) (call variable : ℕ) → ((o : Object) → slice_get (variables_in calls call) variable ≡ Some o → f o ≡ g o)
      → changed_calls f calls call variable ≡ changed_calls g calls call variable
  same_calls [] call variable same = refl
  same_calls (a ∷ callers) call variable same =
      elim (eqb_tells a.number call) [
        | inl w ↦ rw w.0 (ap (λ (objects : List Object). (let e : Activation = record { number = a.number; variables = objects } in e) ∷ callers)
            (same_at a.variables (slice_get a.variables variable) variable (λ o h. same o (rw w.0 h))))
        | inr w ↦ rw w.0 (ap (λ (more : List Activation). a ∷ more) (same_calls callers call variable (λ o h. same o (rw w.0 h))))
      ]

  same_blocks : (blocks : List HeapObject) (block : ℕ) → ((o : Object) → block_in blocks block ≡ Some o → f o ≡ g o)
      → changed_blocks f blocks block ≡ changed_blocks g blocks block
  same_blocks [] block same = refl
  same_blocks (h ∷ more) block same =
      elim (eqb_tells h.number block) [
        | inl w ↦ rw w.0 (ap (λ (object : Object). (let e : HeapObject = record { number = h.number; object = object } in e) ∷ more) (same h.object (rw w.0 refl)))
        | inr w ↦ rw w.0 (ap (λ (hs : List HeapObject). h ∷ hs) (same_blocks more block (λ o is. same o (rw w.0 is))))
      ]

  -- two changes that do the same to the object that lives
  same_change : (s : Store) (home : Home) → ((o : Object) → object_at s home ≡ Some o → f o ≡ g o) → changed f s home ≡ changed g s home
  same_change s (of_global global) same = ap (λ (os : List Object). with_globals s os) (same_at s.globals (slice_get s.globals global) global same)
  same_change s (of_call call variable) same = ap (λ (calls : List Activation). with_calls s calls) (same_calls s.calls call variable same)
  same_change s (of_block block) same = ap (λ (hs : List HeapObject). with_blocks s hs) (same_blocks s.blocks block same)

module _ (go : Home → ℕ → Home → ℕ → Result Store Act) where
  placed : (v w : Value) (p : Places) → places v w ≡ Ok p
      → if_there v (λ to. if_there w (λ from. if_place to (λ home leaf. if_place from (λ other first. go home leaf other first)))) ≡ go p.home p.leaf p.other p.first
  placed indeterminate w p is = cc
  placed (number z) indeterminate p is = cc
  placed (number z) (number y) p is = cc
  placed (number z) null p is = cc
  placed (number z) (past other first end) p is = cc
  placed (number z) (pointer other first) p is = cc
  placed null indeterminate p is = cc
  placed null (number y) p is = cc
  placed null null p is = cc
  placed null (past other first end) p is = cc
  placed null (pointer other first) p is = cc
  placed (past home leaf until) indeterminate p is = cc
  placed (past home leaf until) (number y) p is = cc
  placed (past home leaf until) null p is = cc
  placed (past home leaf until) (past other first end) p is = cc
  placed (past home leaf until) (pointer other first) p is = cc
  placed (pointer home leaf) indeterminate p is = cc
  placed (pointer home leaf) (number y) p is = cc
  placed (pointer home leaf) null p is = cc
  placed (pointer home leaf) (past other first end) p is = cc
  placed (pointer home leaf) (pointer other first) p is =
      let same : (let q : Places = record { home = home; leaf = leaf; other = other; first = first } in q) ≡ p = cc in
      ap (λ (q : Places). go q.home q.leaf q.other q.first) same

whole_part : (at : ℕ) (vs : List Value) (o : Object) (found : Option Object) → has_part found at (length vs) ≡ true → found ≡ Some o
    → with_part at vs o ≡ with_leaves o (spliced o.leaves at vs)
whole_part at vs o found has is =
    let within : nat_le (at + length vs) (length o.leaves) ≡ true = rw is at has in rw within refl

pub copies : (count : ℕ) (s : Store) (to from : Value) (p : Places) (vs : List Value) → Ok p ≡ places (seen s to) (seen s from)
    → vs ≡ leaves_from (object_at s p.other) p.first count → has_part (object_at s p.home) p.leaf (length vs) ≡ true
    → copy count s to from ≡ Ok (changed (with_part p.leaf vs) s p.home)
copies count s to from p vs found values has =
    let splice : List Value → Object → Object = λ vs o. with_leaves o (spliced o.leaves p.leaf vs) in
    placed (λ home leaf other first. Ok (changed (λ object. with_leaves object (spliced object.leaves leaf (leaves_from (object_at s other) first count))) s home))
    (seen s to) (seen s from) p (sym found)
    ∙ ap (λ (vs : List Value). let r : Result Store Act = Ok (changed (splice vs) s p.home) in r) (sym values)
    ∙ ap (λ (after : Store). let r : Result Store Act = Ok after in r)
    (same_change (splice vs) (with_part p.leaf vs) s p.home (λ o is. sym (whole_part p.leaf vs o (object_at s p.home) has is)))
