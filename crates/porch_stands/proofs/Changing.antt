-- A leaf of an object that lives becomes a value, and its bytes the number of that: the machine stands for the state again.
use Rattle.std.proofs.Common.{◌≡◌, ◌≢◌, ◌<◌, ◌≤◌, ◌⊎◌, inl, inr, ℕ, ◌+◌, ◌*◌, ℤ, List, length, get_or, refl, sym, ap, subst, ◌∙◌, arith, Some, IsTrue}
use Rattle.std.specs.Prelude.{slice_get, slice_set}
use Rattle.std.proofs.lemmas.Bool.{cases_eq}
use Rattle.std.proofs.lemmas.List.{length-set}
use Rattle.std.proofs.lemmas.Option.{slice_get_within, slice_get-get_or, same_Some}
use Rattle.porch_types.specs.LeafTypes.{leaf_type}
use Rattle.porch_values.specs.declared.widths.Widths.{Widths}
use Rattle.porch_objects.specs.Store.{Home, of_block, Value, Root, Object, HeapObject, Store, leaves_in, object_at, with_leaves, with_leaf_at}
use Rattle.porch_heap.specs.declared.block.Block.{Block}
use Rattle.porch_flat.specs.declared.whole.Flat.{Flat}
use Rattle.porch_abstract.specs.Machine as abstract
use Rattle.porch_bytes.specs.Leaf.{encoded, leaf_value, with_leaf_value}
use Rattle.porch_bytes.specs.Shapes.{shape_of, is_in_shape}
use Rattle.porch_bytes.specs.State.{Setting, State, with_memory}
use Rattle.porch_bytes.specs.Column.{size_of, leaf_place}
use Rattle.porch_bytes.specs.StandsFor.{HoldsLeaf, HoldsObject, IsBlockOf, EndsBefore, AreCallsBelow, AreBlocksFrom}
use Rattle.porch_stands.specs.Follows.{AreBytes, IsStoodFor}
use Rattle.porch_stands.specs.Placed.{HasTypes}
use Rattle.porch_stands.specs.Leaves.{IsLeafOf}
use Rattle.porch_stands.specs.inside.Measured.{AreMeasured}
use Rattle.porch_stands.proofs.Later.{leaf_later}
use Rattle.porch_stands.proofs.Shapes.{SameShape, IsAlike, object_same, shape_later, calls_below, blocks_from, allocation_same, blocks_back, phase_same}
use Rattle.porch_stands.proofs.Changed.{set_same, set_other, object_changed, object_other, changed_shape}
use Rattle.porch_stands.proofs.Kept.{spliced_bytes, encoded_bytes}
use Rattle.porch_stands.proofs.Written.{same_home, fits_in, written, others_stay}

-- A store of the same shape, whose objects are held by memory that is as long.
module _ (flat : Flat) (on : Setting) (w : Widths) (m : State) (s : abstract.State) (h : IsStoodFor flat on w m s) (memory : List ℕ) (t : Store) (shape : SameShape s.store t)
    (long : length memory ≡ length m.memory) (bytes : AreBytes memory)
    (held : (home : Home) (o : Object) → object_at t home ≡ Some o → HoldsObject flat on h.stands.address t w memory home o) where
  block_same : (block : Block) (a b : HeapObject) → IsAlike a b → IsBlockOf flat on h.stands.address s.store block a → IsBlockOf flat on h.stands.address t block b
  block_same block a b e of = record {
    type_is = of.type_is ∙ ap (λ (r : Root). r.ty) e.root_is;
    count_is = of.count_is ∙ ap (λ (r : Root). r.count) e.root_is;
    place_is = of.place_is ∙ ap (λ (n : ℕ). h.stands.address (of_block n)) e.number_is;
  }

  block_before : (block : Block) (a b : HeapObject) → IsAlike a b → IsBlockOf flat on h.stands.address s.store block b → IsBlockOf flat on h.stands.address t block a
  block_before block a b e of = record {
    type_is = of.type_is ∙ ap (λ (r : Root). r.ty) (sym e.root_is);
    count_is = of.count_is ∙ ap (λ (r : Root). r.count) (sym e.root_is);
    place_is = of.place_is ∙ ap (λ (n : ℕ). h.stands.address (of_block n)) (sym e.number_is);
  }

  ends_same : (home other : Home) (p o : Object) → p.root ≡ o.root → EndsBefore flat on h.stands.address s.store home p other → EndsBefore flat on h.stands.address t home o other
  ends_same home other p o e k = subst (λ (r : Root). h.stands.address home + r.count * size_of flat on r.ty < h.stands.address other) e k

  pub stands_again : IsStoodFor flat on w (with_memory m memory) (abstract.with_store s t)
  stands_again = record {
    fits = record {
      allowed = h.fits.allowed;
      memory_is = long ∙ h.fits.memory_is;
      frames_are = h.fits.frames_are;
      heap_is = h.fits.heap_is;
      blocks_are = h.fits.blocks_are;
    };
    bytes = bytes;
    stands = record {
      turns_are = h.stands.turns_are;
      address = h.stands.address;
      frames_are = phase_same flat on h.stands.address m.phase s.phase s.store.calls t.calls shape.calls h.stands.frames_are;
      calls_are = subst (λ (n : ℕ). AreCallsBelow n t.calls) shape.called (calls_below s.store.called s.store.calls t.calls shape.calls h.stands.calls_are);
      globals_are = sym shape.globals ∙ h.stands.globals_are;
      global_places = h.stands.global_places;
      blocks_are = subst (λ (n : ℕ). AreBlocksFrom 0 n t.blocks) shape.allocated (blocks_from 0 s.store.allocated s.store.blocks t.blocks shape.blocks h.stands.blocks_are);
      blocks_live = λ block among.
          (let b = h.stands.blocks_live block among in
          let a = allocation_same t.blocks s.store.blocks b.0 (blocks_back s.store.blocks t.blocks shape.blocks) b.1 in
          (a.0, a.1, block_before block a.0 b.0 a.2 b.2));
      blocks_have = λ b has.
          (let a = allocation_same s.store.blocks t.blocks b shape.blocks has in
          let k = h.stands.blocks_have a.0 a.1 in
          (k.0, k.1, block_same k.0 a.0 b a.2 k.2));
      objects_are = held;
      apart = λ home other a b e g ne.
          (let x = object_same s.store t shape home a e in
          let y = object_same s.store t shape other b g in
          elim (h.stands.apart home other x.0 y.0 x.1 y.1 ne) [
            | inl k ↦ inl (ends_same home other x.0 a x.2 k)
            | inr k ↦ inr (ends_same other home y.0 b y.2 k)
          ]);
    };
  }

module _ (flat : Flat) (on : Setting) (w : Widths) (m : State) (s : abstract.State) (known : HasTypes flat) (measured : AreMeasured on.layout flat.types) (h : IsStoodFor flat on w m s)
    (home : Home) (leaf at ty : ℕ) (l : IsLeafOf flat on w m s h home leaf at ty) (v : Value) (z : ℤ) (holds : HoldsLeaf flat on h.stands.address s.store w ty v z)
    (in_shape : IsTrue (is_in_shape (shape_of on.layout (slice_get flat.types ty)) z)) where
  abbrev the_memory : List ℕ
  the_memory = with_leaf_value on.layout flat.types m.memory at ty z

  abbrev the_store : Store
  the_store = with_leaf_at s.store home leaf v

  abbrev the_change : Object → Object
  the_change o = with_leaves o (slice_set o.leaves leaf v)

  shape : SameShape s.store the_store
  shape = changed_shape the_change (λ o. refl) s.store home

  -- a leaf that was there before holds what it held
  leaf_kept : (other : Home) (o : Object) (k : ℕ) (x : Value) → object_at s.store other ≡ Some o → slice_get o.leaves k ≡ Some x → (home ≡ other → leaf ≢ k)
      → HoldsLeaf flat on h.stands.address the_store w (leaf_type flat.types o.root.ty k) x
      (leaf_value on.layout flat.types the_memory (h.stands.address other + leaf_place flat on o.root.ty k) (leaf_type flat.types o.root.ty k))
  leaf_kept other o k x lives e two =
      let there : ℕ = h.stands.address other + leaf_place flat on o.root.ty k in
      let type : ℕ = leaf_type flat.types o.root.ty k in
      let held = h.stands.objects_are other o lives in
      let few : k < leaves_in flat.types o.root = subst (λ (n : ℕ). k < n) held.count_is (slice_get_within o.leaves k x e) in
      let q : IsLeafOf flat on w m s h other k there type = record { object = o; lives = lives; within = few; address_is = refl; type_is = refl } in
      subst (λ (y : ℤ). HoldsLeaf flat on h.stands.address the_store w type x y) (sym (others_stay flat on w m s known measured h home leaf at ty l other k there type q z two))
      (leaf_later flat on h.stands.address s.store the_store (shape_later s.store the_store shape) w type x (leaf_value on.layout flat.types m.memory there type) (held.leaves_are k x e))

  -- the leaf holds the value
  leaf_new : (o : Object) → object_at s.store home ≡ Some o
      → HoldsLeaf flat on h.stands.address the_store w (leaf_type flat.types o.root.ty leaf) v
      (leaf_value on.layout flat.types the_memory (h.stands.address home + leaf_place flat on o.root.ty leaf) (leaf_type flat.types o.root.ty leaf))
  leaf_new o lives =
      let same : l.object ≡ o = same_Some l.object o (sym l.lives ∙ lives) in
      let a : at ≡ h.stands.address home + leaf_place flat on o.root.ty leaf = l.address_is ∙ ap (λ (x : Object). h.stands.address home + leaf_place flat on x.root.ty leaf) same in
      let t : ty ≡ leaf_type flat.types o.root.ty leaf = l.type_is ∙ ap (λ (x : Object). leaf_type flat.types x.root.ty leaf) same in
      subst (λ (n : ℕ). HoldsLeaf flat on h.stands.address the_store w n v (leaf_value on.layout flat.types the_memory (h.stands.address home + leaf_place flat on o.root.ty leaf) n)) t
      (subst (λ (n : ℕ). HoldsLeaf flat on h.stands.address the_store w ty v (leaf_value on.layout flat.types the_memory n ty)) a
      (subst (λ (y : ℤ). HoldsLeaf flat on h.stands.address the_store w ty v y) (sym (written flat on w m s known measured h home leaf at ty l z in_shape))
      (leaf_later flat on h.stands.address s.store the_store (shape_later s.store the_store shape) w ty v z holds)))

  leaf_by : (o : Object) (k : ℕ) (x : Value) → object_at s.store home ≡ Some o → slice_get (slice_set o.leaves leaf v) k ≡ Some x → (leaf ≡ k) ⊎ (leaf ≢ k)
      → HoldsLeaf flat on h.stands.address the_store w (leaf_type flat.types o.root.ty k) x
      (leaf_value on.layout flat.types the_memory (h.stands.address home + leaf_place flat on o.root.ty k) (leaf_type flat.types o.root.ty k))
  leaf_by o k x lives e (inr ne) = leaf_kept home o k x lives (sym (set_other o.leaves leaf k v ne) ∙ e) (λ i. ne)
  leaf_by o k x lives e (inl is) =
      let few : k < length o.leaves = (let n : length (slice_set o.leaves leaf v) ≡ length o.leaves = length-set o.leaves leaf v in let a = slice_get_within (slice_set o.leaves leaf v) k x e in omega (arith, n, a)) in
      let value : v ≡ x =
      same_Some v x (sym (set_same o.leaves leaf (get_or o.leaves leaf v) v (slice_get-get_or o.leaves leaf v (omega (arith, few, is)))) ∙ ap (slice_get (slice_set o.leaves leaf v)) is ∙ e) in
      subst (λ (n : ℕ). HoldsLeaf flat on h.stands.address the_store w (leaf_type flat.types o.root.ty n) x
      (leaf_value on.layout flat.types the_memory (h.stands.address home + leaf_place flat on o.root.ty n) (leaf_type flat.types o.root.ty n))) is
      (subst (λ (y : Value). HoldsLeaf flat on h.stands.address the_store w (leaf_type flat.types o.root.ty leaf) y
      (leaf_value on.layout flat.types the_memory (h.stands.address home + leaf_place flat on o.root.ty leaf) (leaf_type flat.types o.root.ty leaf))) value (leaf_new o lives))

  object_here : HoldsObject flat on h.stands.address the_store w the_memory home (the_change l.object)
  object_here = record {
    count_is = length-set l.object.leaves leaf v ∙ (h.stands.objects_are home l.object l.lives).count_is;
    leaves_are = λ k x e. leaf_by l.object k x l.lives e (cases_eq leaf k);
  }

  object_by : (other : Home) (o : Object) → object_at the_store other ≡ Some o → (home ≡ other) ⊎ (home ≢ other) → HoldsObject flat on h.stands.address the_store w the_memory other o
  object_by other o e (inl is) =
      let at_home : object_at the_store home ≡ Some (the_change l.object) = object_changed the_change s.store home l.object l.lives in
      let same : the_change l.object ≡ o = same_Some (the_change l.object) o (sym at_home ∙ ap (object_at the_store) is ∙ e) in
      subst (λ (x : Home). HoldsObject flat on h.stands.address the_store w the_memory x o) is
      (subst (λ (x : Object). HoldsObject flat on h.stands.address the_store w the_memory home x) same object_here)
  object_by other o e (inr ne) =
      let lives : object_at s.store other ≡ Some o = sym (object_other the_change s.store home other ne) ∙ e in
      record {
        count_is = (h.stands.objects_are other o lives).count_is;
        leaves_are = λ k x g. leaf_kept other o k x lives g (λ i. absurd (ne i));
      }

  long : length the_memory ≡ length m.memory
  long =
      let size = measured.sizes on.layout.big (size_of flat on ty) z in
      (measured.stay m.memory at (encoded on.layout.big (size_of flat on ty) z) (subst (λ (n : ℕ). at + n ≤ length m.memory) (sym size) (fits_in flat on w m s known measured h home leaf at ty l))).length_is

  pub leaf_changed : IsStoodFor flat on w (with_memory m the_memory) (abstract.with_store s the_store)
  leaf_changed =
      stands_again flat on w m s h the_memory the_store shape long
      (spliced_bytes m.memory at (encoded on.layout.big (size_of flat on ty) z) h.bytes (encoded_bytes on.layout.big (size_of flat on ty) z))
      (λ other o e. object_by other o e (same_home home other))
