-- The first faulty leaf, object by object and leaf by leaf.
use Rattle.std.proofs.Common.{◌≡◌, ℕ, ◌+◌, ◌<◌, ◌≤◌, inl, inr, List, length, slice_get, get_or, ap, sym, ◌∙◌, subst, arith}
use Rattle.std.proofs.lemmas.Bool.{cases_order}
use Rattle.std.proofs.lemmas.Option.{slice_get-get_or, slice_get_within, same_Some}
use Rattle.porch_types.specs.declared.shapes.Ty.{Ty}
use Rattle.porch_find.specs.declared.roots.Root.{Root}
use Rattle.porch_ucf.specs.declared.fault.ImageFault.{ImageFault}
use Rattle.porch_ucf.specs.declared.leaves.Sought.{Sought}
use Rattle.porch_ucf.specs.DataFlaws.{FaultyLeaf, IsFirstFaulty, IsFaulty, leaf_count}
use Rattle.porch_ucf.specs.Images.{Checkpoint}
use Rattle.porch_ucf.specs.inside.Leaves.{IsFirstOf, IsSoundBelow}

not_before : (l leaf : ℕ) → (l < leaf → ⊥) → leaf ≤ l
not_before l leaf never = omega (arith, never)

module _ (sought : Sought) (types : List Ty) (objects : List Root) (c : Checkpoint) where
  abbrev pub NoneBefore : ℕ → Type 0
  NoneBefore number = (n l : ℕ) (fault : ImageFault) → n < number → FaultyLeaf sought types objects c n l fault → ⊥

  -- what is faulty in the object that stands here
  in_object : (number : ℕ) (d : Root) (n l : ℕ) (fault : ImageFault) → number < length objects → n ≡ number → (h : FaultyLeaf sought types objects c n l fault)
      → (l < leaf_count types (get_or objects number d)) × IsFaulty sought types objects c (get_or objects number d) l fault
  in_object number d n l fault lt e h =
      let same : h.object ≡ get_or objects number d = same_Some h.object (get_or objects number d) (sym h.is_object ∙ ap (slice_get objects) e ∙ slice_get-get_or objects number d lt) in
      (subst (λ (o : Root). l < leaf_count types o) same h.within, subst (λ (o : Root). IsFaulty sought types objects c o l fault) same h.faulty)

  -- one object more
  pub none_on : (number : ℕ) (d : Root) → number < length objects → NoneBefore number → IsSoundBelow sought types objects c (get_or objects number d) (leaf_count types (get_or objects number d)) → NoneBefore (number + 1)
  none_on number d lt before sound = λ n l fault below h.
      let earlier : n < number → ⊥ = λ e. before n l fault e h in
      let here : n ≡ number → ⊥ = λ e. let parts = in_object number d n l fault lt e h in sound l fault parts.0 parts.1 in
      grind (arith, earlier, here)

  -- the first of an object is the first of all, where none is before it
  pub first_here : (number : ℕ) (d : Root) (fault : ImageFault) → number < length objects → NoneBefore number → IsFirstOf sought types objects c (get_or objects number d) fault → IsFirstFaulty sought types objects c fault
  first_here number d fault lt before first =
      record {
        number = number;
        leaf = first.leaf;
        here = record { object = get_or objects number d; is_object = slice_get-get_or objects number d lt; within = first.within; faulty = first.faulty };
        first = λ n l other h.
            elim (cases_order number n) [
              | inl same ↦ inr (same, not_before l first.leaf (λ e. first.before l other e (in_object number d n l other lt (sym same) h).1))
              | inr apart ↦ elim apart [ inl later ↦ inl later | inr earlier ↦ absurd (before n l other earlier h) ]
            ];
      }

pub all_before : (sought : Sought) (types : List Ty) (objects : List Root) (c : Checkpoint) (number : ℕ) → number ≡ length objects → NoneBefore sought types objects c number
    → (n l : ℕ) (fault : ImageFault) → FaultyLeaf sought types objects c n l fault → ⊥
all_before sought types objects c number e before n l fault h =
    before n l fault (omega (arith, e, slice_get_within objects n h.object h.is_object)) h
