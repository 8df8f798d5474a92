-- The first faulty leaf of an object, run by run of each of its elements.
use Rattle.std.proofs.Common.{◌≡◌, ℕ, zero, suc, ◌+◌, ◌-◌, ◌*◌, ◌/◌, ◌%◌, ◌<◌, ◌≤◌, ◌⊎◌, inl, inr, Bool, true, false, List, length, slice_get, Option, Some, None, refl, ap, sym, ◌∙◌, subst, arith}
use Rattle.std.proofs.Math.Nat.{mod-lt}
use Rattle.std.proofs.lemmas.Nat.{div-add-mod', mul-le}
use Rattle.std.proofs.lemmas.Bool.{cases_order}
use Rattle.std.proofs.lemmas.Option.{same_Some, slice_get_cases, slice_get_past, slice_get_within}
use Rattle.porch_types.specs.declared.shapes.Kind.{Kind}
use Rattle.porch_types.specs.declared.shapes.Kind.TheVariants.{Char, UChar, Short, UShort, Int, UInt, Long, ULong}
use Rattle.porch_types.specs.declared.shapes.Ty.{Ty}
use Rattle.porch_types.specs.declared.shapes.Ty.TheVariants.{Whole, Pointer}
use Rattle.porch_types.specs.Leaves.{IsTypes, leaves_of}
use Rattle.porch_types.specs.LeafTypes.{leaf_type, pointee_of}
use Rattle.porch_values.specs.Integers.{in_range}
use Rattle.porch_metrics.specs.Extents.{Extent, extent_of, kind_extent, type_extent, ucf_layout}
use Rattle.porch_metrics.specs.Places.{place_of}
use Rattle.porch_find.specs.declared.roots.Root.{Root}
use Rattle.porch_points.specs.Plans.{end_of}
use Rattle.porch_points.specs.Displacements.{IsDisplacement}
use Rattle.porch_ucf.specs.declared.fault.ImageFault.{ImageFault}
use Rattle.porch_ucf.specs.declared.fault.ImageFault.TheVariants.{TooNarrow}
use Rattle.porch_ucf.specs.declared.leaf_test.LeafTest.{LeafTest}
use Rattle.porch_ucf.specs.declared.leaf_test.LeafTest.TheVariants.{Word, Room}
use Rattle.porch_ucf.specs.declared.leaves.Sought.{Sought}
use Rattle.porch_ucf.specs.declared.leaves.Sought.TheVariants.{Words, Values}
use Rattle.porch_ucf.specs.declared.runs.Run.{Run}
use Rattle.porch_ucf.specs.DataFlaws.{IsFaulty, is_long, leaf_count, leaf_place, long_value, type_of_leaf}
use Rattle.porch_ucf.specs.Fields.{u64_in}
use Rattle.porch_ucf.specs.Images.{Checkpoint}
use Rattle.porch_ucf.specs.inside.LeafTests.{Fails, IsFirstFailure, IsTestOf, IsUntested, PassBelow, data_place}
use Rattle.porch_ucf.specs.inside.Leaves.{IsFirstOf, IsSoundBelow, WordsLieInside}
use Rattle.porch_ucf.specs.inside.Runs.{AreRuns, ElementsRepeat, IsInRun, IsRun, begin_of}

-- a long has eight bytes in the data, and so has a pointer
long_size : (kind : Kind) → is_long kind ≡ true → (kind_extent ucf_layout kind).size ≡ 8
long_size Long e = refl
long_size ULong e = refl
long_size Char e = cc
long_size UChar e = cc
long_size Short e = cc
long_size UShort e = cc
long_size Int e = cc
long_size UInt e = cc

pub record HasEight (extents : ℕ → Extent) (ty : Option Ty) : Type 0 where
  pub this : Ty
  pub is : ty ≡ Some this
  pub eight : (type_extent ucf_layout extents this).size ≡ 8

pub has_eight : (extents : ℕ → Extent) (sought : Sought) (ty : Option Ty) (test : LeafTest) → IsTestOf sought ty test → HasEight extents ty
has_eight extents Words ty (Word pointee) h = record { this = Pointer pointee; is = h; eight = refl }
has_eight extents Words ty (Room kind width) h = absurd h
has_eight extents (Values long) ty (Word pointee) h = absurd h
has_eight extents (Values long) ty (Room kind width) h = record { this = Whole kind; is = h.0; eight = long_size kind h.1 }

abbrev kind_or : Kind → Option Ty → Kind
kind_or other (Some (Whole kind)) = kind
kind_or other _ = other

module _ (sought : Sought) (types : List Ty) (objects : List Root) (c : Checkpoint) (object : Root) where
  -- a leaf is faulty where its eight bytes fail their test
  pub fault_of : (leaf place : ℕ) (test : LeafTest) (fault : ImageFault) → IsTestOf sought (type_of_leaf types object leaf) test → leaf_place types object leaf ≡ place → Fails types objects c test place fault
      → IsFaulty sought types objects c object leaf fault
  fault_of leaf place test fault is at fails = made sought test is (subst (λ p. Fails types objects c test p fault) (sym at) fails)
    where
      made : (s : Sought) (t : LeafTest) → IsTestOf s (type_of_leaf types object leaf) t → Fails types objects c t (leaf_place types object leaf) fault → IsFaulty s types objects c object leaf fault
      made Words (Word pointee) is h = record { pointee = pointee; is_pointer = is; names_nothing = h.0; fault_is = h.1 }
      made Words (Room kind width) is h = absurd is
      made (Values long) (Word pointee) is h = absurd is
      made (Values long) (Room kind width) is h =
          record {
            kind = kind;
            is_whole = is.0;
            kind_is_long = is.1;
            outside = subst (λ w. in_range kind (8 * w) (long_value kind (u64_in c.bytes (leaf_place types object leaf))) ≡ false) is.2 h.0;
            fault_is = h.1;
          }

  -- and only there
  pub failure_of : (leaf place : ℕ) (test : LeafTest) (fault : ImageFault) → IsTestOf sought (type_of_leaf types object leaf) test → leaf_place types object leaf ≡ place → IsFaulty sought types objects c object leaf fault
      → Fails types objects c test place fault
  failure_of leaf place test fault is at faulty = subst (λ p. Fails types objects c test p fault) at (made sought test is faulty)
    where
      made : (s : Sought) (t : LeafTest) → IsTestOf s (type_of_leaf types object leaf) t → IsFaulty s types objects c object leaf fault → Fails types objects c t (leaf_place types object leaf) fault
      made Words (Word pointee) is h =
          let same : h.pointee ≡ pointee = ap pointee_of (sym h.is_pointer ∙ is) in
          (subst (λ p. IsDisplacement types objects p (u64_in c.bytes (leaf_place types object leaf)) → ⊥) same h.names_nothing, h.fault_is)
      made Words (Room kind width) is h = absurd is
      made (Values long) (Word pointee) is h = absurd is
      made (Values long) (Room kind width) is h =
          let word = u64_in c.bytes (leaf_place types object leaf) in
          let same : h.kind ≡ kind = ap (kind_or kind) (sym h.is_whole ∙ is.0) in
          let outside = subst (λ k. in_range k (8 * long) (long_value k word) ≡ false) same h.outside in (
            subst (λ w. in_range kind (8 * w) (long_value kind word) ≡ false) (sym is.2) outside,
            h.fault_is ∙ ap (λ k. TooNarrow (long_value k word) (data_place c (leaf_place types object leaf))) same,
          )

  -- a leaf of which no test is made isn't
  pub never_faulty : (leaf : ℕ) (fault : ImageFault) → IsUntested sought (type_of_leaf types object leaf) → IsFaulty sought types objects c object leaf fault → ⊥
  never_faulty leaf fault untested faulty = made sought untested faulty
    where
      not_true : (b : Bool) → b ≡ false → b ≡ true → ⊥
      not_true true e f = cc
      not_true false e f = cc

      made : (s : Sought) → IsUntested s (type_of_leaf types object leaf) → IsFaulty s types objects c object leaf fault → ⊥
      made Words u h = u h.pointee h.is_pointer
      made (Values long) u h = not_true (is_long h.kind) (u h.kind h.is_whole) h.kind_is_long

  module _ (repeat : ElementsRepeat) (is : IsTypes types) (known : object.ty < length types) where
    abbrev leaves : ℕ
    leaves = leaves_of types object.ty

    abbrev size : ℕ
    size = (extent_of ucf_layout types object.ty).size

    type_in : (e l : ℕ) → l < leaves → slice_get types (leaf_type types object.ty l) ≡ type_of_leaf types object (e * leaves + l)
    type_in e l lt = sym (ap (slice_get types) (repeat types object.ty e l is known lt).0)

    place_in : (e l : ℕ) → l < leaves → leaf_place types object (e * leaves + l) ≡ object.at + e * size + place_of ucf_layout types object.ty l
    place_in e l lt = omega (arith, (repeat types object.ty e l is known lt).1)

    module _ (runs : List Run) (all : AreRuns sought types object.ty leaves runs) where
      -- in an object of a type without runs no leaf is faulty
      pub none_at_all : length runs ≡ 0 → IsSoundBelow sought types objects c object (leaf_count types object)
      none_at_all none = λ leaf fault lt faulty.
          let whole : leaf / leaves * leaves + leaf % leaves ≡ leaf = div-add-mod' leaf leaves in
          let some : 0 < leaves = positive object.count leaves leaf lt in
          let less : leaf % leaves < leaves = mod-lt leaf some in
          let here = subst (λ l. IsFaulty sought types objects c object l fault) (sym whole) faulty in
          elim (all.whole (leaf % leaves) less) [
            | inl untested ↦ never_faulty (leaf / leaves * leaves + leaf % leaves) fault (subst (IsUntested sought) (type_in (leaf / leaves) (leaf % leaves) less) untested) here
            | inr in_run ↦ absurd (omega (arith, none, slice_get_within runs in_run.number in_run.run in_run.is_run))
          ]
        where
          positive : (n m k : ℕ) → k < n * m → 0 < m
          positive n zero k lt = absurd (omega (arith, lt))
          positive n (suc m) k lt = omega arith

      -- a run begins no later than those behind it
      begin_before : (i j : ℕ) (run : Run) → slice_get runs j ≡ Some run → i ≤ j → begin_of leaves runs i ≤ run.first
      begin_before i j run at le =
          elim (slice_get_cases runs i).1 [
            | inl there ↦ rw there.2 (elim (cases_order i j) [
              | inl same ↦ let one = same_Some there.0 run (sym there.2 ∙ ap (slice_get runs) same ∙ at) in omega (arith, ap (λ (r : Run). r.first) one)
              | inr apart ↦ elim apart [ inl later ↦ omega (arith, all.apart i j there.0 run later there.2 at, (all.each i there.0 there.2).some) | inr earlier ↦ absurd (omega (arith, earlier, le)) ]
            ])
            | inr past ↦ absurd (omega (arith, past.0, le, slice_get_within runs j run at))
          ]

      begin_within : (i : ℕ) → begin_of leaves runs i ≤ leaves
      begin_within i =
          elim (slice_get_cases runs i).1 [
            | inl there ↦ rw there.2 (omega (arith, all.ended i there.0 there.2))
            | inr past ↦ rw past.1 (omega arith)
          ]

      pub behind_all : begin_of leaves runs (length runs) ≡ leaves
      behind_all = rw (slice_get_past runs (length runs) (omega arith)) refl

      module _ (e : ℕ) where
        abbrev Sound : ℕ → Type 0
        Sound l = IsSoundBelow sought types objects c object (e * leaves + l)

        -- none is faulty before the next run, where none is before a leaf from which on there is no other
        up_to : (reached i : ℕ) → Sound reached → ((j : ℕ) (run : Run) → slice_get runs j ≡ Some run → j < i → run.first + run.len ≤ reached) → Sound (begin_of leaves runs i)
        up_to reached i sound earlier = λ leaf fault lt faulty.
            let d : ℕ = leaf - e * leaves in
            let behind : leaf < e * leaves + reached → ⊥ = λ less. sound leaf fault less faulty in
            let same : e * leaves + d ≡ leaf = omega (arith, behind) in
            let less : d < leaves = omega (arith, lt, same, begin_within i) in
            let here = subst (λ l. IsFaulty sought types objects c object l fault) (sym same) faulty in
            elim (all.whole d less) [
              | inl untested ↦ never_faulty (e * leaves + d) fault (subst (IsUntested sought) (type_in e d less) untested) here
              | inr r ↦ elim (cases_order r.number i) [
                | inl is_i ↦ absurd (omega (arith, begin_before i r.number r.run r.is_run (omega (arith, is_i)), r.begun, lt, same))
                | inr apart ↦ elim apart [
                  | inl before ↦ absurd (omega (arith, earlier r.number r.run r.is_run before, r.not_ended, behind, same))
                  | inr later ↦ absurd (omega (arith, begin_before i r.number r.run r.is_run (omega (arith, later)), r.begun, lt, same))
                ]
              ]
            ]

        pub at_first : IsSoundBelow sought types objects c object (e * leaves) → Sound (begin_of leaves runs 0)
        at_first sound =
            up_to 0 0 (λ leaf fault lt faulty. sound leaf fault (omega (arith, lt)) faulty) (λ j run at none. absurd (omega (arith, none)))

        pub at_last : Sound (begin_of leaves runs (length runs)) → IsSoundBelow sought types objects c object ((e + 1) * leaves)
        at_last sound = λ leaf fault lt faulty.
            let one_more : (e + 1) * leaves ≡ e * leaves + leaves = grind arith in
            sound leaf fault (omega (arith, lt, one_more, behind_all)) faulty

        module _ (i : ℕ) (run : Run) (at : slice_get runs i ≡ Some run) (place : ℕ) (place_is : place ≡ object.at + e * size) where
          -- the leaf of the run, and where it stands
          test_there : (k : ℕ) → k < run.len → IsTestOf sought (type_of_leaf types object (e * leaves + (run.first + k))) run.test
          test_there k lt =
              let r = all.each i run at in
              let less : run.first + k < leaves = omega (arith, r.within, lt) in
              subst (λ ty. IsTestOf sought ty run.test) (type_in e (run.first + k) less) (r.tests k lt)

          place_there : (k : ℕ) → k < run.len → leaf_place types object (e * leaves + (run.first + k)) ≡ place + run.place + 8 * k
          place_there k lt =
              let r = all.each i run at in
              omega (arith, place_in e (run.first + k) (omega (arith, r.within, lt)), r.placed k lt, place_is)

          -- a leaf that lies in the run is one of its leaves
          sound_in : (many : ℕ) → many ≤ run.len → Sound run.first → PassBelow types objects c run.test (place + run.place) many → Sound (run.first + many)
          sound_in many le sound pass = λ leaf fault lt faulty.
              let k : ℕ = leaf - (e * leaves + run.first) in
              let behind : leaf < e * leaves + run.first → ⊥ = λ less. sound leaf fault less faulty in
              let same : e * leaves + (run.first + k) ≡ leaf = omega (arith, behind) in
              let less : k < many = omega (arith, lt, same) in
              let here = subst (λ l. IsFaulty sought types objects c object l fault) (sym same) faulty in
              let within : k < run.len = omega (arith, less, le) in
              pass k fault less (failure_of (e * leaves + (run.first + k)) (place + run.place + 8 * k) run.test fault (test_there k within) (place_there k within) here)

          begins : begin_of leaves runs i ≡ run.first
          begins = rw at refl

          pub at_next : Sound (begin_of leaves runs i) → PassBelow types objects c run.test (place + run.place) run.len → Sound (begin_of leaves runs (i + 1))
          at_next sound pass =
              up_to (run.first + run.len) (i + 1) (sound_in run.len (omega arith) (subst Sound begins sound) pass)
              (λ j other there before. elim (cases_order j i) [
                | inl same ↦ let one = same_Some other run (sym there ∙ ap (slice_get runs) same ∙ at) in omega (arith, ap (λ (r : Run). r.first + r.len) one)
                | inr apart ↦ elim apart [ inl earlier ↦ omega (arith, all.apart j i other run earlier there at) | inr later ↦ absurd (omega (arith, later, before)) ]
              ])

          pub first_there : (fault : ImageFault) → e < object.count → Sound (begin_of leaves runs i) → IsFirstFailure types objects c run.test (place + run.place) run.len fault → IsFirstOf sought types objects c object fault
          first_there fault lt sound first =
              let k = first.number in
              let r = all.each i run at in
              let most : (e + 1) * leaves ≤ object.count * leaves = mul-le (e + 1) leaves object.count leaves (omega (arith, lt)) (omega arith) in
              let one_more : (e + 1) * leaves ≡ e * leaves + leaves = grind arith in
              record {
                leaf = e * leaves + (run.first + k);
                within = omega (arith, most, one_more, r.within, first.within);
                faulty = fault_of (e * leaves + (run.first + k)) (place + run.place + 8 * k) run.test fault (test_there k first.within) (place_there k first.within) first.fails;
                before = sound_in k (omega (arith, first.within)) (subst Sound begins sound) first.before;
              }

          -- the run ends within its object
          pub run_inside : WordsLieInside → e < object.count → place + run.place + 8 * run.len ≤ end_of ucf_layout types object
          run_inside inside lt =
              let r = all.each i run at in
              let k : ℕ = run.len - 1 in
              let last : k < run.len = omega (arith, r.some) in
              let most : (e + 1) * leaves ≤ object.count * leaves = mul-le (e + 1) leaves object.count leaves (omega (arith, lt)) (omega arith) in
              let one_more : (e + 1) * leaves ≡ e * leaves + leaves = grind arith in
              let eight = has_eight (extent_of ucf_layout types) sought (type_of_leaf types object (e * leaves + (run.first + k))) run.test (test_there k last) in
              omega (arith, inside types object (e * leaves + (run.first + k)) eight.this is known (omega (arith, most, one_more, r.within, last)) eight.is eight.eight, place_there k last, r.some)
