use Rattle.std.proofs.Common.{◌≡◌, ◌+◌, ◌*◌, ◌<◌, length, ap, subst, arith}
use Rattle.std.proofs.lemmas.Option.{slice_get_within}
use Rattle.porch_types.specs.declared.shapes.Ty.TheVariants.{Array}
use Rattle.porch_types.specs.Leaves.{leaves_of}
use Rattle.porch_types.specs.Rows.{IsRow, elements_of_array, elements_of_root}
use Rattle.porch_metrics.specs.Places.{place_of}
use Rattle.porch_find.proofs.forms.all_are_measured.Goals as goal

pub returns : goal.returns
returns c = λ under types is are. record {
  some = λ ty. c.leaves_add_up.ensures.some types ty are;
  sizes = λ ty known. (c.extents_are_bounded.ensures under types ty is are known).some;
  begins = λ ty known. omega (arith, c.places_are_bounded.ensures under types ty 0 is are known);
  rise = λ ty a b. c.places_rise.ensures under types ty a b is are;
  elements = λ ty k. c.elements_are_aligned.ensures.place under types ty k is are;
  leaves = λ root count place ty leaf. c.places_add_up.ensures.subobjects under types root count place ty leaf is are;
  apart = λ root count place ty leaf. c.subobjects_lie_apart.ensures under types root count place ty leaf is are;
  inside = λ root count place ty. c.rows_lie_inside.ensures.subobjects types root count place ty are;
  known = λ root count place ty. c.rows_lie_inside.ensures.known types root count place ty are;
  earlier = λ ty of n at. (are.formed.each ty (Array of n) at).earlier 0 0 (omega arith);
  counts = λ ty of n at. c.leaves_add_up.ensures.together types ty (Array of n) are at;
  arrays = λ ty of n leaf at lt.
      let l = leaves_of types ty in
      let p = place_of under types ty in
      let known : ty < length types = slice_get_within types ty (Array of n) at in
      let row : IsRow types ty 1 of (0 + 0 * l) n = elements_of_array elements_of_root (omega arith) at in
      let law = c.places_add_up.ensures.leaves under types ty 1 of (0 + 0 * l) n leaf is are known row lt in
      let none : 0 + 0 * l ≡ 0 = omega arith in
      let moved : p (0 + leaf) ≡ p 0 + place_of under types of leaf = subst (λ f. p (f + leaf) ≡ p f + place_of under types of leaf) none law in
      let same : 0 + leaf ≡ leaf = omega arith in
      omega (arith, moved, ap p same, c.places_are_bounded.ensures under types ty 0 is are known);
}
