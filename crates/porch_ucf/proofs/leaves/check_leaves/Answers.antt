use Rattle.std.proofs.Common.{rules, ◌≡◌, ◌<◌, ◌⊎◌, inl, inr, List, length, get_or, ap, subst, arith}
use Rattle.porch_find.specs.declared.roots.Root.{Root}
use Rattle.porch_ucf.specs.declared.fault.ImageFault.TheVariants.{NoMemory}
use Rattle.porch_ucf.specs.DataFlaws.{IsFirstFaulty, leaf_count}
use Rattle.porch_ucf.specs.inside.Leaves.{IsFirstOf, IsSoundBelow}
use Rattle.porch_ucf.proofs.FirstLeaf.{all_before, first_here, none_on}
use Rattle.porch_ucf.proofs.leaves.check_leaves.Goals as goal

pub returns-in_err-check_object-clause-first : goal.returns-in_err-check_object-clause-first
returns-in_err-check_object-clause-first c =
    let m = c.args.metrics.now in
    let objects = c.args.objects.now.items in
    let none : Root = record { at = 0; ty = 0; count = 0 } in
    let i = c.loop-object.object-index in
    let lt : i < length objects = subst (λ (l : List Root). i < length l) c.as_slice-object-items.ensures c.loop-object-test.true in
    let fault = c.in_err-check_object.field-0.0 in
    let answer : (fault ≡ NoMemory) ⊎ IsFirstFaulty c.args.sought m.types objects c.args.image.now fault =
    elim c.in_err-check_object.ensures.first [
      | inl memory ↦ inl memory
      | inr first ↦
          let here = subst (λ (l : List Root). IsFirstOf c.args.sought m.types objects c.args.image.now (get_or l i none) fault) c.as_slice-object-items.ensures first in
          inr (first_here c.args.sought m.types objects c.args.image.now i none fault lt c.loop-object.invariant.none here)
    ] in
    search (rules, answer)

pub loop-object-preserved : goal.loop-object-preserved
loop-object-preserved c =
    let m = c.args.metrics.now in
    let objects = c.args.objects.now.items in
    let none : Root = record { at = 0; ty = 0; count = 0 } in
    let i = c.loop-object.object-index in
    let lt : i < length objects = subst (λ (l : List Root). i < length l) c.as_slice-object-items.ensures c.loop-object-test.true in
    let sound = subst (λ (l : List Root). IsSoundBelow c.args.sought m.types objects c.args.image.now (get_or l i none) (leaf_count m.types (get_or l i none))) c.as_slice-object-items.ensures c.in_ok-check_object.ensures.sound in
    record {
      none = none_on c.args.sought m.types objects c.args.image.now i none lt c.loop-object.invariant.none sound;
      found = c.in_ok-check_object.ensures.found;
    }

pub returns-clause-sound : goal.returns-clause-sound
returns-clause-sound c =
    let m = c.args.metrics.now in
    let same = ap (λ (l : List Root). length l) c.as_slice-object-items.ensures in
    all_before c.args.sought m.types c.args.objects.now.items c.args.image.now c.loop-object.object-index (omega (arith, same)) c.loop-object.invariant.none
