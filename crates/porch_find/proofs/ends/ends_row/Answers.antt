use Rattle.std.proofs.Common.{◌≡◌, ◌<◌, ◌↔◌, ◌+◌, ◌-◌, ◌*◌, ◌/◌, IsTrue, ap, subst, sym, ◌∙◌, arith}
use Rattle.porch_types.specs.declared.parts.Row.{Row}
use Rattle.porch_types.specs.Leaves.{leaves_of}
use Rattle.porch_types.specs.Rows.{IsRowAt, IsSharedEnd}
use Rattle.porch_find.proofs.Spotting.{last_of, last_back, not_yes, not_then, then_not}
use Rattle.porch_find.proofs.ends.ends_row.Goals as goal

pub returns-then-leaf-row : goal.returns-then-leaf-row
returns-then-leaf-row c =
    let types = c.args.metrics.now.types in
    let row = c.in-Some.row in
    let leaves : c.leaves.result ≡ leaves_of types c.args.pointee = c.leaves.ensures.value ∙ ap (λ ts. leaves_of ts c.args.pointee) c.types-types.ensures in
    let some : 0 < leaves_of types c.args.pointee = omega (arith, leaves, c.leaves.ensures.some) in
    let at : IsRowAt types c.args.root c.args.count c.args.leaf c.args.pointee row = subst (λ ts. IsRowAt ts c.args.root c.args.count c.args.leaf c.args.pointee row) c.types-types.ensures c.in-Some.ensures.row in
    let shared : IsTrue c.shared_end.result ↔ IsSharedEnd types c.args.root c.args.count c.args.leaf c.args.pointee =
    subst (λ ts. IsTrue c.shared_end.result ↔ IsSharedEnd ts c.args.root c.args.count c.args.leaf c.args.pointee) c.types-types.ensures c.shared_end.ensures.next in
    let last : (c.args.leaf - row.first) / leaves_of types c.args.pointee + 1 ≡ row.len = ap (λ x. (c.args.leaf - row.first) / x + 1) (sym leaves) ∙ c.if-leaf-row.true in (
      λ yes. record {
        row = row;
        is = at;
        last = last_of types c.args.root c.args.count c.args.pointee c.args.leaf row some at last;
        unshared = not_then c.shared_end.result (IsSharedEnd types c.args.root c.args.count c.args.leaf c.args.pointee) shared yes;
      },
      λ is. then_not c.shared_end.result (IsSharedEnd types c.args.root c.args.count c.args.leaf c.args.pointee) shared is.unshared,
    )

pub returns-else-leaf-row : goal.returns-else-leaf-row
returns-else-leaf-row c =
    let types = c.args.metrics.now.types in
    let row = c.in-Some.row in
    let leaves : c.leaves.result ≡ leaves_of types c.args.pointee = c.leaves.ensures.value ∙ ap (λ ts. leaves_of ts c.args.pointee) c.types-types.ensures in
    let some : 0 < leaves_of types c.args.pointee = omega (arith, leaves, c.leaves.ensures.some) in
    let at : IsRowAt types c.args.root c.args.count c.args.leaf c.args.pointee row = subst (λ ts. IsRowAt ts c.args.root c.args.count c.args.leaf c.args.pointee row) c.types-types.ensures c.in-Some.ensures.row in (
      λ yes. absurd (not_yes yes),
      λ is.
          let one : is.row ≡ row = c.subobjects_are_one.ensures types c.args.root c.args.count c.args.leaf c.args.pointee is.row row c.layout-layout.ensures.types c.requires.root is.is at in
          let last : c.args.leaf + leaves_of types c.args.pointee ≡ row.first + row.len * leaves_of types c.args.pointee =
          is.last ∙ ap (λ (r : Row). r.first + r.len * leaves_of types c.args.pointee) one in
          absurd (c.if-leaf-row.false (ap (λ x. (c.args.leaf - row.first) / x + 1) leaves ∙ last_back types c.args.root c.args.count c.args.pointee c.args.leaf row some at last)),
    )
