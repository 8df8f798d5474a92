use Rattle.std.proofs.Common.{◌≡◌, ◌<◌, length, Some, ap, sym, ◌∙◌, arith, slice_get}
use Rattle.porch_types.specs.declared.shapes.Ty.TheVariants.{Whole, Pointer, Array, Struct}
use Rattle.porch_types.specs.declared.parts.Part.{Part}
use Rattle.porch_types.specs.Leaves.{leaves_of, leaves_together}
use Rattle.porch_types.specs.Rows.{element_at, member_at}
use Rattle.porch_types.specs.Entries.{types_of}
use Rattle.porch_types.specs.inside.Kept.{starts_from}
use Rattle.porch_types.proofs.Looked.{entry_at, array_below, part_is, struct_at, struct_first, some_still}
use Rattle.porch_types.proofs.Found.{length-starts}
use Rattle.porch_types.proofs.entries.part_in.Goals as goal

pub leaves_at-requires-clause-known : goal.leaves_at-requires-clause-known
leaves_at-requires-clause-known c =
    let e = c.index-entries-ty in
    let k = entry_at c.args.entries.now c.args.ty e.result c.requires.kept c.requires.known e.is in
    omega (arith, array_below c.args.entries.now c.args.ty e.result c.in-Array.of c.in-Array.count k c.in-Array.is, c.requires.known)

pub member-requires-clause-some : goal.member-requires-clause-some
member-requires-clause-some c =
    let e = c.index-entries-ty in
    let k = entry_at c.args.entries.now c.args.ty e.result c.requires.kept c.requires.known e.is in
    let s = struct_at c.args.entries.now c.args.ty e.result c.in-Struct.members k c.in-Struct.is in
    rw c.as_slice.ensures s.some

pub member-requires-clause-each : goal.member-requires-clause-each
member-requires-clause-each c =
    let e = c.index-entries-ty in
    let k = entry_at c.args.entries.now c.args.ty e.result c.requires.kept c.requires.known e.is in
    let s = struct_at c.args.entries.now c.args.ty e.result c.in-Struct.members k c.in-Struct.is in
    rw (c.as_slice-in-Struct.ensures.value, c.as_slice.ensures) (ap length s.starts ∙ length-starts (leaves_of (types_of c.args.entries.now)) 0 c.in-Struct.members)

pub member-requires-clause-first : goal.member-requires-clause-first
member-requires-clause-first c =
    let e = c.index-entries-ty in
    let k = entry_at c.args.entries.now c.args.ty e.result c.requires.kept c.requires.known e.is in
    let s = struct_at c.args.entries.now c.args.ty e.result c.in-Struct.members k c.in-Struct.is in
    rw c.as_slice-in-Struct.ensures.value (struct_first (types_of c.args.entries.now) c.args.ty c.in-Struct.members e.result.starts.items e.result.leaves s)

pub returns-in-Whole-clause-value : goal.returns-in-Whole-clause-value
returns-in-Whole-clause-value c =
    let e = c.index-entries-ty in
    let k = entry_at c.args.entries.now c.args.ty e.result c.requires.kept c.requires.known e.is in
    sym (part_is c.args.entries.now c.args.ty c.args.place e.result (Whole c.in-Whole.kind) k c.in-Whole.is)

pub returns-in-Pointer-clause-value : goal.returns-in-Pointer-clause-value
returns-in-Pointer-clause-value c =
    let e = c.index-entries-ty in
    let k = entry_at c.args.entries.now c.args.ty e.result c.requires.kept c.requires.known e.is in
    sym (part_is c.args.entries.now c.args.ty c.args.place e.result (Pointer c.in-Pointer.to) k c.in-Pointer.is)

pub returns-in-Array-clause-value : goal.returns-in-Array-clause-value
returns-in-Array-clause-value c =
    let e = c.index-entries-ty in
    let k = entry_at c.args.entries.now c.args.ty e.result c.requires.kept c.requires.known e.is in
    let f = leaves_of (types_of c.args.entries.now) in
    c.element.ensures.value
    ∙ ap (λ x. element_at c.in-Array.of x c.from.result c.args.place) c.leaves_at.ensures.value
    ∙ ap (λ x. element_at c.in-Array.of (f c.in-Array.of) x c.args.place) c.from.ensures
    ∙ sym (part_is c.args.entries.now c.args.ty c.args.place e.result (Array c.in-Array.of c.in-Array.count) k c.in-Array.is)

pub returns-in-Array-clause-earlier : goal.returns-in-Array-clause-earlier
returns-in-Array-clause-earlier c =
    let e = c.index-entries-ty in
    let k = entry_at c.args.entries.now c.args.ty e.result c.requires.kept c.requires.known e.is in
    let below = array_below c.args.entries.now c.args.ty e.result c.in-Array.of c.in-Array.count k c.in-Array.is in
    some_still (λ (p : Part). p.ty ≡ c.in-Array.of) (λ (p : Part). p.ty < c.args.ty) c.element.result (λ p h. omega (arith, h, below)) c.element.ensures.ty

pub returns-in-Struct-clause-value : goal.returns-in-Struct-clause-value
returns-in-Struct-clause-value c =
    let e = c.index-entries-ty in
    let k = entry_at c.args.entries.now c.args.ty e.result c.requires.kept c.requires.known e.is in
    let s = struct_at c.args.entries.now c.args.ty e.result c.in-Struct.members k c.in-Struct.is in
    let f = leaves_of (types_of c.args.entries.now) in
    let m = c.as_slice.ensures in
    c.member.ensures.value f (c.as_slice-in-Struct.ensures.value ∙ s.starts ∙ ap (starts_from f 0) (sym m)) (s.leaves ∙ ap (leaves_together f) (sym m))
    ∙ ap (λ ms. member_at f ms 0 0 c.args.place) m
    ∙ sym (part_is c.args.entries.now c.args.ty c.args.place e.result (Struct c.in-Struct.members) k c.in-Struct.is)

pub returns-in-Struct-clause-earlier : goal.returns-in-Struct-clause-earlier
returns-in-Struct-clause-earlier c =
    let e = c.index-entries-ty in
    let k = entry_at c.args.entries.now c.args.ty e.result c.requires.kept c.requires.known e.is in
    let s = struct_at c.args.entries.now c.args.ty e.result c.in-Struct.members k c.in-Struct.is in
    some_still (λ (p : Part). slice_get c.as_slice.result.now p.index ≡ Some p.ty) (λ (p : Part). p.ty < c.args.ty) c.member.result
    (λ p h. s.earlier p.index p.ty (ap (λ ms. slice_get ms p.index) (sym c.as_slice.ensures) ∙ h)) c.member.ensures.ty
