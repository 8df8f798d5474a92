use Rattle.std.proofs.Common.{◌≡◌, inl, inr, Bool, true, false, List, length, Some, None, Result, Ok, Err, OnOk, if◌then◌else◌, refl, sym, ◌∙◌, subst}
use Rattle.std.proofs.lemmas.Bool.{eqb-true}
use Rattle.std.proofs.lemmas.Result.{MatchResult-weaker}
use Rattle.porch_types.specs.declared.shapes.Ty.{Ty}
use Rattle.porch_find.specs.declared.roots.Root.{Root}
use Rattle.porch_flat.specs.declared.whole.Sort.TheVariants as sort
use Rattle.porch_flat.specs.declared.whole.Flat.{Flat}
use Rattle.porch_ucf.specs.declared.fault.ImageFault.{ImageFault}
use Rattle.porch_ucf.specs.declared.leaves.Sought.{Sought}
use Rattle.porch_ucf.specs.declared.leaves.Sought.TheVariants as sought
use Rattle.porch_ucf.specs.DataFlaws.{IsFaultless, IsFirstFaulty}
use Rattle.porch_ucf.specs.Images.{Checkpoint}
use Rattle.porch_ucf.specs.Objects.{objects_of, placed}
use Rattle.porch_ucf.specs.inside.Checked.{data_memory, in_data_words, in_data_values, data_size_flaw}
use Rattle.porch_ucf.specs.inside.Leaves.{ArePlaced, ArePointees, EndWithin}
use Rattle.porch_ucf.proofs.Known.{objects_known_in, pointees_known}
use Rattle.porch_ucf.proofs.PlacedInOrder.{are_placed, end_within}
use Rattle.porch_ucf.proofs.read.check_data.Goals as goal

-- what is so of one list of types and of roots is so of equal ones
along : (P : List Ty → List Root → Type 0) (a b : List Ty) (x y : List Root) → a ≡ b → x ≡ y → P b y → P a x
along P a b x y e f h = subst (λ l. P l x) (sym e) (subst (P b) (sym f) h)

-- data that has the size of its objects ends where they do
sized : (program : Flat) (c : Checkpoint) → data_size_flaw program c ≡ None → (placed program.types (objects_of program c.frames c.blocks)).end ≡ length c.bytes
sized program c e = eqb-true (placed program.types (objects_of program c.frames c.blocks)).end (length c.bytes) (passed _ _ e)
  where
    passed : (b : Bool) (fault : ImageFault) → (if b then None else Some fault) ≡ None → b ≡ true
    passed true fault e = refl
    passed false fault e = cc

pub check_values-requires-clause-placed : goal.check_values-requires-clause-placed
check_values-requires-clause-placed c =
    let program = c.args.program.now in
    let image = c.args.image.now in
    let objects = objects_of program image.frames image.blocks in
    let items : c.from_vec.result.items ≡ (placed program.types objects).roots = c.from_vec.ensures ∙ rw (c.frames.ensures, c.blocks-2.ensures) at c.in_ok-roots.ensures.roots in
    along ArePlaced c.args.metrics.now.types program.types c.from_vec.result.items (placed program.types objects).roots c.requires.types items
    (are_placed program.types objects (objects_known_in sort.Rewritten program c.requires.valid program.types refl image.frames image.blocks c.requires.known))

pub check_values-requires-clause-pointees : goal.check_values-requires-clause-pointees
check_values-requires-clause-pointees c =
    let program = c.args.program.now in
    let known = pointees_known sort.Rewritten program c.requires.valid (rw c.requires.types at c.layout-layout.ensures.types) in
    subst ArePointees (sym c.requires.types) known

pub check_values-requires-clause-inside : goal.check_values-requires-clause-inside
check_values-requires-clause-inside c =
    let program = c.args.program.now in
    let image = c.args.image.now in
    let objects = objects_of program image.frames image.blocks in
    let items : c.from_vec.result.items ≡ (placed program.types objects).roots = c.from_vec.ensures ∙ rw (c.frames.ensures, c.blocks-2.ensures) at c.in_ok-roots.ensures.roots in
    let size : data_size_flaw program image ≡ None = rw (c.frames.ensures, c.blocks-2.ensures, c.bytes.ensures) at c.in_ok-roots.ensures.sound in
    along (λ types roots. EndWithin types roots (length image.bytes)) c.args.metrics.now.types program.types c.from_vec.result.items (placed program.types objects).roots c.requires.types items
    (subst (EndWithin program.types (placed program.types objects).roots) (sized program image size)
    (end_within program.types objects (objects_known_in sort.Rewritten program c.requires.valid program.types refl image.frames image.blocks c.requires.known)))

both_ok : {T E P Q R : Type 0} (r : Result T E) → (P → Q → R) → OnOk r P → OnOk r Q → OnOk r R
both_ok (Ok x) f p q = f p q
both_ok (Err e) f p q = tt

pub returns-clause-sound : goal.returns-clause-sound
returns-clause-sound c =
    let program = c.args.program.now in
    let image = c.args.image.now in
    let objects = objects_of program image.frames image.blocks in
    let items : c.from_vec.result.items ≡ (placed program.types objects).roots = c.from_vec.ensures ∙ rw (c.frames.ensures, c.blocks-2.ensures) at c.in_ok-roots.ensures.roots in
    let size : data_size_flaw program image ≡ None = rw (c.frames.ensures, c.blocks-2.ensures, c.bytes.ensures) at c.in_ok-roots.ensures.sound in
    let Sound : (s : Sought) → List Ty → List Root → Type 0 = λ s types roots. IsFaultless s types roots image in
    both_ok c.check_values-2.result
    (λ words values. record {
      size = size;
      words = along (Sound sought.Words) program.types c.args.metrics.now.types (placed program.types objects).roots c.from_vec.result.items (sym c.requires.types) (sym items) words;
      values = along (Sound (sought.Values c.args.metrics.now.layout.long)) program.types c.args.metrics.now.types (placed program.types objects).roots c.from_vec.result.items (sym c.requires.types) (sym items) values;
    })
    c.check_values-2.ensures.words c.check_values-2.ensures.values

pub returns-clause-flaw : goal.returns-clause-flaw
returns-clause-flaw c =
    let program = c.args.program.now in
    let image = c.args.image.now in
    let long = c.args.metrics.now.layout.long in
    let objects = objects_of program image.frames image.blocks in
    let items : c.from_vec.result.items ≡ (placed program.types objects).roots = c.from_vec.ensures ∙ rw (c.frames.ensures, c.blocks-2.ensures) at c.in_ok-roots.ensures.roots in
    let size : data_size_flaw program image ≡ None = rw (c.frames.ensures, c.blocks-2.ensures, c.bytes.ensures) at c.in_ok-roots.ensures.sound in
    let Sound : (s : Sought) → List Ty → List Root → Type 0 = λ s types roots. IsFaultless s types roots image in
    let First : (s : Sought) → ImageFault → List Ty → List Root → Type 0 = λ s fault types roots. IsFirstFaulty s types roots image fault in
    let here : (P : List Ty → List Root → Type 0) → P c.args.metrics.now.types c.from_vec.result.items → P program.types (placed program.types objects).roots =
    λ P p. along P program.types c.args.metrics.now.types (placed program.types objects).roots c.from_vec.result.items (sym c.requires.types) (sym items) p in
    MatchResult-weaker c.check_values-2.result c.check_values-2.ensures.flaw (λ x u. u)
    (λ fault flaw. elim flaw [
      | inl none ↦ data_memory none
      | inr real ↦ elim real [
        | inl words ↦ in_data_words size (here (First sought.Words fault) words)
        | inr values ↦ in_data_values size (here (Sound sought.Words) values.0) (here (First (sought.Values long) fault) values.1)
      ]
    ])
