-- A file has no two first flaws, and none where it has no flaw.
use Rattle.std.proofs.Common.{◌≡◌, ℕ, ◌<◌, ◌≤◌, ◌⊎◌, inl, inr, List, slice_get, Option, Some, None, refl, ap, sym, ◌∙◌, subst, arith}
use Rattle.std.proofs.lemmas.Option.{none-some, same_Some}
use Rattle.porch_types.specs.declared.shapes.Kind.{Kind}
use Rattle.porch_types.specs.declared.shapes.Ty.{Ty}
use Rattle.porch_types.specs.declared.shapes.Ty.TheVariants.{Whole}
use Rattle.porch_find.specs.declared.roots.Root.{Root}
use Rattle.porch_flat.specs.declared.whole.Flat.{Flat}
use Rattle.porch_ucf.specs.declared.fault.ImageFault.{ImageFault}
use Rattle.porch_ucf.specs.declared.fault.ImageFault.TheVariants.{TooNarrow}
use Rattle.porch_ucf.specs.declared.leaves.Sought.{Sought}
use Rattle.porch_ucf.specs.declared.leaves.Sought.TheVariants.{Words, Values}
use Rattle.porch_ucf.specs.DataFlaws.{FaultyLeaf, IsFaulty, IsFirstFaulty, file_place, long_value, word_of_leaf}
use Rattle.porch_ucf.specs.FirstFlaw.{IsFirstFlaw, of_front, of_body, of_words, of_values}
use Rattle.porch_ucf.specs.Images.{Checkpoint}
use Rattle.porch_ucf.specs.Laws.{FlawlessFilesHaveNoFlaw, FirstFlawsAreOne}

not_both : {X : Type 0} (o : Option X) (x : X) → o ≡ None → o ≡ Some x → ⊥
not_both o x none some = none-some x (sym none ∙ some)

pub no_flaw : FlawlessFilesHaveNoFlaw
no_flaw long program digest text fault h (of_front e) = not_both _ fault h.front e
no_flaw long program digest text fault h (of_body front e) = not_both _ fault h.body e
no_flaw long program digest text fault h (of_words front body first) = h.words first.number first.leaf fault first.here
no_flaw long program digest text fault h (of_values front body words first) = h.values first.number first.leaf fault first.here

abbrev kind_of : Option Ty → Option Kind
kind_of (Some (Whole kind)) = Some kind
kind_of _ = None

-- what is faulty in a leaf is one fault
one_fault : (sought : Sought) (types : List Ty) (objects : List Root) (c : Checkpoint) (object : Root) (leaf : ℕ) (a b : ImageFault) → IsFaulty sought types objects c object leaf a → IsFaulty sought types objects c object leaf b → a ≡ b
one_fault Words types objects c object leaf a b x y = x.fault_is ∙ sym y.fault_is
one_fault (Values long) types objects c object leaf a b x y =
    let kind : x.kind ≡ y.kind = same_Some x.kind y.kind (ap kind_of (sym x.is_whole ∙ y.is_whole)) in
    let word = word_of_leaf types c.bytes object leaf in
    x.fault_is ∙ ap (λ k. TooNarrow (long_value k word) (file_place types c object leaf)) kind ∙ sym y.fault_is

-- two first places are one
record IsOnePlace (m k n l : ℕ) : Type 0 where
  number : m ≡ n
  leaf : k ≡ l

one_place : (m k n l : ℕ) → (m < n) ⊎ ((m ≡ n) × (k ≤ l)) → (n < m) ⊎ ((n ≡ m) × (l ≤ k)) → IsOnePlace m k n l
one_place m k n l (inl a) (inl b) = absurd (omega (arith, a, b))
one_place m k n l (inl a) (inr b) = absurd (omega (arith, a, b.0))
one_place m k n l (inr a) (inl b) = absurd (omega (arith, a.0, b))
one_place m k n l (inr a) (inr b) = record { number = a.0; leaf = omega (arith, a.1, b.1) }

one_first : (sought : Sought) (types : List Ty) (objects : List Root) (c : Checkpoint) (a b : ImageFault) → IsFirstFaulty sought types objects c a → IsFirstFaulty sought types objects c b → a ≡ b
one_first sought types objects c a b x y =
    let place = one_place x.number x.leaf y.number y.leaf (x.first y.number y.leaf b y.here) (y.first x.number x.leaf a x.here) in
    let object : x.here.object ≡ y.here.object =
    same_Some x.here.object y.here.object (sym x.here.is_object ∙ ap (slice_get objects) place.number ∙ y.here.is_object) in
    let moved : IsFaulty sought types objects c y.here.object y.leaf a =
    subst (λ l. IsFaulty sought types objects c y.here.object l a) place.leaf
    (subst (λ (o : Root). IsFaulty sought types objects c o x.leaf a) object x.here.faulty) in
    one_fault sought types objects c y.here.object y.leaf a b moved y.here.faulty

pub one_flaw : FirstFlawsAreOne
one_flaw long program digest text a b (of_front e) (of_front f) = same_Some a b (sym e ∙ f)
one_flaw long program digest text a b (of_front e) (of_body none f) = absurd (not_both _ a none e)
one_flaw long program digest text a b (of_front e) (of_words none body first) = absurd (not_both _ a none e)
one_flaw long program digest text a b (of_front e) (of_values none body words first) = absurd (not_both _ a none e)
one_flaw long program digest text a b (of_body none e) (of_front f) = absurd (not_both _ b none f)
one_flaw long program digest text a b (of_body none e) (of_body other f) = same_Some a b (sym e ∙ f)
one_flaw long program digest text a b (of_body none e) (of_words other body first) = absurd (not_both _ a body e)
one_flaw long program digest text a b (of_body none e) (of_values other body words first) = absurd (not_both _ a body e)
one_flaw long program digest text a b (of_words none body first) (of_front f) = absurd (not_both _ b none f)
one_flaw long program digest text a b (of_words none body first) (of_body other f) = absurd (not_both _ b body f)
one_flaw long program digest text a b (of_words none body first) (of_words other also second) = one_first Words _ _ _ a b first second
one_flaw long program digest text a b (of_words none body first) (of_values other also words second) = absurd (words first.number first.leaf a first.here)
one_flaw long program digest text a b (of_values none body words first) (of_front f) = absurd (not_both _ b none f)
one_flaw long program digest text a b (of_values none body words first) (of_body other f) = absurd (not_both _ b body f)
one_flaw long program digest text a b (of_values none body words first) (of_words other also second) = absurd (words second.number second.leaf b second.here)
one_flaw long program digest text a b (of_values none body words first) (of_values other also more second) = one_first (Values long) _ _ _ a b first second
