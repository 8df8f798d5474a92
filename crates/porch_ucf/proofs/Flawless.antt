-- The flaws of a checkpoint, one after the other.
use Rattle.std.proofs.Common.{◌≡◌, ℕ, zero, suc, ◌+◌, ◌<◌, Bool, true, false, List, [], ◌∷◌, length, slice_get, get_or, Option, Some, None, All, if◌then◌else◌, refl, ap, sym, ◌∙◌, subst, arith}
use Rattle.std.specs.Option.{option_map}
use Rattle.std.proofs.lemmas.Bool.{ltb-true, and_parts}
use Rattle.std.proofs.lemmas.Option.{slice_get-get_or, none-some}
use Rattle.porch_types.specs.declared.shapes.Ty.{Ty}
use Rattle.porch_flat.specs.declared.whole.Flat.{Flat}
use Rattle.porch_flat.specs.whole.Rewritten.{passes}
use Rattle.porch_ucf.specs.declared.fault.ImageFault.{ImageFault}
use Rattle.porch_ucf.specs.declared.image.BlockRow.{BlockRow}
use Rattle.porch_ucf.specs.FirstFailing.{first_failing}
use Rattle.porch_ucf.specs.FirstFlaw.{body_flaw}
use Rattle.porch_ucf.specs.HeaderFlaws.{first_of}
use Rattle.porch_ucf.specs.Images.{Checkpoint}
use Rattle.porch_ucf.specs.RowFlaws.{frame_flaw, block_flaw, is_block}
use Rattle.porch_ucf.specs.inside.Checked.{IsFlaw, memory, in_body, in_words, in_values, IsSound, data_size_flaw, IsDataFlaw, data_memory, in_size, in_data_words, in_data_values, IsDataSound}

first_alone : (flaw : Option ImageFault) → first_of (flaw ∷ []) ≡ flaw
first_alone None = refl
first_alone (Some fault) = refl

pub first_third : (a b c : Option ImageFault) → a ≡ None → b ≡ None → first_of (a ∷ b ∷ c ∷ []) ≡ c
first_third None None c e f = first_alone c
first_third None (Some y) c e f = absurd (none-some y (sym f))
first_third (Some x) b c e f = absurd (none-some x (sym e))

module _ (program : Flat) (c : Checkpoint) where
  pub frame_first : (fault : ImageFault) → frame_flaw program c.frames ≡ Some fault → body_flaw program c ≡ Some fault
  frame_first fault e = rw e refl

  pub block_first : (fault : ImageFault) → frame_flaw program c.frames ≡ None → block_flaw program.types (length c.frames) c.blocks ≡ Some fault → body_flaw program c ≡ Some fault
  block_first fault e f = rw (e, f) refl

  module _ (frames : frame_flaw program c.frames ≡ None) (blocks : block_flaw program.types (length c.frames) c.blocks ≡ None) where
    size_is : body_flaw program c ≡ data_size_flaw program c
    size_is = first_third (frame_flaw program c.frames) (block_flaw program.types (length c.frames) c.blocks) (data_size_flaw program c) frames blocks

    pub whole_flaw : (long : ℕ) (fault : ImageFault) → IsDataFlaw long program c fault → IsFlaw long program c fault
    whole_flaw long fault (data_memory e) = memory e
    whole_flaw long fault (in_size e) = in_body (size_is ∙ e)
    whole_flaw long fault (in_data_words e first) = in_words (size_is ∙ e) first
    whole_flaw long fault (in_data_values e words first) = in_values (size_is ∙ e) words first

    pub whole_sound : (long : ℕ) → IsDataSound long program c → IsSound long program c
    whole_sound long h = record { body = size_is ∙ h.size; words = h.words; values = h.values }

-- where no number fails, each passes
all_pass : (p : ℕ → Bool) (at many i : ℕ) → first_failing p at many ≡ None → i < many → p (at + i) ≡ true
all_pass p at zero i e lt = absurd (omega (arith, lt))
all_pass p at (suc many) zero e lt = let here : at + 0 ≡ at = omega arith in rw here (yes (p at) (first_failing p (at + 1) many) at e)
  where
    yes : (b : Bool) (rest : Option ℕ) (at : ℕ) → (if b then rest else Some at) ≡ None → b ≡ true
    yes true rest at e = refl
    yes false rest at e = absurd (none-some at (sym e))
all_pass p at (suc many) (suc i) e lt = let next : at + suc i ≡ at + 1 + i = omega arith in rw next (all_pass p (at + 1) many i (rest (p at) (first_failing p (at + 1) many) at e) (omega (arith, lt)))
  where
    rest : (b : Bool) (rest : Option ℕ) (at : ℕ) → (if b then rest else Some at) ≡ None → rest ≡ None
    rest true r at e = e
    rest false r at e = absurd (none-some at (sym e))

none_mapped : {A B : Type 0} (f : A → B) (o : Option A) → option_map f o ≡ None → o ≡ None
none_mapped f None e = refl
none_mapped f (Some x) e = absurd (none-some (f x) (sym e))

-- blocks without a flaw have types of the list
pub blocks_known : (types : List Ty) (frames : ℕ) (blocks : List BlockRow) → block_flaw types frames blocks ≡ None → All (λ b. b.ty < length types) blocks
blocks_known types frames blocks e = λ k d lt.
    let none = none_mapped _ (first_failing (λ i. passes (is_block types) (slice_get blocks i)) 0 (length blocks)) e in
    let pass = all_pass (λ i. passes (is_block types) (slice_get blocks i)) 0 (length blocks) k none lt in
    let zero_k : 0 + k ≡ k = omega arith in
    let at : passes (is_block types) (Some (get_or blocks k d)) ≡ true = sym (ap (passes (is_block types)) (slice_get-get_or blocks k d lt)) ∙ subst (λ i. passes (is_block types) (slice_get blocks i) ≡ true) zero_k pass in
    ltb-true (get_or blocks k d).ty (length types) (and_parts _ _ (and_parts _ _ at).0).0
