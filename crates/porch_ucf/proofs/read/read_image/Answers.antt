use Rattle.std.proofs.Common.{◌≡◌, ◌⊎◌, inl, inr, ℕ, ◌+◌, ◌≤◌, ◌++◌, List, length, take, Result, Ok, Err, IfOk, IfErr, OnOk, ap, sym, ◌∙◌, subst}
use Rattle.porch_flat.specs.declared.whole.Flat.{Flat}
use Rattle.porch_ucf.specs.declared.fault.ImageFault.{ImageFault}
use Rattle.porch_ucf.specs.declared.fault.ImageFault.TheVariants.{NoMemory}
use Rattle.porch_ucf.specs.Files.{file_of}
use Rattle.sha2.specs.Sha256.{sha256}
use Rattle.porch_flat_line.specs.Text.{Text}
use Rattle.porch_ucf.specs.FirstFlaw.{IsFirstFlaw, IsFlawless}
use Rattle.porch_ucf.specs.Images.{Checkpoint}
use Rattle.porch_ucf.specs.Laws.{FilesAreSpelled, FlawlessFilesAreGood, FlawlessFilesHaveNoFlaw, IsOpen, IsReadTo, IsResumable}
use Rattle.porch_ucf.specs.Reading.{image_of}
use Rattle.porch_ucf.proofs.read.read_image.Goals as goal

-- what is read of a file without a flaw
read_to : (long : ℕ) (program : Flat) (digest text : List ℕ) (c : Checkpoint) (r : Result Checkpoint ImageFault) → FlawlessFilesHaveNoFlaw → IfOk r (λ i. i ≡ image_of text)
    → IfErr r (λ f. (f ≡ NoMemory) ⊎ IsFirstFlaw long program digest text f) → image_of text ≡ c → IsFlawless long program digest text → IsReadTo c r
read_to long program digest text c (Ok i) none ok err same flawless = inr (ap (λ x. Ok x) (ok ∙ same))
read_to long program digest text c (Err f) none ok err same flawless =
    elim err [
      | inl memory ↦ inl (ap (λ x. Err x) memory)
      | inr flaw ↦ absurd (none long program digest text f flawless flaw)
    ]

pub returns-clause-again : goal.returns-clause-again
returns-clause-again c = λ k rest readable digest_is text_is.
    let long = c.args.layout.now.long in
    let program = c.args.program.now in
    let text = c.args.text.now in
    let digest = c.args.digest.now in
    let back = c.files_are_read_back.ensures long program k rest readable in
    let same : image_of text ≡ k = ap image_of text_is ∙ back.same in
    let flawless : IsFlawless long program digest text =
    subst (λ t. IsFlawless long program digest t) (sym text_is) (subst (λ d. IsFlawless long program d (file_of k ++ rest)) (sym digest_is) back.flawless) in
    read_to long program digest text k c.read_flawless.result c.first_flaws_are_one.ensures.flawless c.read_flawless.ensures.image c.read_flawless.ensures.flaw same flawless

-- a file that is read begins with the file of what is read
begins_with : (long : ℕ) (program : Flat) (digest text : List ℕ) (r : Result Checkpoint ImageFault) → FilesAreSpelled → 128 ≤ length text → IsOpen text → IfOk r (λ i. i ≡ image_of text)
    → OnOk r (IsFlawless long program digest text) → IfOk r (λ i. file_of i ≡ take (128 + i.header.body) text)
begins_with long program digest text (Ok i) spelled most is_open ok flawless =
    subst (λ (x : Checkpoint). file_of x ≡ take (128 + x.header.body) text) (sym ok) (spelled digest text is_open.bytes most is_open.gate flawless.front)
begins_with long program digest text (Err f) spelled most is_open ok flawless = tt

pub returns-clause-begins : goal.returns-clause-begins
returns-clause-begins c = λ is_open.
    begins_with c.args.layout.now.long c.args.program.now c.args.digest.now c.args.text.now c.read_flawless.result c.files_are_spelled.ensures.spelled c.requires.open is_open c.read_flawless.ensures.image
    c.read_flawless.ensures.sound

-- and it can be gone on from
resumable : (long : ℕ) (program : Flat) (digest text : List ℕ) (r : Result Checkpoint ImageFault) → FlawlessFilesAreGood → digest ≡ sha256 (Text program) → IfOk r (λ i. i ≡ image_of text)
    → OnOk r (IsFlawless long program digest text) → IfOk r (IsResumable long program)
resumable long program digest text (Ok i) good digest_is ok flawless =
    let known : IsFlawless long program (sha256 (Text program)) text = subst (λ d. IsFlawless long program d text) digest_is flawless in
    let of_text : IsResumable long program (image_of text) = record { is_good = good long program text known; fits = known.values } in
    subst (λ x. IsResumable long program x) (sym ok) of_text
resumable long program digest text (Err f) good digest_is ok flawless = tt

pub returns-clause-good : goal.returns-clause-good
returns-clause-good c = λ digest_is.
    resumable c.args.layout.now.long c.args.program.now c.args.digest.now c.args.text.now c.read_flawless.result c.files_are_spelled.ensures.good digest_is c.read_flawless.ensures.image
    c.read_flawless.ensures.sound
