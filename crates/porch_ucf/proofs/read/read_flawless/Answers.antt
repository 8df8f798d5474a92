use Rattle.std.proofs.Common.{◌≡◌, ◌⊎◌, inl, inr, ℕ, List, None, subst}
use Rattle.porch_ucf.specs.declared.fault.ImageFault.{ImageFault}
use Rattle.porch_ucf.specs.declared.fault.ImageFault.TheVariants.{NoMemory}
use Rattle.porch_ucf.specs.FirstFlaw.{IsFirstFlaw, of_body, of_words, of_values}
use Rattle.porch_ucf.specs.FrontFlaws.{front_flaw}
use Rattle.porch_ucf.specs.Reading.{image_of}
use Rattle.porch_ucf.specs.Images.{Checkpoint}
use Rattle.porch_flat.specs.declared.whole.Flat.{Flat}
use Rattle.porch_ucf.specs.inside.Checked.{IsFlaw, memory, in_body, in_words, in_values, IsSound}
use Rattle.porch_ucf.proofs.read.read_flawless.Goals as goal

flaw_of : (long : ℕ) (program : Flat) (digest text : List ℕ) (fault : ImageFault) → front_flaw digest text ≡ None → IsFlaw long program (image_of text) fault → (fault ≡ NoMemory) ⊎ IsFirstFlaw long program digest text fault
flaw_of long program digest text fault front (memory e) = inl e
flaw_of long program digest text fault front (in_body e) = inr (of_body front e)
flaw_of long program digest text fault front (in_words e first) = inr (of_words front e first)
flaw_of long program digest text fault front (in_values e words first) = inr (of_values front e words first)

pub returns-in-Ok-clause-sound : goal.returns-in-Ok-clause-sound
returns-in-Ok-clause-sound c =
    let sound = subst (λ (i : Checkpoint). IsSound c.args.layout.now.long c.args.program.now i) c.in_ok-image.ensures.image (rw c.flat.ensures.same at c.in-Ok.ensures.sound) in
    record { front = c.in_ok-header.ensures.sound; body = sound.body; words = sound.words; values = sound.values }

pub returns-in-Err-clause-flaw : goal.returns-in-Err-clause-flaw
returns-in-Err-clause-flaw c =
    let flaw = subst (λ (i : Checkpoint). IsFlaw c.args.layout.now.long c.args.program.now i c.in-Err.fault) c.in_ok-image.ensures.image (rw c.flat.ensures.same at c.in-Err.ensures.flaw) in
    flaw_of c.args.layout.now.long c.args.program.now c.args.digest.now c.args.text.now c.in-Err.fault c.in_ok-header.ensures.sound flaw
