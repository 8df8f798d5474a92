-- What a store knows stays over calls that spare both checkpoint files.
use Rattle.std.proofs.Common.{◌≡◌, ℕ, ◌<◌, List, [], ◌∷◌, length, take, sym, ◌∙◌, ap, subst}
use Rattle.std.specs.declared.option.Option.{Option}
use Rattle.porch_edge.specs.declared.disk.FileName.TheVariants.{CkA, CkB}
use Rattle.porch_edge.specs.Files.{Files, file_of}
use Rattle.porch_edge.specs.Disk.{DiskState, WhereTold, SparesOne}
use Rattle.porch_edge.specs.Told.{told_at, tells_on, silent_on, both_by, second_told}
use Rattle.porch_store.specs.declared.number.TheConstants.{CHECKPOINT_LETTER}
use Rattle.porch_store.specs.declared.newest.Newest.{Newest}
use Rattle.porch_store.specs.Taken.{older_of, newer_of}
use Rattle.porch_store.specs.Stores.{Knows, Fills}
use Rattle.porch_store.proofs.Ranks.{same_newest, number_stays, settled_older, settled_newer, left_older, left_newer}

module _ (s t : DiskState) (a : SparesOne s t CkA) (b : SparesOne s t CkB) where
  pub knows_still : (which : Newest) (known : Option ℕ) → WhereTold s (Knows which known s) → WhereTold t (Knows which known t)
  knows_still which known ready = second_told s.files t.files (Knows which known t) (both_by s.files t.files _ (λ none. silent_on s.files t.files _ none a) (λ fs is.
      let one = tells_on s.files t.files _ fs is a in
      let two = tells_on s.files t.files _ fs is b in
      let knows = told_at s.files fs (Knows which known s) is ready in
      let same : two.0 ≡ one.0 = cc in
      let gs = one.0 in
      let b_is : gs.ck_b ≡ fs.ck_b = ap (λ (f : Files). f.ck_b) (sym same) ∙ two.2.same in (
        gs,
        one.1,
        record {
          newest = same_newest which fs gs one.2.same b_is knows.newest;
          number = knows.number ∙ sym (number_stays which fs gs one.2.same b_is knows.newest);
          settled_a = λ c left. let d = one.2.now c left in d.2 ∙ knows.settled_a d.0 d.1 ∙ sym one.2.same;
          settled_b = λ c left. let d = two.2.now c left in d.2 ∙ knows.settled_b d.0 d.1 ∙ sym b_is;
        },
      )))

  pub fills_still : (which : Newest) (known : Option ℕ) (begun count : ℕ) → WhereTold s (Fills which known begun count s) → WhereTold t (Fills which known begun count t)
  fills_still which known begun count ready = second_told s.files t.files (Fills which known begun count t) (both_by s.files t.files _ (λ none. silent_on s.files t.files _ none a) (λ fs is.
      let one = tells_on s.files t.files _ fs is a in
      let two = tells_on s.files t.files _ fs is b in
      let f = told_at s.files fs (Fills which known begun count s) is ready in
      let same : two.0 ≡ one.0 = cc in
      let gs = one.0 in
      let b_is : gs.ck_b ≡ fs.ck_b = ap (λ (f : Files). f.ck_b) (sym same) ∙ two.2.same in
      let older : file_of (older_of which) gs ≡ file_of (older_of which) fs = settled_older which fs gs one.2.same b_is in
      let newer : file_of (newer_of which) gs ≡ file_of (newer_of which) fs = settled_newer which fs gs one.2.same b_is in (
        gs,
        one.1,
        record {
          newest = same_newest which fs gs one.2.same b_is f.newest;
          number = f.number ∙ sym (number_stays which fs gs one.2.same b_is f.newest);
          below = f.below;
          settled = λ c left. let d = left_newer which s.leaves c (one.2.now c left) (two.2.now c left) in d.2 ∙ f.settled d.0 d.1 ∙ sym newer;
          front =
              λ c left. let d = left_older which s.leaves c (one.2.now c left) (two.2.now c left) in
              ap (λ (l : List ℕ). take 1 l) d.2 ∙ f.front d.0 d.1 ∙ ap (λ (l : List ℕ). take 1 l) (sym older);
          no_letter = subst (λ (l : List ℕ). ¬ (take 1 l ≡ CHECKPOINT_LETTER ∷ [])) (sym older) f.no_letter;
          long = subst (λ (l : List ℕ). count < length l) (sym older) f.long;
        },
      )))
