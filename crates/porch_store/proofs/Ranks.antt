-- Which of two files is the newest, and stays it.
use Rattle.std.proofs.Common.{◌≡◌, ◌≢◌, inl, inr, ℕ, ◌<◌, ◌≤◌, List, length, refl, sym, ◌∙◌, ap, subst, arith}
use Rattle.std.specs.declared.option.Option.{Option}
use Rattle.std.specs.declared.option.Option.TheVariants.{Some}
use Rattle.porch_edge.specs.declared.disk.FileName.TheVariants.{Program, Output, CkA, CkB, Layouts, Input}
use Rattle.porch_edge.specs.Files.{Files, file_of, with_file}
use Rattle.porch_edge.specs.Disk.{LeavesOf}
use Rattle.porch_store.specs.declared.newest.Newest.{Newest}
use Rattle.porch_store.specs.declared.newest.Newest.TheVariants.{Neither, One, Tie}
use Rattle.porch_store.specs.Checkpoints.{IsOpen, Outranks, IsNewest, number_of, newest_number, whole_file}
use Rattle.porch_store.specs.Taken.{older_of, newer_of, OldOrShut, HasOldBytes, HasNewest}
use Rattle.porch_store.specs.Stores.{IsBelow}

same_rank : (a b c d : List ℕ) → c ≡ a → d ≡ b → Outranks a b → Outranks c d
same_rank a b c d e f ranks = subst (λ x. Outranks x d) (sym e) (subst (λ y. Outranks a y) (sym f) ranks)

closed_rank : (a c d : List ℕ) → c ≡ a → IsOpen a → ¬ IsOpen d → Outranks c d
closed_rank a c d e is_open closed = record { is_open = subst IsOpen (sym e) is_open; greater = λ o. absurd (closed o) }

-- this file is as it was where only the other was changed
pub stays : (newest : Newest) (fs d c : Files) (x : List ℕ) → c ≡ with_file (older_of newest) d x → file_of (newer_of newest) d ≡ file_of (newer_of newest) fs → file_of (newer_of newest) c ≡ file_of (newer_of newest) fs
stays Neither fs d c x others same = ap (λ (f : Files). f.ck_b) others ∙ same
stays (One CkA) fs d c x others same = ap (λ (f : Files). f.ck_a) others ∙ same
stays (One CkB) fs d c x others same = ap (λ (f : Files). f.ck_b) others ∙ same
stays (One Program) fs d c x others same = ap (λ (f : Files). f.ck_b) others ∙ same
stays (One Output) fs d c x others same = ap (λ (f : Files). f.ck_b) others ∙ same
stays (One Layouts) fs d c x others same = ap (λ (f : Files). f.ck_b) others ∙ same
stays (One Input) fs d c x others same = ap (λ (f : Files). f.ck_b) others ∙ same
stays Tie fs d c x others same = ap (λ (f : Files). f.ck_b) others ∙ same

-- a number beyond that of each open file
pub record IsBeyond (number : ℕ) (fs : Files) : Type 0 where
  pub a : IsOpen fs.ck_a → number_of fs.ck_a < number
  pub b : IsOpen fs.ck_b → number_of fs.ck_b < number

-- what is beyond the newest is beyond both
pub beyond_both : (newest : Newest) (fs : Files) (known : Option ℕ) (number : ℕ) → newest ≢ Tie → IsNewest newest fs → known ≡ newest_number newest fs → IsBelow known number → IsBeyond number fs
beyond_both Neither fs known number no_tie was is below = record { a = λ o. absurd (was.0 o); b = λ o. absurd (was.1 o) }
beyond_both (One CkA) fs known number no_tie was is below =
    let least : number_of fs.ck_a < number = subst (λ (k : Option ℕ). IsBelow k number) is below in
    record { a = λ o. least; b = λ o. let more = was.greater o in omega (arith, least, more) }
beyond_both (One CkB) fs known number no_tie was is below =
    let least : number_of fs.ck_b < number = subst (λ (k : Option ℕ). IsBelow k number) is below in
    record { a = λ o. let more = was.greater o in omega (arith, least, more); b = λ o. least }
beyond_both (One Program) fs known number no_tie was is below = absurd was
beyond_both (One Output) fs known number no_tie was is below = absurd was
beyond_both (One Layouts) fs known number no_tie was is below = absurd was
beyond_both (One Input) fs known number no_tie was is below = absurd was
beyond_both Tie fs known number no_tie was is below = absurd (no_tie refl)

-- a file that is old or closed changes nothing of the newest
pub not_new : (newest : Newest) (fs c : Files) → newest ≢ Tie → IsNewest newest fs → file_of (newer_of newest) c ≡ file_of (newer_of newest) fs
    → OldOrShut (file_of (older_of newest) fs) (file_of (older_of newest) c) → HasNewest newest fs c
not_new Neither fs c no_tie was other (inl old) = ((λ o. was.0 (subst IsOpen old o), λ o. was.1 (subst IsOpen other o)), tt)
not_new Neither fs c no_tie was other (inr closed) = ((closed, λ o. was.1 (subst IsOpen other o)), tt)
not_new (One CkA) fs c no_tie was other (inl old) = (same_rank fs.ck_a fs.ck_b c.ck_a c.ck_b other old was, other)
not_new (One CkA) fs c no_tie was other (inr closed) = (closed_rank fs.ck_a c.ck_a c.ck_b other was.is_open closed, other)
not_new (One CkB) fs c no_tie was other (inl old) = (same_rank fs.ck_b fs.ck_a c.ck_b c.ck_a other old was, other)
not_new (One CkB) fs c no_tie was other (inr closed) = (closed_rank fs.ck_b c.ck_b c.ck_a other was.is_open closed, other)
not_new (One Program) fs c no_tie was other state = absurd was
not_new (One Output) fs c no_tie was other state = absurd was
not_new (One Layouts) fs c no_tie was other state = absurd was
not_new (One Input) fs c no_tie was other state = absurd was
not_new Tie fs c no_tie was other state = absurd (no_tie refl)

-- where the file that is left alone is as it was, so is what is said of the newest
pub old_bytes : (newest : Newest) (fs c : Files) → file_of (newer_of newest) c ≡ file_of (newer_of newest) fs → IsNewest newest fs → HasOldBytes newest fs c
old_bytes Neither fs c other was = tt
old_bytes (One CkA) fs c other was = other
old_bytes (One CkB) fs c other was = other
old_bytes (One Program) fs c other was = absurd was
old_bytes (One Output) fs c other was = absurd was
old_bytes (One Layouts) fs c other was = absurd was
old_bytes (One Input) fs c other was = absurd was
old_bytes Tie fs c other was = tt

pub old_twice : (newest : Newest) (fs gs c : Files) → HasOldBytes newest fs gs → HasOldBytes newest gs c → HasOldBytes newest fs c
old_twice Neither fs gs c first second = tt
old_twice (One file) fs gs c first second = second ∙ first
old_twice Tie fs gs c first second = tt

pub same_number : (newest : Newest) (fs c : Files) → newest ≢ Tie → HasOldBytes newest fs c → newest_number newest c ≡ newest_number newest fs
same_number Neither fs c no_tie old = refl
same_number (One file) fs c no_tie old = ap (λ (l : List ℕ). Some (number_of l)) old
same_number Tie fs c no_tie old = absurd (no_tie refl)

-- the file that a commit takes is open where both tie
pub taken_of_tie : (newest : Newest) (fs : Files) → IsNewest newest fs → ¬ IsOpen (file_of (older_of newest) fs) → newest ≢ Tie
taken_of_tie Neither fs was shut = λ same. cc
taken_of_tie (One file) fs was shut = λ same. cc
taken_of_tie Tie fs was shut = absurd (shut was.0)

-- where nothing is pending in either file, nothing is in that one and this one
pub settled_older : (newest : Newest) (fs c : Files) → c.ck_a ≡ fs.ck_a → c.ck_b ≡ fs.ck_b → file_of (older_of newest) c ≡ file_of (older_of newest) fs
settled_older Neither fs c a b = a
settled_older (One CkA) fs c a b = b
settled_older (One CkB) fs c a b = a
settled_older (One Program) fs c a b = a
settled_older (One Output) fs c a b = a
settled_older (One Layouts) fs c a b = a
settled_older (One Input) fs c a b = a
settled_older Tie fs c a b = a

pub settled_newer : (newest : Newest) (fs c : Files) → c.ck_a ≡ fs.ck_a → c.ck_b ≡ fs.ck_b → file_of (newer_of newest) c ≡ file_of (newer_of newest) fs
settled_newer Neither fs c a b = b
settled_newer (One CkA) fs c a b = a
settled_newer (One CkB) fs c a b = b
settled_newer (One Program) fs c a b = b
settled_newer (One Output) fs c a b = b
settled_newer (One Layouts) fs c a b = b
settled_newer (One Input) fs c a b = b
settled_newer Tie fs c a b = b

module _ (bytes : List ℕ) (number : ℕ) (long : 127 ≤ length bytes) (numbered : number_of (whole_file bytes) ≡ number) where
  whole_rank : (b x d : List ℕ) → x ≡ whole_file bytes → d ≡ b → (IsOpen b → number_of b < number) → Outranks x d
  whole_rank b x d e f beyond =
      let whole_open : IsOpen (whole_file bytes) = record { long = omega (arith, long); letter = refl } in
      let greater : IsOpen b → number_of b < number_of (whole_file bytes) = λ o. subst (λ (n : ℕ). number_of b < n) (sym numbered) (beyond o) in
      same_rank (whole_file bytes) b x d e f (record { is_open = whole_open; greater = greater })

  -- the new one outranks the file that was left alone
  pub new_rank : (newest : Newest) (fs c : Files) → newest ≢ Tie → IsNewest newest fs → IsBeyond number fs → file_of (newer_of newest) c ≡ file_of (newer_of newest) fs → file_of (older_of newest) c ≡ whole_file bytes
      → IsNewest (One (older_of newest)) c
  new_rank Neither fs c no_tie was beyond other whole = whole_rank fs.ck_b c.ck_a c.ck_b whole other beyond.b
  new_rank (One CkA) fs c no_tie was beyond other whole = whole_rank fs.ck_a c.ck_b c.ck_a whole other beyond.a
  new_rank (One CkB) fs c no_tie was beyond other whole = whole_rank fs.ck_b c.ck_a c.ck_b whole other beyond.b
  new_rank (One Program) fs c no_tie was beyond other whole = absurd was
  new_rank (One Output) fs c no_tie was beyond other whole = absurd was
  new_rank (One Layouts) fs c no_tie was beyond other whole = absurd was
  new_rank (One Input) fs c no_tie was beyond other whole = absurd was
  new_rank Tie fs c no_tie was beyond other whole = absurd (no_tie refl)

-- two contents that are the same in the file that is left alone and in the other
pub settles : (newest : Newest) (fs gs c : Files) → file_of (newer_of newest) c ≡ file_of (newer_of newest) fs → file_of (newer_of newest) gs ≡ file_of (newer_of newest) fs → file_of (older_of newest) c ≡ file_of (older_of newest) gs
    → (c.ck_a ≡ gs.ck_a) × (c.ck_b ≡ gs.ck_b)
settles Neither fs gs c one other whole = (whole, one ∙ sym other)
settles (One CkA) fs gs c one other whole = (one ∙ sym other, whole)
settles (One CkB) fs gs c one other whole = (whole, one ∙ sym other)
settles (One Program) fs gs c one other whole = (whole, one ∙ sym other)
settles (One Output) fs gs c one other whole = (whole, one ∙ sym other)
settles (One Layouts) fs gs c one other whole = (whole, one ∙ sym other)
settles (One Input) fs gs c one other whole = (whole, one ∙ sym other)
settles Tie fs gs c one other whole = (whole, one ∙ sym other)

-- what is said of the newest is said of the two checkpoint files alone
pub same_newest : (newest : Newest) (fs gs : Files) → gs.ck_a ≡ fs.ck_a → gs.ck_b ≡ fs.ck_b → IsNewest newest fs → IsNewest newest gs
same_newest Neither fs gs a b was = (subst (λ (l : List ℕ). ¬ IsOpen l) (sym a) was.0, subst (λ (l : List ℕ). ¬ IsOpen l) (sym b) was.1)
same_newest (One CkA) fs gs a b was = same_rank fs.ck_a fs.ck_b gs.ck_a gs.ck_b a b was
same_newest (One CkB) fs gs a b was = same_rank fs.ck_b fs.ck_a gs.ck_b gs.ck_a b a was
same_newest (One Program) fs gs a b was = absurd was
same_newest (One Output) fs gs a b was = absurd was
same_newest (One Layouts) fs gs a b was = absurd was
same_newest (One Input) fs gs a b was = absurd was
same_newest Tie fs gs a b was = (subst IsOpen (sym a) was.0, subst IsOpen (sym b) was.1, ap (λ (l : List ℕ). number_of l) a ∙ was.2 ∙ ap (λ (l : List ℕ). number_of l) (sym b))

pub number_stays : (newest : Newest) (fs gs : Files) → gs.ck_a ≡ fs.ck_a → gs.ck_b ≡ fs.ck_b → IsNewest newest fs → newest_number newest gs ≡ newest_number newest fs
number_stays Neither fs gs a b was = refl
number_stays (One CkA) fs gs a b was = ap (λ (l : List ℕ). Some (number_of l)) a
number_stays (One CkB) fs gs a b was = ap (λ (l : List ℕ). Some (number_of l)) b
number_stays (One Program) fs gs a b was = absurd was
number_stays (One Output) fs gs a b was = absurd was
number_stays (One Layouts) fs gs a b was = absurd was
number_stays (One Input) fs gs a b was = absurd was
number_stays Tie fs gs a b was = ap (λ (l : List ℕ). Some (number_of l)) a

-- what a crash leaves of both files it leaves of the one that a commit takes and of the other
pub left_older : (newest : Newest) (leaves : Files → Type 0) (c : Files) → LeavesOf CkA leaves c → LeavesOf CkB leaves c → LeavesOf (older_of newest) leaves c
left_older Neither leaves c a b = a
left_older (One CkA) leaves c a b = b
left_older (One CkB) leaves c a b = a
left_older (One Program) leaves c a b = a
left_older (One Output) leaves c a b = a
left_older (One Layouts) leaves c a b = a
left_older (One Input) leaves c a b = a
left_older Tie leaves c a b = a

pub left_newer : (newest : Newest) (leaves : Files → Type 0) (c : Files) → LeavesOf CkA leaves c → LeavesOf CkB leaves c → LeavesOf (newer_of newest) leaves c
left_newer Neither leaves c a b = b
left_newer (One CkA) leaves c a b = a
left_newer (One CkB) leaves c a b = b
left_newer (One Program) leaves c a b = b
left_newer (One Output) leaves c a b = b
left_newer (One Layouts) leaves c a b = b
left_newer (One Input) leaves c a b = b
left_newer Tie leaves c a b = b
