-- What a read behind the first bytes makes of a buffer.
use Rattle.std.proofs.Common.{◌≡◌, ℕ, ◌+◌, ◌-◌, ◌≤◌, List, [], ◌++◌, length, take, drop, min, sym, ◌∙◌, ap, arith, length-take, length-drop, Result, IfOk}
use Rattle.std.specs.declared.result.Result.TheVariants.{Ok, Err}
use Rattle.std.proofs.lemmas.List.{append-nil, drop_all, take_all, take_min, take-take}
use Rattle.std.proofs.Math.Seq.{take-add}
use borrow.Rule.Slice.PartMut.{put_mid}
use Rattle.porch_edge.specs.declared.disk.FileName.{FileName}
use Rattle.porch_edge.specs.declared.failed.Failed.{Failed}
use Rattle.porch_edge.specs.Files.{file_of}
use Rattle.porch_edge.specs.Disk.{DiskState, WhereTold, ReadStep}
use Rattle.porch_edge.specs.Told.{when_told, tells_on}

spliced : (bytes file buf : List ℕ) (filled n : ℕ) → filled ≤ length bytes → length bytes ≤ length file → take filled bytes ≡ take filled file → n ≡ min (length (take (length bytes - filled) (drop filled bytes))) (length file - filled)
    → buf ≡ take n (drop filled file) ++ drop n (take (length bytes - filled) (drop filled bytes)) → put_mid filled (length bytes - filled) bytes buf ≡ take (length bytes) file
spliced bytes file buf filled n within shorter front count is =
    let k = length bytes - filled in
    let before = take k (drop filled bytes) in
    let rest : length (drop filled bytes) ≡ k = length-drop filled bytes in
    let long : length before ≡ k = omega (arith, length-take k (drop filled bytes), rest) in
    let all : n ≡ k = omega (arith, count, long, shorter, within) in
    let none : drop n before ≡ [] = drop_all n before (omega (arith, all, long)) in
    let behind : drop k (drop filled bytes) ≡ [] = drop_all k (drop filled bytes) (omega (arith, rest)) in
    let read : buf ≡ take k (drop filled file) = is ∙ ap (λ (l : List ℕ). take n (drop filled file) ++ l) none ∙ append-nil (take n (drop filled file)) ∙ ap (λ (m : ℕ). take m (drop filled file)) all in
    let whole : filled + k ≡ length bytes = omega (arith, within) in
    ap (λ (l : List ℕ). take filled bytes ++ (buf ++ l)) behind ∙ ap (λ (l : List ℕ). take filled bytes ++ l) (append-nil buf) ∙ ap (λ (l : List ℕ). take filled bytes ++ l) read
    ∙ ap (λ (l : List ℕ). l ++ take k (drop filled file)) front ∙ sym (take-add filled k file) ∙ ap (λ (m : ℕ). take m file) whole

pub read_whole : (s t : DiskState) (file : FileName) (filled : ℕ) (bytes buf : List ℕ) (r : Result ℕ Failed) → filled ≤ length bytes → ReadStep s t file filled (take (length bytes - filled) (drop filled bytes)) buf r
    → IfOk r (λ count. WhereTold s (λ fs. length bytes ≤ length (file_of file fs) → take filled bytes ≡ take filled (file_of file fs) → put_mid filled (length bytes - filled) bytes buf ≡ take (length bytes) (file_of file fs)))
read_whole s t file filled bytes buf (Err e) within read = tt
read_whole s t file filled bytes buf (Ok n) within read = when_told s.files _ (λ fs is shorter front.
    let a = tells_on s.files t.files _ fs is read in
    spliced bytes (file_of file fs) buf filled n within shorter front a.2.1.0 a.2.1.1)

-- what a vector holds once its slice has these bytes
pub loaded : (m len : ℕ) (old new file : List ℕ) → m ≡ length old → len ≡ length old → length new ≡ length old → new ≡ take (length old) file → take m (take len (new ++ drop (length new) old)) ≡ take m file
loaded m len old new file all whole same is =
    let none : drop (length new) old ≡ [] = drop_all (length new) old (omega (arith, same)) in
    ap (λ (l : List ℕ). take m (take len (new ++ l))) none ∙ ap (λ (l : List ℕ). take m (take len l)) (append-nil new) ∙ ap (λ (l : List ℕ). take m l) (take_all len new (omega (arith, whole, same)))
    ∙ ap (λ (l : List ℕ). take m l) is ∙ take-take m (length old) file (omega (arith, all))

-- at most so many bytes of a file, and all of it
pub front_is : (most : ℕ) (file : List ℕ) (count : ℕ) → count ≡ min most (length file) → take count file ≡ take most file
front_is most file count is = ap (λ (n : ℕ). take n file) is ∙ take_min most file
