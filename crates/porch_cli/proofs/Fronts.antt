-- A layout that is found in the first bytes of a file, of which there is one more than a layouts file may have.
use Rattle.std.proofs.Common.{◌≡◌, ◌≤◌, ◌<◌, ◌⊎◌, ℕ, List, length, min, take, true, false, inl, inr, refl, sym, ap, subst, ◌∙◌, arith}
use Rattle.std.proofs.lemmas.List.{length-take-le, take_min}
use Rattle.std.proofs.lemmas.Bool.{cases_order}
use Rattle.std.proofs.lemmas.Bool.Decides.{nat_tests}
use Rattle.std.proofs.Math.Seq.{take-length}
use Rattle.std.specs.Prelude.{Result, Ok, Err, nat_lt}
use Rattle.std.specs.declared.option.Option.{Option}
use Rattle.std.specs.declared.option.Option.TheVariants.{Some, None}
use Rattle.porch_edge.specs.Disk.{WhenTold}
use Rattle.porch_edge.specs.Files.{Files}
use Rattle.porch_layout.specs.declared.layout.Layout.{Layout}
use Rattle.porch_layout.specs.Files.{layout_of}
use Rattle.porch_cli.specs.declared.naming.NamingStop.{NamingStop}
use Rattle.porch_cli.specs.declared.naming.NamingStop.TheVariants as stop
use Rattle.porch_cli.specs.inside.Naming.{IsFound, IsInText, IsInFile}

take_short : (n : ℕ) (l : List ℕ) → length l ≤ n → take n l ≡ l
take_short n l short =
    let all : min n (length l) ≡ length l = omega (arith, short) in
    sym (take_min n l) ∙ ap (λ (k : ℕ). take k l) all ∙ take-length l

long_front : (l name : List ℕ) → 65536 < length l → layout_of (take 65537 l) name ≡ layout_of l name
long_front l name long =
    let front : length (take 65537 l) ≡ 65537 = length-take-le 65537 l (omega (arith, long)) in
    let a : nat_lt 65536 (length (take 65537 l)) ≡ true = grind (arith, nat_tests, front) in
    let b : nat_lt 65536 (length l) ≡ true = grind (arith, nat_tests, long) in
    rw (a, b) refl

same_front : (l name : List ℕ) → layout_of (take 65537 l) name ≡ layout_of l name
same_front l name = elim (cases_order (length l) 65536) [
  | inl e ↦ ap (λ (x : List ℕ). layout_of x name) (take_short 65537 l (omega (arith, e)))
  | inr o ↦ elim o [ inl e ↦ ap (λ (x : List ℕ). layout_of x name) (take_short 65537 l (omega (arith, e))) | inr e ↦ long_front l name (omega (arith, e)) ]
]

found_untold : (r : Result Layout NamingStop) → IsFound None r
found_untold (Ok layout) = tt
found_untold (Err (stop.BadLayout key rule)) = tt
found_untold (Err stop.DiskFault) = tt
found_untold (Err stop.NoMemory) = tt

pub in_told_file : (files : Option Files) (text name : List ℕ) (r : Result Layout NamingStop) → WhenTold files (λ fs. text ≡ take 65537 fs.layouts) → IsInText text name r → IsInFile files name r
in_told_file None text name r front found = found_untold r
in_told_file (Some fs) text name r front found =
    let same : layout_of text name ≡ layout_of fs.layouts name = ap (λ (x : List ℕ). layout_of x name) front ∙ same_front fs.layouts name in
    subst (λ told. IsFound (Some told) r) same found
