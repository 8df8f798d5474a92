-- A disk that isn't touched.
use Rattle.std.proofs.Common.{◌≡◌, refl, inl}
use Rattle.std.proofs.Math.Nat.{le_refl}
use Rattle.porch_edge.specs.Disk.{DiskState, WhereTold, OnlyLooks, Looks, since}
use Rattle.porch_edge.specs.Files.{Files}
use Rattle.porch_edge.specs.Told.{both_by, told_at}
use Rattle.porch_edge.specs.Runs.{OnlyNow}
use Rattle.std.specs.declared.option.Option.{Option}
use Rattle.std.specs.declared.option.Option.TheVariants.{Some, None}

looks_so : (s : DiskState) (fs : Files) → ((c : Files) → since s s.moment c → s.leaves c) → Looks s s fs fs
looks_so s fs now = record {
  same = refl;
  now = λ c left. left;
  moments = record { each = now; time = record { later = λ clock. le_refl (s.moment clock); nothing_else = λ m c left. inl left; keeps = λ m c left. left } };
}

pub looks_at_nothing : (s : DiskState) → OnlyNow s → OnlyLooks s s
looks_at_nothing s now = both_by s.files s.files _ (λ none. none) (λ fs is. (fs, is, looks_so s fs (told_at s.files fs (λ _. (c : Files) → since s s.moment c → s.leaves c) is now)))
