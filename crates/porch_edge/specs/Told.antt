-- What holds where a disk tells its files, from one call to the next. Each fact is proved here; no clause cites it.
use Rattle.std.specs.Prelude.{◌≡◌, refl}
use Rattle.std.proofs.Common.{sym, subst}
use Rattle.std.specs.declared.option.Option.{Option}
use Rattle.std.specs.declared.option.Option.TheVariants.{Some, None}
use Rattle.porch_edge.specs.Files.{Files}
use Rattle.porch_edge.specs.Disk.{WhenTold, BothTell}

-- a fact of the files that are told is one where they are told
pub when_told : (o : Option Files) (P : Files → Type 0) → ((fs : Files) → o ≡ Some fs → P fs) → WhenTold o P
when_told None P f = tt
when_told (Some fs) P f = f fs refl

-- and the other way round
pub told_at : (o : Option Files) (fs : Files) (P : Files → Type 0) → o ≡ Some fs → WhenTold o P → P fs
told_at o fs P is told = subst (λ x. WhenTold x P) is told

-- the second tells where the first does
pub tells_on : (o p : Option Files) (P : Files → Files → Type 0) (fs : Files) → o ≡ Some fs → BothTell o p P → (gs : Files) × (p ≡ Some gs) × P fs gs
tells_on o None P fs is told = absurd (subst (λ x. BothTell x None P) is told)
tells_on o (Some gs) P fs is told = (gs, refl, subst (λ x. BothTell x (Some gs) P) is told)

-- and is silent where the first is
pub silent_on : (o p : Option Files) (P : Files → Files → Type 0) → o ≡ None → BothTell o p P → p ≡ None
silent_on o None P is told = refl
silent_on o (Some gs) P is told = absurd (subst (λ x. BothTell x (Some gs) P) is told)

-- both tell and this holds, by what holds where the first tells, and that the second is silent where it doesn't
pub both_by : (o p : Option Files) (P : Files → Files → Type 0) → (o ≡ None → p ≡ None) → ((fs : Files) → o ≡ Some fs → (gs : Files) × (p ≡ Some gs) × P fs gs) → BothTell o p P
both_by None p P silent told = subst (λ x. BothTell None x P) (sym (silent refl)) tt
both_by (Some fs) p P silent told = let t = told fs refl in subst (λ x. BothTell (Some fs) x P) (sym t.1) t.2

-- what holds of the second's files holds where the second tells
pub second_told : (o p : Option Files) (P : Files → Type 0) → BothTell o p (λ _ gs. P gs) → WhenTold p P
second_told None None P told = tt
second_told None (Some gs) P told = absurd told
second_told (Some fs) None P told = absurd told
second_told (Some fs) (Some gs) P told = told
