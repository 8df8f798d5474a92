-- The runs that were found for types, with those of one type more.
use Rattle.std.proofs.Common.{◌≡◌, ℕ, zero, suc, ◌<◌, ◌⊎◌, inl, inr, true, false, List, [], ◌∷◌, ◌++◌, Vec, Global, length, get_or, slice_set, Option, Some, None, refl, ap, sym, ◌∙◌, subst, arith}
use Rattle.std.specs.Option.{is_some}
use Rattle.std.proofs.lemmas.List.{length-set}
use Rattle.std.proofs.lemmas.Option.{none-some, same_Some}
use Rattle.porch_types.specs.declared.shapes.Ty.{Ty}
use Rattle.porch_types.specs.Leaves.{leaves_of}
use Rattle.porch_ucf.specs.declared.leaves.Sought.{Sought}
use Rattle.porch_ucf.specs.declared.runs.Run.{Run}
use Rattle.porch_ucf.specs.inside.Runs.{AreFoundAt, AreRuns, AreRunsFound, runs_found}

abbrev pub NoneFound : List (Option (Vec Run Global)) → Type 0
NoneFound found = (ty : ℕ) (runs : List Run) → runs_found found ty ≡ Some runs → ⊥

-- one type more for which none were found
pub none_more : (found : List (Option (Vec Run Global))) → NoneFound found → NoneFound (found ++ None ∷ [])
none_more [] none zero runs e = absurd (none-some runs e)
none_more [] none (suc ty) runs e = absurd (none-some runs e)
none_more (x ∷ xs) none zero runs e = none zero runs e
none_more (x ∷ xs) none (suc ty) runs e = none_more xs (λ t. none (suc t)) ty runs e

-- what is found where the runs of a type were put
found_in : (found : List (Option (Vec Run Global))) (ty t : ℕ) (runs : Vec Run Global) (rs : List Run) → runs_found (slice_set found ty (Some runs)) t ≡ Some rs → ((t ≡ ty) × (rs ≡ runs.items)) ⊎ (runs_found found t ≡ Some rs)
found_in [] ty t runs rs e = inr e
found_in (x ∷ xs) zero zero runs rs e = inl (refl, sym (same_Some runs.items rs e))
found_in (x ∷ xs) zero (suc t) runs rs e = inr e
found_in (x ∷ xs) (suc ty) zero runs rs e = inr e
found_in (x ∷ xs) (suc ty) (suc t) runs rs e =
    elim (found_in xs ty t runs rs e) [
      | inl here ↦ inl (ap suc here.0, here.1)
      | inr before ↦ inr before
    ]

pub put_there : (found : List (Option (Vec Run Global))) (ty : ℕ) (runs : Vec Run Global) → ty < length found → AreFoundAt (slice_set found ty (Some runs)) ty
put_there [] ty runs lt = absurd (omega (arith, lt))
put_there (x ∷ xs) zero runs lt = (runs.items, refl)
put_there (x ∷ xs) (suc ty) runs lt = put_there xs ty runs (omega (arith, lt))

pub was_there : (found : List (Option (Vec Run Global))) (ty : ℕ) (x : Option (Vec Run Global)) → ty < length found → x ≡ get_or found ty x → is_some x ≡ true → AreFoundAt found ty
was_there [] ty x lt at is = absurd (omega (arith, lt))
was_there (Some runs ∷ xs) zero x lt at is = (runs.items, refl)
was_there (None ∷ xs) zero x lt at is =
    let never : false ≡ true = sym (ap is_some at) ∙ is in
    absurd (cc)
was_there (y ∷ xs) (suc ty) x lt at is = was_there xs ty x (omega (arith, lt)) at is

pub found_more : (sought : Sought) (types : List Ty) (found : List (Option (Vec Run Global))) (ty : ℕ) (runs : Vec Run Global) → AreRunsFound sought types found → AreRuns sought types ty (leaves_of types ty) runs.items
    → AreRunsFound sought types (slice_set found ty (Some runs))
found_more sought types found ty runs before here =
    record {
      each = λ t rs e.
          elim (found_in found ty t runs rs e) [
            | inl same ↦
                subst (λ n. AreRuns sought types n (leaves_of types n) rs) (sym same.0)
                (subst (λ l. AreRuns sought types ty (leaves_of types ty) l) (sym same.1) here)
            | inr old ↦ before.each t rs old
          ];
      all = length-set found ty (Some runs) ∙ before.all;
    }

pub none_found : (sought : Sought) (types : List Ty) (found : List (Option (Vec Run Global))) → NoneFound found → length found ≡ length types → AreRunsFound sought types found
none_found sought types found none all = record { each = λ ty runs e. absurd (none ty runs e); all = all }
