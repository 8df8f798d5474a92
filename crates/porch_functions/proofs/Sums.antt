-- The sum over globals, by those from some place on.
use Rattle.std.proofs.Common.{◌≡◌, ℕ, zero, suc, ◌+◌, ◌<◌, ◌≤◌, nat_le, true, if◌then◌else◌, List, [], ◌∷◌, drop, length, get_or, Result, Ok, refl, ap, sym, ◌∙◌, arith, add-one}
use Rattle.porch_lex.specs.declared.refusal.Refusal.{Refusal}
use Rattle.porch_lex.specs.declared.refusal.Rule.TheVariants.{TooLarge}
use Rattle.porch_typed.specs.declared.typed.GlobalVariable.{GlobalVariable}
use Rattle.porch_typed.specs.Typed.{MOST_GLOBAL_LEAVES}
use Rattle.porch_check.specs.Refusals.{refuse}
use Rattle.porch_check.specs.Shapes.{Shapes, size_of}
use Rattle.porch_check.specs.Units.{if_few_leaves}

-- one global more
abbrev pub summed : {A : Type 0} → Shapes → List GlobalVariable → List ℕ → (shape at before : ℕ) → Result A Refusal → Result A Refusal
summed s gs ats shape at before go =
    if nat_le (before + size_of s shape) MOST_GLOBAL_LEAVES
    then if_few_leaves s gs ats (before + size_of s shape) go
    else refuse TooLarge at

few_step : {A : Type 0} (s : Shapes) (gs : List GlobalVariable) (ats : List ℕ) (i : ℕ) (g : GlobalVariable) (at before : ℕ) (go : Result A Refusal)
    → i < length gs → i < length ats → g ≡ get_or gs i g → at ≡ get_or ats i 0
    → if_few_leaves s (drop i gs) (drop i ats) before go ≡ summed s (drop (suc i) gs) (drop (suc i) ats) g.ty at before go
few_step s [] ats i g at before go h k e f = absurd (omega arith)
few_step s (x ∷ gs) [] i g at before go h k e f = absurd (omega arith)
few_step s (x ∷ gs) (y ∷ ats) zero g at before go h k e f =
    ap (λ (z : GlobalVariable). summed s gs ats z.ty y before go) (sym e) ∙ ap (λ z. summed s gs ats g.ty z before go) (sym f)
few_step s (x ∷ gs) (y ∷ ats) (suc i) g at before go h k e f =
    few_step s gs ats i g at before go (omega arith) (omega arith) e f

-- they are few so far
pub few_more : {A : Type 0} (s : Shapes) (gs : List GlobalVariable) (ats : List ℕ) (i : ℕ) (g : GlobalVariable) (at before : ℕ) (go : Result A Refusal)
    → i < length gs → i < length ats → g ≡ get_or gs i g → at ≡ get_or ats i 0
    → before + size_of s g.ty ≤ MOST_GLOBAL_LEAVES
    → if_few_leaves s (drop (i + 1) gs) (drop (i + 1) ats) (before + size_of s g.ty) go ≡ if_few_leaves s (drop i gs) (drop i ats) before go
few_more s gs ats i g at before go h k e f few =
    let within : nat_le (before + size_of s g.ty) MOST_GLOBAL_LEAVES ≡ true = search arith in
    sym (few_step s gs ats i g at before go h k e f
    ∙ ap (λ b. if b then if_few_leaves s (drop (suc i) gs) (drop (suc i) ats) (before + size_of s g.ty) go else refuse TooLarge at) within
    ∙ ap (λ n. if_few_leaves s (drop n gs) (drop n ats) (before + size_of s g.ty) go) (sym (add-one i)))

-- none are left
no_places : {A : Type 0} (s : Shapes) (gs : List GlobalVariable) (before : ℕ) (go : Result A Refusal) → if_few_leaves s gs [] before go ≡ go
no_places s [] before go = refl
no_places s (x ∷ gs) before go = refl

pub no_entries : {A : Type 0} (s : Shapes) (gs : List GlobalVariable) (ats : List ℕ) (i before : ℕ) (go : Result A Refusal)
    → length ats ≤ i → if_few_leaves s (drop i gs) (drop i ats) before go ≡ go
no_entries s gs [] zero before go h = no_places s gs before go
no_entries s gs [] (suc i) before go h = no_places s (drop (suc i) gs) before go
no_entries s gs (y ∷ ats) zero before go h = absurd (omega arith)
no_entries s [] (y ∷ ats) (suc i) before go h = refl
no_entries s (x ∷ gs) (y ∷ ats) (suc i) before go h = no_entries s gs ats i before go (omega arith)
