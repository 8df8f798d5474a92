-- How typing goes on from part to part until the first broken rule.
use Rattle.std.specs.Prelude.{ℕ, Bool, true, false, Option, Some, None, Result, Ok, Err}
use Rattle.porch_lex.specs.declared.refusal.Refusal.{Refusal}
use Rattle.porch_lex.specs.declared.refusal.Rule.{Rule}

-- a rule is broken at a place
abbrev pub refuse : {A : Type 0} → Rule → (at : ℕ) → Result A Refusal
refuse rule at = Err (record { at = at; rule = rule })

-- what follows where no rule is broken
abbrev pub and_then : {A B : Type 0} → Result A Refusal → (A → Result B Refusal) → Result B Refusal
and_then (Ok x) go = go x
and_then (Err r) go = Err r

-- what follows where this holds; where it doesn't, the rule is broken at the place
abbrev pub unless_broken : {A : Type 0} → Bool → Rule → (at : ℕ) → Result A Refusal → Result A Refusal
unless_broken true rule at go = go
unless_broken false rule at go = refuse rule at

-- what was looked for; where there is none, the rule is broken at the place
abbrev pub found_or : {A B : Type 0} → Option A → Rule → (at : ℕ) → (A → Result B Refusal) → Result B Refusal
found_or None rule at go = refuse rule at
found_or (Some x) rule at go = go x
