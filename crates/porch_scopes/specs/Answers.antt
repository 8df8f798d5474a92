-- What an answer says of the result that it should be.
use Rattle.std.specs.Prelude.{◌≡◌, ⊤, Result, Err}
use Rattle.porch_lex.specs.declared.refusal.Refusal.{Refusal}
use Rattle.porch_lex.specs.declared.refusal.SourceFault.{SourceFault}
use Rattle.porch_lex.specs.declared.refusal.SourceFault.TheVariants as fault

-- the rule is broken as the result says; of want of memory nothing is said
abbrev pub IsRefusalOf : {A : Type 0} → SourceFault → Result A Refusal → Type 0
IsRefusalOf (fault.Refused r) wanted = wanted ≡ Err r
IsRefusalOf fault.NoMemory wanted = ⊤
