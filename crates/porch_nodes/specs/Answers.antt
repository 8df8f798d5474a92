-- What an answer that gives no node says.
use Rattle.std.specs.Prelude.{◌≡◌, Result, Err, ⊤}
use Rattle.porch_lex.specs.declared.refusal.Refusal.{Refusal}
use Rattle.porch_lex.specs.declared.refusal.SourceFault.{SourceFault}
use Rattle.porch_lex.specs.declared.refusal.SourceFault.TheVariants.{Refused, NoMemory}

-- a rule is broken where the definition has it broken; want of memory says nothing
abbrev pub Refuses : {A : Type 0} → SourceFault → Result A Refusal → Type 0
Refuses NoMemory r = ⊤
Refuses (Refused x) r = r ≡ Err x
