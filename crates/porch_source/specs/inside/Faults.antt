-- What a fault of the tokens of a text is answered with.
use Rattle.porch_lex.specs.declared.refusal.SourceFault as tokens
use Rattle.porch_lex.specs.declared.refusal.SourceFault.TheVariants as tokens_fault
use Rattle.porch_source.specs.declared.fault.SourceFault.{SourceFault}
use Rattle.porch_source.specs.declared.fault.SourceFault.TheVariants.{Refused, NoMemory}

abbrev pub lex_fault : tokens.SourceFault → SourceFault
lex_fault (tokens_fault.Refused r) = Refused r
lex_fault tokens_fault.NoMemory = NoMemory
