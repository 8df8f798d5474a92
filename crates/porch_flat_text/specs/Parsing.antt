-- What reading a text answers.
use Rattle.std.specs.Prelude.{◌≡◌, ℕ, List, Result, Ok, Err, ⊤}
use Rattle.porch_flat.specs.declared.whole.Flat.{Flat}
use Rattle.porch_flat_text.specs.declared.parse.FlatFault.{FlatFault}
use Rattle.porch_flat_text.specs.declared.parse.FlatFault.TheVariants.{FlatSyntax, NoMemory}
use Rattle.porch_flat_text.specs.FirstWrong.{IsFirstWrongLine}

-- the answer is this program, or there was no memory for it
abbrev pub Gives : Flat → Result Flat FlatFault → Type 0
Gives flat (Ok found) = found ≡ flat
Gives flat (Err (FlatSyntax line)) = ⊥
Gives flat (Err NoMemory) = ⊤

-- the fault names the first wrong line, or tells that there was no memory
abbrev pub IsRefused : List ℕ → FlatFault → Type 0
IsRefused text (FlatSyntax line) = IsFirstWrongLine text line
IsRefused text NoMemory = ⊤
