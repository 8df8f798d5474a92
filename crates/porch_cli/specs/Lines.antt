-- The closing line of each status.
use Rattle.std.specs.Prelude.{ℕ, ◌+◌, ◌==◌, List, [], ◌∷◌, ◌++◌, count_by, take, codes, if◌then◌else◌}
use Rattle.std.specs.Fmt.{decimal, signed_decimal}
use Rattle.porch_lex.specs.declared.refusal.Rule.{Rule}
use Rattle.porch_lex.specs.declared.refusal.Rule.TheVariants as rule
use Rattle.porch_layout.specs.Words as layouts
use Rattle.porch_values.specs.declared.acts.Act.{Act}
use Rattle.porch_values.specs.declared.acts.Act.TheVariants as act
use Rattle.porch_cli.specs.declared.status.Status.{Status}
use Rattle.porch_cli.specs.declared.status.Status.TheVariants as status

abbrev pub rule_name : Rule → List ℕ
rule_name rule.Byte = codes "Byte"
rule_name rule.Word = codes "Word"
rule_name rule.WideConstant = codes "WideConstant"
rule_name rule.Syntax = codes "Syntax"
rule_name rule.Nesting = codes "Nesting"
rule_name rule.Outside = codes "Outside"
rule_name rule.Unknown = codes "Unknown"
rule_name rule.Twice = codes "Twice"
rule_name rule.Mismatch = codes "Mismatch"
rule_name rule.NotPlace = codes "NotPlace"
rule_name rule.PointerCast = codes "PointerCast"
rule_name rule.MixedLong = codes "MixedLong"
rule_name rule.SizeofPlace = codes "SizeofPlace"
rule_name rule.StringValue = codes "StringValue"
rule_name rule.Format = codes "Format"
rule_name rule.StructValue = codes "StructValue"
rule_name rule.NoMain = codes "NoMain"
rule_name rule.TooLarge = codes "TooLarge"

abbrev pub act_name : Act → List ℕ
act_name act.Overflow = codes "Overflow"
act_name act.Narrow = codes "Narrow"
act_name act.Divide = codes "Divide"
act_name act.Shift = codes "Shift"
act_name act.Indeterminate = codes "Indeterminate"
act_name act.Access = codes "Access"
act_name act.Row = codes "Row"
act_name act.Relation = codes "Relation"
act_name act.Compare = codes "Compare"
act_name act.Free = codes "Free"
act_name act.Count = codes "Count"
act_name act.Address = codes "Address"

-- The line and the column of a byte, both from 1: a newline ends its line.
abbrev pub line_at : List ℕ → ℕ → ℕ
line_at text at' = 1 + count_by (λ c. c == 10) (take at' text)

-- the column behind some bytes of which the first stands in that column
abbrev pub column_behind : ℕ → List ℕ → ℕ
column_behind column [] = column
column_behind column (c ∷ cs) = column_behind (if c == 10 then 1 else column + 1) cs

abbrev pub column_at : List ℕ → ℕ → ℕ
column_at text at' = column_behind 1 (take at' text)

-- what the line says, for the text that was read
abbrev pub said_of : List ℕ → Status → List ℕ
said_of text (status.Done value turns) = codes "done " ++ signed_decimal value ++ codes " " ++ decimal turns
said_of text status.Usage = codes "usage: porch exec, compile, start, resume, clear, vet, show, drill"
said_of text (status.Refused r) = codes "refused " ++ rule_name r.rule ++ codes " " ++ decimal (line_at text r.at) ++ codes " " ++ decimal (column_at text r.at)
said_of text (status.BadLayout key rule) = codes "bad layout " ++ layouts.rule_name rule ++ codes " " ++ layouts.key_name key
said_of text status.Unbuilt = codes "refused Unbuilt 1 1"
said_of text (status.Trap a turns) = codes "trap " ++ act_name a ++ codes " " ++ decimal turns
said_of text (status.StackFull asked left) = codes "stack full " ++ decimal asked ++ codes " " ++ decimal left
said_of text (status.Paused turns) = codes "paused " ++ decimal turns
said_of text status.ReadFault = codes "read fault"
said_of text status.WriteFault = codes "write fault"
said_of text status.DiskFault = codes "disk fault"
said_of text status.NoMemory = codes "no memory"

abbrev pub line_of : List ℕ → Status → List ℕ
line_of text s = said_of text s ++ 10 ∷ []

-- the number that the process ends with
abbrev pub number_of : Status → ℕ
number_of (status.Done value turns) = 0
number_of status.Usage = 1
number_of (status.Refused r) = 2
number_of status.Unbuilt = 2
number_of (status.Trap a turns) = 3
number_of (status.StackFull asked left) = 4
number_of (status.Paused turns) = 5
number_of (status.BadLayout key rule) = 11
number_of status.ReadFault = 12
number_of status.WriteFault = 13
number_of status.DiskFault = 14
number_of status.NoMemory = 15
