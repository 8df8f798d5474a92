-- The words for keys and rules, in files and messages.
use Rattle.std.specs.Prelude.{ℕ, List, codes}
use Rattle.porch_layout.specs.declared.fault.LayoutKey.{LayoutKey}
use Rattle.porch_layout.specs.declared.fault.LayoutKey.TheVariants.{File, Name, Other, Order, Long, Pointer, AlignShort, AlignInt, AlignLong, AlignPointer, LeastStruct}
use Rattle.porch_layout.specs.declared.fault.LayoutRule.{LayoutRule}
use Rattle.porch_layout.specs.declared.fault.LayoutRule.TheVariants.{TooLong, NotToml, NoName, NotTable, UnknownKey, MissingKey, BadValue}

-- the word for a key
abbrev pub key_name : LayoutKey → List ℕ
key_name File = codes "file"
key_name Name = codes "name"
key_name Other = codes "other"
key_name Order = codes "order"
key_name Long = codes "long"
key_name Pointer = codes "pointer"
key_name AlignShort = codes "align_short"
key_name AlignInt = codes "align_int"
key_name AlignLong = codes "align_long"
key_name AlignPointer = codes "align_pointer"
key_name LeastStruct = codes "least_struct"

-- the word for a rule
abbrev pub rule_name : LayoutRule → List ℕ
rule_name TooLong = codes "TooLong"
rule_name NotToml = codes "NotToml"
rule_name NoName = codes "NoName"
rule_name NotTable = codes "NotTable"
rule_name UnknownKey = codes "UnknownKey"
rule_name MissingKey = codes "MissingKey"
rule_name BadValue = codes "BadValue"
