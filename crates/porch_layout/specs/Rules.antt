-- When each rule of layouts files is broken.
use Rattle.std.specs.Prelude.{◌≡◌, ℕ, ◌≤◌, ◌⊎◌, true, false, if◌then◌else◌, List, [], ◌∷◌, length, Option, Some, None, is_some, Result, Err}
use Rattle.std.specs.Option.{option_and_then, option_map_or}
use Rattle.toml.specs.Data.{Data, as_integer, as_str, as_table, Members, get_member}
use Rattle.porch_layout.specs.declared.layout.Layout.{Layout}
use Rattle.porch_layout.specs.declared.fault.LayoutKey.{LayoutKey}
use Rattle.porch_layout.specs.declared.fault.LayoutKey.TheVariants.{File, Name, Other, Order, Long, Pointer, AlignShort, AlignInt, AlignLong, AlignPointer, LeastStruct}
use Rattle.porch_layout.specs.declared.fault.LayoutRule.{LayoutRule}
use Rattle.porch_layout.specs.declared.fault.LayoutRule.TheVariants.{MissingKey, BadValue}
use Rattle.porch_layout.specs.declared.fault.LayoutFault.{LayoutFault}
use Rattle.porch_layout.specs.declared.fault.LayoutFault.TheVariants.{BadLayout, NoMemory}
use Rattle.porch_layout.specs.Words.{key_name}
use Rattle.porch_layout.specs.Files.{tables_of, are_layout_keys, layout_keys, choice_of, sizes, alignments, order_of}

-- the call answers this fault exactly where this holds, unless memory ran out
pub record RefusesWhere (result : Result Layout LayoutFault) (key : LayoutKey) (rule : LayoutRule) (P : Type 0) : Type 0 where
  pub only : result ≡ Err (BadLayout key rule) → P
  pub each : P → (result ≡ Err (BadLayout key rule)) ⊎ (result ≡ Err NoMemory)

-- a text that isn't too long says this, or nothing, of a name
pub record Says (text name : List ℕ) (found : Option Data) : Type 0 where
  pub short : length text ≤ 65536
  pub tables : Members
  pub read : tables_of text ≡ Some tables
  pub said : get_member name tables ≡ found

-- a text that isn't too long has this table for a name
pub record Describes (text name : List ℕ) (table : Members) : Type 0 where
  pub value : Data
  pub says : Says text name (Some value)
  pub is_table : as_table value ≡ Some table

-- the size that an alignment may not pass: of a long or a pointer the number that the table has for it
abbrev pub number_of : LayoutKey → Members → ℕ
number_of key table = option_map_or (λ n. n) (option_and_then (λ value. option_and_then (choice_of sizes 8) (as_integer value)) (get_member (key_name key) table)) 0

-- the rule that a key breaks that may be one of these numbers, none above the most
abbrev pub number_breaks : List ℕ → ℕ → Option Data → Option LayoutRule
number_breaks choices most None = Some MissingKey
number_breaks choices most (Some value) = if is_some (option_and_then (choice_of choices most) (as_integer value)) then None else Some BadValue

abbrev pub order_breaks : Option Data → Option LayoutRule
order_breaks None = Some MissingKey
order_breaks (Some value) = if is_some (option_and_then order_of (as_str value)) then None else Some BadValue

-- the rule that a key of a layout breaks in a table
abbrev pub breaks : Members → LayoutKey → Option LayoutRule
breaks table Order = order_breaks (get_member (key_name Order) table)
breaks table Long = number_breaks sizes 8 (get_member (key_name Long) table)
breaks table Pointer = number_breaks sizes 8 (get_member (key_name Pointer) table)
breaks table AlignShort = number_breaks alignments 2 (get_member (key_name AlignShort) table)
breaks table AlignInt = number_breaks alignments 4 (get_member (key_name AlignInt) table)
breaks table AlignLong = number_breaks alignments (number_of Long table) (get_member (key_name AlignLong) table)
breaks table AlignPointer = number_breaks alignments (number_of Pointer table) (get_member (key_name AlignPointer) table)
breaks table LeastStruct = number_breaks alignments 8 (get_member (key_name LeastStruct) table)
breaks table File = None
breaks table Name = None
breaks table Other = None

-- this rule at this key, or else what comes next
abbrev pub or_next : LayoutKey → Option LayoutRule → Option (LayoutKey × LayoutRule) → Option (LayoutKey × LayoutRule)
or_next key None next = next
or_next key (Some rule) next = Some (key, rule)

-- the first of these keys that breaks a rule, and the rule
abbrev pub first_broken : Members → List LayoutKey → Option (LayoutKey × LayoutRule)
first_broken table [] = None
first_broken table (key ∷ keys) = or_next key (breaks table key) (first_broken table keys)

-- the text has a table for the name, without a key that no layout has, and of the eight keys in their
-- order this is the first that breaks a rule
pub record BreaksAt (text name : List ℕ) (key : LayoutKey) (rule : LayoutRule) : Type 0 where
  pub table : Members
  pub describes : Describes text name table
  pub known : are_layout_keys table ≡ true
  pub first : first_broken table layout_keys ≡ Some (key, rule)

-- the call answers this rule at a key exactly where that key is the first that breaks one
abbrev pub RefusesAtKeys : Result Layout LayoutFault → LayoutRule → List ℕ → List ℕ → Type 0
RefusesAtKeys result rule text name =
    (key : LayoutKey) → RefusesWhere result key rule (BreaksAt text name key rule)

-- the text has a table for the name, with a key that no layout has
pub record HasUnknownKey (text name : List ℕ) : Type 0 where
  pub table : Members
  pub describes : Describes text name table
  pub unknown : are_layout_keys table ≡ false

-- the text has something else than a table for the name
pub record HasNoTable (text name : List ℕ) : Type 0 where
  pub value : Data
  pub says : Says text name (Some value)
  pub no_table : as_table value ≡ None

-- the text isn't too long, and neither empty nor TOML in UTF-8
pub record IsNotToml (text : List ℕ) : Type 0 where
  pub short : length text ≤ 65536
  pub none : tables_of text ≡ None
