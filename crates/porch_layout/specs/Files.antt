-- What a layouts file says: the layout of a name, or the first rule that is broken on the way to it.
use Rattle.std.specs.Prelude.{◌≡◌, ℕ, ℤ, pos, nat_lt, nat_le, Bool, true, false, ◌&&◌, if◌then◌else◌, List, [], ◌∷◌, codes, length, find, Option, Some, None, Result, Ok, Err}
use Rattle.std.specs.List.{list_any}
use Rattle.std.specs.Ordering.{int_eq}
use Rattle.std.specs.Option.{option_and_then}
use Rattle.std.specs.Str.{bytes_eq, is_utf8}
use Rattle.toml.specs.Parse.{parse_document}
use Rattle.toml.specs.Data.{Data, as_integer, as_str, as_table, Members, no_members, member, get_member}
use Rattle.porch_layout.specs.declared.layout.Layout.{Layout}
use Rattle.porch_layout.specs.declared.fault.LayoutKey.{LayoutKey}
use Rattle.porch_layout.specs.declared.fault.LayoutKey.TheVariants.{File, Name, Other, Order, Long, Pointer, AlignShort, AlignInt, AlignLong, AlignPointer, LeastStruct}
use Rattle.porch_layout.specs.declared.fault.LayoutRule.TheVariants.{TooLong, NotToml, NoName, NotTable, UnknownKey, MissingKey, BadValue}
use Rattle.porch_layout.specs.declared.fault.LayoutFault.{LayoutFault}
use Rattle.porch_layout.specs.declared.fault.LayoutFault.TheVariants.{BadLayout, NoMemory}
use Rattle.porch_layout.specs.Words.{key_name}
use Rattle.porch_layout.specs.Layouts.{layout}

-- the keys of a layout, in the order in which they are looked at
abbrev pub layout_keys : List LayoutKey
layout_keys = Order ∷ Long ∷ Pointer ∷ AlignShort ∷ AlignInt ∷ AlignLong ∷ AlignPointer ∷ LeastStruct ∷ []

-- what a size, and what an alignment, may be
abbrev pub sizes : List ℕ
sizes = 4 ∷ 8 ∷ []

abbrev pub alignments : List ℕ
alignments = 1 ∷ 2 ∷ 4 ∷ 8 ∷ []

-- the word is a key of a layout
abbrev pub is_layout_key : List ℕ → Bool
is_layout_key word = list_any (λ key. bytes_eq word (key_name key)) layout_keys

-- each key of the table is one of a layout
abbrev pub are_layout_keys : Members → Bool
are_layout_keys no_members = true
are_layout_keys (member word value rest) = is_layout_key word && are_layout_keys rest

-- the choice that the number is, where it isn't above the most
abbrev pub choice_of : List ℕ → ℕ → ℤ → Option ℕ
choice_of choices most z = find (λ n. int_eq (pos n) z && nat_le n most) choices

-- the value of a key, else that it may not have this value
abbrev pub valued : {A : Type 0} → LayoutKey → Option A → Result A LayoutFault
valued key None = Err (BadLayout key BadValue)
valued key (Some x) = Ok x

-- the number at a key
abbrev pub number_at : LayoutKey → List ℕ → ℕ → Option Data → Result ℕ LayoutFault
number_at key choices most None = Err (BadLayout key MissingKey)
number_at key choices most (Some value) = valued key (option_and_then (choice_of choices most) (as_integer value))

abbrev pub number_in : LayoutKey → List ℕ → ℕ → Members → Result ℕ LayoutFault
number_in key choices most table = number_at key choices most (get_member (key_name key) table)

-- whether a byte order is `big`, where it is that or `little`
abbrev pub order_of : List ℕ → Option Bool
order_of word = if bytes_eq word (codes "big") then Some true else (if bytes_eq word (codes "little") then Some false else None)

abbrev pub order_at : Option Data → Result Bool LayoutFault
order_at None = Err (BadLayout Order MissingKey)
order_at (Some value) = valued Order (option_and_then order_of (as_str value))

-- the first fault, or what follows from the value
abbrev pub and_then : {A B : Type 0} → Result A LayoutFault → (A → Result B LayoutFault) → Result B LayoutFault
and_then (Err fault) next = Err fault
and_then (Ok x) next = next x

-- the layout that the values of a table describe, key by key
abbrev pub layout_by_keys : Members → Result Layout LayoutFault
layout_by_keys table =
    and_then (order_at (get_member (key_name Order) table)) (λ big.
    and_then (number_in Long sizes 8 table) (λ long.
    and_then (number_in Pointer sizes 8 table) (λ pointer.
    and_then (number_in AlignShort alignments 2 table) (λ short.
    and_then (number_in AlignInt alignments 4 table) (λ int.
    and_then (number_in AlignLong alignments long table) (λ at_long.
    and_then (number_in AlignPointer alignments pointer table) (λ at_pointer.
    and_then (number_in LeastStruct alignments 8 table) (λ least.
    Ok (layout big long pointer short int at_long at_pointer least)))))))))

-- the layout that a table describes: it has no other key
abbrev pub layout_in : Members → Result Layout LayoutFault
layout_in table = if are_layout_keys table then layout_by_keys table else Err (BadLayout Other UnknownKey)

-- the layout of what has the name
abbrev pub layout_of_data : Option Members → Result Layout LayoutFault
layout_of_data None = Err (BadLayout Name NotTable)
layout_of_data (Some table) = layout_in table

abbrev pub layout_at : Option Data → Result Layout LayoutFault
layout_at None = Err (BadLayout Name NoName)
layout_at (Some value) = layout_of_data (as_table value)

-- the tables of a text: an empty one has none, another is TOML in UTF-8
abbrev pub tables_of : List ℕ → Option Members
tables_of [] = Some no_members
tables_of (byte ∷ bytes) = if is_utf8 (byte ∷ bytes) then parse_document (byte ∷ bytes) else None

abbrev pub layout_of_tables : Option Members → List ℕ → Result Layout LayoutFault
layout_of_tables None name = Err (BadLayout File NotToml)
layout_of_tables (Some tables) name = layout_at (get_member name tables)

-- the layout of this name in a layouts file
abbrev pub layout_of : List ℕ → List ℕ → Result Layout LayoutFault
layout_of text name = if nat_lt 65536 (length text) then Err (BadLayout File TooLong) else layout_of_tables (tables_of text) name

-- the answer wanted, unless memory ran out
abbrev pub UnlessMemory : Result Layout LayoutFault → Result Layout LayoutFault → Type 0
UnlessMemory (Err NoMemory) want = Unit {0}
UnlessMemory (Err (BadLayout key rule)) want = want ≡ Err (BadLayout key rule)
UnlessMemory (Ok layout) want = want ≡ Ok layout
