-- What the code's parts of objects are in the definitions.
use Rattle.std.specs.Prelude.{ℕ, List, map, reverse, Option, Some, None}
use Rattle.porch_check.specs.Initialisers.{Opened, Next}
use Rattle.porch_initials.specs.declared.opened.Opened as code_opened
use Rattle.porch_initials.specs.declared.opened.Element as code_element

abbrev pub as_opened : code_opened.Opened → Opened
as_opened o = record { shape = o.shape; next = o.next; leaf = o.leaf }

-- what is open, the innermost first
abbrev pub opens_of : List code_opened.Opened → List Opened
opens_of os = map as_opened (reverse os)

-- an element's type and its first leaf
abbrev pub as_pair : code_element.Element → ℕ × ℕ
as_pair e = (e.shape, e.leaf)

-- where the next item goes, with what is open behind it
abbrev pub next_at : code_element.Element → List Opened → Next
next_at e os = record { shape = e.shape; leaf = e.leaf; opens = os }

abbrev pub next_with : Option code_element.Element → List Opened → Option Next
next_with None os = None
next_with (Some e) os = Some (next_at e os)
