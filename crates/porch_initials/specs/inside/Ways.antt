-- The way from one part to the next, one step of it at a time.
use Rattle.std.specs.Prelude.{ℕ, suc, ◌+◌, ◌<◌, Bool, List, [], ◌∷◌, take, length, Option, Some, None}
use Rattle.porch_check.specs.Shapes.{Shapes}
use Rattle.porch_check.specs.Initialisers.{Opened, Next, down_to}
use Rattle.porch_initials.specs.declared.opened.Opened as code_opened
use Rattle.porch_initials.specs.declared.opened.Element as code_element
use Rattle.porch_initials.specs.Views.{next_at, opens_of}

-- one element of the innermost is given
abbrev pub gone_on : List Opened → List Opened
gone_on [] = []
gone_on (o ∷ os) = record o { next = suc o.next } ∷ os

-- the same, where the innermost that isn't full was found by its place
abbrev pub next_from : Option (ℕ × code_element.Element) → List code_opened.Opened → Option Next
next_from None os = None
next_from (Some r) os = Some (next_at r.1 (gone_on (opens_of (take (r.0 + 1) os))))

abbrev pub IsPlaceIn : Option (ℕ × code_element.Element) → List code_opened.Opened → Type 0
IsPlaceIn None os = Unit {0}
IsPlaceIn (Some r) os = r.0 < length os

-- one that is full is passed by
abbrev pub or_further : Option code_element.Element → (place : ℕ) → List code_opened.Opened → Option Next → Option Next
or_further None i os outer = outer
or_further (Some e) i os outer = next_from (Some (i, e)) os

-- the way down goes on from the first element of a part, or ends at it
abbrev pub down_further : Option code_element.Element → (depth : ℕ) → (is_text : Bool) → Shapes → code_element.Element → List Opened → Next
down_further None depth is_text s part os = next_at part os
down_further (Some e) depth is_text s part os = down_to depth is_text s (next_at e os)
