-- How the functions that reach a checkpoint are found: backward from those that hold one, each once.
use Rattle.std.specs.Prelude.{ℕ, zero, suc, ◌+◌, nat_lt, Bool, true, false, if◌then◌else◌, List, [], ◌∷◌, ◌++◌, length, replicate, get_or, set, slice_get, slice_index_or, Option, Some, None}
use Rattle.std.specs.List.{list_any}
use Rattle.porch_flat.specs.declared.whole.Command.{Command}
use Rattle.porch_flat.specs.declared.whole.Function.{Function}
use Rattle.porch_flat.specs.whole.Form.{form_of}
use Rattle.porch_flat.specs.whole.Calls.{callee_of, is_checkpoint}

-- for each function the functions that call it
abbrev pub Callers : Type 0
Callers = List (List ℕ)

-- a caller is put to a function, where there is such a function
abbrev pub with_caller : ℕ → ℕ → Callers → Callers
with_caller f g callers = if nat_lt g (length callers) then set callers g (get_or callers g [] ++ f ∷ []) else callers

abbrev pub noted_callee : ℕ → Option ℕ → Callers → Callers
noted_callee f (Some g) callers = with_caller f g callers
noted_callee f None callers = callers

abbrev pub noted : ℕ → List Command → Callers → Callers
noted f [] callers = callers
noted f (c ∷ cs) callers = noted f cs (noted_callee f (callee_of (form_of c)) callers)

abbrev pub all_noted : ℕ → List Function → Callers → Callers
all_noted f [] callers = callers
all_noted f (function ∷ functions) callers = all_noted (f + 1) functions (noted f function.commands callers)

abbrev pub callers_in : List Function → Callers
callers_in functions = all_noted 0 functions (replicate (length functions) [])

-- what was reached: whether each function was, and those that were, in the order in which they were
pub record Reached : Type 0 where
  pub marks : List Bool
  pub order : List ℕ

abbrev pub marked : ℕ → Reached → Reached
marked f r = if slice_index_or r.marks f true then r else record { marks = set r.marks f true; order = r.order ++ f ∷ [] }

abbrev pub all_marked : List ℕ → Reached → Reached
all_marked [] r = r
all_marked (f ∷ fs) r = all_marked fs (marked f r)

abbrev pub holds : Function → Bool
holds function = list_any (λ c. is_checkpoint (form_of c)) function.commands

-- those that hold a CHECKPOINT
abbrev pub begun : ℕ → List Function → Reached → Reached
begun f [] r = r
begun f (function ∷ functions) r = begun (f + 1) functions (if holds function then marked f r else r)

abbrev pub started : List Function → Reached
started functions = begun 0 functions (record { marks = replicate (length functions) false; order = [] })

-- the callers of the one that was reached so many steps ago
abbrev pub gone_on : Callers → Option ℕ → Reached → Reached
gone_on callers None r = r
gone_on callers (Some g) r = all_marked (get_or callers g []) r

-- so many of them in turn, from one on
abbrev pub gone_through : Callers → ℕ → ℕ → Reached → Reached
gone_through callers zero i r = r
gone_through callers (suc k) i r = gone_through callers k (i + 1) (gone_on callers (slice_get r.order i) r)

abbrev pub reached : List Function → Reached
reached functions = gone_through (callers_in functions) (length functions) 0 (started functions)
