-- Room for the labels that are added, as it is looked for.
use Rattle.std.specs.Prelude.{ℕ, nat_lt, Bool, true, ◌&&◌, List, count_by, Option, Some, None}
use Rattle.std.specs.List.{list_all}
use Rattle.porch_flat.specs.declared.whole.Command.{Command}
use Rattle.porch_flat.specs.whole.Form.{Form, form_of}
use Rattle.porch_rewrite.specs.Laws.{label_named, takes_label}
use Rattle.porch_rewrite.specs.Rewriting.{FIRST_LABEL}

abbrev pub is_below_first : Option ℕ → Bool
is_below_first None = true
is_below_first (Some n) = nat_lt n FIRST_LABEL

-- the label that a command names lies below those that are added
abbrev pub is_below : Form → Bool
is_below form = is_below_first (label_named form)

-- so does each, and there are few commands that take one
abbrev pub leaves_room : List Command → Bool
leaves_room commands = list_all (λ c. is_below (form_of c)) commands && nat_lt (count_by (λ c. takes_label (form_of c)) commands) FIRST_LABEL
