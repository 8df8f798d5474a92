use Rattle.std.proofs.Common.{◌≡◌, ◌+◌, ◌-◌, ℕ, List}
use Rattle.porch_types.specs.declared.shapes.Ty.{Ty}
use Rattle.porch_objects.specs.Pointers.{text_from}
use Rattle.porch_live.specs.Views.{home_of}
use Rattle.porch_live.specs.inside.Texts.{with_bytes}
use Rattle.porch_live.proofs.store.Store.text_in.Given as goal

abbrev pub invariant-loop-ahead : goal.invariant-loop-ahead
invariant-loop-ahead l =
    (types : List Ty) (pointee : ℕ) → text_from types pointee l.self (home_of l.p.home) l.start l.count
    ≡ with_bytes l.bytes.items (text_from types pointee l.self (home_of l.p.home) (l.start + l.ahead) (l.count - l.ahead))
