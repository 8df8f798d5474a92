-- Code in the making that has the same parts.
use Rattle.std.proofs.Common.{◌≡◌, ℕ, List, ap, ◌∙◌}
use Rattle.porch_flat.specs.declared.whole.Command.{Command}
use Rattle.porch_lowering.specs.Code.{InUse}
use Rattle.porch_emitter.specs.Made.{Made}

abbrev pub made : List Command → (ℕ → ℕ) → InUse → InUse → ℕ → Made
made commands start used most label = record { commands = commands; start = start; used = used; most = most; label = label }

pub same_made : (commands : List Command) (start : ℕ → ℕ) (label : ℕ) (used more : InUse) (most greater : InUse) → used ≡ more → most ≡ greater → made commands start used most label ≡ made commands start more greater label
same_made commands start label used more most greater a b =
    ap (λ (u : InUse). made commands start u most label) a ∙ ap (λ (m : InUse). made commands start more m label) b
