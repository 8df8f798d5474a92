use Rattle.std.proofs.Common.{◌≡◌, Option, None, Some, refl, inr, ap, ◌∙◌, sym}
use Rattle.std.specs.Option.{option_map}
use Rattle.porch_syntax.specs.declared.tree.Tree.{Tree}
use Rattle.porch_syntax.specs.Tree.{Program, program_of}
use Rattle.porch_source.proofs.source.read_clean.Goals as goal

none : (found : Option Tree) (p : Program) → found ≡ None → option_map program_of found ≡ Some p → ⊥
none found p e f =
    let k : None ≡ Some p = sym (ap (option_map program_of) e) ∙ f in
    cc

pub returns-in-Ok-None-clause-unbuilt : goal.returns-in-Ok-None-clause-unbuilt
returns-in-Ok-None-clause-unbuilt c = inr (refl, λ p s. none c.in-Ok-None.field-0 p c.in-Ok-None.field-0-is (c.in-Ok-None.ensures.only p s))
