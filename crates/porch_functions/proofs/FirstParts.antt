-- The first of parts.
use Rattle.std.proofs.Common.{◌≡◌, ℕ, List, [], ◌∷◌, map, length, get_or, ◌<◌, ap, sym, arith}
use Rattle.porch_check.specs.Declarations.{Part}
use Rattle.porch_declarators.specs.declared.part.Part as code_part
use Rattle.porch_declarators.specs.Views.{as_part}

pub first_part : (ps : List code_part.Part) (p : code_part.Part) → 0 < length ps → p ≡ get_or ps 0 p
    → (rest : List Part) × (map as_part ps ≡ as_part p ∷ rest)
first_part [] p h e = absurd (omega arith)
first_part (q ∷ ps) p h e = (map as_part ps, ap (λ x. as_part x ∷ map as_part ps) (sym e))
