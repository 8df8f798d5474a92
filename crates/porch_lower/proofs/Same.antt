-- The flat program of a tree means what the tree means.
use Rattle.porch_syntax.specs.Tree.{Program}
use Rattle.porch_abstract.specs.Run.{TellsNothing}
use Rattle.porch_lower.specs.inside.Programs.{flat_of}
use Rattle.porch_lower.specs.Lowered.{IsLowerable, MeansTheSame}
use Rattle.porch_lower.proofs.Fine.{labels_stand}
use Rattle.porch_lower.proofs.SameRun.{same}

pub means_the_same : TellsNothing → (p : Program) → IsLowerable p → MeansTheSame p (flat_of p)
means_the_same silent p lowerable = same silent p lowerable (labels_stand p lowerable)
