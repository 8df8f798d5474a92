use Rattle.porch_types.specs.declared.shapes.Ty.TheVariants.{Pointer, Array}
use Rattle.porch_metrics.proofs.Extended.{extent_is}
use Rattle.porch_metrics.proofs.laws.extents_add_up.Goals as goal

pub returns-clause-parts : goal.returns-clause-parts
returns-clause-parts c = λ l types n ty are at. extent_is l types n ty (are.formed.each n ty at).earlier at

pub returns-clause-arrays : goal.returns-clause-arrays
returns-clause-arrays c = λ l types n of count are at. extent_is l types n (Array of count) (are.formed.each n (Array of count) at).earlier at

pub returns-clause-pointers : goal.returns-clause-pointers
returns-clause-pointers c = λ l types n to are at. extent_is l types n (Pointer to) (are.formed.each n (Pointer to) at).earlier at
