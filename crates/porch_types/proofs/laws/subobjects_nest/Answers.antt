use Rattle.porch_types.proofs.Nested.{row_in_row, subobject_nested}
use Rattle.porch_types.proofs.laws.subobjects_nest.Goals as goal

pub returns-clause-subobjects : goal.returns-clause-subobjects
returns-clause-subobjects c = λ types root count place ty inner pointee are s t. subobject_nested types root count place ty inner pointee s t

pub returns-clause-rows : goal.returns-clause-rows
returns-clause-rows c = λ types root count ty first len k elements inner pointee row are outer fits at other.
    row_in_row types root count ty first len k elements inner pointee row outer fits at other
