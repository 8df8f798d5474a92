use Rattle.porch_types.proofs.Subobjects.{row_found, row_exact, none_sound, none_complete}
use Rattle.porch_types.proofs.laws.rows_are_found.Goals as goal

pub returns-clause-some : goal.returns-clause-some
returns-clause-some c = λ types root count place pointee row are known.
    (row_found types root count place pointee row, row_exact types root count place pointee row are.formed known)

pub returns-clause-none : goal.returns-clause-none
returns-clause-none c = λ types root count place pointee are known.
    (none_sound types root count place pointee are.formed known, none_complete types root count place pointee)
