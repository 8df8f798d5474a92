-- What functions and labels are made of.
use Rattle.std.specs.Prelude.{ℕ, List}
use Rattle.porch_tree.specs.Mirror.{Perhaps, absent, present, Declarator, Declaration, Stmt, Definition, SwitchEntry, case, default}
use Rattle.porch_tree.specs.Views.{stmts_of}

-- a base with `static` before it or not, a declarator, and the declarations and statements of the block
abbrev pub defined : Declaration → Declarator → List Declaration → List Stmt → Definition
defined h d ds ss =
    record { fixed = h.fixed; base = h.base; declarator = d; declarations = ds; body = stmts_of ss }

-- the label of a case with its value, or `default`
abbrev pub label : (at : ℕ) → Perhaps → SwitchEntry
label at absent = default at
label at (present e) = case at e
