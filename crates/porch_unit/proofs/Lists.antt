-- Lists of statements and of the entries of a switch.
use Rattle.std.proofs.Common.{◌≡◌, List, [], ◌∷◌, ◌++◌, refl, ap}
use Rattle.porch_tree.specs.Mirror.{Stmt, Stmts, no_stmts, with_stmt, SwitchEntry, SwitchEntries, no_entries, with_entry}
use Rattle.porch_tree.specs.Views.{stmts_of, entries_of}

pub append_nothing : {A : Type 0} (xs : List A) → xs ++ [] ≡ xs
append_nothing [] = refl
append_nothing (x ∷ xs) = ap (λ ys. x ∷ ys) (append_nothing xs)

pub append_one : {A : Type 0} (xs : List A) (y : A) (ys : List A) → (xs ++ y ∷ []) ++ ys ≡ xs ++ y ∷ ys
append_one [] y ys = refl
append_one (x ∷ xs) y ys = ap (λ zs. x ∷ zs) (append_one xs y ys)

abbrev pub stmt_list : Stmts → List Stmt
stmt_list no_stmts = []
stmt_list (with_stmt s ss) = s ∷ stmt_list ss

pub stmts_back : (ss : Stmts) → stmts_of (stmt_list ss) ≡ ss
stmts_back no_stmts = refl
stmts_back (with_stmt s ss) = ap (with_stmt s) (stmts_back ss)

abbrev pub entry_list : SwitchEntries → List SwitchEntry
entry_list no_entries = []
entry_list (with_entry x xs) = x ∷ entry_list xs

pub entries_back : (xs : SwitchEntries) → entries_of (entry_list xs) ≡ xs
entries_back no_entries = refl
entries_back (with_entry x xs) = ap (with_entry x) (entries_back xs)
