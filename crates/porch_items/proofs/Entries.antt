-- The typedef that a declaration's last entry is.
use Rattle.std.proofs.Common.{◌≡◌, ℕ, List, [], ◌∷◌, ◌++◌, map, refl}
use Rattle.porch_tree.specs.declared.tree.Entry.{Entry}
use Rattle.porch_tree.specs.Mirror.{Base, typedef}
use Rattle.porch_tree.specs.Views.{declarator_of, entry_of}
use Rattle.porch_unit.specs.Units.{typedef_from}

pub last_entry : (text : List ℕ) (b : Base) (es : List Entry) (e : Entry)
    → typedef_from b (map (entry_of text) (es ++ e ∷ [])) ≡ typedef b (declarator_of text e.declarator) ∷ []
last_entry text b [] e = refl
last_entry text b (x ∷ []) e = refl
last_entry text b (x ∷ y ∷ es) e = last_entry text b (y ∷ es) e
