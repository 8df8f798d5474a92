-- What is found by typing is typed.
use Rattle.std.specs.Prelude.{ℕ, List}
use Rattle.porch_tree.specs.Mirror.{Expr, Base, TypeName, Declarator}
use Rattle.porch_check.specs.Scopes.{Scopes, first_scopes}
use Rattle.porch_check.specs.Operands.{Context}
use Rattle.porch_check.specs.Declarations.{Part, type_of_parts}
use Rattle.porch_check.specs.Expressions.{typed_expr, typed_base, typed_name, typed_declarator}
use Rattle.porch_typing.specs.States.{IsState, Holds}
use Rattle.porch_typing.specs.Ends.{End, IsEnd}
use Rattle.porch_typing.specs.Forms.{IsKnownForm, IsForm, NoFact, IsType, AreParts, IsDeclared, Leads}
use Rattle.porch_typing.specs.Spelled.{IsSpelled, IsSpelledBase, IsSpelledName, IsSpelledDeclarator}

-- Each expression that breaks no rule has its type in the program that the text comes to.
abbrev pub ExpressionsAreTyped : Type 0
ExpressionsAreTyped =
    (w : End) → IsEnd w → (e : Expr) (c : Context) (s : Scopes) → IsSpelled e → IsState s
    → Holds (Leads w IsKnownForm (IsForm w) s) (typed_expr w.bodies e c s)

-- What holds at each place holds in front of each text.
abbrev pub TextsBeginInOrder : Type 0
TextsBeginInOrder = (completes : List (List ℕ)) → IsState (first_scopes completes)

-- Behind bases, type names and declarators what is known is in order, and what was found is a known type.
pub record DeclaratorsGoOn (w : End) : Type 0 where
  pub bases : (b : Base) (s : Scopes) → IsSpelledBase b → IsState s → Holds (Leads w IsType NoFact s) (typed_base w.bodies b s)
  pub names : (t : TypeName) (s : Scopes) → IsSpelledName t → IsState s → Holds (Leads w IsType NoFact s) (typed_name w.bodies t s)
  pub declarators : (d : Declarator) (s : Scopes) → IsSpelledDeclarator d → IsState s
      → Holds (Leads w IsDeclared NoFact s) (typed_declarator w.bodies d s)
  pub types : (ps : List Part) (n : ℕ) (s : Scopes) → IsState s → IsType n s → AreParts ps s
      → Holds (Leads w IsType NoFact s) (type_of_parts ps n s)

abbrev pub DeclaratorsAreInOrder : Type 0
DeclaratorsAreInOrder = (w : End) → IsEnd w → DeclaratorsGoOn w
