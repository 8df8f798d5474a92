-- Expressions and types that stand in a part of another kind: where the reader begins, and the token in
-- front of which it ends.
use Rattle.std.specs.Prelude.{ℕ, ◌≡◌, Bool, true, false, ◌||◌, List, [], ◌∷◌, ◌++◌}
use Rattle.porch_tree.specs.declared.word.Mark.{Mark}
use Rattle.porch_tree.specs.declared.word.Mark.TheVariants as mark
use Rattle.porch_tree.specs.declared.word.Word.{Word}
use Rattle.porch_tree.specs.declared.word.Word.TheVariants as word
use Rattle.porch_tree.specs.Mirror.{Expr, Base, Declarator, declarator, lacking, no_brackets, TypeName, type_name}
use Rattle.porch_tree.specs.Pieces.{Spelled, Piece, expr_pieces, base_pieces, declarator_pieces}
use Rattle.porch_tree.specs.Names.{ReadsExpr, ReadsBase, ReadsDeclarator}
use Rattle.porch_tree.specs.Formed.{IsExpr, IsAssign, IsBase, IsDeclarator}
use Rattle.porch_tree.specs.Grammar.{Matches, AreMatched}
use Rattle.porch_parse.specs.Building.{Frame, awaits, over, alone as alone_frame}
use Rattle.porch_parse.specs.Building as building
use Rattle.porch_parts.specs.Types.{Part, alone, Point, at_base, at_declarator, over_type, over_declarator, Place, place}
use Rattle.porch_parts.specs.Parts.{State, in_expr, in_type, step}

-- where an expression begins, one without commas, a base with a declarator, and a declarator
abbrev pub at_whole : State
at_whole = in_expr [] (awaits [])

abbrev pub at_single : State
at_single = in_expr [] (awaits (alone_frame ∷ []))

abbrev pub at_typed : State
at_typed = in_type [] (place (alone ∷ []) at_base)

abbrev pub at_declared : State
at_declared = in_type [] (place [] at_declarator)

-- where they end
abbrev pub behind_expr : Expr → State
behind_expr e = in_expr [] (over [] e)

abbrev pub behind_typed : TypeName → State
behind_typed x = in_type [] (place [] (over_type x))

abbrev pub behind_declared : Declarator → State
behind_declared d = in_type [] (place [] (over_declarator d))

abbrev pub is_over_expr : building.State → Bool
is_over_expr (over fs e) = true
is_over_expr s = false

abbrev pub is_over_point : Point → Bool
is_over_point (over_type x) = true
is_over_point (over_declarator d) = true
is_over_point x = false

-- something ended in front of this very token
abbrev pub is_over : State → Bool
is_over (in_expr ps s) = is_over_expr s
is_over (in_type fs p) = is_over_point p.point

-- what ended, or the reader as it goes on
pub data Found : Type 0 where
  going : State → Found
  found_expr : Expr → Found
  found_typed : TypeName → Found
  found_declared : Declarator → Found

abbrev pub found_in_expr : List Part → building.State → Found
found_in_expr ps (over fs e) = found_expr e
found_in_expr ps s = going (in_expr ps s)

abbrev pub found_at : List Frame → Place → Point → Found
found_at fs p (over_type x) = found_typed x
found_at fs p (over_declarator d) = found_declared d
found_at fs p x = going (in_type fs p)

abbrev pub found_in : State → Found
found_in (in_expr ps s) = found_in_expr ps s
found_in (in_type fs p) = found_at fs p p.point

-- The reader goes over these tokens without an end, and ends in front of the one behind them.
abbrev pub Ends : List (List ℕ) → State → List Spelled → Spelled → State → Type 0
Ends types s [] last end = step types s last ≡ end
Ends types s (t ∷ ts) last end = (is_over (step types s t) ≡ false) × Ends types (step types s t) ts last end

-- The reader ends in front of a token that is a piece, with others behind it.
pub record EndsAt (types : List (List ℕ)) (s : State) (ts : List Spelled) (p : Piece) (ps : List Piece) (end : State) : Type 0 where
  pub own : List Spelled
  pub last : Spelled
  pub rest : List Spelled
  pub split : ts ≡ own ++ last ∷ rest
  pub matches : Matches last p
  pub matched : AreMatched rest ps
  pub ends : Ends types s own last end

-- words in front of which an expression ends, one without commas, and a declarator
abbrev pub ends_whole : Mark → Bool
ends_whole mark.CloseParenthesis = true
ends_whole mark.Semicolon = true
ends_whole m = false

abbrev pub ends_single : Mark → Bool
ends_single mark.Comma = true
ends_single mark.Colon = true
ends_single mark.Semicolon = true
ends_single mark.CloseBrace = true
ends_single m = false

abbrev pub ends_declared : Mark → Bool
ends_declared mark.Comma = true
ends_declared mark.Semicolon = true
ends_declared mark.Equal = true
ends_declared mark.OpenBrace = true
ends_declared m = false

-- Where the reader ends, of all tokens: in front of a `)` or `;` behind an expression, of what may stand behind
-- one without commas of its own, of what may stand behind a declared name, and of the `;` of a bare base.
abbrev pub WholesEnd : Type 0
WholesEnd =
    (types : List (List ℕ)) (inside : Bool) (e : Expr) → IsExpr e → ReadsExpr types e true
    → (uses : ℕ) (p : Piece) (ps : List Piece) (ts : List Spelled) (m : Mark) → p.word ≡ word.Mark m → ends_whole m ≡ true
    → AreMatched ts (expr_pieces inside e uses (p ∷ ps)) → EndsAt types at_whole ts p ps (behind_expr e)

abbrev pub SinglesEnd : Type 0
SinglesEnd =
    (types : List (List ℕ)) (inside : Bool) (e : Expr) → IsAssign e → IsExpr e → ReadsExpr types e true
    → (uses : ℕ) (p : Piece) (ps : List Piece) (ts : List Spelled) (m : Mark) → p.word ≡ word.Mark m → ends_single m ≡ true
    → AreMatched ts (expr_pieces inside e uses (p ∷ ps)) → EndsAt types at_single ts p ps (behind_expr e)

abbrev pub TypedEnd : Type 0
TypedEnd =
    (types : List (List ℕ)) (inside : Bool) (b : Base) (x : Declarator) → IsBase b → ReadsBase types b
    → IsDeclarator true x → ReadsDeclarator types x
    → (uses own_uses : ℕ) (p : Piece) (ps : List Piece) (ts : List Spelled) (m : Mark) → p.word ≡ word.Mark m → ends_declared m ≡ true
    → AreMatched ts (base_pieces inside b uses (declarator_pieces inside x own_uses (p ∷ ps)))
    → EndsAt types at_typed ts p ps (behind_typed (type_name b x))

abbrev pub BasesEnd : Type 0
BasesEnd =
    (types : List (List ℕ)) (inside : Bool) (b : Base) → IsBase b → ReadsBase types b
    → (uses : ℕ) (p : Piece) (ps : List Piece) (ts : List Spelled) → p.word ≡ word.Mark mark.Semicolon
    → AreMatched ts (base_pieces inside b uses (p ∷ ps))
    → EndsAt types at_typed ts p ps (behind_typed (type_name b (declarator 0 [] lacking no_brackets)))

abbrev pub DeclaredEnd : Type 0
DeclaredEnd =
    (types : List (List ℕ)) (inside : Bool) (x : Declarator) → IsDeclarator true x → ReadsDeclarator types x
    → (uses : ℕ) (p : Piece) (ps : List Piece) (ts : List Spelled) (m : Mark) → p.word ≡ word.Mark m → ends_declared m ≡ true
    → AreMatched ts (declarator_pieces inside x uses (p ∷ ps)) → EndsAt types at_declared ts p ps (behind_declared x)
