-- What stands at the head of a tree, and what then becomes of it.
use Rattle.std.proofs.Common.{◌≡◌, ℕ, Bool, true, false, List, [], ◌∷◌, ◌++◌, map, refl, ap}
use Rattle.porch_typed.specs.declared.typed.Operator.{Operator}
use Rattle.porch_typed.specs.Mirror.{Expression, constant, null_pointer, read, whole, address, first, row, all_of, any_of, unary, isnt, choice, sequence, assign, assign_by, increment, conversion, discard, member_of, call, put_character, put_text, put_literal, print, allocate, release, checkpoint, Expressions, no_expressions, with_expression, Steps, no_steps, with_step}
use Rattle.porch_typed.specs.declared.typed.Expression as code_expression
use Rattle.porch_typed.specs.Views.{expression_of, expressions_of, steps_of}
use Rattle.porch_tree.specs.declared.tree.Infix.{Infix}
use Rattle.porch_tree.specs.declared.tree.Infix.TheVariants as sign
use Rattle.porch_check.specs.Operands.{Typed}
use Rattle.porch_check.specs.Operands.{null_as}
use Rattle.porch_check.specs.Operators.{Operation, row_tree, all_tree, any_tree, left_tree, tree_of, with_last_step, with_last}
use Rattle.porch_rows.specs.Sequences.{sequence_tree}
use Rattle.porch_rows.specs.inside.Heads.{is_constant, is_short, is_every, is_some_of}
use Rattle.porch_rows.specs.inside.Parts.{step_of}

pub constant_null : (e : Expression) (n : ℕ) → is_constant e ≡ true → null_as e n ≡ null_pointer n
constant_null (constant k z) n h = refl
constant_null (null_pointer m) n h = cc
constant_null (read m p) n h = cc
constant_null (whole m p) n h = cc
constant_null (address m p) n h = cc
constant_null (first m p) n h = cc
constant_null (row e ss) n h = cc
constant_null (all_of e es) n h = cc
constant_null (any_of e es) n h = cc
constant_null (unary u k e) n h = cc
constant_null (isnt e) n h = cc
constant_null (choice t c a b) n h = cc
constant_null (sequence e es) n h = cc
constant_null (assign m p e) n h = cc
constant_null (assign_by m o p e) n h = cc
constant_null (increment m b d p) n h = cc
constant_null (conversion k e) n h = cc
constant_null (discard e) n h = cc
constant_null (member_of m l e) n h = cc
constant_null (call f es) n h = cc
constant_null (put_character e) n h = cc
constant_null (put_text e) n h = cc
constant_null (put_literal bs) n h = cc
constant_null (print ps) n h = cc
constant_null (allocate m z e) n h = cc
constant_null (release e) n h = cc
constant_null checkpoint n h = cc

pub other_null : (e : Expression) (n : ℕ) → is_constant e ≡ false → null_as e n ≡ sequence e (with_expression (null_pointer n) no_expressions)
other_null (constant k z) n h = cc
other_null (null_pointer m) n h = refl
other_null (read m p) n h = refl
other_null (whole m p) n h = refl
other_null (address m p) n h = refl
other_null (first m p) n h = refl
other_null (row e ss) n h = refl
other_null (all_of e es) n h = refl
other_null (any_of e es) n h = refl
other_null (unary u k e) n h = refl
other_null (isnt e) n h = refl
other_null (choice t c a b) n h = refl
other_null (sequence e es) n h = refl
other_null (assign m p e) n h = refl
other_null (assign_by m o p e) n h = refl
other_null (increment m b d p) n h = refl
other_null (conversion k e) n h = refl
other_null (discard e) n h = refl
other_null (member_of m l e) n h = refl
other_null (call f es) n h = refl
other_null (put_character e) n h = refl
other_null (put_text e) n h = refl
other_null (put_literal bs) n h = refl
other_null (print ps) n h = refl
other_null (allocate m z e) n h = refl
other_null (release e) n h = refl
other_null checkpoint n h = refl

pub row_after_other : (e : Expression) (op : Operator) (y : Expression) → is_short e ≡ true → row_tree true e op y ≡ row e (with_step op y no_steps)
row_after_other (constant k z) op y h = refl
row_after_other (null_pointer m) op y h = refl
row_after_other (read m p) op y h = refl
row_after_other (whole m p) op y h = refl
row_after_other (address m p) op y h = refl
row_after_other (first m p) op y h = refl
row_after_other (row e ss) op y h = cc
row_after_other (all_of e es) op y h = cc
row_after_other (any_of e es) op y h = cc
row_after_other (unary u k e) op y h = refl
row_after_other (isnt e) op y h = refl
row_after_other (choice t c a b) op y h = refl
row_after_other (sequence e es) op y h = cc
row_after_other (assign m p e) op y h = refl
row_after_other (assign_by m o p e) op y h = refl
row_after_other (increment m b d p) op y h = refl
row_after_other (conversion k e) op y h = refl
row_after_other (discard e) op y h = refl
row_after_other (member_of m l e) op y h = refl
row_after_other (call f es) op y h = refl
row_after_other (put_character e) op y h = refl
row_after_other (put_text e) op y h = refl
row_after_other (put_literal bs) op y h = refl
row_after_other (print ps) op y h = refl
row_after_other (allocate m z e) op y h = refl
row_after_other (release e) op y h = refl
row_after_other checkpoint op y h = refl

pub all_after_other : (e y : Expression) → is_short e ≡ true → all_tree true e y ≡ all_of e (with_expression y no_expressions)
all_after_other (constant k z) y h = refl
all_after_other (null_pointer m) y h = refl
all_after_other (read m p) y h = refl
all_after_other (whole m p) y h = refl
all_after_other (address m p) y h = refl
all_after_other (first m p) y h = refl
all_after_other (row e ss) y h = cc
all_after_other (all_of e es) y h = cc
all_after_other (any_of e es) y h = cc
all_after_other (unary u k e) y h = refl
all_after_other (isnt e) y h = refl
all_after_other (choice t c a b) y h = refl
all_after_other (sequence e es) y h = cc
all_after_other (assign m p e) y h = refl
all_after_other (assign_by m o p e) y h = refl
all_after_other (increment m b d p) y h = refl
all_after_other (conversion k e) y h = refl
all_after_other (discard e) y h = refl
all_after_other (member_of m l e) y h = refl
all_after_other (call f es) y h = refl
all_after_other (put_character e) y h = refl
all_after_other (put_text e) y h = refl
all_after_other (put_literal bs) y h = refl
all_after_other (print ps) y h = refl
all_after_other (allocate m z e) y h = refl
all_after_other (release e) y h = refl
all_after_other checkpoint y h = refl

pub any_after_other : (e y : Expression) → is_short e ≡ true → any_tree true e y ≡ any_of e (with_expression y no_expressions)
any_after_other (constant k z) y h = refl
any_after_other (null_pointer m) y h = refl
any_after_other (read m p) y h = refl
any_after_other (whole m p) y h = refl
any_after_other (address m p) y h = refl
any_after_other (first m p) y h = refl
any_after_other (row e ss) y h = cc
any_after_other (all_of e es) y h = cc
any_after_other (any_of e es) y h = cc
any_after_other (unary u k e) y h = refl
any_after_other (isnt e) y h = refl
any_after_other (choice t c a b) y h = refl
any_after_other (sequence e es) y h = cc
any_after_other (assign m p e) y h = refl
any_after_other (assign_by m o p e) y h = refl
any_after_other (increment m b d p) y h = refl
any_after_other (conversion k e) y h = refl
any_after_other (discard e) y h = refl
any_after_other (member_of m l e) y h = refl
any_after_other (call f es) y h = refl
any_after_other (put_character e) y h = refl
any_after_other (put_text e) y h = refl
any_after_other (put_literal bs) y h = refl
any_after_other (print ps) y h = refl
any_after_other (allocate m z e) y h = refl
any_after_other (release e) y h = refl
any_after_other checkpoint y h = refl

pub sequence_after_other : (e y : Expression) → is_short e ≡ true → sequence_tree true e y ≡ sequence e (with_expression y no_expressions)
sequence_after_other (constant k z) y h = refl
sequence_after_other (null_pointer m) y h = refl
sequence_after_other (read m p) y h = refl
sequence_after_other (whole m p) y h = refl
sequence_after_other (address m p) y h = refl
sequence_after_other (first m p) y h = refl
sequence_after_other (row e ss) y h = cc
sequence_after_other (all_of e es) y h = cc
sequence_after_other (any_of e es) y h = cc
sequence_after_other (unary u k e) y h = refl
sequence_after_other (isnt e) y h = refl
sequence_after_other (choice t c a b) y h = refl
sequence_after_other (sequence e es) y h = cc
sequence_after_other (assign m p e) y h = refl
sequence_after_other (assign_by m o p e) y h = refl
sequence_after_other (increment m b d p) y h = refl
sequence_after_other (conversion k e) y h = refl
sequence_after_other (discard e) y h = refl
sequence_after_other (member_of m l e) y h = refl
sequence_after_other (call f es) y h = refl
sequence_after_other (put_character e) y h = refl
sequence_after_other (put_text e) y h = refl
sequence_after_other (put_literal bs) y h = refl
sequence_after_other (print ps) y h = refl
sequence_after_other (allocate m z e) y h = refl
sequence_after_other (release e) y h = refl
sequence_after_other checkpoint y h = refl

pub steps_grow : (xs : List (Operator × code_expression.Expression)) (op : Operator) (y : code_expression.Expression) → steps_of (map step_of (xs ++ (op, y) ∷ [])) ≡ with_last_step (steps_of (map step_of xs)) op (expression_of y)
steps_grow [] op y = refl
steps_grow (x ∷ xs) op y = ap (with_step x.0 (expression_of x.1)) (steps_grow xs op y)

pub expressions_grow : (xs : List code_expression.Expression) (y : code_expression.Expression) → expressions_of (map expression_of (xs ++ y ∷ [])) ≡ with_last (expressions_of (map expression_of xs)) (expression_of y)
expressions_grow [] y = refl
expressions_grow (x ∷ xs) y = ap (with_expression (expression_of x)) (expressions_grow xs y)

pub tree_in_row : (op : Infix) (begun : Bool) (x : Typed) (o : Operation) → is_every op ≡ false → is_some_of op ≡ false → tree_of op begun x o ≡ row_tree begun (left_tree o.operator x) o.operator o.right
tree_in_row sign.Any begun x o g h = cc
tree_in_row sign.All begun x o g h = cc
tree_in_row sign.BitOr begun x o g h = refl
tree_in_row sign.BitXor begun x o g h = refl
tree_in_row sign.BitAnd begun x o g h = refl
tree_in_row sign.Equal begun x o g h = refl
tree_in_row sign.NotEqual begun x o g h = refl
tree_in_row sign.Less begun x o g h = refl
tree_in_row sign.Greater begun x o g h = refl
tree_in_row sign.LessEqual begun x o g h = refl
tree_in_row sign.GreaterEqual begun x o g h = refl
tree_in_row sign.ShiftLeft begun x o g h = refl
tree_in_row sign.ShiftRight begun x o g h = refl
tree_in_row sign.Add begun x o g h = refl
tree_in_row sign.Sub begun x o g h = refl
tree_in_row sign.Mul begun x o g h = refl
tree_in_row sign.Div begun x o g h = refl
tree_in_row sign.Rem begun x o g h = refl

pub tree_of_every : (op : Infix) (begun : Bool) (x : Typed) (o : Operation) → is_every op ≡ true → tree_of op begun x o ≡ all_tree begun x.tree o.right
tree_of_every sign.Any begun x o h = cc
tree_of_every sign.All begun x o h = refl
tree_of_every sign.BitOr begun x o h = cc
tree_of_every sign.BitXor begun x o h = cc
tree_of_every sign.BitAnd begun x o h = cc
tree_of_every sign.Equal begun x o h = cc
tree_of_every sign.NotEqual begun x o h = cc
tree_of_every sign.Less begun x o h = cc
tree_of_every sign.Greater begun x o h = cc
tree_of_every sign.LessEqual begun x o h = cc
tree_of_every sign.GreaterEqual begun x o h = cc
tree_of_every sign.ShiftLeft begun x o h = cc
tree_of_every sign.ShiftRight begun x o h = cc
tree_of_every sign.Add begun x o h = cc
tree_of_every sign.Sub begun x o h = cc
tree_of_every sign.Mul begun x o h = cc
tree_of_every sign.Div begun x o h = cc
tree_of_every sign.Rem begun x o h = cc

pub tree_of_some : (op : Infix) (begun : Bool) (x : Typed) (o : Operation) → is_some_of op ≡ true → tree_of op begun x o ≡ any_tree begun x.tree o.right
tree_of_some sign.Any begun x o h = refl
tree_of_some sign.All begun x o h = cc
tree_of_some sign.BitOr begun x o h = cc
tree_of_some sign.BitXor begun x o h = cc
tree_of_some sign.BitAnd begun x o h = cc
tree_of_some sign.Equal begun x o h = cc
tree_of_some sign.NotEqual begun x o h = cc
tree_of_some sign.Less begun x o h = cc
tree_of_some sign.Greater begun x o h = cc
tree_of_some sign.LessEqual begun x o h = cc
tree_of_some sign.GreaterEqual begun x o h = cc
tree_of_some sign.ShiftLeft begun x o h = cc
tree_of_some sign.ShiftRight begun x o h = cc
tree_of_some sign.Add begun x o h = cc
tree_of_some sign.Sub begun x o h = cc
tree_of_some sign.Mul begun x o h = cc
tree_of_some sign.Div begun x o h = cc
tree_of_some sign.Rem begun x o h = cc
