-- Code in the making, one step behind the other.
use Rattle.std.proofs.Common.{◌≡◌, ℕ, Bool, not, ◌&&◌, List, [], ◌∷◌, ◌++◌, refl, append_assoc}
use Rattle.porch_flat.specs.declared.flat.Operand.{Operand}
use Rattle.porch_flat.specs.declared.whole.Command.{Command}
use Rattle.porch_flat.specs.declared.whole.Command.TheVariants as command
use Rattle.porch_typed.specs.declared.typed.Operator.{Operator}
use Rattle.porch_typed.specs.declared.typed.Unary.{Unary}
use Rattle.porch_lowering.specs.Code.{InUse, and_one, Code, plain}
use Rattle.porch_lowering.specs.Operators.{next_of, var_of, left_type, right_type, is_converted, may_fail, used_commands, commands_if, used_if, operand_if, operator_command, unary_command, operate, operate_unary}
use Rattle.porch_emitter.specs.Made.{Made, with_commands, with_used, with_count, with_code}

-- a converted operand, and the last command
pub one_operand : (c : ℕ → List Command) (x : ℕ → Operand) (f : InUse → InUse) (last : Operand → Command) (to : ℕ) (m0 m1 m2 m3 : Made) (o : Operand)
    → m1 ≡ with_used (with_commands m0 (c (next_of m0.start to m0.used))) (f m0.used)
    → o ≡ x (next_of m0.start to m0.used)
    → m2 ≡ with_count (with_commands m1 (last o ∷ []))
    → m3 ≡ with_used m2 m0.used
    → m3 ≡ with_code m0 (plain (c (next_of m0.start to m0.used) ++ last (x (next_of m0.start to m0.used)) ∷ []) (f m0.used) m0.label)
one_operand c x f last to m0 m1 m2 m3 o e1 eo e2 e3 = rw (e3, e2, eo, e1) (simp append_assoc)

-- what is used, both operands, and the last command
pub two_operands : (a b : List Command) (c d : ℕ → List Command) (x y : ℕ → Operand) (f s : InUse → InUse) (last : Operand → Operand → Command) (to to' : ℕ) (m0 m1 m2 m3 m4 m5 m6 m7 : Made) (o p : Operand)
    → m1 ≡ with_commands m0 a
    → m2 ≡ with_commands m1 b
    → m3 ≡ with_used (with_commands m2 (c (next_of m2.start to m2.used))) (f m2.used)
    → o ≡ x (next_of m2.start to m2.used)
    → m4 ≡ with_used (with_commands m3 (d (next_of m3.start to' m3.used))) (s m3.used)
    → p ≡ y (next_of m3.start to' m3.used)
    → m5 ≡ with_count (with_commands m4 (last o p ∷ []))
    → m6 ≡ with_used m5 m3.used
    → m7 ≡ with_used m6 m2.used
    → m7 ≡ with_code m0 (plain
    (a ++ (b ++ (c (next_of m0.start to m0.used) ++ (d (next_of m0.start to' (f m0.used)) ++ last (x (next_of m0.start to m0.used)) (y (next_of m0.start to' (f m0.used))) ∷ []))))
    (s (f m0.used)) m0.label)
two_operands a b c d x y f s last to to' m0 m1 m2 m3 m4 m5 m6 m7 o p e1 e2 e3 eo e4 ep e5 e6 e7 =
    rw (e7, e6, e5, eo, ep, e4, e3, e2, e1) (simp append_assoc)

-- the code of an operator, with what was found of it
abbrev pub operated : (start : ℕ → ℕ) → Operator → (target : ℕ) → Operand → Operand → InUse → (label to to' : ℕ) → (first second right_first left_first : Bool) → Code
operated start op d a b used label to to' first second right_first left_first =
    let t = next_of start to used in
    let t' = next_of start to' (used_if first used to) in
    plain
    (commands_if right_first (used_commands b)
    ++ (commands_if left_first (used_commands a)
    ++ (commands_if first (command.Cast t (var_of a) ∷ [])
    ++ (commands_if second (command.Cast t' (var_of b) ∷ [])
    ++ operator_command op d (operand_if first t a) (operand_if second t' b) ∷ []))))
    (used_if second (used_if first used to) to') label

pub operated_is : (start : ℕ → ℕ) (op : Operator) (d : ℕ) (a : Operand) (ty : ℕ) (b : Operand) (ty' : ℕ) (used : InUse) (label to to' : ℕ) (first second right_first second_fails left_first : Bool)
    → right_first ≡ (first && may_fail ty to)
    → left_first ≡ (not first && second_fails)
    → second_fails ≡ (second && may_fail ty' to')
    → first ≡ is_converted a ty to
    → second ≡ is_converted b ty' to'
    → to ≡ left_type op ty
    → to' ≡ right_type op ty'
    → operated start op d a b used label to to' first second right_first left_first ≡ operate start op d a ty b ty' used label
operated_is start op d a ty b ty' used label to to' first second right_first second_fails left_first e1 e2 e3 e4 e5 e6 e7 =
    rw (e1, e2, e3, e4, e5, e6, e7) refl

-- the code of an operator with one operand
abbrev pub operated_on : (start : ℕ → ℕ) → Unary → (target : ℕ) → Operand → InUse → (label kind : ℕ) → (converted : Bool) → Code
operated_on start op d o used label kind converted =
    let t = next_of start kind used in
    plain
    (commands_if converted (command.Cast t (var_of o) ∷ []) ++ unary_command start op d (operand_if converted t o) ∷ [])
    (used_if converted used kind) label

pub operated_on_is : (start : ℕ → ℕ) (op : Unary) (d : ℕ) (o : Operand) (ty : ℕ) (used : InUse) (label to kind : ℕ) (converted : Bool)
    → converted ≡ is_converted o ty to
    → to ≡ kind
    → operated_on start op d o used label to converted ≡ operate_unary start op d kind o ty used label
operated_on_is start op d o ty used label to kind converted e1 e2 = rw (e1, e2) refl

-- a value that is no int is tested
pub tested : (test : ℕ → Command) (last : ℕ → Command) (int : ℕ) (m0 m1 m2 m3 m4 : Made) (t : ℕ) (command : Command)
    → t ≡ next_of m0.start int m0.used
    → m1 ≡ with_used m0 (and_one int m0.used)
    → command ≡ test t
    → m2 ≡ with_commands m1 (command ∷ [])
    → m3 ≡ with_count (with_commands m2 (last t ∷ []))
    → m4 ≡ with_used m3 m0.used
    → m4 ≡ with_code m0 (plain (test (next_of m0.start int m0.used) ∷ last (next_of m0.start int m0.used) ∷ []) (and_one int m0.used) m0.label)
tested test last int m0 m1 m2 m3 m4 t command et e1 ec e2 e3 e4 = rw (e4, e3, e2, ec, et, e1) (simp append_assoc)
