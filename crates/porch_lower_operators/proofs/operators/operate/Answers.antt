use Rattle.std.proofs.Common.{◌≡◌, ◌∙◌, ℕ, [], ◌∷◌, ap}
use Rattle.porch_flat.specs.declared.whole.Command.{Command}
use Rattle.porch_flat.specs.declared.whole.Command.TheVariants as command
use Rattle.porch_lowering.specs.Code.{InUse, Code}
use Rattle.porch_lowering.specs.Operators.{var_of, used_commands, commands_if, used_if, operand_if, operator_command}
use Rattle.porch_emitter.specs.Made.{Made, made_of, with_commands, with_count, with_code}
use Rattle.porch_lower_operators.proofs.Steps.{two_operands, operated_is}
use Rattle.porch_lower_operators.proofs.operators.operate.Goals as goal

pub returns : goal.returns
returns c =
    let a = c.args.left.operand in
    let b = c.args.right.operand in
    let to = c.left_type-to.result in
    let to' = c.right_type-right_to.result in
    let first = c.is_converted-first.result in
    let second = c.is_converted-second.result in
    let m0 = made_of c.args.emitter.now in
    let m1 = made_of c.use_if.new.emitter in
    let m2 = made_of c.use_if-2.new.emitter in
    let m3 = made_of c.convert_if.new.emitter in
    let m4 = made_of c.convert_if-2.new.emitter in
    let m5 = made_of c.put_last.new.emitter in
    let m6 = made_of c.let_go.new.self in
    let m7 = made_of c.let_go-2.new.self in
    let e3 = c.in_ok-a.ensures.made in
    let e4 = c.in_ok-b.ensures.made in
    let e5 = c.in_ok-put_last.ensures ∙ ap (λ (k : Command). with_count (with_commands m4 (k ∷ []))) c.operator_command.ensures in
    let used5 : m5.used ≡ used_if second m3.used to' = ap (λ (m : Made). m.used) e5 ∙ ap (λ (m : Made). m.used) e4 in
    let e6 = c.let_go.ensures m3.used (used5 ∙ c.in_ok-b.ensures.taken) in
    let used6 : m6.used ≡ used_if first m2.used to = ap (λ (m : Made). m.used) e6 ∙ ap (λ (m : Made). m.used) e3 in
    let e7 = c.let_go-2.ensures m2.used (used6 ∙ c.in_ok-a.ensures.taken) in
    two_operands
    (commands_if c.fails.result (used_commands b))
    (commands_if c.alone.result (used_commands a))
    (λ (t : ℕ). commands_if first (command.Cast t (var_of a) ∷ []))
    (λ (t : ℕ). commands_if second (command.Cast t (var_of b) ∷ []))
    (λ (t : ℕ). operand_if first t a)
    (λ (t : ℕ). operand_if second t b)
    (λ (used : InUse). used_if first used to)
    (λ (used : InUse). used_if second used to')
    (operator_command c.args.operator c.args.target)
    to to' m0 m1 m2 m3 m4 m5 m6 m7 c.in_ok-a.a.operand c.in_ok-b.b.operand
    c.in_ok-use_if.ensures c.in_ok-use_if-2.ensures e3 c.in_ok-a.ensures.operand e4 c.in_ok-b.ensures.operand e5 e6 e7
    ∙ ap (λ (code : Code). with_code m0 code)
    (operated_is m0.start c.args.operator c.args.target a c.args.left.ty b c.args.right.ty m0.used m0.label to to' first second c.fails.result c.fails-2.result c.alone.result
    c.fails.ensures c.alone.ensures c.fails-2.ensures c.is_converted-first.ensures c.is_converted-second.ensures c.left_type-to.ensures c.right_type-right_to.ensures)
