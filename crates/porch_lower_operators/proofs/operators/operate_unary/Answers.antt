use Rattle.std.proofs.Common.{◌≡◌, ◌∙◌, ℕ, [], ◌∷◌, ap}
use Rattle.porch_types.specs.Kinds.{kind_number}
use Rattle.porch_flat.specs.declared.whole.Command.{Command}
use Rattle.porch_flat.specs.declared.whole.Command.TheVariants as command
use Rattle.porch_lowering.specs.Code.{InUse, Code}
use Rattle.porch_lowering.specs.Operators.{var_of, commands_if, used_if, operand_if, unary_command}
use Rattle.porch_emitter.specs.Made.{Made, made_of, with_commands, with_count, with_code}
use Rattle.porch_lower_operators.proofs.Steps.{one_operand, operated_on_is}
use Rattle.porch_lower_operators.proofs.operators.operate_unary.Goals as goal

pub returns : goal.returns
returns c =
    let o = c.args.operand.operand in
    let to = c.number-to.result in
    let converted = c.is_converted-converted.result in
    let m0 = made_of c.args.emitter.now in
    let m1 = made_of c.convert_if.new.emitter in
    let m2 = made_of c.put_last.new.emitter in
    let m3 = made_of c.let_go.new.self in
    let e1 = c.in_ok-x.ensures.made in
    let e2 = c.in_ok-put_last.ensures ∙ ap (λ (k : Command). with_count (with_commands m1 (k ∷ []))) (c.unary_command.ensures m0.start) in
    let used2 : m2.used ≡ used_if converted m0.used to = ap (λ (m : Made). m.used) e2 ∙ ap (λ (m : Made). m.used) e1 in
    let e3 = c.let_go.ensures m0.used (used2 ∙ c.in_ok-x.ensures.taken) in
    one_operand
    (λ (t : ℕ). commands_if converted (command.Cast t (var_of o) ∷ []))
    (λ (t : ℕ). operand_if converted t o)
    (λ (used : InUse). used_if converted used to)
    (unary_command m0.start c.args.operator c.args.target)
    to m0 m1 m2 m3 c.in_ok-x.x.operand e1 c.in_ok-x.ensures.operand e2 e3
    ∙ ap (λ (code : Code). with_code m0 code)
    (operated_on_is m0.start c.args.operator c.args.target o c.args.operand.ty m0.used m0.label to (kind_number c.args.kind) converted c.is_converted-converted.ensures c.number-to.ensures.value)
