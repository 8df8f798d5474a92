use Rattle.std.proofs.Common.{◌≡◌, ◌∙◌, ℕ, [], ◌∷◌, ap}
use Rattle.porch_flat.specs.declared.flat.Operand.TheVariants.{Var}
use Rattle.porch_flat.specs.declared.whole.Command.TheVariants as command
use Rattle.porch_lowering.specs.Code.{and_one, plain}
use Rattle.porch_lowering.specs.Operators.{next_of}
use Rattle.porch_emitter.specs.Made.{Made, made_of, with_code}
use Rattle.porch_lower_operators.specs.inside.Tests.{test_command}
use Rattle.porch_lower_operators.proofs.Steps.{tested}
use Rattle.porch_lower_operators.proofs.operators.branch_on_test.Goals as goal

pub returns : goal.returns
returns c =
    let o = c.args.operand.operand in
    let ty = c.args.operand.ty in
    let to = c.args.to in
    let int = c.number-int.result in
    let m0 = made_of c.args.emitter.now in
    let m1 = made_of c.take.new.self in
    let m2 = made_of c.push.new.self in
    let m3 = made_of c.put_last.new.emitter in
    let m4 = made_of c.give_back.new.self in
    let e1 = c.in_ok-temporary.ensures.taken in
    let e2 = c.in_ok-push.ensures in
    let e3 = c.in_ok-put_last.ensures in
    let used : m3.used ≡ and_one int m0.used = ap (λ (m : Made). m.used) e3 ∙ ap (λ (m : Made). m.used) e2 ∙ ap (λ (m : Made). m.used) e1 in
    let e4 = c.give_back.ensures m0.used used in
    tested
    (λ (t : ℕ). test_command t ty o) (λ (t : ℕ). command.If (Var t) to)
    int m0 m1 m2 m3 m4 c.in_ok-temporary.temporary c.test_command.result
    c.in_ok-temporary.ensures.temporary e1 c.test_command.ensures e2 e3 e4
    ∙ ap (λ (i : ℕ). with_code m0 (plain (test_command (next_of m0.start i m0.used) ty o ∷ command.If (Var (next_of m0.start i m0.used)) to ∷ []) (and_one i m0.used) m0.label))
    c.number-int.ensures.value
