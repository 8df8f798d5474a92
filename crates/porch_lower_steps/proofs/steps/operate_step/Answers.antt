use Rattle.std.proofs.Common.{◌≡◌, ◌∙◌, ℕ, ap}
use Rattle.porch_lowering.specs.Code.{InUse, and_one, at_most, Code}
use Rattle.porch_lowering.specs.Expression.{target, with_target}
use Rattle.porch_lowering.specs.Operators.{operate}
use Rattle.porch_emitter.specs.Made.{Made, made_of, and_taken, with_code, with_used}
use Rattle.porch_lower_steps.proofs.Stepped.{stepped}
use Rattle.porch_lower_steps.proofs.steps.operate_step.Goals as goal

pub returns-clause-target : goal.returns-clause-target
returns-clause-target c = λ free is p.
    let before = made_of c.args.emitter.now in
    c.in_ok-variable.ensures.variable free is p ∙ ap (λ (ty : ℕ). target p before.start c.args.to ty free) c.operator_type-ty.ensures

pub returns-clause-made : goal.returns-clause-made
returns-clause-made c = λ free is p.
    let x = c.args.operands in
    let got = c.in_ok-variable.field-0 in
    let own = c.operator_type-ty.result in
    let m0 = made_of c.args.emitter.now in
    let m1 = made_of c.target_of.new.emitter in
    let m2 = made_of c.take_again.new.emitter in
    let m3 = made_of c.operate.new.emitter in
    let m4 = made_of c.let_go.new.self in
    let m5 = made_of c.let_go-2.new.self in
    let m6 = made_of c.let_go-3.new.self in
    let m7 = made_of c.take.new.self in
    let code : (d : ℕ) (start : ℕ → ℕ) (used : InUse) (label : ℕ) → Code = λ d start used label. operate start c.args.operator d x.left.operand x.left.ty x.right.operand x.right.ty used label in
    let after : (d : ℕ) (used : InUse) (ty : ℕ) → Made = λ d used ty. with_used (with_code m0 (code d m0.start used m0.label)) (and_one ty free) in
    let e1 = c.in_ok-variable.ensures.same in
    let e2 = c.in_ok-take_again.ensures ∙ ap (λ (m : Made). with_used m1 (and_taken got.raised m.used)) e1 in
    let e3 = c.in_ok-operate.ensures in
    let used3 : m3.used ≡ and_taken got.raised m0.used = ap (λ (m : Made). m.used) e3 ∙ ap (λ (m : Made). m.used) e2 in
    let e4 = c.let_go.ensures m0.used used3 in
    let used4 : m4.used ≡ and_taken x.right_taken (and_taken x.left_taken free) = ap (λ (m : Made). m.used) e4 ∙ is in
    let e5 = c.let_go-2.ensures (and_taken x.left_taken free) used4 in
    let e6 = c.let_go-3.ensures free (ap (λ (m : Made). m.used) e5) in
    let e7 = c.in_ok-take.ensures.taken in
    stepped (code got.variable) (and_taken got.raised m0.used) (and_taken x.left_taken free) free own m0 m1 m2 m3 m4 m5 m6 m7 e1 e2 e3 e4 e5 e6 e7
    ∙ ap (λ (d : ℕ). after d (and_taken got.raised m0.used) own) (c.in_ok-variable.ensures.variable free is p)
    ∙ ap (λ (used : InUse). after (target p m0.start c.args.to own free) used own) (c.in_ok-variable.ensures.raised free is p)
    ∙ ap (λ (ty : ℕ). after (target p m0.start c.args.to ty free) (at_most (with_target p m0.start c.args.to ty free) m0.used) ty) c.operator_type-ty.ensures
