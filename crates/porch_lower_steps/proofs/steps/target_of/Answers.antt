use Rattle.std.proofs.Common.{◌≡◌, ◌+◌, ◌∙◌, ℕ, Option, ap, sym, arith}
use Rattle.porch_lowering.specs.Code.{at_most}
use Rattle.porch_lowering.specs.Expression.{target, with_target}
use Rattle.porch_emitter.specs.Made.{made_of, and_taken}
use Rattle.porch_lower_steps.specs.inside.Raised.{count_of}
use Rattle.porch_lower_steps.proofs.Stepped.{behind_free, raised, not_raised}
use Rattle.porch_lower_steps.proofs.steps.target_of.Goals as goal

pub returns-in-Some-clause-raised : goal.returns-in-Some-clause-raised
returns-in-Some-clause-raised c = λ free is p.
    let before = made_of c.args.emitter.now in
    let x = c.args.operands in
    not_raised x.left_taken x.right_taken before.used free is
    ∙ ap (λ (to : Option ℕ). at_most (with_target p before.start to c.args.ty free) before.used) (sym c.in-Some.is)

pub returns-in_ok-next-in-None-clause-variable : goal.returns-in_ok-next-in-None-clause-variable
returns-in_ok-next-in-None-clause-variable c = λ free is p.
    let before = made_of c.args.emitter.now in
    let x = c.args.operands in
    let ty = c.args.ty in
    let held : c.count_of.result + c.count_of-in-None.result ≡ count_of ty x.left_taken + count_of ty x.right_taken = omega (arith, c.count_of.ensures.is, c.count_of-in-None.ensures.is) in
    c.saturating_sub.ensures
    ∙ behind_free before.start ty x.left_taken x.right_taken before.used free c.in_ok-next-in-None.next _ is c.in_ok-next-in-None.ensures.next held
    ∙ ap (λ (to : Option ℕ). target p before.start to ty free) (sym c.in-None.is)

pub returns-in_ok-next-in-None-clause-raised : goal.returns-in_ok-next-in-None-clause-raised
returns-in_ok-next-in-None-clause-raised c = λ free is p.
    let before = made_of c.args.emitter.now in
    let x = c.args.operands in
    let ty = c.args.ty in
    let held : c.count_of.result + c.count_of-in-None.result ≡ count_of ty x.left_taken + count_of ty x.right_taken = omega (arith, c.count_of.ensures.is, c.count_of-in-None.ensures.is) in
    ap (λ (taken : Option ℕ). and_taken taken before.used) c.raised_by.ensures
    ∙ raised ty x.left_taken x.right_taken before.used free _ is held
    ∙ ap (λ (to : Option ℕ). at_most (with_target p before.start to ty free) before.used) (sym c.in-None.is)
