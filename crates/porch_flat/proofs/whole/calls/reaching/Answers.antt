use Rattle.std.proofs.Common.{◌≡◌, ◌<◌, ◌≤◌, ◌+◌, List, Bool, false, length, get_or, arith, sym, ap, ◌∙◌, subst}
use Rattle.std.specs.Prelude.{◌-◌, slice_get}
use Rattle.std.proofs.lemmas.Grind.{common_steps}
use Rattle.porch_flat.specs.whole.Calls.{IsLeastClosed}
use Rattle.porch_flat.specs.inside.CallGraph.{callers_in, gone_on, gone_through, reached}
use Rattle.porch_flat.proofs.Marks.{one_step, no_step, marks_are_reaches, marks_are_least, marks_are_all}
use Rattle.porch_flat.proofs.whole.calls.reaching.Goals as goal

pub loop-step-preserved : goal.loop-step-preserved
loop-step-preserved c =
    let fs = c.args.flat.now.functions in
    let inside : c.loop-step.step < length fs = grind (arith, common_steps, c.loop-step-test.true, c.as_slice-functions.ensures) in
    let next : c.go_on.new.self ≡ gone_on (callers_in fs) (slice_get c.loop-step.search.order c.loop-step.step) c.loop-step.search =
    grind (arith, common_steps, c.in_ok-go_on.ensures, c.in_ok-callers.ensures, c.as_slice-functions.ensures) in
    subst (λ s. gone_through (callers_in fs) (length fs - (c.loop-step.step + 1)) (c.loop-step.step + 1) s ≡ reached fs) (sym next)
    (sym (one_step (callers_in fs) (length fs) c.loop-step.step c.loop-step.search inside) ∙ c.loop-step.invariant)

pub returns-clause-length : goal.returns-clause-length
returns-clause-length c =
    let fs = c.args.flat.now.functions in
    let over : length fs ≤ c.loop-step.step = grind (arith, common_steps, c.loop-step-test.false, c.as_slice-functions.ensures) in
    let same = sym (no_step (callers_in fs) (length fs) c.loop-step.step c.loop-step.search over) ∙ c.loop-step.invariant in
    let marks : c.search-2.inside.marks.items ≡ (reached fs).marks = ap (λ r. r.marks) (c.search-2.view_is ∙ same) in
    ap (λ (bs : List Bool). length bs) marks ∙ marks_are_all c.args.flat.now

pub returns-clause-least : goal.returns-clause-least
returns-clause-least c =
    let fs = c.args.flat.now.functions in
    let over : length fs ≤ c.loop-step.step = grind (arith, common_steps, c.loop-step-test.false, c.as_slice-functions.ensures) in
    let same = sym (no_step (callers_in fs) (length fs) c.loop-step.step c.loop-step.search over) ∙ c.loop-step.invariant in
    let marks : c.search-2.inside.marks.items ≡ (reached fs).marks = ap (λ r. r.marks) (c.search-2.view_is ∙ same) in
    subst (λ (bs : List Bool). IsLeastClosed c.args.flat.now (λ f. get_or bs f false)) (sym marks) (marks_are_least c.args.flat.now)

pub returns-clause-same : goal.returns-clause-same
returns-clause-same c = λ f.
    let fs = c.args.flat.now.functions in
    let over : length fs ≤ c.loop-step.step = grind (arith, common_steps, c.loop-step-test.false, c.as_slice-functions.ensures) in
    let same = sym (no_step (callers_in fs) (length fs) c.loop-step.step c.loop-step.search over) ∙ c.loop-step.invariant in
    let marks : c.search-2.inside.marks.items ≡ (reached fs).marks = ap (λ r. r.marks) (c.search-2.view_is ∙ same) in
    ap (λ (bs : List Bool). get_or bs f false) marks ∙ marks_are_reaches c.args.flat.now f
