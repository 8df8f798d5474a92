use Rattle.std.proofs.Common.{rules, ◌≡◌, ◌+◌, ◌*◌, length, get_or, subst, arith}
use Rattle.std.proofs.lemmas.Option.{slice_get-get_or}
use Rattle.porch_types.specs.Leaves.{leaves_of}
use Rattle.porch_ucf.specs.declared.leaf_test.LeafTest.TheVariants.{Word}
use Rattle.porch_ucf.specs.declared.runs.Run.{Run}
use Rattle.porch_ucf.specs.inside.Leaves.{IsSoundBelow}
use Rattle.porch_ucf.specs.inside.Runs.{begin_of}
use Rattle.porch_ucf.proofs.RunByRun.{at_first, at_last, at_next, first_there, run_inside}
use Rattle.porch_ucf.proofs.leaves.check_element.Goals as goal

abbrev none_run : Run
none_run = record { test = Word 0; first = 0; len = 0; place = 0 }

pub loop-run-init : goal.loop-run-init
loop-run-init c =
    at_first c.args.sought c.args.metrics.now.types c.args.objects.now.items c.args.image.now c.args.object c.elements_repeat.ensures c.layout-layout.ensures.types c.requires.known c.args.runs.now c.requires.runs c.args.element c.requires.before

pub check_run-requires-clause-test : goal.check_run-requires-clause-test
check_run-requires-clause-test c =
    let i = c.loop-run.run-index in
    (c.requires.runs.each i (get_or c.args.runs.now i none_run) (slice_get-get_or c.args.runs.now i none_run c.loop-run-test.true)).can_test

pub check_run-requires-clause-inside : goal.check_run-requires-clause-inside
check_run-requires-clause-inside c =
    let i = c.loop-run.run-index in
    let run = get_or c.args.runs.now i none_run in
    let at = slice_get-get_or c.args.runs.now i none_run c.loop-run-test.true in
    let inside = run_inside c.args.sought c.args.metrics.now.types c.args.objects.now.items c.args.image.now c.args.object c.elements_repeat.ensures c.layout-layout.ensures.types c.requires.known c.args.runs.now c.requires.runs c.args.element i run at c.element_place-place.result c.element_place-place.ensures.place c.words_lie_inside.ensures c.requires.within in
    omega (arith, inside, c.requires.inside)

pub loop-run-preserved : goal.loop-run-preserved
loop-run-preserved c =
    let i = c.loop-run.run-index in
    let run = get_or c.args.runs.now i none_run in
    let at = slice_get-get_or c.args.runs.now i none_run c.loop-run-test.true in
    at_next c.args.sought c.args.metrics.now.types c.args.objects.now.items c.args.image.now c.args.object c.elements_repeat.ensures c.layout-layout.ensures.types c.requires.known c.args.runs.now c.requires.runs c.args.element i run at c.element_place-place.result c.element_place-place.ensures.place c.loop-run.invariant c.in_ok-check_run.ensures.sound

pub returns-in_err-check_run-clause-first : goal.returns-in_err-check_run-clause-first
returns-in_err-check_run-clause-first c =
    let i = c.loop-run.run-index in
    let run = get_or c.args.runs.now i none_run in
    let at = slice_get-get_or c.args.runs.now i none_run c.loop-run-test.true in
    let found = first_there c.args.sought c.args.metrics.now.types c.args.objects.now.items c.args.image.now c.args.object c.elements_repeat.ensures c.layout-layout.ensures.types c.requires.known c.args.runs.now c.requires.runs c.args.element i run at c.element_place-place.result c.element_place-place.ensures.place c.in_err-check_run.field-0.0 c.requires.within c.loop-run.invariant c.in_err-check_run.ensures.first in
    search (rules, found)

pub returns-clause-sound : goal.returns-clause-sound
returns-clause-sound c =
    let last : c.loop-run.run-index ≡ length c.args.runs.now = omega (arith, c.loop-run-test.false) in
    at_last c.args.sought c.args.metrics.now.types c.args.objects.now.items c.args.image.now c.args.object c.elements_repeat.ensures c.layout-layout.ensures.types c.requires.known c.args.runs.now c.requires.runs c.args.element
    (subst (λ i. IsSoundBelow c.args.sought c.args.metrics.now.types c.args.objects.now.items c.args.image.now c.args.object (c.args.element * leaves_of c.args.metrics.now.types c.args.object.ty + begin_of (leaves_of c.args.metrics.now.types c.args.object.ty) c.args.runs.now i)) last c.loop-run.invariant)
