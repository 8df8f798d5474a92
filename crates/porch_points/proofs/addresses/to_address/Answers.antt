use Rattle.std.proofs.Common.{Some, ap}
use Rattle.porch_metrics.specs.Extents.{ucf_layout}
use Rattle.porch_points.specs.Words.{spot_address}
use Rattle.porch_points.proofs.Naming.{EndInside, none_some, some_one}
use Rattle.porch_points.proofs.Addressing.{dead_answers, not_bad, ok_at, ok_one, one_names_none, only_named, zero_answers}
use Rattle.porch_points.proofs.addresses.to_address.Goals as goal

pub returns-then-word-eq0 : goal.returns-then-word-eq0
returns-then-word-eq0 c = zero_answers c.args.metrics.now.layout c.args.metrics.now.types c.args.plan.now.addresses.items c.args.plan.now.places.items c.args.pointee c.args.word c.if-word-eq0.true

pub returns-then-word-eq-DEAD : goal.returns-then-word-eq-DEAD
returns-then-word-eq-DEAD c =
    let law : EndInside ucf_layout c.args.metrics.now.types = λ root count pointee leaf. c.subobjects_end_inside.ensures ucf_layout c.args.metrics.now.types root count pointee leaf c.ucf_is_a_layout.ensures c.layout-layout.ensures.types in
    dead_answers c.args.metrics.now.layout c.args.metrics.now.types c.args.plan.now.addresses.items c.args.plan.now.places.items c.args.pointee c.args.word law c.requires.plan c.if-word-eq-DEAD.true

pub returns-in-Some : goal.returns-in-Some
returns-in-Some c = λ address.
    let found = c.in-Some.address in (
      λ e. spot_address ((c.in-Some.ensures address).0 (ap Some (ok_one found address e))),
      λ h. ap ok_at (some_one found address ((c.in-Some.ensures address).1
          (only_named c.args.metrics.now.layout c.args.metrics.now.types c.args.plan.now.addresses.items c.args.plan.now.places.items c.args.pointee c.args.word address c.if-word-eq0.false c.if-word-eq-DEAD.false h))),
    )

pub returns-in-None : goal.returns-in-None
returns-in-None c = λ address. (
  λ e. absurd (not_bad address e),
  λ h. absurd (none_some address ((c.in-None.ensures address).1
      (only_named c.args.metrics.now.layout c.args.metrics.now.types c.args.plan.now.addresses.items c.args.plan.now.places.items c.args.pointee c.args.word address c.if-word-eq0.false c.if-word-eq-DEAD.false h))),
)

pub returns-then-word-eq1 : goal.returns-then-word-eq1
returns-then-word-eq1 c = λ address. (
  λ e. absurd (not_bad address e),
  λ h. absurd (one_names_none c.args.metrics.now.layout c.args.metrics.now.types c.args.plan.now.addresses.items c.args.plan.now.places.items c.args.pointee c.args.word address c.if-word-eq1.true c.if-word-eq0.false c.if-word-eq-DEAD.false h),
)
