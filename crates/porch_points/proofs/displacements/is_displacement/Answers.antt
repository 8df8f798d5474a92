use Rattle.std.proofs.Common.{refl, sym, subst, arith}
use Rattle.porch_points.specs.Displacements.{IsDisplacement, null, dead, spot}
use Rattle.porch_points.proofs.Displacing.{has_to_name, two_at_least}
use Rattle.porch_points.proofs.displacements.is_displacement.Goals as goal

pub returns-then-word-eq0 : goal.returns-then-word-eq0
returns-then-word-eq0 c = (λ yes. subst (IsDisplacement c.args.metrics.now.types c.args.places.now.items c.args.pointee) (sym c.if-word-eq0.true) null, λ h. refl)

pub returns-then-word-eq-DEAD : goal.returns-then-word-eq-DEAD
returns-then-word-eq-DEAD c = (λ yes. subst (IsDisplacement c.args.metrics.now.types c.args.places.now.items c.args.pointee) (sym c.if-word-eq-DEAD.true) dead, λ h. refl)

pub returns-then-word-eq1 : goal.returns-then-word-eq1
returns-then-word-eq1 c = (
  λ yes. cc,
  λ h. absurd (omega (
    arith,
    c.if-word-eq1.true,
    two_at_least c.args.metrics.now.types c.args.places.now.items c.args.pointee c.args.word
        (has_to_name c.args.metrics.now.types c.args.places.now.items c.args.pointee c.args.word c.if-word-eq0.false c.if-word-eq-DEAD.false h),
  )),
)

pub returns : goal.returns
returns c = (
  λ yes. spot (c.names_spot.ensures.0 yes),
  λ h. c.names_spot.ensures.1 (has_to_name c.args.metrics.now.types c.args.places.now.items c.args.pointee c.args.word c.if-word-eq0.false c.if-word-eq-DEAD.false h),
)
