use Rattle.std.proofs.Common.{sym, subst, ◌∙◌}
use Rattle.porch_items.specs.inside.Reading.{AreTypes}
use Rattle.porch_items.proofs.Results.{when_ok}
use Rattle.porch_items.proofs.Readings.{learned_behind}
use Rattle.porch_items.proofs.typedef.learn.Goals as goal

pub returns-then-is_behind_typedef : goal.returns-then-is_behind_typedef
returns-then-is_behind_typedef c =
    let behind = sym (c.is_behind_typedef.ensures c.args.text.now c.args.builder.now) ∙ c.if-is_behind_typedef.true in
    let last = rw c.as_slice.ensures at c.learn_last.ensures in
    when_ok c.learn_last.result (λ x h names are. subst (λ types. AreTypes c.learn_last.new.types.keys types)
    (sym (learned_behind c.args.text.now names c.args.builder.now c.args.point.now behind)) (h names are)) last
