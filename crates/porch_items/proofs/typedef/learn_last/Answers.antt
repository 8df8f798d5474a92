use Rattle.std.proofs.Common.{sym, subst}
use Rattle.porch_items.specs.inside.Reading.{AreTypes}
use Rattle.porch_items.proofs.Results.{when_ok}
use Rattle.porch_items.proofs.Typedefs.{last_learned}
use Rattle.porch_items.proofs.typedef.learn_last.Goals as goal

pub returns-in-len1-up : goal.returns-in-len1-up
returns-in-len1-up c =
    when_ok c.learn_item.result (λ x h names are. subst (λ learned. AreTypes c.learn_item.new.types.keys learned)
    (sym (last_learned c.args.text.now names c.args.items.now c.item-item.result c.in-len1-up.len_at_least c.item-item.is)) (h names are)) c.learn_item.ensures
