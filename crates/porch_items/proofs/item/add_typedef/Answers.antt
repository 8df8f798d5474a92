use Rattle.std.proofs.Common.{◌++◌, map, ap, sym, ◌∙◌}
use Rattle.std.proofs.lemmas.List.{append-nil}
use Rattle.porch_tree.specs.Views.{base_of, entry_of}
use Rattle.porch_unit.specs.Units.{typedef_from}
use Rattle.porch_statements.specs.Shown.{items_of}
use Rattle.porch_items.proofs.Results.{when_ok}
use Rattle.porch_items.proofs.Entries.{last_entry}
use Rattle.porch_items.proofs.item.add_typedef.Goals as goal

pub returns-in-None : goal.returns-in-None
returns-in-None c = λ text. sym (append-nil (items_of text c.args.items.now))
    ∙ ap (λ es. (items_of text c.args.items.now) ++ typedef_from (base_of text c.args.base) (map (entry_of text) es)) (sym c.in-None.ensures.0)

pub returns : goal.returns
returns c =
    when_ok c.end_entry.result (λ x h text. h text ∙ ap (λ ts. (items_of text c.args.items.now) ++ ts) (sym (last_entry text (base_of text c.args.base) c.pop.new.self c.in-Some.entry)
    ∙ ap (λ es. typedef_from (base_of text c.args.base) (map (entry_of text) es)) (sym c.in-Some.ensures))) c.end_entry.ensures
