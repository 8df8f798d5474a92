use Rattle.std.proofs.Common.{◌∙◌, sym, subst}
use Rattle.std.specs.Option.{option_to_list}
use Rattle.porch_live.specs.inside.Entries.{IsRising, IsBelow}
use Rattle.porch_live.proofs.Stacked.{stacked_front, rising_front, below_front}
use Rattle.porch_live.proofs.entries.remove_last.Goals as goal

pub returns-clause-calls : goal.returns-clause-calls
returns-clause-calls c =
    stacked_front c.args.entries.now.items c.pop.new.self.items c.pop.result c.pop.ensures.items
    (λ e. let h = rw e at c.pop.ensures.cases in sym c.args.entries.now.ok.0 ∙ h.0)

pub returns-clause-rising : goal.returns-clause-rising
returns-clause-rising c = λ low rising.
    rising_front low c.pop.new.self.items (option_to_list c.pop.result) (subst (IsRising low) c.pop.ensures.items rising)

pub returns-clause-below : goal.returns-clause-below
returns-clause-below c = λ high below.
    below_front high c.pop.new.self.items (option_to_list c.pop.result) (subst (IsBelow high) c.pop.ensures.items below)
