use Rattle.porch_mean.proofs.Widths.{fewer_mean_the_same}
use Rattle.porch_mean.proofs.laws.fewer_widths_mean_the_same.Goals as goal

pub returns : goal.returns
returns c =
    fewer_mean_the_same (record {
      operators = c.fewer_widths_agree.ensures.operators;
      conversions = c.fewer_widths_agree.ensures.conversions;
      complements = c.fewer_widths_agree.ensures.complements;
    })
