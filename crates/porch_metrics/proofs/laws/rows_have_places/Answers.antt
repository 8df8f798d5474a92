use Rattle.porch_metrics.proofs.Counted.{counted}
use Rattle.porch_metrics.proofs.RowPlaces.{row_stands, placed_is}
use Rattle.porch_metrics.proofs.laws.rows_have_places.Goals as goal

pub returns-clause-each : goal.returns-clause-each
returns-clause-each c = λ l types root count ty first len is are known row. (row_stands l types root count ty first len is (counted types are c.leaves_add_up.ensures.together c.leaves_add_up.ensures.some) known row).placed

pub returns-clause-only : goal.returns-clause-only
returns-clause-only c = λ l types root count ty first len place is are known row. placed_is l types root count ty first len place is (counted types are c.leaves_add_up.ensures.together c.leaves_add_up.ensures.some) known row
