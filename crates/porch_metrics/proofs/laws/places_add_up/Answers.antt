use Rattle.porch_metrics.proofs.Counted.{counted}
use Rattle.porch_metrics.proofs.RowPlaces.{row_stands, element_begins, subobject_leaf, member_first}
use Rattle.porch_metrics.proofs.laws.places_add_up.Goals as goal

pub returns-clause-leaves : goal.returns-clause-leaves
returns-clause-leaves c = λ l types root count ty first len leaf is are known row lt. (row_stands l types root count ty first len is (counted types are c.leaves_add_up.ensures.together c.leaves_add_up.ensures.some) known row).leaves leaf lt

pub returns-clause-elements : goal.returns-clause-elements
returns-clause-elements c = λ l types root count ty first len k is are known row lt.
    let formed = (counted types are c.leaves_add_up.ensures.together c.leaves_add_up.ensures.some) in
    element_begins l types root count ty first len k is formed (row_stands l types root count ty first len is formed known row) lt

pub returns-clause-subobjects : goal.returns-clause-subobjects
returns-clause-subobjects c = λ l types root count place ty leaf is are known sub lt. subobject_leaf l types root count place ty leaf is (counted types are c.leaves_add_up.ensures.together c.leaves_add_up.ensures.some) known sub lt

pub returns-clause-members : goal.returns-clause-members
returns-clause-members c = λ l types ty i m members is are at at_i. member_first l types ty i m members is (counted types are c.leaves_add_up.ensures.together c.leaves_add_up.ensures.some) at at_i
