use Rattle.porch_live.specs.Views.{home_of}
use Rattle.porch_live.proofs.Refused.{leaf_set, leaf_same}
use Rattle.porch_live.proofs.store.Store.set_leaf.Goals as goal

pub returns-clause-set : goal.returns-clause-set
returns-clause-set c = leaf_set c.args.self.now c.edit.new.self (home_of c.args.home) c.args.leaf c.args.value c.edit.result c.edit.ensures

pub returns-clause-same : goal.returns-clause-same
returns-clause-same c = leaf_same c.args.self.now c.edit.new.self (home_of c.args.home) c.args.leaf c.args.value c.edit.result c.edit.ensures
