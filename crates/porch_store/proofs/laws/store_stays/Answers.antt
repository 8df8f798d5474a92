use Rattle.porch_store.proofs.Spared.{knows_still, fills_still}
use Rattle.porch_store.proofs.laws.store_stays.Goals as goal

pub returns-clause-ready : goal.returns-clause-ready
returns-clause-ready g c = λ store s t ready a b. knows_still (g.D.Disk.state s) (g.D.Disk.state t) a b store.newest store.number ready

pub returns-clause-filling : goal.returns-clause-filling
returns-clause-filling g c = λ store s t ready a b. fills_still (g.D.Disk.state s) (g.D.Disk.state t) a b store.newest store.number store.begun store.appended ready
