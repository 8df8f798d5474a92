use Rattle.porch_live.proofs.comparisons.equal.Goals as goal

pub returns-in-Null : goal.returns-in-Null
returns-in-Null c = rw c.in-Null.is (c.is_null.ensures c.args.types.now c.args.pointee)

pub returns-in-Past : goal.returns-in-Past
returns-in-Past c = rw c.in-Past.is (c.equals_past.ensures c.in-Past.until)
