use Rattle.std.proofs.Common.{Result, Ok, Err, OnOk}
use Rattle.porch_names.proofs.objects.declare_variable.Goals as goal

where_ok : {A E P Q : Type 0} (r : Result A E) → (P → Q) → OnOk r P → OnOk r Q
where_ok (Ok x) go h = go h
where_ok (Err e) go h = h

pub returns-clause-declared : goal.returns-clause-declared
returns-clause-declared c = where_ok c.variable.result (λ h. h c.args.name.at) c.variable.ensures.declared
