-- What holds of a result holds of it with more that follows.
use Rattle.std.proofs.Common.{Result, Ok, Err, IfOk}

pub when_ok : {A E : Type 0} {P Q : A → Type 0} (r : Result A E) → ((x : A) → P x → Q x) → IfOk r P → IfOk r Q
when_ok (Ok x) f h = f x h
when_ok (Err e) f h = tt
