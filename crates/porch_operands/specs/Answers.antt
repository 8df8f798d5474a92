-- How answers are said.
use Rattle.std.specs.Prelude.{Result, Ok, Err}
use Rattle.porch_lex.specs.declared.refusal.Refusal.{Refusal}

-- an answer of the code, as what the definition has in its place
abbrev pub answered : {A B : Type 0} → (A → B) → Result A Refusal → Result B Refusal
answered f (Ok x) = Ok (f x)
answered f (Err r) = Err r
