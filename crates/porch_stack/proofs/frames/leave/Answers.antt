use Rattle.std.proofs.Common.{refl, ap, ◌∙◌, arith}
use Rattle.std.specs.Prelude.{Vec, vec_capacity}
use Rattle.std.specs.declared.alloc.Global.{Global}
use Rattle.porch_operations.specs.Operations.{work}
use Rattle.porch_stack.specs.declared.spot.Held.{Held}
use Rattle.porch_stack.proofs.Leaving.{caller_within, caller_has, caller_lies, back_column, back_stands}
use Rattle.porch_stack.proofs.frames.leave.Goals as goal

pub return_value-requires-clause-within : goal.return_value-requires-clause-within
return_value-requires-clause-within c =
    caller_within c.args.loaded.now c.requires.loaded c.args.spot.now _ c.requires.stage c.requires.stands c.args.value c.in-Some.caller c.pop.new.self.items c.in-Some.ensures.items

pub return_value-requires-clause-has : goal.return_value-requires-clause-has
return_value-requires-clause-has c =
    caller_has c.args.loaded.now c.requires.loaded c.args.spot.now _ c.requires.stage c.requires.stands c.args.value c.in-Some.caller c.pop.new.self.items c.in-Some.ensures.items

pub return_value-requires-clause-lies : goal.return_value-requires-clause-lies
return_value-requires-clause-lies c =
    caller_lies c.args.loaded.now c.requires.loaded c.args.spot.now _ c.requires.stage c.requires.stands c.args.value c.in-Some.caller c.pop.new.self.items c.in-Some.ensures.items
    c.args.memory.now refl

pub returns-in-Some-clause-column : goal.returns-in-Some-clause-column
returns-in-Some-clause-column c =
    λ heap shown.
    back_column c.args.loaded.now c.requires.loaded c.args.spot.now _ c.requires.stage c.requires.stands c.args.value c.in-Some.caller c.pop.new.self.items c.in-Some.ensures.items
    c.go_back.new.spot (c.go_back.ensures.stage ∙ c.requires.stage) c.go_back.ensures.frame (ap (λ (v : Vec Held Global). v.items) c.go_back.ensures.callers) (work c.args.memory.now heap shown)
    c.return_value.new.memory c.go_back.ensures.turns c.return_value.ensures.memory

pub returns-in-Some-clause-stands : goal.returns-in-Some-clause-stands
returns-in-Some-clause-stands c =
    rw c.return_value.ensures.length
    (back_stands c.args.loaded.now c.requires.loaded c.args.spot.now _ c.requires.stage c.requires.stands c.args.value c.in-Some.caller c.pop.new.self.items c.in-Some.ensures.items
    c.go_back.new.spot (c.go_back.ensures.stage ∙ c.requires.stage) c.go_back.ensures.frame (ap (λ (v : Vec Held Global). v.items) c.go_back.ensures.callers) c.go_back.ensures.here
    (omega (arith, c.in-Some.ensures.capacity, ap (λ (v : Vec Held Global). vec_capacity v) c.go_back.ensures.callers)))
