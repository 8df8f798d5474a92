use Rattle.std.proofs.Common.{[], ◌∷◌, ◌++◌, rules}
use Rattle.porch_flat.specs.whole.Lines.{function_line, var_lines}
use Rattle.porch_flat.specs.whole.Search.{first_rule}
use Rattle.porch_flat.specs.inside.Walks.{body_part}
use Rattle.porch_flat.proofs.Walked.{passes_both, fault_behind}
use Rattle.porch_flat.proofs.whole.walk.walk_function.Goals as goal

pub returns-in_err-begin : goal.returns-in_err-begin
returns-in_err-begin c =
    let f = c.args.f.now in
    let found = fault_behind (first_rule c.args.sort c.args.flat.now) c.args.line c.in_ok-first.first (function_line c.args.number f ∷ []) (var_lines f 0 f.vars) (body_part f) _ c.in_ok-first.ensures c.in_err-begin.ensures in
    search (rules, found)

pub returns : goal.returns
returns c =
    let f = c.args.f.now in
    let test = first_rule c.args.sort c.args.flat.now in
    passes_both test c.args.line c.in_ok-first.first (function_line c.args.number f ∷ []) (var_lines f 0 f.vars ++ body_part f) _ c.in_ok-first.ensures
    (passes_both test c.in_ok-first.first c.in_ok-begin.begin (var_lines f 0 f.vars) (body_part f) _ c.in_ok-begin.ensures c.pass_body.ensures)
