use Rattle.std.proofs.Common.{◌++◌, drop, rules}
use Rattle.porch_flat.specs.whole.Lines.{type_lines, global_lines, function_lines}
use Rattle.porch_flat.specs.whole.Search.{first_rule}
use Rattle.porch_flat.proofs.Walked.{fault_behind, fault_in, passes_both}
use Rattle.porch_flat.proofs.whole.walk.pass_lines.Goals as goal

pub returns-in_err-first_global : goal.returns-in_err-first_global
returns-in_err-first_global c =
    let flat = c.args.flat.now in
    let found = fault_in (first_rule c.args.sort flat) 3 (type_lines 8 (drop 8 flat.types)) (global_lines 0 flat.globals ++ function_lines 0 flat.functions) _ c.in_err-first_global.ensures in
    search (rules, found)

pub returns-in_err-first_function : goal.returns-in_err-first_function
returns-in_err-first_function c =
    let flat = c.args.flat.now in
    let found = fault_behind (first_rule c.args.sort flat) 3 c.in_ok-first_global.first_global (type_lines 8 (drop 8 flat.types)) (global_lines 0 flat.globals) (function_lines 0 flat.functions) _ c.in_ok-first_global.ensures c.in_err-first_function.ensures in
    search (rules, found)

pub returns : goal.returns
returns c =
    let flat = c.args.flat.now in
    let test = first_rule c.args.sort flat in
    passes_both test 3 c.in_ok-first_global.first_global (type_lines 8 (drop 8 flat.types)) (global_lines 0 flat.globals ++ function_lines 0 flat.functions) _ c.in_ok-first_global.ensures
    (passes_both test c.in_ok-first_global.first_global c.in_ok-first_function.first_function (global_lines 0 flat.globals) (function_lines 0 flat.functions) _ c.in_ok-first_function.ensures c.walk_functions.ensures)
