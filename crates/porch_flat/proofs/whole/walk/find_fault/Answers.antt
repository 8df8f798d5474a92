use Rattle.std.proofs.Common.{◌≡◌, false, rules, arith, ◌∙◌, sym}
use Rattle.porch_flat.specs.whole.Lines.{lines_of}
use Rattle.porch_flat.specs.whole.Rules.{has_main}
use Rattle.porch_flat.specs.whole.Search.{first_rule, main_fault}
use Rattle.porch_flat.proofs.Walked.{fault_before, found_behind, main_fault_at}
use Rattle.porch_flat.proofs.whole.walk.find_fault.Goals as goal

pub returns-in_err-line : goal.returns-in_err-line
returns-in_err-line c =
    let flat = c.args.flat.now in
    let found = fault_before (first_rule c.args.sort flat) 3 (lines_of flat) (main_fault flat) _ c.in_err-line.ensures in
    search (rules, found)

pub returns-else-has_main : goal.returns-else-has_main
returns-else-has_main c =
    let flat = c.args.flat.now in
    let no_main : has_main flat ≡ false = sym c.has_main.ensures ∙ c.if-has_main.false in
    found_behind (first_rule c.args.sort flat) 3 (lines_of flat) (main_fault flat) c.in_ok-line.ensures.0
    ∙ main_fault_at flat c.in_ok-line.line no_main (omega (arith, c.in_ok-line.ensures.1))
