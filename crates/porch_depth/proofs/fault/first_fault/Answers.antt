use Rattle.std.proofs.Common.{◌∙◌}
use Rattle.porch_lex.specs.Words.{spelled}
use Rattle.porch_depth.proofs.Nesting.{Laws, found_as}
use Rattle.porch_depth.proofs.Faults.{fault_is}
use Rattle.porch_depth.proofs.fault.first_fault.Goals as goal

pub returns-in-Some : goal.returns-in-Some
returns-in-Some c =
    let laws : Laws = record { units = c.each_unit_shows_its_uses.ensures; had = c.what_is_shown_is_had.ensures } in
    let e = fault_is c.args.text.now c.args.tokens.now _ _ _ _ c.in_ok-wrong.ensures.exact c.read_part.ensures c.in_ok-token.ensures c.in-Some.is in
    record {
      exact = e;
      first = found_as laws (spelled c.args.text.now c.args.tokens.now) _ _ c.in_ok-wrong.ensures.exact c.in_ok-wrong.ensures.first e;
    }

pub returns-in-None : goal.returns-in-None
returns-in-None c =
    let laws : Laws = record { units = c.each_unit_shows_its_uses.ensures; had = c.what_is_shown_is_had.ensures } in
    let e = c.told.ensures ∙ fault_is c.args.text.now c.args.tokens.now _ _ _ _ c.in_ok-wrong.ensures.exact c.read_part.ensures c.in_ok-token.ensures c.in-None.is in
    record {
      exact = e;
      first = found_as laws (spelled c.args.text.now c.args.tokens.now) _ _ c.in_ok-wrong.ensures.exact c.in_ok-wrong.ensures.first e;
    }
