-- What stands so far, and the parts that are left, are the whole.
use Rattle.std.proofs.Common.{◌≡◌, ◌++◌, map, drop}
use Rattle.porch_typed.specs.Views.{entry_of, statement_of}
use Rattle.porch_check.specs.Sealing.{sealed_entry, sealed_statement}
use Rattle.porch_sealing.specs.Numbers.{last_in}
use Rattle.porch_sealed.proofs.statement.+statements.Given as goal

abbrev pub invariant-put_statements-loop-s : goal.invariant-put_statements-loop-s
invariant-put_statements-loop-s l =
    map statement_of l.out ++ map (sealed_statement (last_in l.fn.numbers)) (map statement_of (drop l.s-index l.ss))
    ≡ map statement_of l.fn.out ++ map (sealed_statement (last_in l.fn.numbers)) (map statement_of l.ss)

abbrev pub invariant-put_entries-loop-x : goal.invariant-put_entries-loop-x
invariant-put_entries-loop-x l =
    map entry_of l.out ++ map (sealed_entry (last_in l.fn.numbers)) (map entry_of (drop l.x-index l.xs))
    ≡ map entry_of l.fn.out ++ map (sealed_entry (last_in l.fn.numbers)) (map entry_of l.xs)
