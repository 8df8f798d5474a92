use Rattle.porch_sealing.specs.Numbers.{last_in}
use Rattle.porch_sealed.proofs.Statements.{all_entries, all_statements}
use Rattle.porch_sealed.proofs.statement.+statements.Goals as goal

pub sealed_statements-returns : goal.sealed_statements-returns
sealed_statements-returns t c =
    all_statements (last_in c.args.numbers.now) c.args.ss.now c.new-out.result c.put_statements.new.out c.new-out.ensures c.in_ok-put_statements.ensures

pub sealed_entries-returns : goal.sealed_entries-returns
sealed_entries-returns t c =
    all_entries (last_in c.args.numbers.now) c.args.xs.now c.new-out.result c.put_entries.new.out c.new-out.ensures c.in_ok-put_entries.ensures
