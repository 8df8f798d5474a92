use Rattle.std.proofs.Common.{◌≡◌, ◌++◌, ◌-◌}
use Rattle.porch_rewrite.specs.Rewriting as rewriting
use Rattle.porch_rewrite.proofs.functions.push_tables.Given as goal

-- what stands so far and the tables that are left are the whole
abbrev pub invariant-loop-before : goal.invariant-loop-before
invariant-loop-before l = l.made ++ rewriting.tables l.before (l.count - l.before) ≡ l.fn.made ++ rewriting.tables 0 l.count
