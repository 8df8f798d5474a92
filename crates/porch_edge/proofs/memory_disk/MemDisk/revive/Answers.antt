use Rattle.std.proofs.Common.{◌≤◌, ◌^◌, List, ℕ, length, reverse, sym, subst, arith}
use Rattle.porch_edge.specs.declared.disk.FileName.{FileName}
use Rattle.porch_edge.specs.Files.{file_of}
use Rattle.porch_edge.specs.Calls.{FileLeaves}
use Rattle.porch_edge.specs.inside.Kept.{Kept, last_moment}
use Rattle.porch_edge.specs.declared.memory_calls.Call.{Call}
use Rattle.porch_edge.proofs.Picks.{revived_leaves, revived_within}
use Rattle.porch_edge.proofs.memory_disk.MemDisk.revive.Goals as goal

pub invariant_of-result : goal.invariant_of-result
invariant_of-result c =
    let within = λ (file : FileName). subst (λ (l : List ℕ). length l ≤ 2 ^ 62) (sym (c.crash.ensures file))
    (revived_within c.args.self.plan.stopped file (file_of file c.args.self.files) (reverse c.args.self.calls.items) (c.args.self.kept.each file) (c.args.self.kept.within file)) in
    record {
      kept = subst (λ (l : List Call). Kept c.crash.new.files (reverse l)) (sym c.new.ensures.items) (record { within = within; each = λ file. tt });
      past = subst (λ (l : List Call). last_moment (reverse l) ≤ 0) (sym c.new.ensures.items) (omega arith);
    }

pub returns-clause-leaves : goal.returns-clause-leaves
returns-clause-leaves c = λ file. subst (λ (l : List ℕ). FileLeaves file (file_of file c.args.self.files) (reverse c.args.self.calls.items) l) (sym (c.crash.ensures file))
    (revived_leaves c.args.self.plan.stopped file (file_of file c.args.self.files) (reverse c.args.self.calls.items) (c.args.self.kept.each file))
