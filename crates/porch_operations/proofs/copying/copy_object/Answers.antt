use Rattle.std.proofs.Common.{◌≡◌, ℕ, suc, ◌+◌, ◌-◌, List, sym, ap, ◌∙◌, arith}
use Rattle.porch_types.specs.declared.shapes.Ty.{Ty}
use Rattle.porch_types.specs.Leaves.{leaves_of}
use Rattle.porch_operations.specs.Operations.{with_leaves_of}
use Rattle.porch_operations.proofs.copying.copy_object.Goals as goal

pub loop-leaf-preserved : goal.loop-leaf-preserved
loop-leaf-preserved c =
    let left : c.leaves-count.result - c.loop-leaf.leaf ≡ suc (c.leaves-count.result - (c.loop-leaf.leaf + 1)) = omega (arith, c.loop-leaf-test.true) in
    ap (λ (m : List ℕ). with_leaves_of c.args.metrics.now c.args.ty c.args.to c.args.from (c.loop-leaf.leaf + 1) (c.leaves-count.result - (c.loop-leaf.leaf + 1)) m) c.copy_leaf.ensures.memory
    ∙ ap (λ (k : ℕ). with_leaves_of c.args.metrics.now c.args.ty c.args.to c.args.from c.loop-leaf.leaf k c.loop-leaf.memory) (sym left)
    ∙ c.loop-leaf.invariant

pub returns-clause-memory : goal.returns-clause-memory
returns-clause-memory c =
    let none : c.leaves-count.result - c.loop-leaf.leaf ≡ 0 = omega (arith, c.loop-leaf-test.false) in
    ap (λ (k : ℕ). with_leaves_of c.args.metrics.now c.args.ty c.args.to c.args.from c.loop-leaf.leaf k c.loop-leaf.memory) (sym none)
    ∙ c.loop-leaf.invariant
    ∙ ap (λ (n : ℕ). with_leaves_of c.args.metrics.now c.args.ty c.args.to c.args.from 0 n c.args.memory.now) c.leaves-count.ensures.value
    ∙ ap (λ (types : List Ty). with_leaves_of c.args.metrics.now c.args.ty c.args.to c.args.from 0 (leaves_of types c.args.ty) c.args.memory.now) c.types.ensures
