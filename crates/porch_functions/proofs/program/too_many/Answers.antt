use Rattle.std.proofs.Common.{◌≡◌, ◌+◌, drop, get_or, Ok, refl, sym, ap, ◌∙◌, arith}
use Rattle.porch_typed.specs.declared.typed.GlobalVariable.{GlobalVariable}
use Rattle.porch_check.specs.Shapes.{size_of}
use Rattle.porch_check.specs.Units.{if_few_leaves}
use Rattle.porch_functions.proofs.Sums.{few_more, no_entries}
use Rattle.porch_functions.proofs.program.too_many.Goals as goal

pub loop-i-preserved : goal.loop-i-preserved
loop-i-preserved c =
    let gs = c.args.globals.now in
    let ats = c.args.entries.now in
    let s = c.args.shapes.now in
    let g : GlobalVariable = get_or gs c.loop-i.i c.index-globals-i.result in
    let there : g ≡ get_or gs c.loop-i.i g = ap (get_or gs c.loop-i.i) c.index-globals-i.is in
    let sum : c.saturating_add-leaves.result ≡ c.loop-i.before + c.size.result = omega (arith, c.saturating_add-leaves.ensures) in
    let all : c.saturating_add-leaves.result ≡ c.loop-i.before + size_of s g.ty =
    sum ∙ ap (λ n. c.loop-i.before + n) c.size.ensures in
    record {
      within = omega arith;
      same = λ p.
          ap (λ n. if_few_leaves s (drop (c.loop-i.i + 1) gs) (drop (c.loop-i.i + 1) ats) n (Ok p)) all
          ∙ few_more s gs ats c.loop-i.i g (get_or ats c.loop-i.i 0) c.loop-i.before (Ok p)
          (omega arith) (omega arith) there refl (omega arith)
          ∙ c.loop-i.invariant.same p;
    }

pub returns-else-i-entries : goal.returns-else-i-entries
returns-else-i-entries c = λ p.
    sym (c.loop-i.invariant.same p)
    ∙ no_entries c.args.shapes.now c.args.globals.now c.args.entries.now c.loop-i.i c.loop-i.before (Ok p) (omega arith)
