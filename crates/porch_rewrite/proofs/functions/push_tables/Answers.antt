use Rattle.std.proofs.Common.{◌<◌, ◌≡◌, ◌+◌, ◌-◌, ◌++◌, ◌∷◌, [], arith, ap, sym, ◌∙◌}
use Rattle.porch_flat.specs.declared.whole.Command.TheVariants as command
use Rattle.porch_rewrite.specs.Rewriting.{FIRST_LABEL, tables}
use Rattle.porch_rewrite.proofs.Filling.{one_table}
use Rattle.porch_rewrite.proofs.functions.push_tables.Goals as goal

pub loop-before-preserved : goal.loop-before-preserved
loop-before-preserved c =
    let inside : c.loop-before.before < c.args.count = omega arith in
    let pushed : c.push.new.self ≡ c.loop-before.made ++ command.Table (c.loop-before.before + 1) (FIRST_LABEL + c.loop-before.before) ∷ [] = c.in_ok-push.ensures.ok in
    ap (λ l. l ++ tables (c.loop-before.before + 1) (c.args.count - (c.loop-before.before + 1))) pushed
    ∙ sym (one_table c.loop-before.made c.loop-before.before c.args.count inside) ∙ c.loop-before.invariant
