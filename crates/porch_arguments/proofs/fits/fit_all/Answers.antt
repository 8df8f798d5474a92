use Rattle.std.proofs.Common.{map, drop, sym, ◌∙◌}
use Rattle.std.specs.Prelude.{reverse}
use Rattle.porch_typed.specs.Views.{expression_of}
use Rattle.porch_check.specs.Calls.{fitted_all}
use Rattle.porch_arguments.specs.Views.{as_valued}
use Rattle.porch_arguments.proofs.Fitted.{kept, all_had, none_had}
use Rattle.porch_arguments.proofs.fits.fit_all.Goals as goal

pub returns-in-None-clause-made : goal.returns-in-None-clause-made
returns-in-None-clause-made g c =
    sym c.loop-param.invariant
    ∙ none_had (map expression_of c.loop-param.fitted) (drop c.loop-param.param-index c.args.params.now) c.loop-param.turned
    (g.T.Table.scopes c.args.table.now) c.in-None.ensures.0

pub loop-param-preserved : goal.loop-param-preserved
loop-param-preserved g c =
    kept c.loop-param.fitted c.push.new.self c.in_ok-fit_value-in-Some.field-0 c.args.params.now c.loop-param.param-index
    c.loop-param.turned c.pop.new.self c.in-Some.value (g.T.Table.scopes c.args.table.now)
    (fitted_all c.args.params.now (map as_valued c.args.values) (g.T.Table.scopes c.args.table.now))
    c.in_ok-push-in-Some.ensures.ok c.in-Some.ensures c.loop-param-test.true c.in_ok-fit_value-in-Some.ensures.made
    c.loop-param.invariant

pub returns-clause-made : goal.returns-clause-made
returns-clause-made g c =
    sym c.loop-param.invariant
    ∙ all_had (map expression_of c.loop-param.fitted) c.args.params.now c.loop-param.param-index
    (map as_valued (reverse c.loop-param.turned)) (g.T.Table.scopes c.args.table.now) c.loop-param-test.false
