use Rattle.porch_find.specs.inside.Forms.{layout_in}
use Rattle.porch_find.proofs.Spotting.{begin_answers, end_answers}
use Rattle.porch_find.proofs.search.find_in.Goals as goal

pub returns-in-Some-clause-spot : goal.returns-in-Some-clause-spot
returns-in-Some-clause-spot c =
    begin_answers (layout_in c.args.form c.args.metrics.now.layout) c.args.metrics.now.types c.args.root c.args.count c.args.byte c.args.pointee c.in-Some.leaf c.forms_are_measured.ensures c.requires.root c.in-Some.ensures.some

pub returns-in-Some-end_at-clause-spot : goal.returns-in-Some-end_at-clause-spot
returns-in-Some-end_at-clause-spot c =
    end_answers (layout_in c.args.form c.args.metrics.now.layout) c.args.metrics.now.types c.args.root c.args.count c.args.byte c.args.pointee c.in-Some-end_at.leaf c.forms_are_measured.ensures c.requires.root c.in-Some-end_at.ensures.some
