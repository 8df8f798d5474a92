use Rattle.porch_objects.specs.Meaning.{without_input}
use Rattle.porch_abstract.proofs.Steps.{ints_of_valid, labels_of_main}
use Rattle.porch_abstract.proofs.Fitting.{begun_answers, begun_frames, begun_continues, running_answers, running_frames, running_continues}
use Rattle.porch_abstract.proofs.machine.Abstract.step.Goals as goal

pub proceed-requires-clause-labels : goal.proceed-requires-clause-labels
proceed-requires-clause-labels c =
    let e = c.main-in-Running.ensures in
    let is = ints_of_valid c.args.program.now c.main-in-Running.result.now e.valid e.only e.main in
    let fits = rw (← c.self.view_is) at c.requires.fits in
    labels_of_main c.args.program.now c.main-in-Running.result.now c.self.inside.labels is fits.labels

pub returns-in-Begun-clause-steps : goal.returns-in-Begun-clause-steps
returns-in-Begun-clause-steps c =
    let e = c.main.ensures in
    let is = ints_of_valid c.args.program.now c.main.result.now e.valid e.only e.main in
    rw (← c.self.view_is)
    (begun_answers c.args.program.now c.main.result.now is c.self.inside.run c.enter.new.self c.enter.result c.len.result c.len.ensures (without_input c.self.inside.widths) c.in-Begun.is c.enter.ensures.went)

pub returns-in-Begun-clause-fits : goal.returns-in-Begun-clause-fits
returns-in-Begun-clause-fits c =
    let e = c.main.ensures in
    let is = ints_of_valid c.args.program.now c.main.result.now e.valid e.only e.main in
    let fits = rw (← c.self.view_is) at c.requires.fits in
    record {
      labels = fits.labels;
      frames = begun_frames c.args.program.now c.main.result.now is c.self.inside.run c.enter.new.self c.enter.result c.len.result c.len.ensures fits.frames c.enter.ensures.went;
    }

pub returns-in-Running-clause-steps : goal.returns-in-Running-clause-steps
returns-in-Running-clause-steps c =
    let e = c.main-in-Running.ensures in
    let is = ints_of_valid c.args.program.now c.main-in-Running.result.now e.valid e.only e.main in
    let fits = rw (← c.self.view_is) at c.requires.fits in
    rw (← c.self.view_is)
    (running_answers c.args.program.now (without_input c.self.inside.widths) c.main-in-Running.result.now is c.self.inside.labels fits.labels c.self.inside.run c.proceed.new.self c.proceed.result c.in-Running.is c.proceed.ensures.led)

pub returns-in-Running-clause-fits : goal.returns-in-Running-clause-fits
returns-in-Running-clause-fits c =
    let e = c.main-in-Running.ensures in
    let is = ints_of_valid c.args.program.now c.main-in-Running.result.now e.valid e.only e.main in
    let fits = rw (← c.self.view_is) at c.requires.fits in
    record {
      labels = fits.labels;
      frames = running_frames c.args.program.now (without_input c.self.inside.widths) c.main-in-Running.result.now is c.self.inside.labels fits.labels c.self.inside.run c.proceed.new.self c.proceed.result c.in-Running.is
          fits.frames c.proceed.ensures.led;
    }

pub returns-in-Begun-clause-goes_on : goal.returns-in-Begun-clause-goes_on
returns-in-Begun-clause-goes_on c =
    let e = c.main.ensures in
    let is = ints_of_valid c.args.program.now c.main.result.now e.valid e.only e.main in
    begun_continues c.args.program.now c.main.result.now is c.self.inside.run c.enter.new.self c.enter.result c.len.result c.len.ensures c.enter.ensures.went

pub returns-in-Running-clause-goes_on : goal.returns-in-Running-clause-goes_on
returns-in-Running-clause-goes_on c =
    let e = c.main-in-Running.ensures in
    let is = ints_of_valid c.args.program.now c.main-in-Running.result.now e.valid e.only e.main in
    let fits = rw (← c.self.view_is) at c.requires.fits in
    running_continues c.args.program.now (without_input c.self.inside.widths) c.main-in-Running.result.now is c.self.inside.labels fits.labels c.self.inside.run c.proceed.new.self c.proceed.result c.in-Running.is fits.frames
    c.proceed.ensures.led
