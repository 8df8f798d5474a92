use Rattle.std.proofs.Common.{refl, sym, ap, ◌∙◌, subst}
use Rattle.porch_layout.specs.declared.layout.Layout.{Layout}
use Rattle.porch_flat.specs.declared.whole.Flat.{Flat}
use Rattle.porch_bytes.specs.State.{Setting, setting_of}
use Rattle.porch_bytes.specs.Fits.{IsSetting}
use Rattle.porch_load.specs.Loaded.{IsGlobalMap}
use Rattle.porch_run.proofs.Loading.{map_of}
use Rattle.porch_run.proofs.prepared.load_program.Goals as goal

pub load-requires-clause-allowed : goal.load-requires-clause-allowed
load-requires-clause-allowed c =
    subst (λ (l : Layout). IsSetting (setting_of l c.args.stack c.args.heap)) (sym c.in_ok-metrics.ensures.layout) c.requires.allowed

pub load-requires-clause-globals : goal.load-requires-clause-globals
load-requires-clause-globals c =
    let on : Setting = setting_of c.in_ok-metrics.metrics.layout c.args.stack c.args.heap in
    subst (λ (f : Flat). IsGlobalMap f on c.in_ok-globals.globals) c.flat.ensures.same
    (c.in_ok-globals.ensures on (record { types_are = c.in_ok-metrics.ensures.types ∙ ap (λ (f : Flat). f.types) (sym c.flat.ensures.same); layout_is = refl }))

pub returns-clause-globals : goal.returns-clause-globals
returns-clause-globals c =
    let on : Setting = setting_of c.in_ok-metrics.metrics.layout c.args.stack c.args.heap in
    map_of c.in_ok-loaded.loaded c.args.program c.in_ok-metrics.metrics c.args.stack c.args.heap c.in_ok-globals.globals c.in_ok-loaded.ensures.program c.in_ok-loaded.ensures.metrics
    c.in_ok-loaded.ensures.stack c.in_ok-loaded.ensures.heap
    (subst (λ (f : Flat). IsGlobalMap f on c.in_ok-globals.globals) c.flat.ensures.same
    (c.in_ok-globals.ensures on (record { types_are = c.in_ok-metrics.ensures.types ∙ ap (λ (f : Flat). f.types) (sym c.flat.ensures.same); layout_is = refl })))
