use Rattle.std.proofs.Common.{◌≡◌, ◌+◌, ◌++◌, [], ◌∷◌, List, slice_get, ap, ◌∙◌, subst, sym, arith}
use Rattle.std.proofs.lemmas.Grind.{common_steps}
use Rattle.porch_metrics.specs.Extents.{Extent, extent_of, ucf_layout}
use Rattle.porch_ucf.specs.declared.runs.Run.{Run}
use Rattle.porch_ucf.specs.inside.Runs.{AreRuns}
use Rattle.porch_ucf.proofs.RunByRun.{has_eight}
use Rattle.porch_ucf.proofs.RunsInOrder.{one_more, passed_over}
use Rattle.porch_ucf.proofs.runs.put_stretch.Goals as goal

pub returns-in-None : goal.returns-in-None
returns-in-None c =
    passed_over c.args.sought c.args.metrics.now.types c.args.root c.args.leaf c.args.runs.now.items c.requires.runs c.args.stretch c.requires.stretch c.in-None.ensures.none

pub returns-in_ok-push-in-Some : goal.returns-in_ok-push-in-Some
returns-in_ok-push-in-Some c =
    let types = c.args.metrics.now.types in
    let s = c.args.stretch in
    let test = c.in-Some.test in
    let eight = has_eight (extent_of ucf_layout types) c.args.sought (slice_get types s.ty) test c.in-Some.ensures.test in
    let size : (extent_of ucf_layout types s.ty).size ≡ 8 = ap (λ (e : Extent). e.size) (c.extents_add_up.ensures.parts ucf_layout types s.ty eight.this c.layout-layout.ensures.types eight.is) ∙ eight.eight in
    let run : Run = record { test = test; first = c.args.leaf; len = s.len; place = c.ucf_place-place.result } in
    let more = one_more c.args.sought types c.args.root c.args.leaf c.args.runs.now.items c.requires.runs s c.requires.stretch test c.ucf_place-place.result c.in-Some.ensures.test c.in-Some.ensures.can c.ucf_place-place.ensures.value size in
    let pushed : c.push.new.self.items ≡ c.args.runs.now.items ++ run ∷ [] = grind (arith, common_steps) in
    subst (λ (l : List Run). AreRuns c.args.sought types c.args.root (c.args.leaf + s.len) l) (sym pushed) more
