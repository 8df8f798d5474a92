use Rattle.std.proofs.Common.{rules, ◌≡◌, refl, subst, ap, ◌∙◌}
use Rattle.std.specs.List.{flat_map, fold}
use Rattle.std.proofs.lemmas.Result.{IfOk-weaker, MatchResult-weaker}
use Rattle.porch_flat.specs.declared.whole.Sort.TheVariants as sort
use Rattle.porch_ucf.specs.Objects.{single, frame_objects, put_behind}
use Rattle.porch_ucf.specs.inside.Placing.{IsFull}
use Rattle.porch_ucf.proofs.Known.{globals_known_in, frames_known_in}
use Rattle.porch_ucf.proofs.Walks.{singles, three, full_first, full_second, full_third}
use Rattle.porch_ucf.proofs.placing.Placing.put_all.Goals as goal

pub put_globals-requires-clause-known : goal.put_globals-requires-clause-known
put_globals-requires-clause-known c =
    globals_known_in sort.Rewritten c.args.program.now c.requires.valid c.args.metrics.now.types c.requires.types c.as_slice.result.now c.as_slice.ensures

pub put_frames-requires-clause-known : goal.put_frames-requires-clause-known
put_frames-requires-clause-known c =
    frames_known_in sort.Rewritten c.args.program.now c.requires.valid c.args.metrics.now.types c.requires.types c.args.frames.now

pub returns-in_err-put_globals-clause-full : goal.returns-in_err-put_globals-clause-full
returns-in_err-put_globals-clause-full c =
    let types = c.args.metrics.now.types in
    let program = c.args.program.now in
    let a = flat_map (λ g. single g.ty) program.globals in
    let b = flat_map (frame_objects program) c.args.frames.now in
    let p = c.args.self.now in
    let q = fold (put_behind types) p a in
    let here = subst (λ gs. IsFull c.args.most (fold (put_behind types) p (flat_map (λ g. single g.ty) gs)).end c.in_err-put_globals.field-0.0) c.as_slice.ensures c.in_err-put_globals.ensures.full in
    let found = full_first types a b c.args.blocks.now p q (fold (put_behind types) q b) refl c.args.most _ here in
    search (rules, found)

pub returns-in_err-put_frames-clause-full : goal.returns-in_err-put_frames-clause-full
returns-in_err-put_frames-clause-full c =
    let types = c.args.metrics.now.types in
    let program = c.args.program.now in
    let a = flat_map (λ g. single g.ty) program.globals in
    let b = flat_map (frame_objects program) c.args.frames.now in
    let p = c.args.self.now in
    let q = c.put_globals.new.self in
    let first : q ≡ fold (put_behind types) p a = subst (λ gs. q ≡ fold (put_behind types) p (flat_map (λ g. single g.ty) gs)) c.as_slice.ensures c.in_ok-put_globals.ensures.put in
    let found = full_second types a b c.args.blocks.now p q (fold (put_behind types) q b) first c.args.most _ c.in_err-put_frames.ensures.full in
    search (rules, found)

pub returns-clause-put : goal.returns-clause-put
returns-clause-put c =
    let types = c.args.metrics.now.types in
    let program = c.args.program.now in
    let a = flat_map (λ g. single g.ty) program.globals in
    let b = flat_map (frame_objects program) c.args.frames.now in
    let p = c.args.self.now in
    let q = c.put_globals.new.self in
    let r = c.put_frames.new.self in
    let first : q ≡ fold (put_behind types) p a = subst (λ gs. q ≡ fold (put_behind types) p (flat_map (λ g. single g.ty) gs)) c.as_slice.ensures c.in_ok-put_globals.ensures.put in
    let last = three types a b c.args.blocks.now p q r first c.in_ok-put_frames.ensures.put in
    IfOk-weaker c.put_blocks.result _ _ (λ x put. put ∙ ap (fold (put_behind types) r) (singles c.args.blocks.now) ∙ last) c.put_blocks.ensures.put

pub returns-clause-full : goal.returns-clause-full
returns-clause-full c =
    let types = c.args.metrics.now.types in
    let program = c.args.program.now in
    let a = flat_map (λ g. single g.ty) program.globals in
    let b = flat_map (frame_objects program) c.args.frames.now in
    let p = c.args.self.now in
    let q = c.put_globals.new.self in
    let r = c.put_frames.new.self in
    let first : q ≡ fold (put_behind types) p a = subst (λ gs. q ≡ fold (put_behind types) p (flat_map (λ g. single g.ty) gs)) c.as_slice.ensures c.in_ok-put_globals.ensures.put in
    MatchResult-weaker c.put_blocks.result c.put_blocks.ensures.full (λ x u. u)
    (λ fault full. full_third types a b c.args.blocks.now p q r first c.args.most fault c.in_ok-put_frames.ensures.put
    (subst (λ bs. IsFull c.args.most (fold (put_behind types) r bs).end fault) (singles c.args.blocks.now) full))
