use Rattle.std.proofs.Common.{◌+◌, ◌-◌, List, ℕ, sym, ap, ◌∙◌}
use Rattle.porch_objects.specs.Store.{seen}
use Rattle.porch_objects.specs.Pointers.{text_from}
use Rattle.porch_live.specs.Views.{home_of}
use Rattle.porch_live.specs.inside.Texts.{byte_in, with_bytes}
use Rattle.porch_live.proofs.BytesOfTexts.{at_start, at_act, at_zero, at_byte}
use Rattle.porch_live.proofs.store.Store.text_in.Goals as goal

pub loop-ahead-init : goal.loop-ahead-init
loop-ahead-init c = λ types pointee.
    at_start types pointee c.args.self.now (home_of c.args.p.home) (c.args.p.row.first + c.args.p.index) c.saturating_sub-count.result c.new-bytes.result.items c.new-bytes.ensures.items

pub returns-in-Err : goal.returns-in-Err
returns-in-Err c = λ types pointee.
    let s = c.args.self.now in
    let home = home_of c.args.p.home in
    let start = c.args.p.row.first + c.args.p.index in
    let is = c.in-Err.ensures ∙ ap (λ v. byte_in v) (c.seen.ensures ∙ ap (λ v. seen s v) c.leaf.ensures) in
    sym (ap (λ n. text_from types pointee s home start n) (sym c.saturating_sub-count.ensures)
    ∙ c.loop-ahead.invariant types pointee
    ∙ at_act types pointee s home start c.saturating_sub-count.result c.loop-ahead.ahead c.loop-ahead.bytes.items c.in-Err.act c.loop-ahead-test.true is)

pub returns-then-byte-eq0 : goal.returns-then-byte-eq0
returns-then-byte-eq0 c = λ types pointee.
    let s = c.args.self.now in
    let home = home_of c.args.p.home in
    let start = c.args.p.row.first + c.args.p.index in
    let is = c.in-Ok.ensures ∙ ap (λ v. byte_in v) (c.seen.ensures ∙ ap (λ v. seen s v) c.leaf.ensures) in
    sym (ap (λ n. text_from types pointee s home start n) (sym c.saturating_sub-count.ensures)
    ∙ c.loop-ahead.invariant types pointee
    ∙ at_zero types pointee s home start c.saturating_sub-count.result c.loop-ahead.ahead c.loop-ahead.bytes.items c.in-Ok.byte c.loop-ahead-test.true is c.if-byte-eq0.true)

pub loop-ahead-preserved : goal.loop-ahead-preserved
loop-ahead-preserved c = λ types pointee.
    let s = c.args.self.now in
    let home = home_of c.args.p.home in
    let start = c.args.p.row.first + c.args.p.index in
    let count = c.saturating_sub-count.result in
    let ahead = c.loop-ahead.ahead in
    let is = c.in-Ok.ensures ∙ ap (λ v. byte_in v) (c.seen.ensures ∙ ap (λ v. seen s v) c.leaf.ensures) in
    c.loop-ahead.invariant types pointee
    ∙ at_byte types pointee s home start count ahead c.loop-ahead.bytes.items c.in-Ok.byte c.loop-ahead-test.true is c.if-byte-eq0.false
    ∙ ap (λ (bytes : List ℕ). with_bytes bytes (text_from types pointee s home (start + (ahead + 1)) (count - (ahead + 1)))) (sym c.in_ok-push.ensures.items)
