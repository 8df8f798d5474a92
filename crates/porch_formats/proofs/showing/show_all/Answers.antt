use Rattle.std.proofs.Common.{◌≡◌, ◌+◌, map, drop, false, Ok, rules, sym, ap, subst, ◌∙◌}
use Rattle.porch_typed.specs.Views.{print_of}
use Rattle.porch_typed.specs.Views as views
use Rattle.porch_check.specs.Calls.{in_text, prints_of}
use Rattle.porch_nodes.specs.Answers.{Refuses}
use Rattle.porch_literals.specs.Directives.{as_completed, as_mode}
use Rattle.porch_arguments.specs.Views.{left}
use Rattle.porch_formats.specs.inside.Shown.{behind_completed, directives_of}
use Rattle.porch_formats.specs.inside.Showing.{shows}
use Rattle.porch_formats.proofs.Laid.{at_end}
use Rattle.porch_formats.proofs.Read.{made_next, none_made}
use Rattle.porch_formats.proofs.showing.show_all.Goals as goal

pub returns-in_err-show_completed-clause-refused :
    goal.returns-in_err-show_completed-clause-refused
returns-in_err-show_completed-clause-refused g c =
    let s = g.T.Table.scopes c.loop-byte.table in
    let ds = directives_of (as_mode c.mode_behind-mode.result) (drop (c.loop-byte.byte-index + 1) c.args.format.now) in
    let next = made_next (as_mode c.loop-byte.mode) (as_mode c.mode_behind-mode.result) (as_completed c.complete-completed.result)
    c.loop-byte.byte-index c.args.format.now c.loop-byte-test.true c.complete-completed.ensures c.mode_behind-mode.ensures c.loop-byte.invariant.known in
    let same : shows c.loop-byte.pieces (left c.loop-byte.turned) (behind_completed (as_completed c.complete-completed.result) ds) s
    ≡ prints_of (directives_of in_text c.args.format.now) (left c.args.turned) (g.T.Table.scopes c.args.table.now) =
    sym (ap (λ x. shows c.loop-byte.pieces (left c.loop-byte.turned) x s) next) ∙ c.loop-byte.invariant.same in
    let found : Refuses c.in_err-show_completed.field-0.0
    (prints_of (directives_of in_text c.args.format.now) (left c.args.turned) (g.T.Table.scopes c.args.table.now)) =
    subst (λ r. Refuses c.in_err-show_completed.field-0.0 r) same (c.in_err-show_completed.ensures.refused ds) in
    search (rules, found)

pub returns-then-not-branch-clause-made : goal.returns-then-not-branch-clause-made
returns-then-not-branch-clause-made g c =
    let s = g.T.Table.scopes c.loop-byte.table in
    let ds = directives_of (as_mode c.mode_behind-mode.result) (drop (c.loop-byte.byte-index + 1) c.args.format.now) in
    let next = made_next (as_mode c.loop-byte.mode) (as_mode c.mode_behind-mode.result) (as_completed c.complete-completed.result)
    c.loop-byte.byte-index c.args.format.now c.loop-byte-test.true c.complete-completed.ensures c.mode_behind-mode.ensures c.loop-byte.invariant.known in
    let over : c.in_ok-show_completed.field-0 ≡ false = search (rules, c.if-not-branch.true) in
    sym c.loop-byte.invariant.same
    ∙ ap (λ x. shows c.loop-byte.pieces (left c.loop-byte.turned) x s) next
    ∙ c.in_ok-show_completed.ensures.ended over ds
    ∙ ap (λ ps. Ok (views.prints_of ps, g.T.Table.scopes c.show_completed.new.table)) (sym c.in_ok-end_pieces.ensures)

pub returns-clause-made : goal.returns-clause-made
returns-clause-made g c =
    let s = g.T.Table.scopes c.loop-byte.table in
    sym c.loop-byte.invariant.same
    ∙ ap (λ x. shows c.loop-byte.pieces (left c.loop-byte.turned) x s)
    (none_made (as_mode c.loop-byte.mode) c.loop-byte.byte-index c.args.format.now c.loop-byte-test.false c.loop-byte.invariant.known)
    ∙ at_end (map print_of c.loop-byte.pieces.prints) c.loop-byte.pieces.run (left c.loop-byte.turned) s
    ∙ ap (λ ps. Ok (views.prints_of ps, s)) (sym c.in_ok-end_pieces-2.ensures)
