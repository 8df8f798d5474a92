use Rattle.std.proofs.Common.{List, length, refl, ap, ◌∙◌, ◌≡◌, subst, slice_get, Option, Some}
use Rattle.std.proofs.lemmas.Option.{slice_get_within, slice_get_read}
use Rattle.porch_instructions.specs.declared.instruction.Cell.{Cell}
use Rattle.porch_load.specs.declared.body.Body.{Body}
use Rattle.porch_stack.proofs.Leaving.{cell_writes, cell_within}
use Rattle.porch_stack.proofs.frames.cell_of.Goals as goal

pub returns-clause-is : goal.returns-clause-is
returns-clause-is c = λ at memory z.
    let body_is : slice_get c.args.loaded.now.bodies.items c.args.frame.now.function ≡ Some c.body_at-body.result.now =
    subst (λ (xs : List Body). slice_get xs c.args.frame.now.function ≡ Some c.body_at-body.result.now) c.deref.ensures.value c.body_at-body.ensures in
    let has = c.requires.has c.body_at-body.result.now body_is in
    let within = slice_get_within c.body_at-body.result.now.cells.items c.args.variable (Some has.0) has.1 in
    let read : slice_get c.body_at-body.result.now.cells.items c.args.variable ≡ Some c.index.result.now =
    slice_get_read c.body_at-body.result.now.cells.items (length c.body_at-body.result.now.cells.items) c.args.variable c.index.result.now refl within c.index.ensures in
    cell_writes c.args.loaded.now c.requires.loaded c.scopes_are_of_functions.ensures.cells c.args.frame.now.function c.args.variable c.body_at-body.result.now body_is
    c.unwrap.result (read ∙ ap (λ (o : Option Cell). Some o) c.unwrap.ensures) at memory z

pub returns-clause-within : goal.returns-clause-within
returns-clause-within c =
    let body_is : slice_get c.args.loaded.now.bodies.items c.args.frame.now.function ≡ Some c.body_at-body.result.now =
    subst (λ (xs : List Body). slice_get xs c.args.frame.now.function ≡ Some c.body_at-body.result.now) c.deref.ensures.value c.body_at-body.ensures in
    let has = c.requires.has c.body_at-body.result.now body_is in
    let within = slice_get_within c.body_at-body.result.now.cells.items c.args.variable (Some has.0) has.1 in
    let read : slice_get c.body_at-body.result.now.cells.items c.args.variable ≡ Some c.index.result.now =
    slice_get_read c.body_at-body.result.now.cells.items (length c.body_at-body.result.now.cells.items) c.args.variable c.index.result.now refl within c.index.ensures in
    cell_within c.args.loaded.now c.requires.loaded c.scopes_are_of_functions.ensures.cells c.args.frame.now.function c.args.variable c.body_at-body.result.now body_is
    c.unwrap.result (read ∙ ap (λ (o : Option Cell). Some o) c.unwrap.ensures)
