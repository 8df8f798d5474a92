use Rattle.std.proofs.Common.{◌-◌, map, sym, subst, ◌∙◌, arith}
use Rattle.porch_scopes.specs.Known.{scopes_of}
use Rattle.porch_scopes.specs.Answers.{IsRefusalOf}
use Rattle.porch_declarators.specs.Views.{as_part}
use Rattle.porch_declarators.proofs.LastParts.{typed_more, refused_by}
use Rattle.porch_declarators.proofs.types.type_of_parts.Goals as goal

pub returns-in-Err-clause-refused : goal.returns-in-Err-clause-refused
returns-in-Err-clause-refused c =
    refused_by (map as_part c.args.parts.now) (c.loop-left.left - 1) c.args.base (scopes_of c.args.scopes.now) c.in-Err.fault
    (subst (IsRefusalOf c.in-Err.fault) (sym
    (typed_more as_part c.args.parts.now (c.loop-left.left - 1) c.loop-left.left c.index-parts-left.result c.args.base
    c.loop-left.shape (scopes_of c.args.scopes.now) (scopes_of c.loop-left.scopes) (omega arith) c.index-parts-left.is (omega arith)
    c.loop-left.invariant.typed))
    c.in-Err.ensures.refused)

pub loop-left-preserved : goal.loop-left-preserved
loop-left-preserved c = record {
  within = omega arith;
  typed =
      typed_more as_part c.args.parts.now (c.loop-left.left - 1) c.loop-left.left c.index-parts-left.result c.args.base
      c.loop-left.shape (scopes_of c.args.scopes.now) (scopes_of c.loop-left.scopes) (omega arith) c.index-parts-left.is (omega arith)
      c.loop-left.invariant.typed
      ∙ c.in-Ok.ensures.typed;
  outer = c.in-Ok.ensures.outer ∙ c.loop-left.invariant.outer;
}
