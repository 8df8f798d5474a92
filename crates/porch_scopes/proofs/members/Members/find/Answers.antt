use Rattle.std.proofs.Common.{sym, ap, ◌∙◌}
use Rattle.std.specs.Option.{option_map}
use Rattle.porch_check.specs.Declarations.{Members}
use Rattle.porch_check.specs.Operators.{member_named}
use Rattle.porch_scopes.specs.Views.{as_member}
use Rattle.porch_scopes.proofs.MembersByName.{named_is}
use Rattle.porch_scopes.proofs.members.Members.find.Goals as goal

pub returns : goal.returns
returns c =
    ap (λ (m : Members). member_named c.args.name.now m.list) (sym c.self.view_is)
    ∙ named_is c.args.name.now c.self.inside.known.entries
    ∙ ap (option_map (as_member c.args.name.now)) (sym (c.copied.ensures ∙ c.get.ensures.value))
