use Rattle.std.proofs.Common.{◌∙◌}
use Rattle.porch_scopes.proofs.MembersByName.{contained}
use Rattle.porch_scopes.proofs.members.Members.contains.Goals as goal

pub returns : goal.returns
returns c = c.is_some.ensures ∙ contained c.args.name.now c.args.self.now.list c.find.result c.find.ensures
