use Rattle.std.proofs.Common.{◌++◌, ◌∷◌, [], refl, sym, ap, subst, ◌∙◌, arith}
use Rattle.std.specs.Str.{bytes_eq}
use Rattle.indexmap.proofs.CallerLemmas.{insert_entry-new}
use Rattle.porch_check.specs.Declarations.{Members}
use Rattle.porch_scopes.specs.Views.{as_member, members_of}
use Rattle.porch_scopes.specs.Sizes.{AreWithin}
use Rattle.porch_scopes.proofs.MembersByName.{list_more, absent, none_named}
use Rattle.porch_scopes.proofs.SmallMembers.{within_more}
use Rattle.porch_scopes.proofs.members.Members.push.Goals as goal

pub returns-clause-list : goal.returns-clause-list
returns-clause-list c =
    list_more c.self.inside.known.entries c.self.inside.leaves c.args.self.now c.args.name
    (record { shape = c.args.shape; leaf = c.self.inside.leaves }) c.insert.new.self.entries c.self.view_is
    (absent c.self.inside.known.entries c.self.inside.leaves c.args.self.now c.args.name.now c.self.view_is (none_named c.args.name.now c.args.self.now.list c.requires.new))
    (insert_entry-new (λ a b. bytes_eq a.now b.now) c.self.inside.known c.args.name
    (record { shape = c.args.shape; leaf = c.self.inside.leaves }))
    c.in_ok-insert.ensures.entries
    ∙ ap (λ (m : Members). c.args.self.now.list ++ record { name = c.args.name.now; shape = c.args.shape; leaf = m.leaves } ∷ []) c.self.view_is

pub invariant_of-self-2 : goal.invariant_of-self-2
invariant_of-self-2 c =
    let es = c.self.inside.known.entries in
    let n = c.self.inside.leaves in
    subst (λ ms. AreWithin ms c.in-Some.all)
    (sym (list_more es n (members_of es n) c.args.name (record { shape = c.args.shape; leaf = n }) c.insert.new.self.entries refl
    (absent es n c.args.self.now c.args.name.now c.self.view_is (none_named c.args.name.now c.args.self.now.list c.requires.new))
    (insert_entry-new (λ a b. bytes_eq a.now b.now) c.self.inside.known c.args.name (record { shape = c.args.shape; leaf = n }))
    c.in_ok-insert.ensures.entries))
    (within_more (members_of es n).list n c.in-Some.all (as_member c.args.name.now (record { shape = c.args.shape; leaf = n }))
    c.self.invariant (omega (arith, c.in-Some.ensures)) (omega (arith, c.in-Some.ensures)))
