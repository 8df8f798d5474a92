use Rattle.std.proofs.Common.{◌≡◌, None, sym, ap, ◌∙◌}
use Rattle.std.specs.Map.{lookup}
use Rattle.std.specs.Str.{bytes_eq}
use Rattle.indexmap.proofs.CallerLemmas.{insert_entry-new}
use Rattle.porch_check.specs.Scopes.{of_name}
use Rattle.porch_scopes.proofs.DeclaredByName.{declared_is, declared_more}
use Rattle.porch_scopes.proofs.declared.Declared.push.Goals as goal

pub returns-clause-functions : goal.returns-clause-functions
returns-clause-functions c =
    let none : lookup (λ k. bytes_eq c.args.name.now k.now) c.self.inside.types.entries ≡ None =
    sym (declared_is c.args.name.now c.self.inside.types.entries) ∙ ap (of_name c.args.name.now) c.self.view_is ∙ c.requires.new in
    declared_more c.self.inside.types.entries c.insert.new.self.entries c.args.self.now c.args.name c.args.shape c.self.view_is
    (c.in_ok-insert.ensures.entries
    ∙ insert_entry-new (λ a b. bytes_eq a.now b.now) c.self.inside.types c.args.name c.args.shape none)
