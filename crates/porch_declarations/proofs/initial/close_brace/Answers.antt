use Rattle.std.proofs.Common.{ap, ◌∙◌}
use Rattle.porch_tree.specs.Views.{declarator_of, initial_of, declaration_of}
use Rattle.porch_declarations.specs.Declarations.{behind_initial}
use Rattle.porch_declarations.specs.Shown.{braces_of}
use Rattle.porch_declarations.proofs.initial.close_brace.Goals as goal

pub returns : goal.returns
returns c = λ text declarer. ap (behind_initial (declaration_of text c.args.declaration) (declarator_of text c.args.declarator) (braces_of text declarer.braces)) (ap (initial_of text) c.in_ok-initial.ensures ∙ c.braced.ensures text)
