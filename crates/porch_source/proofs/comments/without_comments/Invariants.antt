use Rattle.std.proofs.Common.{drop}
use Rattle.porch_source.proofs.Cleaning.{Cleans}
use Rattle.porch_source.proofs.comments.without_comments.Given as goal

abbrev pub invariant-loop-token : goal.invariant-loop-token
invariant-loop-token l = Cleans l.text l.tokens l.clean.items l.at (drop l.token-index l.tokens)
