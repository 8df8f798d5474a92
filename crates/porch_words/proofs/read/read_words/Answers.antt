use Rattle.std.proofs.Common.{◌≡◌, ◌∙◌, sym}
use Rattle.std.specs.Prelude.{Some, None}
use Rattle.porch_words.specs.Orders.{Order, order_seen}
use Rattle.porch_words.specs.Words.{texts}
use Rattle.porch_words.proofs.Ordered.{is_ordered, is_only}
use Rattle.porch_words.proofs.Limited.{is_limited}
use Rattle.porch_words.proofs.read.read_words.Goals as goal

same_some : (x y : Order) → Some x ≡ Some y → x ≡ y
same_some x y e = cc

none_some : (x : Order) → None ≡ Some x → ⊥
none_some x e = cc

pub returns-in-Some-clause-read : goal.returns-in-Some-clause-read
returns-in-Some-clause-read c = is_ordered (texts c.args.words.now) (order_seen c.in-Some.order) (sym c.in-Some.ensures)

pub returns-in-Some-clause-limited : goal.returns-in-Some-clause-limited
returns-in-Some-clause-limited c = is_limited (texts c.args.words.now) (order_seen c.in-Some.order) (is_ordered (texts c.args.words.now) (order_seen c.in-Some.order) (sym c.in-Some.ensures))

pub returns-in-Some-clause-only : goal.returns-in-Some-clause-only
returns-in-Some-clause-only c = λ o h. same_some (order_seen c.in-Some.order) o (c.in-Some.ensures ∙ is_only (texts c.args.words.now) o h)

pub returns-in-None-clause-only : goal.returns-in-None-clause-only
returns-in-None-clause-only c = λ o h. none_some o (c.in-None.ensures ∙ is_only (texts c.args.words.now) o h)
