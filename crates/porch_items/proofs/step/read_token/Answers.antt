use Rattle.std.proofs.Common.{refl}
use Rattle.porch_items.proofs.step.read_token.Goals as goal

pub returns-in-InTypedef : goal.returns-in-InTypedef
returns-in-InTypedef c = record { step = rw c.in-InTypedef.is c.read_typedef.ensures }

pub returns-in-InItem : goal.returns-in-InItem
returns-in-InItem c = record { step = rw c.in-InItem.is c.read_in_item.ensures }

pub returns-in-InDeclaration : goal.returns-in-InDeclaration
returns-in-InDeclaration c = record { step = rw c.in-InDeclaration.is c.read_declaration.ensures.step }

pub returns-in-AtFirst : goal.returns-in-AtFirst
returns-in-AtFirst c = record { step = rw c.in-AtFirst.is c.read_first.ensures.step }

pub returns-in-AtStatement : goal.returns-in-AtStatement
returns-in-AtStatement c = record { step = rw c.in-AtStatement.is c.read_statement.ensures.step }

pub returns-in-AtParenthesis : goal.returns-in-AtParenthesis
returns-in-AtParenthesis c = record { step = rw c.in-AtParenthesis.is (λ text. refl) }

pub returns-in-AtValue : goal.returns-in-AtValue
returns-in-AtValue c = record { step = rw c.in-AtValue.is c.read_begun.ensures.step }

pub returns-in-InValue : goal.returns-in-InValue
returns-in-InValue c = record { step = rw c.in-InValue.is c.read_value.ensures.step }

pub returns-in-AtEnd : goal.returns-in-AtEnd
returns-in-AtEnd c = record { step = rw c.in-AtEnd.is (λ text. refl) }

pub returns-in-AtBrace : goal.returns-in-AtBrace
returns-in-AtBrace c = record { step = rw c.in-AtBrace.is c.open_switch.ensures }

pub returns-in-AtColon : goal.returns-in-AtColon
returns-in-AtColon c = record { step = rw c.in-AtColon.is c.add_default.ensures.step }

pub returns-in-Ended : goal.returns-in-Ended
returns-in-Ended c = record { step = rw c.in-Ended.is c.read_ended.ensures.step }

pub returns-in-Broken : goal.returns-in-Broken
returns-in-Broken c = record { step = rw c.in-Broken.is (λ text. refl) }

pub returns-in-AtItem : goal.returns-in-AtItem
returns-in-AtItem c = record { step = rw c.in-AtItem.is c.read_item.ensures }

pub returns-in-BehindTypedef : goal.returns-in-BehindTypedef
returns-in-BehindTypedef c = record { step = rw c.in-BehindTypedef.is c.read_item-in-BehindTypedef.ensures }
