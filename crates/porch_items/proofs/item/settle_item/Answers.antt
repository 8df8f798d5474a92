use Rattle.std.proofs.Common.{refl}
use Rattle.porch_items.proofs.item.settle_item.Goals as goal

pub returns-in-Over : goal.returns-in-Over
returns-in-Over c = rw c.in-Over.is c.end_declaration.ensures

pub returns-in-Headed : goal.returns-in-Headed
returns-in-Headed c = rw c.in-Headed.is c.open_body.ensures

pub returns-in-AtStart : goal.returns-in-AtStart
returns-in-AtStart c = rw c.in-AtStart.is (λ text. refl)

pub returns-in-InTyped : goal.returns-in-InTyped
returns-in-InTyped c = rw c.in-InTyped.is (λ text. refl)

pub returns-in-InDeclared : goal.returns-in-InDeclared
returns-in-InDeclared c = rw c.in-InDeclared.is (λ text. refl)

pub returns-in-AtInitial : goal.returns-in-AtInitial
returns-in-AtInitial c = rw c.in-AtInitial.is (λ text. refl)

pub returns-in-InValue : goal.returns-in-InValue
returns-in-InValue c = rw c.in-InValue.is (λ text. refl)

pub returns-in-BehindInitial : goal.returns-in-BehindInitial
returns-in-BehindInitial c = rw c.in-BehindInitial.is (λ text. refl)

pub returns-in-Broken : goal.returns-in-Broken
returns-in-Broken c = rw c.in-Broken.is (λ text. refl)
