use Rattle.std.proofs.Common.{refl}
use Rattle.porch_statements.proofs.value.settle_value.Goals as goal

pub returns-in-Going : goal.returns-in-Going
returns-in-Going c = rw c.in-Going.is (λ text. refl)

pub returns-in-Expr : goal.returns-in-Expr
returns-in-Expr c = rw c.in-Expr.is c.give.ensures.step

pub returns-in-Type : goal.returns-in-Type
returns-in-Type c = rw c.in-Type.is (λ text. c.lose_type.ensures text c.args.builder.now)

pub returns-in-Declarator : goal.returns-in-Declarator
returns-in-Declarator c = rw c.in-Declarator.is (λ text. c.lose_declarator.ensures text c.args.builder.now)
