use Rattle.std.proofs.Common.{rules, inl, inr, refl, arith, [], ◌<◌}
use Rattle.std.proofs.lemmas.List.Elements.{All-nil, All-cons}
use Rattle.porch_types.specs.declared.shapes.Kind.TheVariants.{Int}
use Rattle.porch_values.specs.declared.acts.Op.TheVariants.{Add}
use Rattle.porch_typed.specs.Typed.{arithmetic, IsScalar}
use Rattle.porch_typed.specs.Worked.{two_functions}
use Rattle.porch_typed.proofs.worked.small_functions_are_typed.Goals as goal

pub returns-clause-gives : goal.returns-clause-gives
returns-clause-gives c = record {
  variables = All-nil _;
  few = omega arith;
  most = omega arith;
  params = omega arith;
  scalars = All-nil _;
  result = inl (Int, refl);
  body = ((4, refl, (refl, search rules)), tt);
}

pub returns-clause-adds : goal.returns-clause-adds
returns-clause-adds c =
    record {
      variables = All-cons (λ ty. ty < 9) 8 [] (omega arith) (All-nil _);
      few = omega arith;
      most = omega arith;
      params = omega arith;
      scalars = All-cons (IsScalar two_functions.types) 8 [] (inr (4, refl)) (All-nil _);
      result = inl (Int, refl);
      body = (
        (
          4,
          refl,
          (
            4,
            (refl, inl (Int, refl), (8, refl, (refl, inr (4, refl), refl))),
            (λ e. cc),
            (4, 4, (refl, search rules), arithmetic Add Int 4 4 refl (search rules) (Int, refl) (Int, refl), refl),
          ),
        ),
        tt,
      );
    }
