use Rattle.std.proofs.Common.{refl, ◌≡◌, ◌++◌, ◌∷◌, [], length, ap, sym, ◌∙◌, subst, List}
use Rattle.std.specs.Prelude.{reverse}
use Rattle.std.specs.List.{All}
use Rattle.std.proofs.lemmas.List.{reverse-reverse}
use Rattle.porch_flat.specs.declared.whole.Function.{Function}
use Rattle.porch_rewrite.specs.Rewriting.{rewritten_function, rewritten_functions}
use Rattle.porch_rewrite.specs.inside.Marked.{marked, IsFew}
use Rattle.porch_rewrite.proofs.Filling.{last_is_few, others_are_few, one_function}
use Rattle.porch_rewrite.proofs.functions.rewrite_functions.Goals as goal

pub loop-function-init : goal.loop-function-init
loop-function-init c =
    let back : reverse c.in_ok-turned.turned ≡ c.args.functions = ap (λ (l : List Function). reverse l) c.in_ok-turned.ensures ∙ reverse-reverse c.args.functions in
    record {
      code = rw (back, c.new-made.ensures) refl;
      few = subst (λ l. All (IsFew (marked c.args.reached.now)) l) (sym back) c.requires;
    }

pub rewrite_function-requires : goal.rewrite_function-requires
rewrite_function-requires c = last_is_few (marked c.args.reached.now) c.loop-function.turned c.pop.new.self c.in-Some.function c.in-Some.ensures c.loop-function.invariant.few

pub loop-function-preserved : goal.loop-function-preserved
loop-function-preserved c =
    let m = marked c.args.reached.now in
    let made : c.in_ok-rewrite_function.field-0 ≡ rewritten_function m (length c.loop-function.made) c.in-Some.function = c.in_ok-rewrite_function.ensures ∙ ap (λ n. rewritten_function m n c.in-Some.function) c.len-number.ensures in
    let pushed : c.push.new.self ≡ c.loop-function.made ++ rewritten_function m (length c.loop-function.made) c.in-Some.function ∷ [] = c.in_ok-push.ensures.ok ∙ ap (λ f. c.loop-function.made ++ f ∷ []) made in
    record {
      code =
          ap (λ (l : List Function). l ++ rewritten_functions m (length l) (reverse c.pop.new.self)) pushed
          ∙ sym (one_function m c.loop-function.made c.loop-function.turned c.pop.new.self c.in-Some.function c.in-Some.ensures) ∙ c.loop-function.invariant.code;
      few = others_are_few m c.loop-function.turned c.pop.new.self c.in-Some.function c.in-Some.ensures c.loop-function.invariant.few;
    }
