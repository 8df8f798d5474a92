use Rattle.std.proofs.Common.{◌≡◌, ap, ◌∙◌, List}
use Rattle.porch_flat.specs.declared.whole.Flat.{Flat}
use Rattle.porch_flat.specs.declared.whole.Function.{Function}
use Rattle.porch_flat.specs.whole.Rewritten.{reaches}
use Rattle.porch_rewrite.specs.Rewriting.{rewritten_functions}
use Rattle.porch_rewrite.specs.inside.Marked.{marked}
use Rattle.porch_rewrite.proofs.Filling.{few_from, functions_alike}
use Rattle.porch_rewrite.proofs.functions.rewrite_flat.Goals as goal

pub rewrite_functions-requires : goal.rewrite_functions-requires
rewrite_functions-requires c = few_from c.args.flat c.requires.few c.requires.variables (marked c.deref.result.now)

pub returns : goal.returns
returns c =
    let flat = c.args.flat in
    let kept : c.deref.result.now ≡ c.in_ok-reached.reached.items = c.deref.ensures.value in
    let functions : c.in_ok-functions.functions ≡ rewritten_functions (reaches flat) 0 flat.functions =
    c.in_ok-functions.ensures ∙ ap (λ marks. rewritten_functions (marked marks) 0 flat.functions) kept
    ∙ functions_alike (marked c.in_ok-reached.reached.items) (reaches flat) c.in_ok-reached.ensures.same 0 flat.functions in
    ap (λ (fs : List Function). let made : Flat = record { types = flat.types; globals = flat.globals; functions = fs } in made) functions
