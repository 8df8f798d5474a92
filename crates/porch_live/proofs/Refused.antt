-- What a change of an object comes to where memory for it may be refused.
use Rattle.std.proofs.Common.{◌≡◌, ℕ, Result, Ok, Err, OnOk, OnErr, ◌∙◌}
use Rattle.std.specs.declared.alloc.AllocError.{AllocError}
use Rattle.porch_objects.specs.Store.{Home, Store, changed, with_leaf_at}
use Rattle.porch_live.specs.declared.value.Value.{Value}
use Rattle.porch_live.specs.declared.edit.Edit.TheVariants.{Leaf}
use Rattle.porch_live.specs.Views.{value_of}
use Rattle.porch_live.specs.inside.Edits.{done}
use Rattle.porch_live.proofs.Unchanged.{unchanged}

pub on_err : {A E P : Type 0} (r : Result A E) → P → OnErr r P
on_err (Ok x) p = tt
on_err (Err e) p = p

module _ (s new : Store) (home : Home) (leaf : ℕ) (v : Value) where
  pub leaf_set : (r : Result (Unit {0}) AllocError) → new ≡ changed (done (Leaf leaf v) r) s home
      → OnOk r (new ≡ with_leaf_at s home leaf (value_of v))
  leaf_set (Ok u) is = is
  leaf_set (Err e) is = tt

  pub leaf_same : (r : Result (Unit {0}) AllocError) → new ≡ changed (done (Leaf leaf v) r) s home → OnErr r (new ≡ s)
  leaf_same (Ok u) is = tt
  leaf_same (Err e) is = is ∙ unchanged s home
