-- What an expression does without calls only adds to a run.
use Rattle.std.proofs.Common.{ℕ, ℤ, ◌+◌, Bool, List, [], ◌∷◌, ◌++◌, length}
use Rattle.std.specs.Prelude.{pos, unsigned_abs, slice_get, Option, Some, None, Result}
use Rattle.porch_types.specs.declared.shapes.Ty.{Ty}
use Rattle.porch_types.specs.declared.shapes.Ty.TheVariants.{Whole, Pointer, Array, Struct}
use Rattle.porch_types.specs.Leaves.{leaves_of}
use Rattle.porch_values.specs.declared.acts.Act.{Act}
use Rattle.porch_values.specs.declared.acts.Act.TheVariants.{Indeterminate}
use Rattle.porch_values.specs.Integers.{as_int_of}
use Rattle.porch_objects.specs.Store.{Value, number, null, pointer, past, indeterminate, Store, reached_one}
use Rattle.porch_objects.specs.Pointers as pointers
use Rattle.porch_objects.specs.Pointers.{Allocation}
use Rattle.porch_objects.specs.Meaning.{Progress, Mark, reached, allocated, freed, with_store, with_shown, byte_of}
use Rattle.porch_typed.specs.Mirror.{Print, Prints, Program}
use Rattle.porch_typed.specs.Mirror as tree
use Rattle.porch_mean.specs.Outcome.{Outcome, Went, Undefined, done, with_result}
use Rattle.porch_mean.specs.Printing.{give_count, show_line, show_character, with_text, with_piece, show_pieces}
use Rattle.porch_mean.specs.Expression.{with_mark, reach_checkpoint, mark_freed, release, load_at, member_at, member_value, store_value, assign_at, allocate}
use Rattle.porch_mean.specs.Laws.{IsLater}
use Rattle.porch_mean.proofs.Follows.{Law, Agrees, Follows, same, now, later, stored, shown, marked, from, through_result, through_results, through_number}

mark_freed_later : (v : Value) (s : Progress) → IsLater s (mark_freed v s)
mark_freed_later (number z) s = marked s freed
mark_freed_later null s = now s
mark_freed_later (pointer home leaf) s = marked s freed
mark_freed_later (past home leaf until) s = marked s freed
mark_freed_later indeterminate s = marked s freed

pub checkpoint_later : (s : Progress) → IsLater s (reach_checkpoint s)
checkpoint_later s =
    let m : Progress = with_mark s (reached s.turns (length s.output)) in
    later s m (with_store m (reached_one s.store)) (marked s (reached s.turns (length s.output))) (stored m (reached_one s.store))

module _ (law : Law) where
  mark_freed_good : (v : Value) (s : Progress) → law.good s.turns → law.good (mark_freed v s).turns
  mark_freed_good (number z) s h = h
  mark_freed_good null s h = h
  mark_freed_good (pointer home leaf) s h = h
  mark_freed_good (past home leaf until) s h = h
  mark_freed_good indeterminate s h = h

  -- a result is the value
  pub gives : (r : Result Value Act) (s : Progress) → law.good s.turns
      → Follows law s (with_result r s (λ v s. Went v s)) (with_result r s (λ v s. Went v s))
  gives r s h = through_result law r s _ _ h (λ v. same (Went v s) (now s) h)

  pub agreed : (r r' : Result Value Act) (s : Progress) → Agrees law r r' → law.good s.turns
      → Follows law s (with_result r s (λ v s. Went v s)) (with_result r' s (λ v s. Went v s))
  agreed r r' s a h = through_results law r r' s _ _ a h (λ v. same (Went v s) (now s) h)

  pub loads : (at : Value) (s : Progress) → law.good s.turns → Follows law s (load_at at s) (load_at at s)
  loads at s h = gives (pointers.load s.store at) s h

  pub members : (at : Value) (leaf : ℕ) (s : Progress) → law.good s.turns → Follows law s (member_at at leaf s) (member_at at leaf s)
  members at leaf s h = gives (pointers.member s.store at leaf) s h

  pub member_values : (shape : Option Ty) (at : Value) (s : Progress) → law.good s.turns
      → Follows law s (member_value shape at s) (member_value shape at s)
  member_values None at s h = loads at s h
  member_values (Some (Whole kind)) at s h = loads at s h
  member_values (Some (Pointer to)) at s h = loads at s h
  member_values (Some (Array of count)) at s h = loads at s h
  member_values (Some (Struct ms)) at s h = same (Went at s) (now s) h

  pub releases : (at : Value) (s : Progress) → law.good s.turns → Follows law s (release at s) (release at s)
  releases at s h =
      through_result law (pointers.release s.store at) s _ _ h (λ store.
      same (done (mark_freed at (with_store s store)))
      (later s (with_store s store) (mark_freed at (with_store s store)) (stored s store) (mark_freed_later at (with_store s store)))
      (mark_freed_good at (with_store s store) h))

  module _ (types : List Ty) where
    stores : (at v : Value) (s : Progress) (r : Result Store Act) → law.good s.turns
        → Follows law s (with_result r s (λ store s. Went v (with_store s store))) (with_result r s (λ store s. Went v (with_store s store)))
    stores at v s r h = through_result law r s _ _ h (λ store. same (Went v (with_store s store)) (stored s store) h)

    store_values : (shape : Option Ty) (ty : ℕ) (at v : Value) (s : Progress) → law.good s.turns
        → Follows law s (store_value types shape ty at v s) (store_value types shape ty at v s)
    store_values None ty at v s h = stores at v s (pointers.store s.store at v) h
    store_values (Some (Whole kind)) ty at v s h = stores at v s (pointers.store s.store at v) h
    store_values (Some (Pointer to)) ty at v s h = stores at v s (pointers.store s.store at v) h
    store_values (Some (Array of count)) ty at v s h = stores at v s (pointers.store s.store at v) h
    store_values (Some (Struct ms)) ty at v s h = stores at at s (pointers.copy (leaves_of types ty) s.store at v) h

    pub assigns : (ty : ℕ) (at v : Value) (s : Progress) → law.good s.turns
        → Follows law s (assign_at types ty at v s) (assign_at types ty at v s)
    assigns ty at v s h = store_values (slice_get types ty) ty at v s h

    pub allocates : (pointee : ℕ) (zeroed : Bool) (count : Value) (s : Progress) → law.good s.turns
        → Follows law s (allocate types pointee zeroed count s) (allocate types pointee zeroed count s)
    allocates pointee zeroed count s h =
        through_number law count s _ _ h (λ z. through_result law (pointers.allocate types pointee zeroed z s.store) s _ _ h (λ made.
        let t : Progress = with_store s made.store in
        let m : Mark = allocated (unsigned_abs z) (leaves_of types pointee) in
        same (Went made.address (with_mark t m)) (later s t (with_mark t m) (stored s made.store) (marked t m)) h))

    pub texts : (at : Value) (s : Progress) (go : List ℕ → Progress → Outcome) → law.good s.turns
        → ((bytes : List ℕ) → Follows law s (go bytes s) (go bytes s)) → Follows law s (with_text types at s go) (with_text types at s go)
    texts at s go h k = through_result law (pointers.text types 0 s.store at) s _ _ h k

    pieces : (x : Print) (vs : List Value) (s : Progress) (go : List ℕ → List Value → Progress → Outcome) → law.good s.turns
        → ((bytes : List ℕ) (vs : List Value) → Follows law s (go bytes vs s) (go bytes vs s))
        → Follows law s (with_piece types x vs s go) (with_piece types x vs s go)
    pieces (tree.bytes bs) vs s go h k = k bs vs
    pieces (tree.literal bs) vs s go h k = k _ vs
    pieces (tree.number how e) [] s go h k = same (Undefined Indeterminate s) (now s) h
    pieces (tree.number how e) (v ∷ vs) s go h k = through_number law v s _ _ h (λ z. k _ vs)
    pieces (tree.text e) [] s go h k = same (Undefined Indeterminate s) (now s) h
    pieces (tree.text e) (v ∷ vs) s go h k = texts v s _ h (λ bytes. k bytes vs)

    counts : (n : ℕ) (s : Progress) → law.good s.turns → Follows law s (give_count n s) (give_count n s)
    counts n s h = through_result law (as_int_of (pos n)) s _ _ h (λ z. same (Went (number z) s) (now s) h)

    pub shows_pieces : (xs : Prints) (vs : List Value) (n : ℕ) (s : Progress) → law.good s.turns
        → Follows law s (show_pieces types xs vs n s) (show_pieces types xs vs n s)
    shows_pieces tree.no_prints vs n s h = counts n s h
    shows_pieces (tree.with_print x xs) vs n s h =
        pieces x vs s _ h (λ bytes vs.
        from law s (with_shown s bytes) _ _ (shown s bytes) (shows_pieces xs vs (n + length bytes) (with_shown s bytes) h))

    pub shows_line : (bytes : List ℕ) (s : Progress) → law.good s.turns → Follows law s (show_line bytes s) (show_line bytes s)
    shows_line bytes s h =
        from law s (with_shown s (bytes ++ 10 ∷ [])) _ _ (shown s (bytes ++ 10 ∷ [])) (counts (length bytes + 1) (with_shown s (bytes ++ 10 ∷ [])) h)

    pub shows_character : (z : ℤ) (s : Progress) → law.good s.turns → Follows law s (show_character z s) (show_character z s)
    shows_character z s h = same (show_character z s) (shown s (byte_of z ∷ [])) h
