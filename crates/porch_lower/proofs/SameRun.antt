-- The flat program of a tree means what the tree means.
use Rattle.std.proofs.Common.{◌≡◌, ◌≤◌, ◌<◌, ◌+◌, ◌++◌, ℕ, zero, suc, ℤ, pos, List, [], ◌∷◌, map, length, replicate, Bool, true, false, refl, sym, ap, subst, ◌∙◌, arith, add-zero, length-append, append_assoc, nat_eq}
use Rattle.std.proofs.Math.ListN.{set as list_set}
use Rattle.std.proofs.lemmas.List.{length-set}
use Rattle.std.proofs.lemmas.Bool.Decides.{nat_tests}
use Rattle.std.specs.Prelude.{slice_get, slice_index_or, Some, None, Result, Ok, Err}
use Rattle.std.specs.declared.option.Option.{Option}
use Rattle.porch_types.specs.Leaves.{kind_types}
use Rattle.porch_syntax.specs.Tree.{Node, Program}
use Rattle.porch_values.specs.declared.acts.Act.{Act}
use Rattle.porch_objects.specs.Store.{Value, one_of, Object, Store, fresh}
use Rattle.porch_objects.specs.Meaning.{Environment, Progress, with_store, Meaning, Ended}
use Rattle.porch_meaning.specs.Mean.{Outcome, Went, Gave, Undefined, Stopped, and_then, done, set, declare, acts, back as left_main, meaning_of, mean}
use Rattle.porch_flat.specs.declared.flat.Operand.TheVariants.{Constant}
use Rattle.porch_flat.specs.declared.flat.Command.{Command}
use Rattle.porch_flat.specs.declared.flat.Command.TheVariants as command
use Rattle.porch_flat.specs.declared.flat.Function.{Function}
use Rattle.porch_flat.specs.Places.{place_of_label}
use Rattle.porch_flat.specs.Valid.{int_type}
use Rattle.porch_abstract.specs.Machine.{State, Goes, Ends, begin, variables_with, next}
use Rattle.porch_abstract.specs.Run.{marks_of, is_paused, Means, TellsNothing}
use Rattle.porch_lower.specs.Code.{into_code, declarations_code, actions_code, main_code, declarations_temps, main_temps}
use Rattle.porch_lower.specs.inside.Programs.{main_function, flat_of}
use Rattle.porch_lower.specs.Lowered.{IsLowerable, DeclarationsFit, MeansTheSame}
use Rattle.porch_lower.proofs.SameCells.{Cell, object_in, value_of, store_with, stored-cells, forgotten-cells, slice_get-set_other}
use Rattle.porch_lower.proofs.SameMean.{source, evaluates, set-same}
use Rattle.porch_lower.proofs.StepsRun.{EndsWith, stays, comes, step_goes, step_ends, step_over}
use Rattle.porch_lower.proofs.StepsAt.{program_of, at, next_is, gives, left, left-output, left-turns}
use Rattle.porch_lower.proofs.ThroughParts.{Stands, front, back, Agrees, Reaches, calm}
use Rattle.porch_lower.proofs.ThroughExpr.{through}
use Rattle.porch_lower.proofs.ThroughStmt.{Follows, follows_from, follows_then, acts_through, agrees-set}

-- a list stands in itself
there : (before after : List Command) (c : Command) → slice_get (before ++ c ∷ after) (length before) ≡ Some c
there [] after c = refl
there (x ∷ before) after c = there before after c

stands_behind : (before xs : List Command) → Stands (before ++ xs) (length before) xs
stands_behind before [] = tt
stands_behind before (x ∷ xs) =
    let longer : (before ++ x ∷ []) ++ xs ≡ before ++ x ∷ xs = append_assoc before (x ∷ []) xs in
    let place : length (before ++ x ∷ []) ≡ length before + 1 = simp length-append (omega arith) in
    let rest = rw (longer, place) at (stands_behind (before ++ x ∷ []) xs) in
    (there before xs x, rest)

-- equal elements
slice_get-replicate : (k x : ℕ) (c : Cell) → x < k → slice_get (replicate k c) x ≡ Some c
slice_get-replicate zero x c h = absurd (omega arith)
slice_get-replicate (suc k) zero c h = refl
slice_get-replicate (suc k) (suc x) c h = slice_get-replicate k x c (omega arith)

index-replicate : (k v d : ℕ) → v < k → slice_index_or (replicate k int_type) v d ≡ int_type
index-replicate zero v d h = absurd (omega arith)
index-replicate (suc k) zero d h = refl
index-replicate (suc k) (suc v) d h = index-replicate k v d (omega arith)

length-copies : {A : Type 0} (k : ℕ) (x : A) → length (replicate k x) ≡ k
length-copies zero x = refl
length-copies (suc k) x = ap suc (length-copies k x)

-- the variables of a call: none has a value
fresh_vars : (k : ℕ) → variables_with kind_types (replicate k int_type) [] ≡ map object_in (replicate k None)
fresh_vars zero = refl
fresh_vars (suc k) = ap (λ (objects : List Object). object_in None ∷ objects) (fresh_vars k)

fresh_declared : (ds : List (Option Node)) → map (fresh kind_types) (map (λ _. one_of int_type) ds) ≡ map object_in (replicate (length ds) None)
fresh_declared [] = refl
fresh_declared (d ∷ ds) = ap (λ (objects : List Object). object_in None ∷ objects) (fresh_declared ds)

module _ (silent : TellsNothing) (p : Program) (ok : IsLowerable p) (homes : (q l : ℕ) → slice_get (main_code p) q ≡ Some (command.Label l) → place_of_label (main_code p) l ≡ Some q) (under : Environment) (n : ℕ) where
  abbrev f : Function
  f = main_function p

  abbrev m : ℕ
  m = length p.declarations

  abbrev k : ℕ
  k = m + main_temps p

  sized : length f.vars ≡ k
  sized = length-copies k int_type

  ints : (v : ℕ) → v < length f.vars → slice_index_or f.vars v (length kind_types) ≡ int_type
  ints v h = index-replicate k v (length kind_types) (omega (arith, sized))

  abbrev follows : ℕ → Outcome → State → ℕ → Type 0
  follows = Follows f under n k m []

  -- The variables from number x on have no value yet, and the declarations from there on are gone through.
  declared_by : (x p q : ℕ) (e : Node) (more : List (Option Node)) (us cells : List Cell) (output : List ℕ) (turns : ℕ) (us_sized : length us ≡ m) (cells_sized : length cells ≡ k) (agrees : Agrees us cells) (within : turns ≤ n)
      → x < m → (r : Result ℤ Act) → value_of us e ≡ r → Reaches f under n output turns k m x cells (at p cells output turns) q r → (q' : ℕ)
      → ((us' cells' : List Cell) → length us' ≡ m → length cells' ≡ k → Agrees us' cells' → ((y : ℕ) → x < y → slice_get us' y ≡ slice_get us y) → follows turns (declare under n 0 (x + 1) more (source us' output [] turns)) (at q cells' output turns) q')
      → follows turns (and_then (set under n 0 x e (source us output [] turns)) (λ _ s. declare under n 0 (x + 1) more s)) (at p cells output turns) q'
  declared_by x p q e more us cells output turns us_sized cells_sized agrees within inside (Ok z) is reached q' next_ones =
      let after = list_set us x (Some z) in
      let meant : set under n 0 x e (source us output [] turns) ≡ done (source after output [] turns) =
      rw (evaluates under n us output [] turns e, is) (ap (λ (store : Store). done (with_store (source us output [] turns) store)) (stored-cells us x z)) in
      rw meant (follows_from f under n k m [] turns _ (at p cells output turns) (at q reached.0 output turns) q' reached.2
      (next_ones after reached.0 (length-set us x (Some z) ∙ us_sized) (reached.1.same_length ∙ cells_sized) (agrees-set us cells reached.0 m x z us_sized inside agrees reached.1)
      (λ y above. slice_get-set_other us x y (Some z) (λ e. absurd (omega arith)))))
  declared_by x p q e more us cells output turns us_sized cells_sized agrees within inside (Err a) is reached q' next_ones =
      let meant : set under n 0 x e (source us output [] turns) ≡ Undefined a (source us output [] turns) = rw (evaluates under n us output [] turns e, is) refl in
      rw meant (refl, reached)

  declares : (ds : List (Option Node)) (x q : ℕ) → x + length ds ≡ m → DeclarationsFit m ds → m + declarations_temps ds ≤ k → Stands (main_code p) q (declarations_code m x ds)
      → (us cells : List Cell) (output : List ℕ) (turns : ℕ) → length us ≡ m → length cells ≡ k → Agrees us cells → turns ≤ n → ((y : ℕ) → x ≤ y → y < m → slice_get us y ≡ Some None)
      → follows turns (declare under n 0 x ds (source us output [] turns)) (at q cells output turns) (q + length (declarations_code m x ds))
  declares [] x q all fit room stands us cells output turns us_sized cells_sized agrees within unset =
      rw (add-zero q) (record { us = us; cells = cells; output = output; turns = turns; is = refl; us_sized = us_sized; cells_sized = cells_sized; agrees = agrees; later = omega arith; within = within; onward = stays (program_of f) under n (at q cells output turns) })
  declares (None ∷ more) x q all fit room stands us cells output turns us_sized cells_sized agrees within unset =
      let unchanged = forgotten-cells us x ∙ ap store_with (set-same us x None (unset x (omega arith) (omega arith))) in
      rw unchanged (declares more (x + 1) q (omega arith) fit room stands us cells output turns us_sized cells_sized agrees within (λ y above below. unset y (omega arith) below))
  declares ((Some e) ∷ more) x q all fit room stands us cells output turns us_sized cells_sized agrees within unset =
      let unchanged = forgotten-cells us x ∙ ap store_with (set-same us x None (unset x (omega arith) (omega arith))) in
      let xs = into_code e x m in
      let ys = declarations_code m (x + 1) more in
      let ends : q + length (xs ++ ys) ≡ q + length xs + length ys = simp length-append (omega arith) in
      rw (unchanged, ends)
      (declared_by x q (q + length xs) e more us cells output turns us_sized cells_sized agrees within (omega arith) (value_of us e) refl
      (through f under n output turns k sized ints us e x m (rw us_sized fit.0) (omega arith) (omega arith) (omega arith) q cells cells_sized agrees (front (main_code p) q xs ys stands))
      (q + length xs + length ys)
      (λ us' cells' us_sized' cells_sized' agrees' same. declares more (x + 1) (q + length xs) (omega arith) fit.1 (omega arith) (back (main_code p) q xs ys stands) us' cells' output turns us_sized' cells_sized' agrees' within
      (λ y above below. same y (omega arith) ∙ unset y (omega arith) below)))

  -- the run from a state has what is said
  pub record IsSaid (from : State) (said : Meaning) : Type 0 where
    pub ends : EndsWith (program_of f) under n from said.output said.turns said.ending
    pub marks_are : said.marks ≡ []

  -- behind the last statement main gives 0
  ended : (o : Outcome) (since q : ℕ) (from : State) → slice_get (main_code p) q ≡ Some (command.Return (Some (Constant (pos 0)))) → follows since o from q → IsSaid from (meaning_of (left_main o))
  ended (Went v s) since q from h g =
      let stop : next (program_of f) under (at q g.cells g.output g.turns) ≡ Ends (pos 0) (left f under g.cells g.output g.turns q) =
      next_is f under g.cells g.output g.turns q (command.Return (Some (Constant (pos 0)))) h ∙ gives f under g.cells g.output g.turns q (Constant (pos 0)) in
      let last = step_ends (program_of f) under n (at q g.cells g.output g.turns) (left f under g.cells g.output g.turns q) (pos 0) (calm f under n g.output g.turns k q g.cells (command.Return (Some (Constant (pos 0)))) h refl) stop in
      let last' = rw (left-output f under g.cells g.output g.turns q, left-turns f under g.cells g.output g.turns q) at last in
      let P : Progress → Type 0 = λ s. IsSaid from (meaning_of (left_main (Went v s))) in
      subst P (sym g.is) (record { ends = comes (program_of f) under n from (at q g.cells g.output g.turns) g.output g.turns (Ended (pos 0)) g.onward last'; marks_are = refl })
  ended (Gave v s) since q from h g =
      let P : Value → Type 0 = λ v. IsSaid from (meaning_of (left_main (Gave v s))) in
      subst P (sym g.1) (record { ends = g.3; marks_are = g.2 })
  ended (Undefined a s) since q from h g = record { ends = g.1; marks_are = g.0 }
  ended (Stopped s) since q from h g = record { ends = g.1; marks_are = g.0 }

  means_said : (said : Meaning) → IsSaid (begin (flat_of p)) said → Means (flat_of p) under n said
  means_said said h = record {
    steps = h.ends.steps;
    last = h.ends.last;
    ends = h.ends.ends;
    output_is = sym h.ends.output_is;
    turns_are = sym h.ends.turns_are;
    marks_are = h.marks_are ∙ sym (silent (flat_of p) under n h.ends.steps (marks_of (flat_of p)) (begin (flat_of p)) (λ s command. refl));
  }

  -- the state behind the call of main
  abbrev called : State
  called = at 0 (replicate k None) [] 1

  called_is : next (program_of f) under (begin (flat_of p)) ≡ Goes called
  called_is =
      let objects_are = fresh_vars k in
      rw objects_are refl

  abbrev block : Outcome
  block = and_then (declare under n 0 0 p.declarations (source (replicate m None) [] [] 1)) (λ _ s. acts under n 0 p.actions s)

  block_follows : 1 ≤ n → IsSaid called (meaning_of (left_main block))
  block_follows some =
      let xs = declarations_code m 0 p.declarations in
      let ys = actions_code m (length xs) p.actions in
      let last = command.Return (Some (Constant (pos 0))) ∷ [] in
      let all = stands_behind [] (main_code p) in
      let rest = back (main_code p) 0 xs (ys ++ last) all in
      let zero_place : 0 + length xs ≡ length xs = omega arith in
      let rest' = rw zero_place at rest in
      let end = back (main_code p) (length xs) ys last rest' in
      let us_sized : length (replicate m None) ≡ m = length-copies {A = Cell} m None in
      let cells_sized : length (replicate k None) ≡ k = length-copies {A = Cell} k None in
      let agrees : Agrees (replicate m None) (replicate k None) = record { same = λ x h. slice_get-replicate m x None (omega arith) ∙ sym (slice_get-replicate k x None (omega arith)) } in
      let one = declares p.declarations 0 0 (omega arith) ok.declared (omega arith) (front (main_code p) 0 xs (ys ++ last) all) (replicate m None) (replicate k None) [] 1 us_sized cells_sized agrees some (λ y above below. slice_get-replicate m y None below) in
      let one' = rw zero_place at one in
      ended block 1 (length xs + length ys) called end.0
      (follows_then f under n k m [] 1 _ called (length xs) (length xs + length ys) (λ s. acts under n 0 p.actions s) one'
      (λ us cells output turns us_sized cells_sized agrees later within. acts_through f under n k m [] sized ints homes p.actions (length xs) ok.stated (omega arith) (front (main_code p) (length xs) ys last rest') us cells output turns us_sized cells_sized agrees within))

  means_by : (b : Bool) → nat_eq 0 n ≡ b → Means (flat_of p) under n (mean kind_types p under n)
  means_by true is =
      let over_there : is_paused (program_of f) under n (begin (flat_of p)) ≡ true = grind (arith, nat_tests) in
      let said = step_over (program_of f) under n (begin (flat_of p)) over_there in
      rw is (means_said _ (record { ends = said; marks_are = refl }))
  means_by false is =
      let some : 1 ≤ n = grind (arith, nat_tests) in
      let not_over : is_paused (program_of f) under n (begin (flat_of p)) ≡ false = grind (arith, nat_tests) in
      let on = step_goes (program_of f) under n (begin (flat_of p)) called not_over called_is in
      let there = block_follows some in
      let declared_objects = fresh_declared p.declarations in
      rw (is, declared_objects) (means_said _ (record { ends = comes (program_of f) under n (begin (flat_of p)) called _ _ _ on there.ends; marks_are = there.marks_are }))

pub same : TellsNothing → (p : Program) → IsLowerable p → ((q l : ℕ) → slice_get (main_code p) q ≡ Some (command.Label l) → place_of_label (main_code p) l ≡ Some q) → MeansTheSame p (flat_of p)
same silent p ok homes under n = means_by silent p ok homes under n (nat_eq 0 n) refl
