-- Runs through the code of statements.
use Rattle.std.proofs.Common.{◌≡◌, ◌≤◌, ◌<◌, ◌+◌, ◌++◌, ◌⊎◌, inl, inr, ℕ, zero, suc, ℤ, pos, List, [], ◌∷◌, length, Bool, true, false, refl, sym, ap, ◌∙◌, arith, add-zero, length-append, nat_eq}
use Rattle.std.proofs.Math.ListN.{set as list_set}
use Rattle.std.proofs.lemmas.List.{length-set}
use Rattle.std.proofs.lemmas.Bool.Decides.{nat_tests}
use Rattle.std.specs.Prelude.{slice_get, slice_index_or, nat_le, if◌then◌else◌, Some, None, Result, Ok, Err}
use Rattle.std.specs.Ordering.{int_eq}
use Rattle.std.specs.declared.option.Option.{Option}
use Rattle.porch_types.specs.Leaves.{kind_types}
use Rattle.porch_syntax.specs.Tree.{Node, Action, assign, repeat, putchar, give, Actions, no_actions, action}
use Rattle.porch_values.specs.declared.acts.Act.{Act}
use Rattle.porch_objects.specs.Store.{number, Store}
use Rattle.porch_objects.specs.Meaning.{Environment, Mark, Progress, with_store, Ended, Met, Paused, byte_of}
use Rattle.porch_meaning.specs.Mean.{Outcome, Went, Gave, Undefined, Stopped, and_then, done, set, loop, act, acts}
use Rattle.porch_flat.specs.declared.flat.Operand.{Operand}
use Rattle.porch_flat.specs.declared.flat.Command.{Command}
use Rattle.porch_flat.specs.declared.flat.Command.TheVariants as command
use Rattle.porch_flat.specs.declared.flat.Function.{Function}
use Rattle.porch_flat.specs.Places.{place_of_label}
use Rattle.porch_flat.specs.Valid.{int_type}
use Rattle.porch_abstract.specs.Machine.{State, Next, Goes, Ends, Meets, next}
use Rattle.porch_abstract.specs.Run.{is_paused}
use Rattle.porch_lower.specs.Code.{atom_of, operand_in, commands_or, into_code, operand_code, body_label, test_label, action_code, actions_code, temps_of, action_temps, actions_temps}
use Rattle.porch_lower.specs.Lowered.{IsFit, ActionFits, ActionsFit}
use Rattle.porch_lower.proofs.SameCells.{Cell, read_of, reads, value_of, stored-cells, slice_get-set_same, slice_get-set_other}
use Rattle.porch_lower.proofs.SameMean.{source, evaluates, same_or}
use Rattle.porch_lower.proofs.StepsRun.{GoesOn, EndsWith, stays, chain, comes, step_goes, step_ends, step_meets, step_over}
use Rattle.porch_lower.proofs.StepsAt.{program_of, at, by_read, next_is, shows, jumps, branches, gives, left, left-output, left-turns}
use Rattle.porch_lower.proofs.ThroughParts.{Stands, front, back, Agrees, Kept, Written, kept-refl, kept-written, agrees-kept, atom-reads, here, Halts, Reaches, calm}
use Rattle.porch_lower.proofs.ThroughExpr.{through}

-- the variables of the source behind an assignment
pub agrees-set : (us cells cells' : List Cell) (m x : ℕ) (z : ℤ) → length us ≡ m → x < m → Agrees us cells → Written m x z cells cells' → Agrees (list_set us x (Some z)) cells'
agrees-set us cells cells' m x z sized inside agrees written = record {
  same = λ y below.
      let below' : y < length us = omega (arith, length-set us x (Some z)) in
      elim (same_or y x) [
        | inl e ↦ rw e (slice_get-set_same us x (Some z) (omega arith) ∙ sym written.holds)
        | inr ne ↦ slice_get-set_other us x y (Some z) ne ∙ agrees.same y below' ∙ sym (written.kept y (omega arith) ne)
      ];
}

-- the turns are used up, or not
used_up : (t n : ℕ) → t ≤ n → nat_eq t n ≡ true → nat_le n t ≡ true
used_up t n le h = grind (arith, nat_tests)

not_used_up : (t n : ℕ) → t ≤ n → nat_eq t n ≡ false → (nat_le n t ≡ false) × (t + 1 ≤ n)
not_used_up t n le h = (grind (arith, nat_tests), grind (arith, nat_tests))

module _ (f : Function) (under : Environment) (n k m : ℕ) (marks : List Mark) where
  -- what a run from a state does where the meaning goes on: it comes to a place with the meaning's variables, output and turns
  pub record GoneOn (since : ℕ) (s : Progress) (from : State) (q : ℕ) : Type 0 where
    pub us : List Cell
    pub cells : List Cell
    pub output : List ℕ
    pub turns : ℕ
    pub is : s ≡ source us output marks turns
    pub us_sized : length us ≡ m
    pub cells_sized : length cells ≡ k
    pub agrees : Agrees us cells
    pub later : since ≤ turns
    pub within : turns ≤ n
    pub onward : GoesOn (program_of f) under n from (at q cells output turns)

  -- the run from a state does what the meaning does, which has made so many turns at least
  abbrev pub Follows : ℕ → Outcome → State → ℕ → Type 0
  Follows since (Went v s) from q = GoneOn since s from q
  Follows since (Gave v s) from q = (z : ℤ) × (v ≡ number z) × (s.marks ≡ marks) × EndsWith (program_of f) under n from s.output s.turns (Ended z)
  Follows since (Undefined a s) from q = (s.marks ≡ marks) × EndsWith (program_of f) under n from s.output s.turns (Met a)
  Follows since (Stopped s) from q = (s.marks ≡ marks) × EndsWith (program_of f) under n from s.output s.turns Paused

  -- what follows there follows from here
  pub follows_from : (since : ℕ) (o : Outcome) (from there : State) (q : ℕ) → GoesOn (program_of f) under n from there → Follows since o there q → Follows since o from q
  follows_from since (Went v s) from there q on g =
      record { us = g.us; cells = g.cells; output = g.output; turns = g.turns; is = g.is; us_sized = g.us_sized; cells_sized = g.cells_sized; agrees = g.agrees; later = g.later; within = g.within; onward = chain (program_of f) under n from there _ on g.onward }
  follows_from since (Gave v s) from there q on g = (g.0, g.1, g.2, comes (program_of f) under n from there s.output s.turns (Ended g.0) on g.3)
  follows_from since (Undefined a s) from there q on g = (g.0, comes (program_of f) under n from there s.output s.turns (Met a) on g.1)
  follows_from since (Stopped s) from there q on g = (g.0, comes (program_of f) under n from there s.output s.turns Paused on g.1)

  pub earlier : (before since : ℕ) (o : Outcome) (from : State) (q : ℕ) → before ≤ since → Follows since o from q → Follows before o from q
  earlier before since (Went v s) from q le g =
      let later = g.later in
      record { us = g.us; cells = g.cells; output = g.output; turns = g.turns; is = g.is; us_sized = g.us_sized; cells_sized = g.cells_sized; agrees = g.agrees; later = omega arith; within = g.within; onward = g.onward }
  earlier before since (Gave v s) from q le g = g
  earlier before since (Undefined a s) from q le g = g
  earlier before since (Stopped s) from q le g = g

  -- a state of the source beside one of the run, from so many turns on
  abbrev pub BesideFrom : ℕ → (Progress → Outcome) → ℕ → ℕ → Type 0
  BesideFrom since what p q = (us cells : List Cell) (output : List ℕ) (turns : ℕ) → length us ≡ m → length cells ≡ k → Agrees us cells → since ≤ turns → turns ≤ n
      → Follows turns (what (source us output marks turns)) (at p cells output turns) q

  abbrev pub Beside : (Progress → Outcome) → ℕ → ℕ → Type 0
  Beside what p q = (us cells : List Cell) (output : List ℕ) (turns : ℕ) → length us ≡ m → length cells ≡ k → Agrees us cells → turns ≤ n
      → Follows turns (what (source us output marks turns)) (at p cells output turns) q

  -- one thing and then another
  pub follows_then : (since : ℕ) (o : Outcome) (from : State) (q q' : ℕ) (more : Progress → Outcome) → Follows since o from q → BesideFrom since more q q' → Follows since (and_then o (λ _ s. more s)) from q'
  follows_then since (Went v s) from q q' more g next =
      let there = earlier since g.turns _ _ _ g.later (next g.us g.cells g.output g.turns g.us_sized g.cells_sized g.agrees g.later g.within) in
      let there' : Follows since (more s) (at q g.cells g.output g.turns) q' = rw (g.is) there in
      follows_from since (more s) from (at q g.cells g.output g.turns) q' g.onward there'
  follows_then since (Gave v s) from q q' more g next = g
  follows_then since (Undefined a s) from q q' more g next = g
  follows_then since (Stopped s) from q q' more g next = g

  module _ (sized : length f.vars ≡ k) (ints : (v : ℕ) → v < length f.vars → slice_index_or f.vars v (length kind_types) ≡ int_type) (homes : (q l : ℕ) → slice_get f.commands q ≡ Some (command.Label l) → place_of_label f.commands l ≡ Some q) where
    module _ (us cells : List Cell) (output : List ℕ) (turns : ℕ) (us_sized : length us ≡ m) (cells_sized : length cells ≡ k) (agrees : Agrees us cells) (within : turns ≤ n) where
      -- an assignment, whose value is known
      pub assigned : (x p q : ℕ) (e : Node) (r : Result ℤ Act) → value_of us e ≡ r → x < m
          → Reaches f under n output turns k m x cells (at p cells output turns) q r → Follows turns (set under n 0 x e (source us output marks turns)) (at p cells output turns) q
      assigned x p q e (Ok z) is inside reached =
          let after = list_set us x (Some z) in
          let meant : set under n 0 x e (source us output marks turns) ≡ done (source after output marks turns) =
          rw (evaluates under n us output marks turns e, is) (ap (λ (store : Store). done (with_store (source us output marks turns) store)) (stored-cells us x z)) in
          rw meant (record {
            us = after;
            cells = reached.0;
            output = output;
            turns = turns;
            is = refl;
            us_sized = length-set us x (Some z) ∙ us_sized;
            cells_sized = reached.1.same_length ∙ cells_sized;
            agrees = agrees-set us cells reached.0 m x z us_sized inside agrees reached.1;
            later = omega arith;
            within = within;
            onward = reached.2;
          })
      assigned x p q e (Err a) is inside reached =
          let meant : set under n 0 x e (source us output marks turns) ≡ Undefined a (source us output marks turns) = rw (evaluates under n us output marks turns e, is) refl in
          rw meant (refl, reached)

      -- The operand of a statement is there, or an act was met on the way.
      pub record IsOperand (p q : ℕ) (e : Node) (r : Result ℤ Act) : Type 0 where
        pub cells' : List Cell
        pub kept : Kept m cells cells'
        pub onward : GoesOn (program_of f) under n (at p cells output turns) (at q cells' output turns)
        pub read : reads cells' (operand_in e m) ≡ r

      abbrev pub Operand_at : ℕ → ℕ → Node → Result ℤ Act → Type 0
      Operand_at p q e r = ((a : Act) × (r ≡ Err a) × Halts f under n output turns k (at p cells output turns) a) ⊎ IsOperand p q e r

      operand_held : (p q : ℕ) (e : Node) (r : Result ℤ Act) → atom_of e ≡ None → Reaches f under n output turns k (m + 1) m cells (at p cells output turns) q r → Operand_at p q e r
      operand_held p q e (Ok z) is o = inr (record {
        cells' = o.0;
        kept = kept-written (m + 1) m m z cells o.0 (omega arith) (omega arith) o.1;
        onward = o.2;
        read = rw is (ap read_of o.1.holds);
      })
      operand_held p q e (Err a) is o = inl (a, refl, o)

      operand_by : (p : ℕ) (e : Node) (o : Option Operand) → atom_of e ≡ o → IsFit m e → m + temps_of e + 1 ≤ k → Stands f.commands p (commands_or o (into_code e m (m + 1)))
          → Operand_at p (p + length (commands_or o (into_code e m (m + 1)))) e (value_of us e)
      operand_by p e None is fit room stands =
          operand_held p _ e (value_of us e) is (through f under n output turns k sized ints us e m (m + 1) (rw us_sized fit) (omega arith) (omega arith) (omega arith) p cells cells_sized agrees stands)
      operand_by p e (Some o) is fit room stands =
          rw (add-zero p) (inr (record {
            cells' = cells;
            kept = kept-refl m cells;
            onward = stays (program_of f) under n (at p cells output turns);
            read = rw is (atom-reads us cells e o agrees (rw us_sized fit) is);
          }))

      pub operand : (p : ℕ) (e : Node) → IsFit m e → m + temps_of e + 1 ≤ k → Stands f.commands p (operand_code e m) → Operand_at p (p + length (operand_code e m)) e (value_of us e)
      operand p e = operand_by p e (atom_of e) refl

      -- putchar
      shown_by : (p q : ℕ) (e : Node) (r : Result ℤ Act) → value_of us e ≡ r → Operand_at p q e r → slice_get f.commands q ≡ Some (command.Char m (operand_in e m))
          → Follows turns (act under n 0 (putchar e) (source us output marks turns)) (at p cells output turns) (q + 1)
      shown_by p q e r is (inl halt) h =
          let meant : act under n 0 (putchar e) (source us output marks turns) ≡ Undefined halt.0 (source us output marks turns) = rw (evaluates under n us output marks turns e, is, halt.1) refl in
          rw meant (refl, halt.2)
      shown_by p q e (Ok z) is (inr o) h =
          let after = list_set o.cells' m (Some (pos 1)) in
          let one : length o.cells' ≡ k = o.kept.same_length ∙ cells_sized in
          let meant : act under n 0 (putchar e) (source us output marks turns) ≡ done (source us (output ++ byte_of z ∷ []) marks turns) = rw (evaluates under n us output marks turns e, is) refl in
          let goes : next (program_of f) under (at q o.cells' output turns) ≡ Goes (at (q + 1) after (output ++ byte_of z ∷ []) turns) =
          next_is f under o.cells' output turns q (command.Char m (operand_in e m)) h ∙ shows f under o.cells' output turns q m (operand_in e m)
          ∙ ap (λ (r : Result ℤ Act). by_read r (λ z. Goes (at (q + 1) after (output ++ byte_of z ∷ []) turns))) o.read in
          rw meant (record {
            us = us;
            cells = after;
            output = output ++ byte_of z ∷ [];
            turns = turns;
            is = refl;
            us_sized = us_sized;
            cells_sized = length-set o.cells' m (Some (pos 1)) ∙ one;
            agrees = agrees-kept us o.cells' after m (omega arith) (agrees-kept us cells o.cells' m (omega arith) agrees o.kept) (Rattle.porch_lower.proofs.ThroughParts.kept-set m m (Some (pos 1)) o.cells' (omega arith));
            later = omega arith;
            within = within;
            onward = chain (program_of f) under n _ _ _ o.onward (step_goes (program_of f) under n (at q o.cells' output turns) _ (calm f under n output turns k q o.cells' (command.Char m (operand_in e m)) h refl) goes);
          })
      shown_by p q e (Err a) is (inr o) h =
          let one : length o.cells' ≡ k = o.kept.same_length ∙ cells_sized in
          let meant : act under n 0 (putchar e) (source us output marks turns) ≡ Undefined a (source us output marks turns) = rw (evaluates under n us output marks turns e, is) refl in
          let meets : next (program_of f) under (at q o.cells' output turns) ≡ Meets a =
          next_is f under o.cells' output turns q (command.Char m (operand_in e m)) h ∙ shows f under o.cells' output turns q m (operand_in e m)
          ∙ ap (λ (r : Result ℤ Act). by_read r (λ z. Goes (at (q + 1) (list_set o.cells' m (Some (pos 1))) (output ++ byte_of z ∷ []) turns))) o.read in
          rw meant (refl, comes (program_of f) under n _ _ output turns (Met a) o.onward (step_meets (program_of f) under n (at q o.cells' output turns) a (calm f under n output turns k q o.cells' (command.Char m (operand_in e m)) h refl) meets))

      -- return
      given_by : (p q : ℕ) (e : Node) (r : Result ℤ Act) → value_of us e ≡ r → Operand_at p q e r → slice_get f.commands q ≡ Some (command.Return (Some (operand_in e m)))
          → Follows turns (act under n 0 (give e) (source us output marks turns)) (at p cells output turns) (q + 1)
      given_by p q e r is (inl halt) h =
          let meant : act under n 0 (give e) (source us output marks turns) ≡ Undefined halt.0 (source us output marks turns) = rw (evaluates under n us output marks turns e, is, halt.1) refl in
          rw meant (refl, halt.2)
      given_by p q e (Ok z) is (inr o) h =
          let one : length o.cells' ≡ k = o.kept.same_length ∙ cells_sized in
          let meant : act under n 0 (give e) (source us output marks turns) ≡ Gave (number z) (source us output marks turns) = rw (evaluates under n us output marks turns e, is) refl in
          let ends : next (program_of f) under (at q o.cells' output turns) ≡ Ends z (left f under o.cells' output turns q) =
          next_is f under o.cells' output turns q (command.Return (Some (operand_in e m))) h ∙ gives f under o.cells' output turns q (operand_in e m)
          ∙ ap (λ (r : Result ℤ Act). by_read r (λ z. Ends z (left f under o.cells' output turns q))) o.read in
          let last = step_ends (program_of f) under n (at q o.cells' output turns) (left f under o.cells' output turns q) z (calm f under n output turns k q o.cells' (command.Return (Some (operand_in e m))) h refl) ends in
          let there = rw (left-output f under o.cells' output turns q, left-turns f under o.cells' output turns q) at last in
          rw meant (z, refl, refl, comes (program_of f) under n _ _ output turns (Ended z) o.onward there)
      given_by p q e (Err a) is (inr o) h =
          let one : length o.cells' ≡ k = o.kept.same_length ∙ cells_sized in
          let meant : act under n 0 (give e) (source us output marks turns) ≡ Undefined a (source us output marks turns) = rw (evaluates under n us output marks turns e, is) refl in
          let meets : next (program_of f) under (at q o.cells' output turns) ≡ Meets a =
          next_is f under o.cells' output turns q (command.Return (Some (operand_in e m))) h ∙ gives f under o.cells' output turns q (operand_in e m)
          ∙ ap (λ (r : Result ℤ Act). by_read r (λ z. Ends z (left f under o.cells' output turns q))) o.read in
          rw meant (refl, comes (program_of f) under n _ _ output turns (Met a) o.onward (step_meets (program_of f) under n (at q o.cells' output turns) a (calm f under n output turns k q o.cells' (command.Return (Some (operand_in e m))) h refl) meets))

    one_behind : (p : ℕ) (xs : List Command) (c : Command) → p + length (xs ++ c ∷ []) ≡ p + length xs + 1
    one_behind p xs c = simp length-append (omega arith)

    -- a label, and a jump to one
    passed : (p l : ℕ) (cells : List Cell) (output : List ℕ) (turns : ℕ) → length cells ≡ k → slice_get f.commands p ≡ Some (command.Label l) → GoesOn (program_of f) under n (at p cells output turns) (at (p + 1) cells output turns)
    passed p l cells output turns same h =
        step_goes (program_of f) under n (at p cells output turns) _ (calm f under n output turns k p cells (command.Label l) h refl) (next_is f under cells output turns p (command.Label l) h)

    jumped : (p q l : ℕ) (cells : List Cell) (output : List ℕ) (turns : ℕ) → length cells ≡ k → slice_get f.commands p ≡ Some (command.Jump l) → slice_get f.commands q ≡ Some (command.Label l)
        → GoesOn (program_of f) under n (at p cells output turns) (at q cells output turns)
    jumped p q l cells output turns same h there =
        step_goes (program_of f) under n (at p cells output turns) _ (calm f under n output turns k p cells (command.Jump l) h refl)
        (next_is f under cells output turns p (command.Jump l) h ∙ jumps f under cells output turns p l q (homes q l there))

    -- A loop: its test is at place q, its body behind the label at place p, and its end at place q'.
    module _ (e : Node) (body : Actions) (p q q' : ℕ) (fit : IsFit m e) (room : m + temps_of e + 1 ≤ k) (label : ℕ) (begins : slice_get f.commands p ≡ Some (command.Label label)) (turns_there : slice_get f.commands (p + 1) ≡ Some command.Turn)
        (tests : slice_get f.commands q ≡ Some (command.Label (label + 1))) (stands : Stands f.commands (q + 1) (operand_code e m)) (ends_at : q' ≡ q + 1 + length (operand_code e m))
        (branch : slice_get f.commands q' ≡ Some (command.If (operand_in e m) label))
        (ih : Beside (λ s. acts under n 0 body s) (p + 2) q) where
      abbrev looped : ℕ → Progress → Outcome
      looped fuel s = loop under n 0 fuel e (λ s. acts under n 0 body s) s

      module _ (us cells : List Cell) (output : List ℕ) (turns : ℕ) (us_sized : length us ≡ m) (cells_sized : length cells ≡ k) (agrees : Agrees us cells) (within : turns ≤ n) where
        -- the body of the loop, from its label on, where a turn is left
        turned : (more : Progress → Outcome) → (nat_le n turns ≡ false) × (turns + 1 ≤ n) → BesideFrom (turns + 1) more q (q' + 1)
            → Follows turns (and_then (acts under n 0 body (source us output marks (turns + 1))) (λ _ s. more s)) (at p cells output turns) (q' + 1)
        turned more left_turn next =
            let passes = passed p label cells output turns cells_sized begins in
            let not_over : is_paused (program_of f) under n (at (p + 1) cells output turns) ≡ false = rw (turns_there, left_turn.0) refl in
            let turn_goes = step_goes (program_of f) under n (at (p + 1) cells output turns) (at (p + 1 + 1) cells output (turns + 1)) not_over (next_is f under cells output turns (p + 1) command.Turn turns_there) in
            let place : p + 1 + 1 ≡ p + 2 = omega arith in
            let turn_goes' = rw place at turn_goes in
            follows_from turns _ (at p cells output turns) (at (p + 2) cells output (turns + 1)) (q' + 1) (chain (program_of f) under n _ _ _ passes turn_goes')
            (earlier turns (turns + 1) _ _ _ (omega arith)
            (follows_then (turns + 1) _ (at (p + 2) cells output (turns + 1)) q (q' + 1) more (ih us cells output (turns + 1) us_sized cells_sized agrees left_turn.1) next))

        -- the turn, where it is the last or not
        turn_by : (more : Progress → Outcome) (b : Bool) → nat_eq turns n ≡ b → ((turns + 1 ≤ n) → BesideFrom (turns + 1) more q (q' + 1))
            → Follows turns (if b then Stopped (source us output marks turns) else and_then (acts under n 0 body (source us output marks (turns + 1))) (λ _ s. more s)) (at p cells output turns) (q' + 1)
        turn_by more true is next =
            let passes = passed p label cells output turns cells_sized begins in
            let is_over : is_paused (program_of f) under n (at (p + 1) cells output turns) ≡ true = rw (turns_there, used_up turns n within is) refl in
            (refl, comes (program_of f) under n _ _ output turns Paused passes (step_over (program_of f) under n (at (p + 1) cells output turns) is_over))
        turn_by more false is next = let left_turn = not_used_up turns n within is in turned more left_turn (next left_turn.1)

        -- the branch: on behind the loop, or to its body
        branch_by : (more : Progress → Outcome) (z : ℤ) (b : Bool) → int_eq z (pos 0) ≡ b → (cells' : List Cell) → length cells' ≡ k → Agrees us cells' → reads cells' (operand_in e m) ≡ Ok z
            → (Follows turns (if nat_eq turns n then Stopped (source us output marks turns) else and_then (acts under n 0 body (source us output marks (turns + 1))) (λ _ s. more s)) (at p cells' output turns) (q' + 1))
            → Follows turns (if b then done (source us output marks turns) else (if nat_eq turns n then Stopped (source us output marks turns) else and_then (acts under n 0 body (source us output marks (turns + 1))) (λ _ s. more s))) (at q' cells' output turns) (q' + 1)
        branch_by more z true is cells' same agrees' read there =
            let goes : next (program_of f) under (at q' cells' output turns) ≡ Goes (at (q' + 1) cells' output turns) =
            next_is f under cells' output turns q' (command.If (operand_in e m) label) branch ∙ branches f under cells' output turns q' (operand_in e m) label p (homes p label begins) ∙ rw (read, is) refl in
            record {
              us = us;
              cells = cells';
              output = output;
              turns = turns;
              is = refl;
              us_sized = us_sized;
              cells_sized = same;
              agrees = agrees';
              later = omega arith;
              within = within;
              onward = step_goes (program_of f) under n (at q' cells' output turns) _ (calm f under n output turns k q' cells' (command.If (operand_in e m) label) branch refl) goes;
            }
        branch_by more z false is cells' same agrees' read there =
            let goes : next (program_of f) under (at q' cells' output turns) ≡ Goes (at p cells' output turns) =
            next_is f under cells' output turns q' (command.If (operand_in e m) label) branch ∙ branches f under cells' output turns q' (operand_in e m) label p (homes p label begins) ∙ rw (read, is) refl in
            follows_from turns _ (at q' cells' output turns) (at p cells' output turns) (q' + 1) (step_goes (program_of f) under n (at q' cells' output turns) _ (calm f under n output turns k q' cells' (command.If (operand_in e m) label) branch refl) goes) there

      loop_by : (fuel : ℕ) (us cells : List Cell) (output : List ℕ) (turns : ℕ) (us_sized : length us ≡ m) (cells_sized : length cells ≡ k) (agrees : Agrees us cells) (within : turns ≤ n) → n + 1 ≤ suc fuel + turns
          → (r : Result ℤ Act) → value_of us e ≡ r → Operand_at us cells output turns us_sized cells_sized agrees within (q + 1) q' e r
          → BesideFrom (turns + 1) (looped fuel) q (q' + 1)
          → Follows turns (looped (suc fuel) (source us output marks turns)) (at (q + 1) cells output turns) (q' + 1)
      loop_by fuel us cells output turns us_sized cells_sized agrees within enough r is (inl halt) next =
          let meant : looped (suc fuel) (source us output marks turns) ≡ Undefined halt.0 (source us output marks turns) = rw (evaluates under n us output marks turns e, is, halt.1) refl in
          rw meant (refl, halt.2)
      loop_by fuel us cells output turns us_sized cells_sized agrees within enough (Err a) is (inr o) next =
          let one : length o.cells' ≡ k = o.kept.same_length ∙ cells_sized in
          let meant : looped (suc fuel) (source us output marks turns) ≡ Undefined a (source us output marks turns) = rw (evaluates under n us output marks turns e, is) refl in
          let meets : Rattle.porch_abstract.specs.Machine.next (program_of f) under (at q' o.cells' output turns) ≡ Meets a =
          next_is f under o.cells' output turns q' (command.If (operand_in e m) label) branch ∙ branches f under o.cells' output turns q' (operand_in e m) label p (homes p label begins) ∙ rw (o.read) refl in
          rw meant (refl, comes (program_of f) under n _ _ output turns (Met a) o.onward (step_meets (program_of f) under n (at q' o.cells' output turns) a (calm f under n output turns k q' o.cells' (command.If (operand_in e m) label) branch refl) meets))
      loop_by fuel us cells output turns us_sized cells_sized agrees within enough (Ok z) is (inr o) next =
          let one : length o.cells' ≡ k = o.kept.same_length ∙ cells_sized in
          let agrees' = agrees-kept us cells o.cells' m (omega arith) agrees o.kept in
          let meant : looped (suc fuel) (source us output marks turns)
          ≡ (if int_eq z (pos 0) then done (source us output marks turns) else (if nat_eq turns n then Stopped (source us output marks turns) else and_then (acts under n 0 body (source us output marks (turns + 1))) (λ _ s. looped fuel s)))
          = rw (evaluates under n us output marks turns e, is) refl in
          rw meant
          (follows_from turns _ (at (q + 1) cells output turns) (at q' o.cells' output turns) (q' + 1) o.onward
          (branch_by us o.cells' output turns us_sized one agrees' within (looped fuel) z (int_eq z (pos 0)) refl o.cells' one agrees' o.read
          (turn_by us o.cells' output turns us_sized one agrees' within (looped fuel) (nat_eq turns n) refl (λ left_turn. next))))

      -- the loop with so many starts left, from its test on
      pub loop_through : (fuel : ℕ) (us cells : List Cell) (output : List ℕ) (turns : ℕ) → length us ≡ m → length cells ≡ k → Agrees us cells → turns ≤ n → n + 1 ≤ fuel + turns
          → Follows turns (looped fuel (source us output marks turns)) (at q cells output turns) (q' + 1)
      loop_through zero us cells output turns us_sized cells_sized agrees within enough = absurd (omega arith)
      loop_through (suc fuel) us cells output turns us_sized cells_sized agrees within enough =
          let there = operand us cells output turns us_sized cells_sized agrees within (q + 1) e fit room stands in
          let there' = rw (← ends_at) at there in
          follows_from turns _ (at q cells output turns) (at (q + 1) cells output turns) (q' + 1) (passed q (label + 1) cells output turns cells_sized tests)
          (loop_by fuel us cells output turns us_sized cells_sized agrees within enough (value_of us e) refl there'
          (λ us cells output turns us_sized cells_sized agrees later within. loop_through fuel us cells output turns us_sized cells_sized agrees within (omega arith)))

    -- where the parts of a loop's code stand
    loop_places : (p xs ys : ℕ) → p + 3 + xs + 1 + ys + 1 ≡ p + (xs + (ys + 1 + 1) + 3)
    loop_places p xs ys = omega arith

    mutual
      pub act_through : (a : Action) (p : ℕ) → ActionFits m a → m + action_temps a ≤ k → Stands f.commands p (action_code m p a)
          → Beside (λ s. act under n 0 a s) p (p + length (action_code m p a))
      act_through (assign x e) p fit room stands us cells output turns us_sized cells_sized agrees within =
          assigned us cells output turns us_sized cells_sized agrees within x p (p + length (into_code e x m)) e (value_of us e) refl fit.0
          (through f under n output turns k sized ints us e x m (rw us_sized fit.1) (omega arith) room (omega arith) p cells cells_sized agrees stands)
      act_through (putchar e) p fit room stands us cells output turns us_sized cells_sized agrees within =
          rw (one_behind p (operand_code e m) (command.Char m (operand_in e m)))
          (shown_by us cells output turns us_sized cells_sized agrees within p (p + length (operand_code e m)) e (value_of us e) refl
          (operand us cells output turns us_sized cells_sized agrees within p e fit (omega arith) (front f.commands p (operand_code e m) (command.Char m (operand_in e m) ∷ []) stands))
          (back f.commands p (operand_code e m) (command.Char m (operand_in e m) ∷ []) stands).0)
      act_through (give e) p fit room stands us cells output turns us_sized cells_sized agrees within =
          rw (one_behind p (operand_code e m) (command.Return (Some (operand_in e m))))
          (given_by us cells output turns us_sized cells_sized agrees within p (p + length (operand_code e m)) e (value_of us e) refl
          (operand us cells output turns us_sized cells_sized agrees within p e fit (omega arith) (front f.commands p (operand_code e m) (command.Return (Some (operand_in e m)) ∷ []) stands))
          (back f.commands p (operand_code e m) (command.Return (Some (operand_in e m)) ∷ []) stands).0)
      act_through (repeat e body) p fit room stands us cells output turns us_sized cells_sized agrees within =
          let xs = actions_code m (p + 3) body in
          let ys = operand_code e m in
          let rest = command.Label (test_label p) ∷ (ys ++ command.If (operand_in e m) (body_label p) ∷ []) in
          let three : p + 1 + 1 + 1 ≡ p + 3 = omega arith in
          let after = rw three at stands.1.1.1 in
          let test = back f.commands (p + 3) xs rest after in
          let q = p + 3 + length xs in
          let branch = back f.commands (q + 1) ys (command.If (operand_in e m) (body_label p) ∷ []) test.1 in
          let two : p + 1 + 2 ≡ p + 3 = omega arith in
          let body_there : Beside (λ s. acts under n 0 body s) (p + 1 + 2) q = rw two (acts_through body (p + 3) fit.1 (omega arith) (front f.commands (p + 3) xs rest after)) in
          let loop_there = loop_through e body (p + 1) q (q + 1 + length ys) fit.0 (omega arith) (body_label p) stands.1.0 stands.1.1.0 test.0 (front f.commands (q + 1) ys (command.If (operand_in e m) (body_label p) ∷ []) test.1) refl branch.0 body_there
          (suc n) us cells output turns us_sized cells_sized agrees within (omega arith) in
          let ends : p + length (action_code m p (repeat e body)) ≡ q + 1 + length ys + 1 = simp length-append (omega arith) in
          rw ends (follows_from turns _ (at p cells output turns) (at q cells output turns) (q + 1 + length ys + 1) (jumped p q (test_label p) cells output turns cells_sized stands.0 test.0) loop_there)

      pub acts_through : (as' : Actions) (p : ℕ) → ActionsFit m as' → m + actions_temps as' ≤ k → Stands f.commands p (actions_code m p as')
          → Beside (λ s. acts under n 0 as' s) p (p + length (actions_code m p as'))
      acts_through no_actions p fit room stands us cells output turns us_sized cells_sized agrees within =
          rw (add-zero p) (record { us = us; cells = cells; output = output; turns = turns; is = refl; us_sized = us_sized; cells_sized = cells_sized; agrees = agrees; later = omega arith; within = within; onward = stays (program_of f) under n (at p cells output turns) })
      acts_through (action a more) p fit room stands us cells output turns us_sized cells_sized agrees within =
          let xs = action_code m p a in
          let ys = actions_code m (p + length xs) more in
          let ends : p + length (xs ++ ys) ≡ p + length xs + length ys = simp length-append (omega arith) in
          rw ends (follows_then turns _ (at p cells output turns) (p + length xs) (p + length xs + length ys) (λ s. acts under n 0 more s)
          (act_through a p fit.0 (omega arith) (front f.commands p xs ys stands) us cells output turns us_sized cells_sized agrees within)
          (λ us cells output turns us_sized cells_sized agrees later within. acts_through more (p + length xs) fit.1 (omega arith) (back f.commands p xs ys stands) us cells output turns us_sized cells_sized agrees within))
