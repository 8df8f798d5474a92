-- What each command does to a frame of ints.
use Rattle.std.proofs.Common.{◌≡◌, ◌<◌, ◌+◌, ◌++◌, ◌*ℤ◌, ◌+ℤ◌, ◌-ℤ◌, ℕ, ℤ, pos, List, [], ◌∷◌, length, refl, ap, ◌∙◌}
use Rattle.std.proofs.Math.ListN.{set}
use Rattle.std.specs.Prelude.{slice_get, slice_index_or, if◌then◌else◌, Some, None, Result, Ok, Err}
use Rattle.std.specs.Ordering.{int_eq}
use Rattle.std.specs.declared.option.Option.{Option}
use Rattle.porch_types.specs.Leaves.{kind_types}
use Rattle.porch_types.specs.declared.shapes.Kind.{Kind}
use Rattle.porch_types.specs.declared.shapes.Kind.TheVariants.{Int}
use Rattle.porch_values.specs.declared.acts.Act.{Act}
use Rattle.porch_values.specs.declared.acts.Op.{Op}
use Rattle.porch_values.specs.declared.acts.Op.TheVariants.{Add, Sub, Mul}
use Rattle.porch_values.specs.Integers.{as_int_of, applied}
use Rattle.porch_objects.specs.Store.{Value, number, Store, seen, left as left_store}
use Rattle.porch_objects.specs.Meaning.{Environment, truth, byte_of}
use Rattle.porch_flat.specs.declared.flat.Operand.{Operand}
use Rattle.porch_flat.specs.declared.flat.Operand.TheVariants.{Var, Constant}
use Rattle.porch_flat.specs.declared.flat.Command.{Command}
use Rattle.porch_flat.specs.declared.flat.Command.TheVariants as command
use Rattle.porch_flat.specs.declared.flat.Function.{Function}
use Rattle.porch_flat.specs.declared.flat.Flat.{Flat}
use Rattle.porch_flat.specs.Places.{place_of_label}
use Rattle.porch_flat.specs.Valid.{int_type}
use Rattle.porch_abstract.specs.Machine.{State, Frame, running, over, Next, Goes, Ends, Meets, next, after, operand_of, counted, determined, resulted, operated, kind_in, put, onward, with_store, with_phase}
use Rattle.porch_lower.proofs.SameCells.{Cell, value_at, read_of, reads, store_with, leaf_at-cells, stored-cells}

-- the program that is one function
abbrev pub program_of : Function → Flat
program_of f = record { types = kind_types; globals = []; functions = f ∷ [] }

-- a frame of function 0, at a place
abbrev pub frame_at : ℕ → Frame
frame_at p = record { function = 0; next = p; into = None }

-- a state in main, with what lives
abbrev pub state_at : ℕ → Store → List ℕ → ℕ → State
state_at p store output turns = record { phase = running (frame_at p) []; store = store; output = output; turns = turns; taken = 0 }

-- a state in main, with these variables
abbrev pub at : ℕ → List Cell → List ℕ → ℕ → State
at p cells output turns = state_at p (store_with cells) output turns

-- what a read leads to
abbrev pub by_read : Result ℤ Act → (ℤ → Next) → Next
by_read (Ok z) go = go z
by_read (Err a) go = Meets a

module _ (f : Function) (under : Environment) (cells : List Cell) (output : List ℕ) (turns : ℕ) (p : ℕ) where
  abbrev pub here : State
  here = at p cells output turns

  abbrev pub does : Command → Next
  does c = after (program_of f) under (frame_at p) [] (Some c) here

  pub next_is : (c : Command) → slice_get f.commands p ≡ Some c → next (program_of f) under here ≡ does c
  next_is c h = ap (λ (o : Option Command). after (program_of f) under (frame_at p) [] o here) h

  counted-cell : (s : Store) (c : Option Cell) (go : ℤ → Next) → counted (seen s (value_at c)) go ≡ by_read (read_of c) go
  counted-cell s None go = refl
  counted-cell s (Some None) go = refl
  counted-cell s (Some (Some z)) go = refl

  determined-cell : (s : Store) (c : Option Cell) (go : Value → Next) → determined (seen s (value_at c)) go ≡ by_read (read_of c) (λ z. go (number z))
  determined-cell s None go = refl
  determined-cell s (Some None) go = refl
  determined-cell s (Some (Some z)) go = refl

  counted-reads : (o : Operand) (go : ℤ → Next) → counted (operand_of o here) go ≡ by_read (reads cells o) go
  counted-reads (Var v) go =
      ap (λ (x : Value). counted (seen (store_with cells) x) go) (leaf_at-cells cells v) ∙ counted-cell (store_with cells) (slice_get cells v) go
  counted-reads (Constant z) go = refl

  determined-reads : (o : Operand) (go : Value → Next) → determined (operand_of o here) go ≡ by_read (reads cells o) (λ z. go (number z))
  determined-reads (Var v) go =
      ap (λ (x : Value). determined (seen (store_with cells) x) go) (leaf_at-cells cells v) ∙ determined-cell (store_with cells) (slice_get cells v) go
  determined-reads (Constant z) go = refl

  -- the variable becomes a number, and the next command follows
  written : (v : ℕ) (z : ℤ) (shown : List ℕ) → onward (program_of f) under (frame_at p) [] (put v (number z) (at p cells shown turns)) ≡ Goes (at (p + 1) (set cells v (Some z)) shown turns)
  written v z shown =
      ap (λ (store : Store). Goes (state_at (p + 1) store shown turns)) (stored-cells cells v z)

  by_read-ext : (r : Result ℤ Act) (go went : ℤ → Next) → ((z : ℤ) → go z ≡ went z) → by_read r go ≡ by_read r went
  by_read-ext (Ok z) go went h = h z
  by_read-ext (Err a) go went h = refl

  resulted-ext : (r : Result ℤ Act) (go went : ℤ → Next) → ((z : ℤ) → go z ≡ went z) → resulted r go ≡ by_read r went
  resulted-ext (Ok z) go went h = h z
  resulted-ext (Err a) go went h = refl

  pub moves : (v : ℕ) (o : Operand) → does (command.Move v o) ≡ by_read (reads cells o) (λ z. Goes (at (p + 1) (set cells v (Some z)) output turns))
  moves v o = determined-reads o _ ∙ by_read-ext (reads cells o) _ _ (λ z. written v z output)

  both : (a b : Operand) (go went : ℤ → ℤ → Next) → ((x y : ℤ) → go x y ≡ went x y)
      → counted (operand_of a here) (λ x. counted (operand_of b here) (λ y. go x y)) ≡ by_read (reads cells a) (λ x. by_read (reads cells b) (λ y. went x y))
  both a b go went h = counted-reads a _ ∙ by_read-ext (reads cells a) _ _ (λ x. counted-reads b _ ∙ by_read-ext (reads cells b) _ _ (λ y. h x y))

  -- where each operator is one of int
  operates : (op : Op) (exact : ℤ → ℤ → ℤ) (v : ℕ) (a b : Operand) → ((x y : ℤ) → applied op Int under.widths x y ≡ as_int_of (exact x y)) → kind_in (program_of f) under (frame_at p) [] v ≡ Int
      → operated (program_of f) under (frame_at p) [] op v a b here ≡ by_read (reads cells a) (λ x. by_read (reads cells b) (λ y. by_read (as_int_of (exact x y)) (λ z. Goes (at (p + 1) (set cells v (Some z)) output turns))))
  operates op exact v a b h kind =
      both a b _ _ (λ x y.
      ap (λ (t : Kind). resulted (applied op t under.widths x y) (λ z. onward (program_of f) under (frame_at p) [] (put v (number z) here))) kind
      ∙ ap (λ (r : Result ℤ Act). resulted r (λ z. onward (program_of f) under (frame_at p) [] (put v (number z) here))) (h x y)
      ∙ resulted-ext (as_int_of (exact x y)) _ _ (λ z. written v z output))

  module _ (ints : (v : ℕ) → v < length f.vars → slice_index_or f.vars v (length kind_types) ≡ int_type) where
    int_kind : (v : ℕ) → v < length f.vars → kind_in (program_of f) under (frame_at p) [] v ≡ Int
    int_kind v h = rw (ints v h) refl

    pub adds : (v : ℕ) (a b : Operand) → v < length f.vars → does (command.Add v a b) ≡ by_read (reads cells a) (λ x. by_read (reads cells b) (λ y. by_read (as_int_of (x +ℤ y)) (λ z. Goes (at (p + 1) (set cells v (Some z)) output turns))))
    adds v a b h = operates Add (λ x y. x +ℤ y) v a b (λ x y. refl) (int_kind v h)

    pub subtracts : (v : ℕ) (a b : Operand) → v < length f.vars → does (command.Sub v a b) ≡ by_read (reads cells a) (λ x. by_read (reads cells b) (λ y. by_read (as_int_of (x -ℤ y)) (λ z. Goes (at (p + 1) (set cells v (Some z)) output turns))))
    subtracts v a b h = operates Sub (λ x y. x -ℤ y) v a b (λ x y. refl) (int_kind v h)

    pub multiplies : (v : ℕ) (a b : Operand) → v < length f.vars → does (command.Mul v a b) ≡ by_read (reads cells a) (λ x. by_read (reads cells b) (λ y. by_read (as_int_of (x *ℤ y)) (λ z. Goes (at (p + 1) (set cells v (Some z)) output turns))))
    multiplies v a b h = operates Mul (λ x y. x *ℤ y) v a b (λ x y. refl) (int_kind v h)

  pub compares : (v : ℕ) (a b : Operand) → does (command.Lt v a b) ≡ by_read (reads cells a) (λ x. by_read (reads cells b) (λ y. Goes (at (p + 1) (set cells v (Some (truth x y))) output turns)))
  compares v a b = both a b _ _ (λ x y. written v (truth x y) output)

  pub shows : (v : ℕ) (o : Operand) → does (command.Char v o) ≡ by_read (reads cells o) (λ z. Goes (at (p + 1) (set cells v (Some (pos 1))) (output ++ byte_of z ∷ []) turns))
  shows v o = counted-reads o _ ∙ by_read-ext (reads cells o) _ _ (λ z. written v (pos 1) (output ++ byte_of z ∷ []))

  pub jumps : (n q : ℕ) → place_of_label f.commands n ≡ Some q → does (command.Jump n) ≡ Goes (at q cells output turns)
  jumps n q h = rw h refl

  -- on, or at the label
  abbrev pub chosen : ℕ → ℤ → Next
  chosen q z = if int_eq z (pos 0) then Goes (at (p + 1) cells output turns) else Goes (at q cells output turns)

  pub branches : (o : Operand) (n q : ℕ) → place_of_label f.commands n ≡ Some q → does (command.If o n) ≡ by_read (reads cells o) (λ z. chosen q z)
  branches o n q h = counted-reads o _ ∙ by_read-ext (reads cells o) _ _ (λ z. rw h refl)

  -- the state behind the end of main
  pub left : State
  left = with_phase (with_store here (left_store here.store)) over

  pub gives : (o : Operand) → does (command.Return (Some o)) ≡ by_read (reads cells o) (λ z. Ends z left)
  unfolding left
  gives o = determined-reads o _ ∙ by_read-ext (reads cells o) _ _ (λ z. refl)

  pub left-output : left.output ≡ output
  unfolding left
  left-output = refl

  pub left-turns : left.turns ≡ turns
  unfolding left
  left-turns = refl
