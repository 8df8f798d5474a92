-- What stands at a place of a loaded program.
use Rattle.std.proofs.Common.{◌≡◌, ◌<◌, ℕ, zero, suc, ◌+◌, List, [], ◌∷◌, length, refl, sym, ap, ◌∙◌, subst, arith, Option, Some, None}
use Rattle.std.specs.Prelude.{Vec, slice_get}
use Rattle.std.specs.declared.alloc.Global.{Global}
use Rattle.porch_values.specs.declared.widths.Widths.{Widths}
use Rattle.porch_metrics.specs.Places.{Measures}
use Rattle.porch_flat.specs.declared.whole.Command.{Command}
use Rattle.porch_flat.specs.declared.whole.Function.{Function}
use Rattle.porch_flat.specs.declared.whole.Flat.{Flat}
use Rattle.porch_flat.specs.whole.Form.{form_of}
use Rattle.porch_abstract.specs.whole.Run.{counts, counts_turn}
use Rattle.porch_bytes.specs.State.{Setting}
use Rattle.porch_instructions.specs.declared.instruction.Cell.{Cell}
use Rattle.porch_instructions.specs.declared.instruction.Source.{Source}
use Rattle.porch_instructions.specs.declared.scope.Scope.{Scope}
use Rattle.porch_instructions.specs.Resolved.{IsCellIn}
use Rattle.porch_operations.specs.declared.operation.Operation.{Operation}
use Rattle.porch_frames.specs.declared.passing.Passing.{Passing}
use Rattle.porch_code.specs.Code.{DoesCommand, AreCode}
use Rattle.porch_load.specs.declared.body.Body.{Body}
use Rattle.porch_load.specs.Bodies.{AreCells, IsBody, CountAlike, counts_turn_of}
use Rattle.porch_load.specs.Calls.{IsLinked, AreLinked}
use Rattle.porch_load.specs.Loaded.{AreBodies, Calls, AllLinked, ReturnsInt, AllReturnInts}

same_some : {A : Type 0} (a b : A) → Some a ≡ Some b → a ≡ b
same_some a b h = cc

is_none : {A : Type 0} (a : A) → None ≡ Some a → ⊥
is_none a h = cc

some_is : {A : Type 0} (a : A) → Some a ≡ None → ⊥
some_is a h = cc

module _ (flat : Flat) (on : Setting) where
  pub body_from : (v i n : ℕ) (fs : List Function) (bodies : List Body) (body : Body) → AreBodies flat on v fs bodies → slice_get bodies i ≡ Some body → n ≡ v + i → IsBody flat on n body
  body_from v i n [] [] body h k e = absurd (is_none body k)
  body_from v zero n (f ∷ fs) (b ∷ bodies) body h k e =
      subst (λ (x : Body). IsBody flat on n x) (same_some b body k) (subst (λ (m : ℕ). IsBody flat on m b) (omega (arith, e)) h.0)
  body_from v (suc i) n (f ∷ fs) (b ∷ bodies) body h k e = body_from (v + 1) i n fs bodies body h.1 k (omega (arith, e))
  body_from v i n [] (b ∷ bodies) body h k e = absurd h
  body_from v i n (f ∷ fs) [] body h k e = absurd h

module _ (scope : Scope) (labels : List (ℕ × ℕ)) (end : ℕ) (all : List Source) where
  pub code_at : (i : ℕ) (cs : List Command) (os : List Operation) (o : Operation) → AreCode scope labels end all cs os → slice_get os i ≡ Some o
      → (c : Command) × ((slice_get cs i ≡ Some c) × DoesCommand scope labels end all c o)
  code_at i [] [] o h k = absurd (is_none o k)
  code_at zero (c ∷ cs) (x ∷ os) o h k = (c, (refl, subst (λ (y : Operation). DoesCommand scope labels end all c y) (same_some x o k) h.0))
  code_at (suc i) (c ∷ cs) (x ∷ os) o h k = code_at i cs os o h.1 k
  code_at i [] (x ∷ os) o h k = absurd h
  code_at i (c ∷ cs) [] o h k = absurd h

  pub code_ends : (i : ℕ) (cs : List Command) (os : List Operation) → AreCode scope labels end all cs os → slice_get os i ≡ None → slice_get cs i ≡ None
  code_ends i [] [] h k = refl
  code_ends zero (c ∷ cs) (x ∷ os) h k = absurd (some_is x k)
  code_ends (suc i) (c ∷ cs) (x ∷ os) h k = code_ends i cs os h.1 k
  code_ends i [] (x ∷ os) h k = absurd h
  code_ends i (c ∷ cs) [] h k = absurd h

module _ (widths : Widths) (measures : Measures) (all : List Body) where
  pub linked_at : (body : Body) (i : ℕ) (os : List Operation) (calls : List (Vec Passing Global)) (o : Operation) → AreLinked widths measures all body os calls → slice_get os i ≡ Some o
      → (ps : Vec Passing Global) × ((slice_get calls i ≡ Some ps) × IsLinked widths measures all body o ps.items)
  linked_at body i [] [] o h k = absurd (is_none o k)
  linked_at body zero (x ∷ os) (ps ∷ calls) o h k = (ps, (refl, subst (λ (y : Operation). IsLinked widths measures all body y ps.items) (same_some x o k) h.0))
  linked_at body (suc i) (x ∷ os) (ps ∷ calls) o h k = linked_at body i os calls o h.1 k
  linked_at body i [] (ps ∷ calls) o h k = absurd h
  linked_at body i (x ∷ os) [] o h k = absurd h

  pub calls_at : (i : ℕ) (bodies : List Body) (calls : List Calls) (body : Body) → AllLinked widths measures all bodies calls → slice_get bodies i ≡ Some body
      → (more : Calls) × ((slice_get calls i ≡ Some more) × AreLinked widths measures all body body.operations.items more.items)
  calls_at i [] [] body h k = absurd (is_none body k)
  calls_at zero (x ∷ bodies) (more ∷ calls) body h k =
      (more, (refl, subst (λ (y : Body). AreLinked widths measures all y y.operations.items more.items) (same_some x body k) h.0))
  calls_at (suc i) (x ∷ bodies) (more ∷ calls) body h k = calls_at i bodies calls body h.1 k
  calls_at i [] (more ∷ calls) body h k = absurd h
  calls_at i (x ∷ bodies) [] body h k = absurd h

pub counts_at : (i : ℕ) (cs : List Command) (os : List Operation) (o : Operation) → CountAlike cs os → slice_get os i ≡ Some o → counts_turn_of o ≡ counts (slice_get cs i)
counts_at i [] [] o h k = absurd (is_none o k)
counts_at zero (c ∷ cs) (x ∷ os) o h k = subst (λ (y : Operation). counts_turn_of y ≡ counts_turn (form_of c)) (same_some x o k) h.0
counts_at (suc i) (c ∷ cs) (x ∷ os) o h k = counts_at i cs os o h.1 k
counts_at i [] (x ∷ os) o h k = absurd h
counts_at i (c ∷ cs) [] o h k = absurd h

pub int_at : (i : ℕ) (os : List Operation) (o : Operation) → AllReturnInts os → slice_get os i ≡ Some o → ReturnsInt o
int_at i [] o h k = absurd (is_none o k)
int_at zero (x ∷ os) o h k = subst (λ (y : Operation). ReturnsInt y) (same_some x o k) h.0
int_at (suc i) (x ∷ os) o h k = int_at i os o h.1 k

pub cell_in : (scope : Scope) (v i n : ℕ) (cells : List (Option Cell)) (cell : Cell) → AreCells scope v cells → slice_get cells i ≡ Some (Some cell) → n ≡ v + i → IsCellIn scope n cell
cell_in scope v i n [] cell h k e = absurd (is_none (Some cell) k)
cell_in scope v zero n (None ∷ cells) cell h k e = absurd (is_none cell (same_some None (Some cell) k))
cell_in scope v zero n (Some c ∷ cells) cell h k e =
    subst (λ (x : Cell). IsCellIn scope n x) (same_some c cell (same_some (Some c) (Some cell) k)) (subst (λ (m : ℕ). IsCellIn scope m c) (omega (arith, e)) h.0)
cell_in scope v (suc i) n (None ∷ cells) cell h k e = cell_in scope (v + 1) i n cells cell h k (omega (arith, e))
cell_in scope v (suc i) n (Some c ∷ cells) cell h k e = cell_in scope (v + 1) i n cells cell h.1 k (omega (arith, e))
